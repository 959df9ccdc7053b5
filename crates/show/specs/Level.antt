-- One level of a type's text, as the code writes it: the bytes before the children, for each child that is shown the bytes before it and its own text,
-- and the bytes after them. It adds nothing to scope's pieces: proofs/Level.antt has them as these parts.
use Rattle.std.specs.Prelude.{List, ◌++◌, Bool, ◌&&◌, ℕ, zero, suc, ◌+◌, ◌-◌, eqb, ltb}
use Rattle.scope.specs.Base.{pick}
use Rattle.scope.specs.Chart.{Env}
use Rattle.scope.specs.Types.{Ty, flip, ty_of}
use Rattle.scope.specs.Kinds.{PARAM, FN, CLOSURE, REF, IF_CONST}
use Rattle.layout.specs.Words.{slot_at}
use Rattle.layout.specs.declared.Kind.{Kind}
use Rattle.show_parts.specs.Parts.{gap_of, lead_of, close_of, dual_of, tilde_of}

-- n children from child j on, and what follows them
unfoldable pub children : (ℕ → List ℕ) → (ℕ → List ℕ) → List ℕ → ℕ → ℕ → List ℕ
children gap item close zero j = close
children gap item close (suc n) j = gap j ++ (item j ++ children gap item close n (suc j))

-- child j as it is shown
abbrev pub kid_of : List ℕ → Kind → Bool → ℕ → Ty
kid_of ks k i j = flip i (ty_of (slot_at ks (k.first + j)).type)

-- how many children are shown where none is nil
unfoldable pub most_of : ℕ → ℕ → ℕ
most_of c n =
    pick (eqb c CLOSURE) n
    (pick (eqb c IF_CONST) (pick (ltb n 2) 0 2) (pick (eqb c REF) n (pick (eqb c PARAM) 0 (pick (ltb c FN) n 0))))

-- how many children are shown: of a Closure all but a return that is nil, of an if const one or both of two, of others all or none
unfoldable pub shown_of : (Ty → Bool) → List ℕ → Kind → ℕ
shown_of nil ks k =
    pick (eqb k.code CLOSURE)
    (pick (eqb k.count 0) 0 (pick (nil (ty_of (slot_at ks (k.first + (k.count - 1))).type)) (k.count - 1) k.count))
    (pick (eqb k.code IF_CONST) (pick (ltb k.count 2) 0 (pick (nil (ty_of (slot_at ks (k.first + 1)).type)) 1 2))
    (pick (eqb k.code REF) k.count (pick (eqb k.code PARAM) 0 (pick (ltb k.code FN) k.count 0))))

-- a self-dual kind is inverted in its children
abbrev pub inner_of : Bool → Kind → Bool
inner_of i k = i && dual_of k

-- a kind's text, a type's by g
unfoldable pub level_of : (Ty → List ℕ) → Env → (Ty → Bool) → List ℕ → Bool → Kind → List ℕ
level_of g e nil ks i k =
    let m : ℕ = shown_of nil ks k in
    tilde_of i k ++ (lead_of e k ++ children (gap_of e.texts ks k) (λ j. g (kid_of ks k (inner_of i k) j)) (close_of k m) m 0)
