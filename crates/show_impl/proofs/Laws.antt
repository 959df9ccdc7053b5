-- Which impl types have the fn form: a type's kind by what the code reads at its root, and the builtin fn trait over exactly three types.
-- Assumes nothing.
use mathlib.Core.Path.{◌≡◌, refl, ap, sym, ◌∙◌}
use mathlib.Core.Bool.{Bool, true, false}
use mathlib.Core.List.{List, [], ◌∷◌, map}
use Prim.Native.Nat.{ℕ}
use native.Mathlib.Omega.{arith}
use lib.Dec.{eqb}
use lib.ListN.{length, get_or}
use borrow.Author.Tests.{eq-eqb, ne_eqb}
use Rattle.scope.specs.Base.{pick, xor}
use Rattle.scope.specs.Types.{Ty, ty_of}
use Rattle.scope.specs.Chart.{Env}
use Rattle.scope.specs.Kinds.{TUPLE}
use Rattle.scope.specs.Nodes.{Node, at, state_of, kind_of, kind}
use Rattle.scope.specs.Force.{is_nil}
use Rattle.scope.specs.Show.{Piece, fn_pieces, fn_form, three_types, trait_pieces, impl_pieces}
use Rattle.scope.specs.Unify.{Trait}
use Rattle.types.specs.declared.Inverted.{Inverted}
use Rattle.layout.specs.Words.{decode}
use Rattle.layout.specs.Meaning.{read_at, held_in, kind_means}
use Rattle.layout.specs.declared.Kind.{Kind}
use Rattle.layout.specs.Meaning.{Held}
use Rattle.std.specs.Prelude.{Some, None}
use Rattle.std.specs.Bool.{then_some}
use Rattle.layout.proofs.HeldLaws.{held_by_lem}
use Rattle.roots.specs.Found.{Found}
use Rattle.walk.specs.Asks.{Stands}
use Rattle.show_impl.specs.Forms.{form_of, TupleOf}

-- a type by what its root holds

module _ {ws : List ℕ} {n t r i : ℕ} (f : Found ws n t r) (ie : i ≡ (ty_of r).idx) {v : Held} (e : v ≡ held_in (read_at ws n i)) where
  -- the pieces by what the root holds
  abbrev by_held : (ks : List ℕ) → Ty → Ty → List Piece → Held → List Piece
  by_held ks a ret other (Some (j, k)) = pick (eqb k.code TUPLE) (fn_pieces (is_nil (decode ws ks n)) a (xor j.0 (ty_of r).inv) (kind_means ks k).kids ret) other
  by_held ks a ret other None = other

  tuple_read : {q : Held} → v ≡ q → (ks : List ℕ) → Stands ws ks n → (a ret : Ty) (other : List Piece)
      → fn_form (is_nil (decode ws ks n)) a (kind (decode ws ks n) (ty_of t)) ret other ≡ by_held ks a ret other q
  unfolding kind kind_means
  tuple_read s ks st a ret other =
      let ns : List Node = decode ws ks n in
      let nil : Ty → Bool = is_nil ns in
      ap (λ (u : Ty). fn_form nil a (kind_of u (state_of (at ns u.idx))) ret other) (sym (f.root ks))
      ∙ ap (λ (m : ℕ). fn_form nil a (kind_of (ty_of r) (state_of (at ns m))) ret other) (sym ie)
      ∙ held_by_lem ws ks st.made n st.clean i e s (λ z. fn_form nil a (kind_of (ty_of r) z) ret other) (by_held ks a ret other) (λ j k. refl) (λ p. refl) refl

  pub tuple_none : v ≡ None → TupleOf ws n t None
  tuple_none s = record { is = tuple_read s }

  pub tuple_chosen : {j m o : Inverted} {k : Kind} → v ≡ Some (j, k) → o.0 ≡ (ty_of r).inv → m.0 ≡ xor j.0 o.0 → (b : Bool) → eqb k.code TUPLE ≡ b
      → TupleOf ws n t (then_some b (m, k))
  tuple_chosen s eo em true c = record { is = λ ks st a ret other. tuple_read s ks st a ret other ∙ rw (c, em, eo) refl }
  tuple_chosen s eo em false c = record { is = λ ks st a ret other. tuple_read s ks st a ret other ∙ rw c refl }

-- the fn form

-- any other number of types
few : (xs : List ℕ) → (length xs ≡ 3 → ⊥) → (ns : List Node) (other : List Piece) → three_types ns (map ty_of xs) other ≡ other
few [] h ns other = refl
few (a ∷ []) h ns other = refl
few (a ∷ b ∷ []) h ns other = refl
few (a ∷ b ∷ c ∷ []) h ns other = absurd (h refl)
few (a ∷ b ∷ c ∷ d ∷ ds) h ns other = refl

-- three types, of which the second is this
three : {ws : List ℕ} {n : ℕ} (xs : List ℕ) → length xs ≡ 3 → {r : Held} → TupleOf ws n (get_or xs 1 0) r → (ks : List ℕ) → Stands ws ks n → (other : List Piece)
    → three_types (decode ws ks n) (map ty_of xs) other ≡ form_of ws ks n (ty_of (get_or xs 0 0)) r (ty_of (get_or xs 2 0)) other
three (a ∷ b ∷ c ∷ []) h t ks st other = t.is ks st (ty_of a) (ty_of c) other
three [] h t ks st other = absurd (omega arith)
three (a ∷ []) h t ks st other = absurd (omega arith)
three (a ∷ b ∷ []) h t ks st other = absurd (omega arith)
three (a ∷ b ∷ c ∷ d ∷ ds) h t ks st other = absurd (omega arith)

either : (b : Bool) {x other : List Piece} → x ≡ other → pick b x other ≡ other
either true e = e
either false e = refl

-- what the code finds decides the pieces

module _ (e : Env) (i : ℕ) (xs : List ℕ) where
  abbrev plain : List Piece
  plain = trait_pieces e i (map ty_of xs)

  abbrev written : List Node → List Piece
  written ns = impl_pieces e ns (Trait i (map ty_of xs))

  pub other_trait : (ns : List Node) → (i ≡ e.fn_trait → ⊥) → written ns ≡ plain
  other_trait ns h = rw (ne_eqb i e.fn_trait h) refl

  pub other_count : (ns : List Node) → (length xs ≡ 3 → ⊥) → written ns ≡ plain
  other_count ns h = either (eqb i e.fn_trait) (few xs h ns plain)

  pub by_tuple : {ws ks : List ℕ} {n : ℕ} → Stands ws ks n → i ≡ e.fn_trait → length xs ≡ 3 → {r q : Held} → TupleOf ws n (get_or xs 1 0) r → r ≡ q
      → written (decode ws ks n) ≡ form_of ws ks n (ty_of (get_or xs 0 0)) q (ty_of (get_or xs 2 0)) plain
  by_tuple {ks = ks} st h l t z = rw (eq-eqb i e.fn_trait h) (three xs l (rw z at t) ks st plain)
