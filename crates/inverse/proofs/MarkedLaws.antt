-- The laws of a walk with marks. What scope's law takes from a node's state is taken from its kind alone, which is what the code reads.
-- Assumes nothing.
use mathlib.Core.Path.{◌≡◌, refl, ap, sym, ◌∙◌, fun_ext}
use mathlib.Core.Bool.{Bool, not, ◌||◌}
use mathlib.Core.List.{List}
use Prim.Native.Nat.{ℕ, ◌<◌}
use native.Mathlib.Omega.{arith}
use lib.Dec.{eqb}
use lib.ListN.{length, get_or}
use Rattle.scope.specs.Base.{all, from}
use Rattle.scope.specs.Types.{ty_of}
use Rattle.scope.specs.Kinds.{self_dual}
use Rattle.scope.specs.Nodes.{Node, at, state_of}
use Rattle.scope.specs.Force.{find_related}
use Rattle.scope.proofs.MarkLaws.{good, new_good, beside_good, self_beside}
use Rattle.layout.specs.Words.{decode}
use Rattle.layout.specs.Meaning.{kind_means, read_at, held_in, Clean}
use Rattle.layout.proofs.Laws.{length_decode}
use Rattle.layout.proofs.HeldLaws.{held_by_lem}
use Rattle.inverse.specs.Marked.{good_by, good_at, Beside, MarkedAll}

-- what the code reads at i, where the words are clean
good_read : (i : ℕ) {ws ks : List ℕ} {c n : ℕ} → Clean ws ks c n → (param : Bool) → good param (state_of (at (decode ws ks n) i)) ≡ good_by param (held_in (read_at ws n i))
unfolding kind_means self_dual
good_read i {ws} {ks} {c} {n} cl param = held_by_lem ws ks c n cl i refl refl (good param) (good_by param) (λ j k. refl) (λ p. refl) refl

pub marked_walk : {ws ks : List ℕ} {n : ℕ} {ms ms' : List ℕ} {t : ℕ} {param b : Bool} → Beside ws ks n ms t param → ms' ≡ find_related (decode ws ks n) (ty_of t) ms
    → b ≡ all (good_at ws n ms' param) (from 0 n) → MarkedAll ws ks n ms' t param b
marked_walk {ws} {ks} {n} {ms} {ms'} {t} {param} {b} o m e = record {
  same = seen ∙ sym (self_beside o.walkable param o.told (ty_of t) inside);
  good = λ y i q. beside_good o.walkable param o.told (ty_of t) inside (sym seen ∙ y) i (λ z. q (ap (λ (l : List ℕ). get_or l i 0) m ∙ z));
}
  where
    ns : List Node
    ns = decode ws ks n

    inside : (ty_of t).idx < length ns
    inside = omega (arith, o.inside, length_decode ws ks n)

    each : (i : ℕ) → good_at ws n ms' param i ≡ new_good param ns ms' i
    each i = ap (λ (g : Bool). not (eqb (get_or ms' i 0) 1) || g) (sym (good_read i o.stands.clean param))

    seen : b ≡ all (new_good param ns (find_related ns (ty_of t) ms)) (from 0 (length ns))
    seen = e ∙ (ap (λ (p : ℕ → Bool). all p (from 0 n)) (fun_ext each)
        ∙ (ap (λ (l : List ℕ). all (new_good param ns l) (from 0 n)) m ∙ ap (λ (k : ℕ). all (new_good param ns (find_related ns (ty_of t) ms)) (from 0 k)) (sym (length_decode ws ks n))))
