-- A sound store's nodes can be walked: what the laws of marks ask. Assumes nothing.
use mathlib.Core.Path.{◌≡◌, refl, ap, sym, ◌∙◌}
use mathlib.Core.List.{List, [], ◌∷◌}
use mathlib.Core.Bool.{true}
use Prim.Native.Nat.{ℕ}
use native.Mathlib.Omega.{arith}
use lib.Dec.{ltb, leb}
use lib.ListN.{length}
use borrow.Author.Tests.{eqb-true}
use Rattle.scope.specs.Limits.{MAX_WIDTH, KINDS}
use Rattle.scope.specs.Chart.{Env}
use Rattle.scope.specs.Types.{Ty}
use Rattle.scope.specs.Kinds.{rows, row_of, shape_fits, makeable, PARAM}
use Rattle.scope.specs.Nodes.{Kind, Node}
use Rattle.scope.proofs.View.{seen, view}
use Rattle.scope.proofs.TestLaws.{and_left, and_right}
use Rattle.scope.proofs.PlanLaws.{Makeable}
use Rattle.scope.proofs.Paths.{find_idx, find_inside, rep_root}
use Rattle.scope.proofs.Marks.{Walkable}
use Rattle.scope.proofs.SoundLaws.{SoundNodes}
use Rattle.scope.proofs.ImportKept.{sound_kids}

none_left : (ts : List Ty) → length ts ≡ 0 → ts ≡ []
none_left [] e = refl
none_left (t ∷ ts) e = absurd (omega arith)

-- the table's row of Param
param_childless : (e : Env) (k : Kind) → Makeable e k → k.head.code ≡ PARAM → k.kids ≡ []
unfolding makeable row_of rows
param_childless e k m q =
    let n : ℕ = length k.kids in
    let s : shape_fits (row_of k.head.code).shape n ≡ true =
    and_left (shape_fits (row_of k.head.code).shape n) _ (and_right (leb n MAX_WIDTH) _ (and_right (ltb k.head.code KINDS) _ m.made)) in
    none_left k.kids (eqb-true n 0 (ap (λ (c : ℕ). shape_fits (row_of c).shape n) (sym q) ∙ s))

pub sound_walkable : (e : Env) (ns : List Node) → SoundNodes e ns → Walkable ns
unfolding view
sound_walkable e ns ok = record {
  good = ok.good;
  inside = find_inside ok.forest;
  tops = λ t h. rw (find_idx ns t, (rep_root ok.forest t.idx).2) refl;
  kids = sound_kids e ok;
  params = λ a i k s q. param_childless e k (ok.kinds a i k (ap seen s)).made q;
}
