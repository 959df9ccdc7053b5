-- What is asked of an import's source, and what its needs are: scope's, field by field. The source is n clean nodes, as a sound store's are, with the
-- listed types inside. An import is told of its parameter list by `Params`.
use Rattle.std.specs.Prelude.{◌≡◌, ℕ, ◌≤◌, ◌<◌, length}
use Rattle.std.proofs.Math.Option.{Option, none}
use mathlib.Core.List.{List, Memᴰ}
use Rattle.scope.specs.Limits.{MAX_NODES}
use Rattle.scope.specs.Types.{Ty}
use Rattle.scope.specs.Needs.{needs, exported}
use Rattle.scope.proofs.Mapping.{Source}
use Rattle.layout.specs.Words.{decode, store_in}
use Rattle.layout.specs.declared.Nodes.{Nodes}
use Rattle.store.specs.Entries.{types_in}
use Rattle.needs.specs.declared.Needs.{Needs}
use Rattle.needs.specs.Roots.{Params}
use Rattle.needs.specs.Roots.{params_for}
use Rattle.needs.specs.Sums.{sum_of, Readable}

pub record Importable (ws ks : List ℕ) (n : ℕ) (ts : List Ty) : Type 0 where
  pub readable : Readable ws ks n
  pub few : n ≤ MAX_NODES
  pub source : Source (decode ws ks n)
  pub given : (t : Ty) → Memᴰ t ts → t.idx < length (decode ws ks n)

-- the same of the nodes that are lent
abbrev pub ImportableIn : Nodes → List Ty → Type 0
ImportableIn s ts = Importable s.words.now s.kids.now s.made ts

pub record ImportNeeds (ws ks : List ℕ) (n : ℕ) (p : Params) (ts : List ℕ) (r : Needs) : Type 0 where
  pub is : (ps : Option (List Ty)) → p ≡ params_for ps → sum_of r ≡ needs (decode ws ks n) ps (types_in ts)

-- the same of the nodes that are lent
abbrev pub ImportNeedsIn : Nodes → Params → List ℕ → Needs → Type 0
ImportNeedsIn s p ts r = ImportNeeds s.words.now s.kids.now s.made p ts r

pub record ExportNeeds (h ws ks ts : List ℕ) (r : Needs) : Type 0 where
  pub is : sum_of r ≡ needs (store_in h ws ks).nodes none (exported (store_in h ws ks) (types_in ts))
