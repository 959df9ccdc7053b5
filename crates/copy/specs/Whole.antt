-- What an import or an export asks and gives. The source is n clean nodes with the listed types inside; the destination has room for what is needed, and the
-- lent list for the answer's types.
use Rattle.std.specs.Prelude.{◌≡◌, true, List, map, ℕ, ◌≤◌, length, take, drop}
use Rattle.std.proofs.Math.Option.{Option, none}
use Rattle.scope.specs.Types.{Ty, ty_of}
use Rattle.scope.specs.Nodes.{Store, opened}
use Rattle.scope.specs.Import.{MovedAll, import}
use Rattle.scope.specs.Needs.{needs, exported}
use Rattle.layout.specs.Words.{nodes_made, decode, store_in}
use Rattle.layout.specs.Words as words
use Rattle.store.specs.Holds.{Became, Openable, Room}
use Rattle.store.specs.Entries.{types_in}
use Rattle.needs.specs.Sources.{Importable}
use Rattle.copy_parts.specs.Places.{params_in}
use Rattle.copy.specs.declared.Source.{Source}

pub record ImportReady (sw sk : List ℕ) (n : ℕ) (ps : Option (List Ty)) (ts h ws ks out : List ℕ) : Type 0 where
  pub source : Importable sw sk n (types_in ts)
  pub clean : words.clean h ws ks ≡ true
  pub room : Room (store_in h ws ks) (needs (decode sw sk n) ps (types_in ts)).nodes (needs (decode sw sk n) ps (types_in ts)).children
  pub long : length ts ≤ length out

-- the same of what is copied from, and what an import out of it makes
abbrev pub ImportReadyFrom : Source → List ℕ → List ℕ → List ℕ → List ℕ → List ℕ → Type 0
ImportReadyFrom s ts h ws ks out = ImportReady s.nodes.words.now s.nodes.kids.now s.nodes.made (params_in s.params) ts h ws ks out

abbrev pub import_from : Source → Store → List Ty → MovedAll
import_from s = import (decode s.nodes.words.now s.nodes.kids.now s.nodes.made) (params_in s.params)

-- a store of n nodes and c children is opened in the destination, whatever its slices hold
pub record ExportReady (sh sw sk ts : List ℕ) (n c : ℕ) (h ws ks out : List ℕ) : Type 0 where
  pub source : Importable sw sk (nodes_made sh) (exported (store_in sh sw sk) (types_in ts))
  pub openable : Openable n c h ws ks
  pub room : Room (opened n c) (needs (store_in sh sw sk).nodes none (exported (store_in sh sw sk) (types_in ts))).nodes
      (needs (store_in sh sw sk).nodes none (exported (store_in sh sw sk) (types_in ts))).children
  pub long : length ts ≤ length out

-- the n types of m stand at the front of the list, and the slices hold its store
pub record ImportedIs (m : MovedAll) (n : ℕ) (h ws ks h' ws' ks' out out' : List ℕ) : Type 0 where
  pub types : map ty_of (take n out') ≡ m.types
  pub rest : drop n out' ≡ drop n out
  pub store : Became h ws ks h' ws' ks' m.work.dest
