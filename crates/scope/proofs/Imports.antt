-- What `import` leaves, out of a sound source into a store without cycles, where no entry was missing. Assumes nothing.
use mathlib.Core.Path.{◌≡◌}
use mathlib.Core.List.{List, Memᴰ}
use mathlib.Core.Bool.{Bool, false}
use mathlib.Core.Option.{Option}
use Prim.Native.Nat.{ℕ, ◌+◌, ◌≤◌, ◌<◌}
use lib.ListN.{length}
use Rattle.scope.specs.Types.{Ty}
use Rattle.scope.specs.Nodes.{Kind, Known, Node, Store, at, state_of}
use Rattle.scope.specs.Import.{MovedAll, import, copies}
use Rattle.scope.specs.Calls.{import_list}
use Rattle.scope.proofs.View.{Good, view}
use Rattle.scope.proofs.Extend.{Extends}
use Rattle.scope.proofs.Added.{Closed}
use Rattle.scope.proofs.Mapping.{Rest, Source, Maps}
use Rattle.scope.proofs.Copy.{Filled, import_ok}
use Rattle.scope.proofs.Copies.{After, became_length, copy_filled, new_copy, new_kind, types_inside, copies_closed, copies_good}
use Rattle.scope.proofs.CopyCount.{kids_in, import_nodes, import_children}

pub record Imported (ns : List Node) (ps : Option (List Ty)) (s : Store) (ts : List Ty) (m : MovedAll) : Type 0 where
  pub ext : Extends s.nodes m.work.dest.nodes
  pub made : length m.work.dest.nodes ≡ length s.nodes + copies ns ps ts
  pub children : m.work.dest.children + kids_in s.nodes ≡ s.children + kids_in m.work.dest.nodes
  pub rest : Rest s m.work.dest
  pub closed : Closed m.work.dest.nodes
  pub good : Good (view m.work.dest.nodes)
  pub kinds : (n : ℕ) → length s.nodes ≤ n → (i : Bool) (k : Kind) → state_of (at m.work.dest.nodes n) ≡ Known i k → After ns i k
  pub copied : (n : ℕ) → length s.nodes ≤ n → n < length m.work.dest.nodes → (r : ℕ) × Maps m.work.mapping r n × Filled ns ps m.work r n
  pub types : length m.types ≡ length ts
  pub inside : (t : Ty) → Memᴰ t m.types → t.idx < length m.work.dest.nodes

pub imported : (ns : List Node) (ps : Option (List Ty)) (s : Store) (ts : List Ty) → Source ns → Closed s.nodes → Good (view s.nodes)
    → ((t : Ty) → Memᴰ t ts → t.idx < length ns) → ((t : Ty) → Memᴰ t (import_list ps) → t.idx < length s.nodes)
    → (import ns ps s ts).work.missing ≡ false → Imported ns ps s ts (import ns ps s ts)
imported ns ps s ts src closed good given low miss =
    let p = import_ok ns ps s src ts given in
    let w = (import ns ps s ts).work in
    record {
      ext = p.ok.ext;
      made = import_nodes ns ps s ts src given miss;
      children = import_children ns ps s ts src given;
      rest = p.ok.rest;
      closed = copies_closed ns ps s w p.ok miss low closed;
      good = copies_good ns ps s w p.ok miss low closed src good;
      kinds = new_kind ns ps s w p.ok;
      copied = λ n q r. let c = new_copy ns ps s w p.ok n q r in (c.0, c.1, copy_filled ns ps s w p.ok c.0 n c.1);
      types = became_length p.became;
      inside = types_inside ns ps s w p.ok miss low p.became;
    }
