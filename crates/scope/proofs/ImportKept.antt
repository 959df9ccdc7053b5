-- Sound stays sound under `import` out of a sound source. Assumes nothing.
use mathlib.Core.Path.{◌≡◌, refl, sym, ap, subst, ◌∙◌}
use mathlib.Core.List.{List, Memᴰ}
use mathlib.Core.Bool.{false}
use mathlib.Core.Option.{Option}
use Prim.Native.Nat.{ℕ, ◌≤◌, ◌<◌}
use native.Mathlib.Omega.{arith}
use native.Mathlib.Decide.{dec_lt}
use lib.ListN.{length}
use Rattle.scope.specs.Chart.{Env}
use Rattle.scope.specs.Types.{Ty}
use Rattle.scope.specs.Nodes.{State, Known, Unknown, InferenceFailed, Node, Store, at, state_of, kids_of}
use Rattle.scope.specs.Import.{import}
use Rattle.scope.specs.Calls.{import_list}
use Rattle.scope.proofs.ViewLaws.{Kinds, Fine}
use Rattle.scope.proofs.PlanLaws.{Makeable}
use Rattle.scope.proofs.View.{seen, view}
use Rattle.scope.proofs.Paths.{find_inside}
use Rattle.scope.proofs.Falls.{seen_known, good_falls}
use Rattle.scope.proofs.Added.{Closed}
use Rattle.scope.proofs.Extend.{ext_forest, ext_shallow, ext_sized, ext_st}
use Rattle.scope.proofs.Mapping.{Source}
use Rattle.scope.proofs.Copies.{after_makeable}
use Rattle.scope.proofs.Imports.{Imported, imported}
use Rattle.scope.proofs.SoundLaws.{SoundNodes, nodes_held, SoundFacts}
use Rattle.scope.proofs.SoundKept.{Kept, fine_more, remembers_more}

module _ (e : Env) where
  pub sound_kids : {ns : List Node} → SoundNodes e ns → (r : ℕ) (c : Ty) → Memᴰ c (kids_of (state_of (at ns r))) → c.idx < length ns
  unfolding view
  sound_kids {ns} ok r c = go (state_of (at ns r)) refl
    where
      go : (st : State) → state_of (at ns r) ≡ st → Memᴰ c (kids_of st) → c.idx < length ns
      go (Known i k) q m = (ok.kinds r i k (ap seen q)).kids c m
      go (Unknown p) q m = elim m [ ]
      go InferenceFailed q m = elim m [ ]

  pub sound_closed : {ns : List Node} → SoundNodes e ns → Closed ns
  sound_closed ok = record { forest = ok.forest; kids = sound_kids ok }

  pub sound_source : {ns : List Node} → SoundNodes e ns → Source ns
  sound_source {ns} ok = record {
    inside = find_inside ok.forest;
    kids = sound_kids ok;
    falling = good_falls ns ok.forest ok.good (nodes_held ok);
  }

  module _ (ns : List Node) (ps : Option (List Ty)) (s : Store) (ts : List Ty) (src : SoundNodes e ns) (ok : SoundFacts e s)
      (in_source : (t : Ty) → Memᴰ t ts → t.idx < length ns) (in_dest : (t : Ty) → Memᴰ t (import_list ps) → t.idx < length s.nodes)
      (miss : (import ns ps s ts).work.missing ≡ false) where
    abbrev d : Store
    d = (import ns ps s ts).work.dest

    pub import_leaves : Imported ns ps s ts (import ns ps s ts)
    import_leaves = imported ns ps s ts (sound_source src) (sound_closed ok.nodes) ok.nodes.good in_source in_dest miss

    import_kinds : Kinds (Fine (length d.nodes) (Makeable e)) (view d.nodes)
    unfolding view
    import_kinds a i k q = go (dec_lt a (length s.nodes))
      where
        q' : state_of (at d.nodes a) ≡ Known i k
        q' = seen_known (state_of (at d.nodes a)) q

        go : Dec (a < length s.nodes) → Fine (length d.nodes) (Makeable e) k
        go (yes h) =
            fine_more e import_leaves.ext.len (ok.nodes.kinds a i k (sym (ext_st s.nodes d.nodes import_leaves.ext ok.nodes.forest a h) ∙ q))
        go (no h) =
            let z = import_leaves.kinds a (omega arith) i k q' in
            record {
              made = after_makeable e z (src.kinds z.root i z.kind (ap seen z.state)).made;
              kids = λ t x. import_leaves.closed.kids a t (subst (λ (st : State). Memᴰ t (kids_of st)) (sym q') x);
            }

    pub import_kept : length (import ns ps s ts).work.dest.nodes ≤ s.node_room → (import ns ps s ts).work.dest.children ≤ s.child_room
        → Kept e s (import ns ps s ts).work.dest
    import_kept hn hc = record {
      facts = record {
        nodes = record {
          forest = ext_forest s.nodes d.nodes import_leaves.ext ok.nodes.forest;
          kinds = import_kinds;
          sized = ext_sized s.nodes d.nodes import_leaves.ext ok.nodes.forest ok.nodes.sized;
          good = import_leaves.good;
        };
        error = rw import_leaves.rest.error (remembers_more e import_leaves.ext.len ok.error);
        nil = rw import_leaves.rest.nil (remembers_more e import_leaves.ext.len ok.nil);
        node_limit = rw import_leaves.rest.node_room ok.node_limit;
        child_limit = rw import_leaves.rest.child_room ok.child_limit;
        node_room_lem = rw import_leaves.rest.node_room hn;
        child_room_lem = rw import_leaves.rest.child_room hc;
      };
      shallow = ext_shallow s.nodes d.nodes import_leaves.ext ok.nodes.forest;
      room = record { nodes = import_leaves.rest.node_room; children = import_leaves.rest.child_room };
    }
