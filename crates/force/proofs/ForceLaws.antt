-- Forcing: `find_mut` leaves the store with every node's state, so what the code reads at the root is the state that scope's force_kind goes by. One law
-- for each of its three cases.
-- Assumes nothing.
use mathlib.Core.Path.{◌≡◌, refl, ap, sym, ◌∙◌}
use mathlib.Core.Bool.{Bool, true}
use mathlib.Core.List.{List}
use Prim.Native.Nat.{ℕ, ◌≤◌}
use native.Mathlib.Omega.{arith}
use lib.ListN.{length, get_or, set}
use Rattle.scope.specs.Base.{xor}
use Rattle.scope.specs.Types.{Ty, ty_of}
use Rattle.scope.specs.Nodes as nodes
use Rattle.scope.specs.Nodes.{Store, at, state_of, size_of, state_at, find, find_mut, with_nodes}
use Rattle.scope.specs.Force.{forced, fail, report, with_reports, force_kind}
use Rattle.types.specs.declared.«Type».{«Type»}
use Rattle.types.specs.declared.Inverted.{Inverted}
use Rattle.layout.specs.Words.{HEAD_WORDS, nodes_made, children_made, node_room, child_room, reports, store_in, clean}
use Rattle.layout.specs.Meaning.{read_at, put_at, header_in, put_header, node_state, node_size, state_means, state_fits, node_means, Linked, Lies, Grown}
use Rattle.layout.specs.declared.Header.{Header}
use Rattle.layout.specs.declared.Kind.{Kind}
use Rattle.layout.specs.declared.TypeState.{TypeState}
use Rattle.layout.specs.declared.TypeState.TheVariants as state
use Rattle.layout.specs.declared.TypeNode.{TypeNode}
use Rattle.layout.specs.declared.TypeNode.TheVariants.{Root}
use Rattle.layout.proofs.HeldLaws.{state_node, size_node, fits_node}
use Rattle.layout.proofs.LinkLaws.{clean_linked}
use Rattle.layout.proofs.StoreLaws.{tail_put_header, length_put_header, store_header, store_put, clean_lies, clean_nodes, clean_unused, clean_of, unused_grown}
use Rattle.roots.specs.Found.{FoundMut}
use Rattle.store.specs.Holds.{Holds, Beyond, Became}
use Rattle.store.proofs.Laws.{holds_nodes, holds_lies, holds_clean, holds_read, holds_fits, holds_with, beyond_with, holds_put, beyond_put, remembered_fits_lem}
use Rattle.force.specs.Forcing.{reporting, ForcedIs}
use Rattle.force.proofs.Laws.{state_kept}

-- find_mut on slices that hold a store

module _ {h ws ks ws' : List ℕ} {s : Store} {t r : ℕ} (o : Holds h ws ks s) (f : FoundMut ws (nodes_made h) ws' t r) where
  pub found_root : ty_of r ≡ find s.nodes (ty_of t)
  found_root = f.root ks ∙ ap (λ (l : List nodes.Node). find l (ty_of t)) (holds_nodes o)

  pub found_holds : Holds h ws' ks (with_nodes s (find_mut s.nodes (ty_of t)))
  found_holds =
      rw (f.nodes ks, holds_nodes o) at
      (holds_with o ws' f.words.long f.words.tail (f.words.clean ks (children_made h) (holds_clean o)))

  pub found_beyond : Beyond (node_room h) (child_room h) h ws ks h ws' ks
  found_beyond = beyond_with o ws' f.words.long f.words.tail (f.words.clean ks (children_made h) (holds_clean o))

module _ (h ws ks : List ℕ) (ok : clean h ws ks ≡ true) where
  pub force_head : HEAD_WORDS ≤ length h
  force_head = (clean_lies h ws ks ok).head

  pub force_linked : {x : Header} → x ≡ header_in h → Linked ws x.nodes
  force_linked e = rw e (clean_linked ws ks (children_made h) (nodes_made h) (clean_nodes h ws ks ok))

-- another report count

module _ {h ws ks : List ℕ} {s : Store} (o : Holds h ws ks s) (r : ℕ) where
  abbrev counted : List ℕ
  counted = put_header h (reporting (header_in h) r)

  counted_lies : Lies counted ws ks
  unfolding put_header
  counted_lies =
      let l : Lies h ws ks = holds_lies o in
      record {
        head = omega (arith, length_put_header h (reporting (header_in h) r) l.head, l.head);
        nodes = l.nodes;
        children = l.children;
        node_slots = l.node_slots;
        child_slots = l.child_slots;
      }

  counted_grown : Grown h ws ks counted ws ks
  unfolding put_header
  counted_grown = record { node_rooms = refl; child_rooms = refl; nodes = omega arith; children = omega arith; node_tail = refl; child_tail = refl }

  counted_clean : clean counted ws ks ≡ true
  unfolding put_header
  counted_clean = clean_of counted ws ks counted_lies (unused_grown h ws ks counted ws ks counted_grown (clean_unused h ws ks o.clean)) (holds_clean o)

  pub reports_holds : Holds counted ws ks (with_reports s r)
  reports_holds = record {
    clean = counted_clean;
    is = store_put h (reporting (header_in h) r) (remembered_fits_lem (get_or h 4 0)) (remembered_fits_lem (get_or h 5 0)) ws ks
        ∙ ap (λ (x : Store). with_reports x r) (sym (store_header h ws ks) ∙ o.is);
  }

-- what is known where force_kind goes by the state

module _ (h ws ks : List ℕ) {ws' : List ℕ} {x : Header} {t r : «Type»} {i : ℕ} {v : TypeNode} {st : TypeState} (ok : clean h ws ks ≡ true)
    (e : x ≡ header_in h) (f : FoundMut ws x.nodes ws' t.0 r.0) (p : i ≡ (ty_of r.0).idx) (q : v ≡ read_at ws' x.nodes i)
    (u : st ≡ node_state v) where
  abbrev s : Store
  s = store_in h ws ks

  abbrev T : Ty
  T = ty_of t.0

  abbrev R : Ty
  R = find s.nodes T

  held : Holds h ws ks s
  held = record { clean = ok; is = refl }

  found : FoundMut ws (nodes_made h) ws' t.0 r.0
  found = rw e at f

  after : Holds h ws' ks (with_nodes s (find_mut s.nodes T))
  after = found_holds held found

  beyond : Beyond (node_room h) (child_room h) h ws ks h ws' ks
  beyond = found_beyond held found

  root : ty_of r.0 ≡ R
  root = found_root held found

  place : i ≡ R.idx
  place = p ∙ ap (λ (w : Ty). w.idx) root

  reads : v ≡ read_at ws' (nodes_made h) i
  reads = q ∙ ap (λ (y : Header). read_at ws' y.nodes i) e

  node : at (find_mut s.nodes T) i ≡ node_means ks v
  node = holds_read after i reads

  is_state : state_at s.nodes T ≡ state_means ks st
  is_state =
      sym (state_kept s.nodes T R.idx)
      ∙ (ap (λ (j : ℕ). state_of (at (find_mut s.nodes T) j)) (sym place) ∙ (ap state_of node ∙ (sym (state_node ks v) ∙ ap (state_means ks) (sym u))))

  fits : state_fits ks (children_made h) st ≡ true
  fits = ap (state_fits ks (children_made h)) u ∙ fits_node ks (children_made h) v (holds_fits after i reads)

  size : node_size v ≡ size_of (at (find_mut s.nodes T) R.idx)
  size = size_node ks v ∙ (ap size_of (sym node) ∙ ap (λ (j : ℕ). size_of (at (find_mut s.nodes T) j)) place)

  -- force_kind, once the state is known
  force_is : {a : nodes.State} → state_means ks st ≡ a → force_kind s T ≡ (forced R a, fail (with_nodes s (find_mut s.nodes T)) R a)
  unfolding force_kind
  force_is a = ap (λ (y : nodes.State). (forced R y, fail (with_nodes s (find_mut s.nodes T)) R y)) (is_state ∙ a)

  became : Became h ws ks h ws' ks (with_nodes s (find_mut s.nodes T))
  unfolding store_in
  became = record { holds = after; beyond = beyond }

  pub force_known : {j k : Inverted} {b : Bool} {c : Kind} → st ≡ state.Known j c → b ≡ (ty_of r.0).inv → k.0 ≡ xor j.0 b
      → ForcedIs h ws ks h ws' t (state.Known k c)
  force_known {j} {k} {b} {c} z y w =
      let a = force_is (ap (state_means ks) z) in
      record {
        answer = rw a (rw (w, y, root) refl);
        fits = ap (state_fits ks (children_made h)) (sym z) ∙ fits;
        store = rw a became;
      }

  pub force_failed : st ≡ state.InferenceFailed → ForcedIs h ws ks h ws' t state.InferenceFailed
  force_failed z = let a = force_is (ap (state_means ks) z) in record { answer = rw a refl; fits = refl; store = rw a became }

  -- the root has failed, and one report more is counted

  abbrev F : List nodes.Node
  F = find_mut s.nodes T

  module _ (m : ℕ) (w : m ≡ node_size v) where
    abbrev failed : TypeNode
    failed = Root state.InferenceFailed m

    abbrev left : List ℕ
    left = put_at ws' (nodes_made h) i failed

    failed_nodes : set F i (nodes.Root nodes.InferenceFailed m) ≡ set F R.idx (nodes.Root nodes.InferenceFailed (size_of (at F R.idx)))
    failed_nodes =
        ap (λ (j : ℕ). set F j (nodes.Root nodes.InferenceFailed m)) place
        ∙ ap (λ (z : ℕ). set F R.idx (nodes.Root nodes.InferenceFailed z)) (w ∙ size)

    failed_holds : Holds h left ks (with_nodes s (set F R.idx (nodes.Root nodes.InferenceFailed (size_of (at F R.idx)))))
    failed_holds = let p : Holds h left ks _ = holds_put after i failed refl in record { clean = p.clean; is = p.is ∙ ap (with_nodes s) failed_nodes }

    failed_became : (d : ℕ) → Became h ws ks (put_header h (reporting (header_in h) (report (reports h)))) left ks (fail (with_nodes s F) R (nodes.Unknown d))
    unfolding store_in
    failed_became d = record {
      holds = reports_holds failed_holds (report (reports h));
      beyond = record {
        head = tail_put_header h (reporting (header_in h) (report (reports h)));
        nodes = (beyond_put after i failed refl).nodes ∙ beyond.nodes;
        kids = refl;
      };
    }

  pub force_reported : {d m n : ℕ} {h'' ws'' : List ℕ} {y : Header} → st ≡ state.Unknown d → m ≡ node_size v
      → ws'' ≡ put_at ws' x.nodes i (Root state.InferenceFailed m) → n ≡ report x.reports → y ≡ reporting x n → h'' ≡ put_header h y
      → ForcedIs h ws ks h'' ws'' t (state.Unknown d)
  force_reported {d} {m} z w g b c l =
      let a = force_is (ap (state_means ks) z) in
      record { answer = rw a refl; fits = refl; store = rw (a, l, c, b, g, e) (failed_became m w d) }
