-- A root pushed behind the others, with its children in the words behind those made, leaves slices that hold the store with that root. It follows from
-- layout's laws of nodes, children and headers in words.
-- Assumes nothing.
use mathlib.Core.Path.{◌≡◌, refl, ap, ◌∙◌}
use mathlib.Core.Bool.{true}
use mathlib.Core.List.{List, [], ◌∷◌, ◌++◌}
use Prim.Native.Nat.{ℕ, ◌+◌, ◌≤◌}
use native.Mathlib.Omega.{arith}
use lib.ListN.{length, drop}
use Rattle.scope.specs.Nodes as nodes
use Rattle.layout.specs.Words.{node_words, child_words, nodes_made, children_made, node_room, child_room, decode, clean}
use Rattle.layout.specs.Meaning.{put_at, header_in, put_header, store_means, state_means, state_fits, remembered_fits, Clean, Kept, Lies, Grown}
use Rattle.layout.specs.declared.Header.{Header}
use Rattle.layout.specs.Meaning.{Remembered}
use Rattle.layout.specs.declared.TypeState.{TypeState}
use Rattle.layout.specs.declared.TypeNode.TheVariants.{Root}
use Rattle.layout.proofs.Lists.{drop_later}
use Rattle.layout.proofs.Laws.{length_put, tail_put, clean_push, decode_push}
use Rattle.layout.proofs.ChildLaws.{decode_kept, clean_kept}
use Rattle.layout.proofs.StoreLaws.{tail_put_header, length_put_header, store_put, clean_lies, clean_unused, clean_nodes, clean_of, unused_grown}
use Rattle.store.specs.Holds.{Holds, Beyond}
use Rattle.make.specs.Header.{grown}

-- a root pushed, with c children in the words behind those made, and e and z remembered

module _ (h ws ks ks' : List ℕ) (ok : clean h ws ks ≡ true) (c : ℕ) (st : TypeState) (e z : Remembered)
    (node_more : nodes_made h + 1 ≤ node_room h) (child_more : children_made h + c ≤ child_room h)
    (len : length ks' ≡ length ks) (kept : Kept (children_made h) ks ks')
    (after : drop (child_words (children_made h + c)) ks' ≡ drop (child_words (children_made h + c)) ks)
    (fits : state_fits ks' (children_made h + c) st ≡ true) where
  abbrev pub pushed_nodes : List ℕ
  pushed_nodes = put_at ws (nodes_made h + 1) (nodes_made h) (Root st 1)

  abbrev more : Header
  more = grown (header_in h) c e z

  more_room : node_words (nodes_made h + 1) ≤ length ws
  more_room = omega (arith, (clean_lies h ws ks ok).node_slots)

  more_tail : drop (node_words (nodes_made h + 1)) pushed_nodes ≡ drop (node_words (nodes_made h + 1)) ws
  more_tail = tail_put ws (nodes_made h + 1) more_room (nodes_made h) (Root st 1)

  more_each : Clean pushed_nodes ks' (children_made h + c) (nodes_made h + 1)
  more_each =
      clean_push ws ks' (children_made h + c) (nodes_made h)
      (clean_kept (children_made h) ks ks' kept ws (children_made h + c) (nodes_made h) (omega arith) (clean_nodes h ws ks ok)) (Root st 1) fits more_room

  more_lies : Lies (put_header h more) pushed_nodes ks'
  unfolding put_header
  more_lies =
      let l : Lies h ws ks = clean_lies h ws ks ok in
      record {
        head = omega (arith, length_put_header h more l.head, l.head);
        nodes = node_more;
        children = child_more;
        node_slots = rw (length_put ws (nodes_made h + 1) more_room (nodes_made h) (Root st 1)) l.node_slots;
        child_slots = rw len l.child_slots;
      }

  more_grown : Grown h ws ks (put_header h more) pushed_nodes ks'
  unfolding put_header
  more_grown = record {
    node_rooms = refl;
    child_rooms = refl;
    nodes = omega arith;
    children = omega arith;
    node_tail = more_tail;
    child_tail = after;
  }

  more_clean : clean (put_header h more) pushed_nodes ks' ≡ true
  unfolding put_header
  more_clean =
      clean_of (put_header h more) pushed_nodes ks' more_lies
      (unused_grown h ws ks (put_header h more) pushed_nodes ks' more_grown (clean_unused h ws ks ok)) more_each

  more_decode : decode pushed_nodes ks' (nodes_made h + 1) ≡ decode ws ks (nodes_made h) ++ (nodes.Root (state_means ks' st) 1 ∷ [])
  more_decode =
      decode_push ws (nodes_made h) more_room (Root st 1) ks' (children_made h + c) fits
      ∙ ap (λ (l : List nodes.Node). l ++ (nodes.Root (state_means ks' st) 1 ∷ []))
      (decode_kept (children_made h) ks ks' kept ws (nodes_made h) (clean_nodes h ws ks ok))

  pub push_holds : remembered_fits e ≡ true → remembered_fits z ≡ true
      → Holds (put_header h more) pushed_nodes ks' (store_means more (decode ws ks (nodes_made h) ++ (nodes.Root (state_means ks' st) 1 ∷ [])))
  push_holds a b = record { clean = more_clean; is = store_put h more a b pushed_nodes ks' ∙ ap (store_means more) more_decode }

  pub push_beyond : Beyond (node_room h) (child_room h) h ws ks (put_header h more) pushed_nodes ks'
  push_beyond = record {
    head = tail_put_header h more;
    nodes = drop_later (node_words (nodes_made h + 1)) (node_words (node_room h)) pushed_nodes ws (omega arith) more_tail;
    kids = drop_later (child_words (children_made h + c)) (child_words (child_room h)) ks' ks (omega arith) after;
  }
