-- A kept store put back: the slices then hold it, with the capacities and the report count that stood there. Its words are the kept ones, so that its nodes
-- are the same and clean; the words behind them are 0, since those in use before were cleared and the others were 0.
-- Assumes nothing.
use mathlib.Core.Path.{◌≡◌, refl, ap, ◌∙◌}
use mathlib.Core.Bool.{true}
use mathlib.Core.List.{List}
use Prim.Native.Nat.{ℕ, ◌≤◌}
use native.Mathlib.Omega.{arith}
use lib.ListN.{length, get_or, take}
use Rattle.scope.specs.Sound.{zeros}
use Rattle.layout.specs.Words.{HEAD_WORDS, node_words, child_words, nodes_made, children_made, node_room, child_room, store_in, between, unused_zero, clean}
use Rattle.layout.specs.Meaning.{header_in, put_header, store_means, Clean, Lies}
use Rattle.layout.specs.declared.Header.{Header}
use Rattle.layout.proofs.Lists.{and_both}
use Rattle.layout.proofs.StoreLaws.{tail_put_header, length_put_header, store_header, store_put, clean_lies, clean_nodes, clean_of}
use Rattle.store.specs.Holds.{Beyond, Became}
use Rattle.store.proofs.Laws.{remembered_fits_lem}
use Rattle.make.proofs.Blank.{blank_zeros}
use Rattle.make.proofs.OpenLaws.{nodes_blank, children_blank}
use Rattle.keep.specs.Kept.{replaced, Replaceable, header_back, BackReady, store_back}
use Rattle.keep.proofs.Front.{front_decode, front_clean}
use Rattle.keep.proofs.Replace.{length_replaced, take_replaced, blank_replaced, replaced_later}

module _ {h ws ks ph pn pk : List ℕ} (r : BackReady h ws ks ph pn pk) where
  abbrev n : ℕ
  n = nodes_made ph

  abbrev c : ℕ
  c = children_made ph

  abbrev x : Header
  x = header_back (header_in h) (header_in ph)

  abbrev h' : List ℕ
  h' = put_header h x

  abbrev ws' : List ℕ
  ws' = replaced (node_words (nodes_made h)) (node_words n) pn ws

  abbrev ks' : List ℕ
  ks' = replaced (child_words (children_made h)) (child_words c) pk ks

  now_lies : Lies h ws ks
  now_lies = clean_lies h ws ks r.clean

  then_lies : Lies ph pn pk
  then_lies = clean_lies ph pn pk r.kept

  pub back_nodes : Replaceable (node_words (nodes_made h)) (node_words n) pn ws
  back_nodes =
      let l = now_lies in
      let k = then_lies in
      let m = r.nodes in
      record {
        copyable = record { source = omega (arith, k.nodes, k.node_slots); target = omega (arith, l.node_slots) };
        clearable = omega (arith, l.nodes, l.node_slots);
      }

  pub back_children : Replaceable (child_words (children_made h)) (child_words c) pk ks
  back_children =
      let l = now_lies in
      let k = then_lies in
      let m = r.children in
      record {
        copyable = record { source = omega (arith, k.children, k.child_slots); target = omega (arith, l.child_slots) };
        clearable = omega (arith, l.children, l.child_slots);
      }

  pub back_head : HEAD_WORDS ≤ length h
  back_head = now_lies.head

  back_lies : Lies h' ws' ks'
  unfolding put_header
  back_lies =
      let l = now_lies in
      record {
        head = omega (arith, length_put_header h x l.head, l.head);
        nodes = r.nodes;
        children = r.children;
        node_slots = rw (length_replaced (node_words (nodes_made h)) (node_words n) pn ws back_nodes) l.node_slots;
        child_slots = rw (length_replaced (child_words (children_made h)) (child_words c) pk ks back_children) l.child_slots;
      }

  back_unused : unused_zero h' ws' ks' ≡ true
  unfolding unused_zero put_header
  back_unused =
      and_both (zeros (between ws' (node_words n) (node_words (node_room h)))) (zeros (between ks' (child_words c) (child_words (child_room h))))
      (blank_zeros ws' (node_words n) (node_words (node_room h))
      (blank_replaced (node_words (nodes_made h)) (node_words n) pn ws back_nodes (node_words (node_room h)) (nodes_blank h ws ks r.clean)))
      (blank_zeros ks' (child_words c) (child_words (child_room h))
      (blank_replaced (child_words (children_made h)) (child_words c) pk ks back_children (child_words (child_room h)) (children_blank h ws ks r.clean)))

  each : Clean pn pk c n
  each = clean_nodes ph pn pk r.kept

  first_nodes : take (node_words n) ws' ≡ take (node_words n) pn
  first_nodes = take_replaced (node_words (nodes_made h)) (node_words n) pn ws back_nodes

  first_kids : take (child_words c) ks' ≡ take (child_words c) pk
  first_kids = take_replaced (child_words (children_made h)) (child_words c) pk ks back_children

  back_each : Clean ws' ks' c n
  back_each =
      front_clean pn pk ws' ks' c n each first_nodes first_kids
      (rw (length_replaced (node_words (nodes_made h)) (node_words n) pn ws back_nodes) back_nodes.copyable.target)

  back_clean : clean h' ws' ks' ≡ true
  unfolding put_header
  back_clean = clean_of h' ws' ks' back_lies back_unused back_each

  back_store : store_in h' ws' ks' ≡ store_back (store_in h ws ks) (store_in ph pn pk)
  back_store =
      store_put h x (remembered_fits_lem (get_or ph 4 0)) (remembered_fits_lem (get_or ph 5 0)) ws' ks'
      ∙ (ap (store_means x) (front_decode pn pk ws' ks' c n each first_nodes first_kids)
      ∙ rw (store_header h ws ks, store_header ph pn pk) refl)

  back_beyond : Beyond (node_room h) (child_room h) h ws ks h' ws' ks'
  back_beyond =
      let l = now_lies in
      record {
        head = tail_put_header h x;
        nodes = replaced_later (node_words (nodes_made h)) (node_words n) pn ws back_nodes (node_words (node_room h)) (omega (arith, l.nodes)) (omega (arith, r.nodes));
        kids = replaced_later (child_words (children_made h)) (child_words c) pk ks back_children (child_words (child_room h)) (omega (arith, l.children)) (omega (arith, r.children));
      }

  back_is : Became h ws ks h' ws' ks' (store_back (store_in h ws ks) (store_in ph pn pk))
  unfolding store_in
  back_is = record { holds = record { clean = back_clean; is = back_store }; beyond = back_beyond }

  -- as the code goes
  module _ {y p : Header} (e : y ≡ header_in h) (q : p ≡ header_in ph) where
    pub back_ready : {used many : ℕ} → used ≡ node_words y.nodes → many ≡ node_words p.nodes → Replaceable used many pn ws
    back_ready a b = rw (a, b, e, q) back_nodes

    pub back_ready_kids : {used many : ℕ} → used ≡ child_words y.children → many ≡ child_words p.children → Replaceable used many pk ks
    back_ready_kids a b = rw (a, b, e, q) back_children

    pub back_became : {used many used_kids many_kids : ℕ} {nodes kids head : List ℕ} {z : Header}
        → used ≡ node_words y.nodes → many ≡ node_words p.nodes → nodes ≡ replaced used many pn ws
        → used_kids ≡ child_words y.children → many_kids ≡ child_words p.children → kids ≡ replaced used_kids many_kids pk ks
        → z ≡ header_back y p → head ≡ put_header h z
        → Became h ws ks head nodes kids (store_back (store_in h ws ks) (store_in ph pn pk))
    back_became a b f g i j m o = rw (o, m, j, i, g, f, b, a, e, q) back_is
