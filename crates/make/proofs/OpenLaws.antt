-- A store without nodes: once the words of its slots are 0 and its header is written, the slices hold it. `open` clears all slots that the
-- capacities need; `reset` the used ones, since in clean words the others are 0.
-- Assumes nothing.
use mathlib.Core.Path.{◌≡◌, refl, ap, ◌∙◌}
use mathlib.Core.Bool.{Bool, true, ◌&&◌}
use mathlib.Core.List.{List}
use Prim.Native.Nat.{ℕ, ◌≤◌}
use native.Mathlib.Omega.{arith}
use lib.ListN.{length}
use Rattle.scope.specs.Nodes.{opened}
use Rattle.scope.specs.Force.{with_reports, reset}
use Rattle.scope.specs.Sound.{zeros}
use Rattle.layout.specs.Words.{HEAD_WORDS, node_words, child_words, nodes_made, children_made, node_room, child_room, reports, decode, store_in, between, unused_zero, clean}
use Rattle.layout.specs.Meaning.{header_in, put_header, store_means, Clean, Lies}
use Rattle.layout.specs.declared.Header.{Header}
use Rattle.layout.proofs.Lists.{and_both, and_left, and_right, drop_later}
use Rattle.layout.proofs.StoreLaws.{tail_put_header, length_put_header, store_put, clean_lies, clean_unused, clean_of}
use Rattle.store.specs.Holds.{Holds, Became, Openable}
use Rattle.make.specs.Header.{cleared, fresh}
use Rattle.make.proofs.Blank.{Blank, zeros_blank, blank_zeros, drop_cleared, length_cleared, blank_cleared}

module _ (h ws ks : List ℕ) (n c r : ℕ) (head : HEAD_WORDS ≤ length h) (node_len : node_words n ≤ length ws) (child_len : child_words c ≤ length ks)
    (node_rest : Blank ws 0 (node_words n)) (child_rest : Blank ks 0 (child_words c)) where
  abbrev h' : List ℕ
  h' = put_header h (fresh n c r)

  fresh_lies : Lies h' ws ks
  unfolding put_header
  fresh_lies = record {
    head = omega (arith, length_put_header h (fresh n c r) head, head);
    nodes = omega arith;
    children = omega arith;
    node_slots = node_len;
    child_slots = child_len;
  }

  fresh_unused : unused_zero h' ws ks ≡ true
  unfolding unused_zero put_header
  fresh_unused =
      and_both (zeros (between ws 0 (node_words n))) (zeros (between ks 0 (child_words c)))
      (blank_zeros ws 0 (node_words n) node_rest) (blank_zeros ks 0 (child_words c) child_rest)

  fresh_each : Clean ws ks 0 0
  fresh_each = record { room = omega arith; each = λ i g. absurd (omega arith) }

  fresh_clean : clean h' ws ks ≡ true
  unfolding put_header
  fresh_clean = clean_of h' ws ks fresh_lies fresh_unused fresh_each

  fresh_store : store_means (fresh n c r) (decode ws ks 0) ≡ with_reports (opened n c) r
  unfolding decode
  fresh_store = refl

  fresh_holds : Holds h' ws ks (with_reports (opened n c) r)
  fresh_holds = record { clean = fresh_clean; is = store_put h (fresh n c r) refl refl ws ks ∙ fresh_store }

-- a slots and b children are cleared; the others of n and c are 0

module _ (h ws ks : List ℕ) (n c r a b : ℕ) (head : HEAD_WORDS ≤ length h) (node_len : node_words n ≤ length ws) (child_len : child_words c ≤ length ks)
    (few : a ≤ n) (fewer : b ≤ c) (node_rest : Blank ws (node_words a) (node_words n)) (child_rest : Blank ks (child_words b) (child_words c)) where
  abbrev ws' : List ℕ
  ws' = cleared ws (node_words a)

  abbrev ks' : List ℕ
  ks' = cleared ks (child_words b)

  emptied : Became h ws ks (put_header h (fresh n c r)) ws' ks' (with_reports (opened n c) r)
  emptied = record {
    holds = fresh_holds h ws' ks' n c r head
        (rw (length_cleared ws (node_words a) (omega arith)) node_len)
        (rw (length_cleared ks (child_words b) (omega arith)) child_len)
        (blank_cleared ws (node_words a) (node_words n) node_rest)
        (blank_cleared ks (child_words b) (child_words c) child_rest);
    beyond = record {
      head = tail_put_header h (fresh n c r);
      nodes = drop_later (node_words a) (node_words n) ws' ws (omega arith) (drop_cleared ws (node_words a));
      kids = drop_later (child_words b) (child_words c) ks' ks (omega arith) (drop_cleared ks (child_words b));
    };
  }

pub open_became : {h ws ks h' ws' ks' : List ℕ} {n c a b : ℕ} {x : Header} → Openable n c h ws ks → a ≡ node_words n → ws' ≡ cleared ws a
    → b ≡ child_words c → ks' ≡ cleared ks b → x ≡ fresh n c 0 → h' ≡ put_header h x → Became h ws ks h' ws' ks' (opened n c)
open_became {h} {ws} {ks} {n = n} {c = c} o p q r s t u =
    rw (u, t, s, r, q, p)
    (emptied h ws ks n c 0 n c o.head o.node_len o.child_len (omega arith) (omega arith) (λ i l g. absurd (omega arith)) (λ i l g. absurd (omega arith)))

-- in clean words, the slots that are not used are 0

module _ (h ws ks : List ℕ) (ok : clean h ws ks ≡ true) where
  abbrev nodes_zero : Bool
  nodes_zero = zeros (between ws (node_words (nodes_made h)) (node_words (node_room h)))

  abbrev children_zero : Bool
  children_zero = zeros (between ks (child_words (children_made h)) (child_words (child_room h)))

  unused : (nodes_zero && children_zero) ≡ true
  unfolding unused_zero
  unused = clean_unused h ws ks ok

  pub nodes_blank : Blank ws (node_words (nodes_made h)) (node_words (node_room h))
  nodes_blank = zeros_blank ws (node_words (nodes_made h)) (node_words (node_room h)) (and_left nodes_zero children_zero unused)

  pub children_blank : Blank ks (child_words (children_made h)) (child_words (child_room h))
  children_blank = zeros_blank ks (child_words (children_made h)) (child_words (child_room h)) (and_right nodes_zero children_zero unused)

  -- reset

  reset_store : reset (store_in h ws ks) ≡ with_reports (opened (node_room h) (child_room h)) (reports h)
  unfolding reset store_in
  reset_store = refl

  pub reset_head : HEAD_WORDS ≤ length h
  reset_head = (clean_lies h ws ks ok).head

  module _ {x : Header} (e : x ≡ header_in h) where
    pub reset_nodes : {a : ℕ} → a ≡ node_words x.nodes → a ≤ length ws
    reset_nodes q =
        let l : Lies h ws ks = clean_lies h ws ks ok in
        let m : x.nodes ≡ nodes_made h = ap (λ (y : Header). y.nodes) e in
        omega (arith, l.nodes, l.node_slots)

    pub reset_children : {a : ℕ} → a ≡ child_words x.children → a ≤ length ks
    reset_children q =
        let l : Lies h ws ks = clean_lies h ws ks ok in
        let m : x.children ≡ children_made h = ap (λ (y : Header). y.children) e in
        omega (arith, l.children, l.child_slots)

    pub reset_became : {h' ws' ks' : List ℕ} {a b : ℕ} {y : Header} → a ≡ node_words x.nodes → ws' ≡ cleared ws a
        → b ≡ child_words x.children → ks' ≡ cleared ks b → y ≡ fresh x.node_room x.child_room x.reports → h' ≡ put_header h y
        → Became h ws ks h' ws' ks' (reset (store_in h ws ks))
    reset_became p q r s t u =
        let l : Lies h ws ks = clean_lies h ws ks ok in
        rw (u, t, s, r, q, p, e, reset_store)
        (emptied h ws ks (node_room h) (child_room h) (reports h) (nodes_made h) (children_made h) l.head l.node_slots l.child_slots l.nodes l.children nodes_blank children_blank)
