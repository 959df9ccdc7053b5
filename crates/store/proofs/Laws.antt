-- The laws of slices that hold a store: what callers use in place of `clean` and `store_in`. Reading gives the store's node, a node put changes that
-- node alone and leaves slices that hold the store so changed, and the header says what the store remembers. They follow from layout's laws of nodes
-- and headers in words.
-- Assumes nothing.
use mathlib.Core.Path.{◌≡◌, refl, ap, sym, ◌∙◌}
use mathlib.Core.Bool.{Bool, true, false}
use mathlib.Core.List.{List}
use Prim.Native.Nat.{ℕ, ◌≤◌}
use native.Mathlib.Omega.{arith}
use lib.Dec.{eqb}
use lib.ListN.{length, get_or, drop, set}
use Rattle.scope.specs.Limits.{NONE}
use Rattle.scope.specs.Kinds.{row_of, NO_NAMES}
use Rattle.scope.specs.Nodes as nodes
use Rattle.scope.specs.Make.{bare}
use Rattle.layout.specs.Words.{node_words, nodes_made, children_made, node_room, child_room, decode, store_in}
use Rattle.layout.specs.Meaning.{read_at, put_at, header_in, kind_means, node_means, kind_fits, node_fits, remembered_of, remembered_means, remembered_fits, Clean, Lies, Grown}
use Rattle.layout.specs.declared.TypeNode.{TypeNode}
use Rattle.layout.proofs.Lists.{drop_later}
use Rattle.layout.proofs.Laws.{length_decode, length_put, tail_put, decode_put, clean_put, read_is, read_is_fit}
use Rattle.layout.proofs.KindLaws.{names_none, fits_none}
use Rattle.layout.proofs.StoreLaws.{remembered_means_lem, clean_lies, clean_unused, clean_nodes, clean_of, unused_grown}
use Rattle.store.specs.Holds.{Holds, Beyond}
use Rattle.store.specs.Bare.{bare_kind}

-- what a store's parts are in words

module _ (h ws ks : List ℕ) where
  pub store_nodes : (store_in h ws ks).nodes ≡ decode ws ks (nodes_made h)
  unfolding store_in
  store_nodes = refl

  pub store_count : length (store_in h ws ks).nodes ≡ nodes_made h
  store_count = ap length store_nodes ∙ length_decode ws ks (nodes_made h)

  pub store_children : (store_in h ws ks).children ≡ children_made h
  unfolding store_in
  store_children = refl

-- slices that hold a store are clean, node by node

module _ {h ws ks : List ℕ} {s : nodes.Store} (o : Holds h ws ks s) where
  pub holds_lies : Lies h ws ks
  holds_lies = clean_lies h ws ks o.clean

  pub holds_clean : Clean ws ks (children_made h) (nodes_made h)
  holds_clean = clean_nodes h ws ks o.clean

  pub holds_nodes : decode ws ks (nodes_made h) ≡ s.nodes
  holds_nodes = sym (store_nodes h ws ks) ∙ ap (λ (x : nodes.Store). x.nodes) o.is

  -- a node that was read is the store's, and may be put back
  pub holds_read : {v : TypeNode} (i : ℕ) → v ≡ read_at ws (nodes_made h) i → nodes.at s.nodes i ≡ node_means ks v
  holds_read i e =
      ap (λ (l : List nodes.Node). nodes.at l i) (sym holds_nodes) ∙ read_is ws ks (children_made h) (nodes_made h) holds_clean i e

  pub holds_fits : {v : TypeNode} (i : ℕ) → v ≡ read_at ws (nodes_made h) i → node_fits ks (children_made h) v ≡ true
  holds_fits i e = read_is_fit ws ks (children_made h) (nodes_made h) holds_clean i e

pub beyond_refl : {n c : ℕ} {h ws ks : List ℕ} → Beyond n c h ws ks h ws ks
beyond_refl = record { head = refl; nodes = refl; kids = refl }

pub beyond_trans : {n c : ℕ} {h ws ks h' ws' ks' h'' ws'' ks'' : List ℕ} → Beyond n c h ws ks h' ws' ks' → Beyond n c h' ws' ks' h'' ws'' ks''
    → Beyond n c h ws ks h'' ws'' ks''
beyond_trans a b = record { head = b.head ∙ a.head; nodes = b.nodes ∙ a.nodes; kids = b.kids ∙ a.kids }

-- other node words under the same header

module _ {h ws ks : List ℕ} {s : nodes.Store} (o : Holds h ws ks s) (ws' : List ℕ) (long : length ws' ≡ length ws)
    (tail : drop (node_words (nodes_made h)) ws' ≡ drop (node_words (nodes_made h)) ws) (each : Clean ws' ks (children_made h) (nodes_made h)) where
  same_lies : Lies h ws' ks
  same_lies =
      let l : Lies h ws ks = holds_lies o in
      record { head = l.head; nodes = l.nodes; children = l.children; node_slots = rw long l.node_slots; child_slots = l.child_slots }

  same_grown : Grown h ws ks h ws' ks
  same_grown = record { node_rooms = refl; child_rooms = refl; nodes = omega arith; children = omega arith; node_tail = tail; child_tail = refl }

  store_with : store_in h ws' ks ≡ nodes.with_nodes (store_in h ws ks) (decode ws' ks (nodes_made h))
  unfolding store_in
  store_with = refl

  pub holds_with : Holds h ws' ks (nodes.with_nodes s (decode ws' ks (nodes_made h)))
  holds_with = record {
    clean = clean_of h ws' ks same_lies (unused_grown h ws ks h ws' ks same_grown (clean_unused h ws ks o.clean)) each;
    is = store_with ∙ ap (λ (x : nodes.Store). nodes.with_nodes x (decode ws' ks (nodes_made h))) o.is;
  }

  pub beyond_with : Beyond (node_room h) (child_room h) h ws ks h ws' ks
  beyond_with =
      let few : nodes_made h ≤ node_room h = (holds_lies o).nodes in
      record { head = refl; nodes = drop_later (node_words (nodes_made h)) (node_words (node_room h)) ws' ws (omega arith) tail; kids = refl }

-- a node put

module _ {h ws ks : List ℕ} {s : nodes.Store} (o : Holds h ws ks s) (i : ℕ) (v : TypeNode) (fits : node_fits ks (children_made h) v ≡ true) where
  abbrev n : ℕ
  n = nodes_made h

  room : node_words n ≤ length ws
  room = (holds_clean o).room

  long : length (put_at ws n i v) ≡ length ws
  long = length_put ws n room i v

  tail : drop (node_words n) (put_at ws n i v) ≡ drop (node_words n) ws
  tail = tail_put ws n room i v

  each : Clean (put_at ws n i v) ks (children_made h) n
  each = clean_put ws ks (children_made h) n (holds_clean o) i v fits

  pub holds_put : Holds h (put_at ws n i v) ks (nodes.with_nodes s (set s.nodes i (node_means ks v)))
  holds_put =
      rw (decode_put ws n room i v ks (children_made h) fits, holds_nodes o) at
      (holds_with o (put_at ws n i v) long tail each)

  pub beyond_put : Beyond (node_room h) (child_room h) h ws ks h (put_at ws n i v) ks
  beyond_put = beyond_with o (put_at ws n i v) long tail each

-- what a store remembers

fits_by : (b : Bool) (w : ℕ) → eqb w NONE ≡ b → remembered_fits (remembered_of w) ≡ true
fits_by true w e = rw e refl
fits_by false w e = rw (e, e) refl

pub remembered_fits_lem : (w : ℕ) → remembered_fits (remembered_of w) ≡ true
remembered_fits_lem w = fits_by (eqb w NONE) w refl

module _ (h ws ks : List ℕ) where
  pub error_is : remembered_means (header_in h).error ≡ (store_in h ws ks).error
  unfolding store_in
  error_is = remembered_means_lem (get_or h 4 0)

  pub nil_is : remembered_means (header_in h).nil ≡ (store_in h ws ks).nil
  unfolding store_in
  nil_is = remembered_means_lem (get_or h 5 0)

-- a kind without names

pub bare_means : (ks : List ℕ) (c : ℕ) → (row_of c).names ≡ NO_NAMES → kind_means ks (bare_kind c) ≡ bare c
unfolding kind_means
bare_means ks c e = rw (names_none ks (bare_kind c) e) refl

pub bare_fits : (ks : List ℕ) (m c : ℕ) → (row_of c).names ≡ NO_NAMES → kind_fits ks m (bare_kind c) ≡ true
bare_fits ks m c e = fits_none ks (bare_kind c) m (omega arith) refl e refl
