-- Slices with a store's used words, and with its counts as their capacities, are clean and hold that store but for its capacities.
-- Assumes nothing.
use mathlib.Core.Path.{◌≡◌, refl, ap, sym, ◌∙◌}
use mathlib.Core.Bool.{true}
use mathlib.Core.List.{List}
use Prim.Native.Nat.{ℕ, ◌-◌}
use native.Mathlib.Omega.{arith}
use lib.Dec.{eqb}
use borrow.Author.Tests.{eq-eqb}
use Rattle.scope.specs.Sound.{zeros}
use Rattle.layout.specs.Words.{node_words, child_words, nodes_made, children_made, node_room, child_room, decode, store_in, between, unused_zero, clean}
use Rattle.layout.specs.Meaning.{header_in, store_means, Clean, Lies}
use Rattle.layout.specs.declared.Header.{Header}
use Rattle.layout.proofs.Lists.{and_both}
use Rattle.layout.proofs.StoreLaws.{store_header, clean_nodes, clean_of}
use Rattle.book.specs.Words.{with_room, counts_are_room}
use Rattle.keep.specs.Kept.{kept_header, Keeps}
use Rattle.keep.proofs.Front.{front_decode, front_clean}

-- no words from a place to the same place
none_between : (xs : List ℕ) (a e : ℕ) → e ≡ a → zeros (between xs a e) ≡ true
none_between xs a e q = let z : e - a ≡ 0 = omega arith in rw z

module _ {h ws ks ph pn pk : List ℕ} (ok : clean h ws ks ≡ true) (k : Keeps h ws ks ph pn pk) where
  made : nodes_made ph ≡ nodes_made h
  made = ap (λ (x : Header). x.nodes) k.head

  born : children_made ph ≡ children_made h
  born = ap (λ (x : Header). x.children) k.head

  nodes_are : node_room ph ≡ nodes_made h
  nodes_are = ap (λ (x : Header). x.node_room) k.head

  children_are : child_room ph ≡ children_made h
  children_are = ap (λ (x : Header). x.child_room) k.head

  each : Clean ws ks (children_made h) (nodes_made h)
  each = clean_nodes h ws ks ok

  kept_lies : Lies ph pn pk
  kept_lies = record {
    head = k.head_len;
    nodes = omega (arith, made, nodes_are);
    children = omega (arith, born, children_are);
    node_slots = rw nodes_are k.node_len;
    child_slots = rw children_are k.child_len;
  }

  kept_unused : unused_zero ph pn pk ≡ true
  unfolding unused_zero
  kept_unused =
      and_both (zeros (between pn (node_words (nodes_made ph)) (node_words (node_room ph)))) (zeros (between pk (child_words (children_made ph)) (child_words (child_room ph))))
      (none_between pn (node_words (nodes_made ph)) (node_words (node_room ph)) (omega (arith, made, nodes_are)))
      (none_between pk (child_words (children_made ph)) (child_words (child_room ph)) (omega (arith, born, children_are)))

  pub keeps_clean : clean ph pn pk ≡ true
  keeps_clean =
      clean_of ph pn pk kept_lies kept_unused
      (rw (born, made) (front_clean ws ks pn pk (children_made h) (nodes_made h) each k.nodes k.kids k.node_len))

  pub keeps_counts : counts_are_room ph ≡ true
  keeps_counts =
      and_both (eqb (node_room ph) (nodes_made ph)) (eqb (child_room ph) (children_made ph))
      (eq-eqb (node_room ph) (nodes_made ph) (nodes_are ∙ sym made)) (eq-eqb (child_room ph) (children_made ph) (children_are ∙ sym born))

  same_nodes : decode pn pk (nodes_made ph) ≡ decode ws ks (nodes_made h)
  same_nodes =
      ap (decode pn pk) made ∙ front_decode ws ks pn pk (children_made h) (nodes_made h) each k.nodes k.kids

  -- but for its capacities
  kept_store : store_in ph pn pk ≡ store_means (kept_header (header_in h)) (decode ws ks (nodes_made h))
  kept_store = store_header ph pn pk ∙ (ap (λ (x : Header). store_means x (decode pn pk (nodes_made ph))) k.head
      ∙ ap (store_means (kept_header (header_in h))) same_nodes)

  same_store : with_room (store_in h ws ks).node_room (store_in h ws ks).child_room (store_in ph pn pk) ≡ store_in h ws ks
  same_store = rw (kept_store, store_header h ws ks) refl

  pub keeps_store : {n c : ℕ} → (store_in h ws ks).node_room ≡ n → (store_in h ws ks).child_room ≡ c → with_room n c (store_in ph pn pk) ≡ store_in h ws ks
  keeps_store {n} {c} e f =
      ap (λ (k : ℕ). with_room k c (store_in ph pn pk)) (sym e)
      ∙ (ap (λ (k : ℕ). with_room (store_in h ws ks).node_room k (store_in ph pn pk)) (sym f) ∙ same_store)
