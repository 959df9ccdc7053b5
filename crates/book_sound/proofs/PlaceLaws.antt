-- One law for each way out of the test of a place. A held state is a store whose capacities are its counts, and in the book it has the book's: these two are
-- sound together, so the test of a store is that of a held one.
-- Assumes nothing.
use mathlib.Core.Path.{◌≡◌, refl, ap, sym, ◌∙◌}
use mathlib.Core.Bool.{Bool, true, false, ◌&&◌, and-false}
use mathlib.Core.List.{List, [], ◌∷◌}
use mathlib.Core.Option.{some}
use Prim.Native.Nat.{ℕ, zero, suc, ◌+◌, ◌-◌, ◌≤◌, ◌<◌}
use native.Mathlib.Omega.{arith}
use lib.Dec.{eqb, leb, ltb}
use lib.ListN.{length}
use borrow.Rule.Slice.PartMut.{mid_len}
use borrow.Author.Tests.{eq-eqb, ne_eqb, le-leb, lt-leb, le-ltb, leb-true}
use Rattle.scope.specs.Base.{all}
use Rattle.scope.specs.Limits.{MAX_NODES, MAX_CHILDREN, MAX_STATE_NAME}
use Rattle.scope.specs.Chart.{Env}
use Rattle.scope.specs.Nodes.{Store}
use Rattle.scope.specs.Sound.{zeros, room_sound, sound_store, sound}
use Rattle.scope.specs.States.{blank, name_length, same_room}
use Rattle.layout.specs.Words.{nodes_made, children_made, node_room, child_room, store_in, clean, lent_of, between}
use Rattle.layout.specs.Meaning.{Lies, header_in}
use Rattle.layout.specs.declared.Header.{Header}
use Rattle.layout.proofs.Laws.{length_decode}
use Rattle.layout.proofs.Lists.{and_both, and_left}
use Rattle.layout.proofs.StoreLaws.{clean_lies, lent_clean}
use Rattle.book.specs.Words.{BYTES, NAME_WORDS, nodes_from, kids_from, place_words, name_length_in, name_bytes_in, head_in, nodes_in, kids_in, with_room, held_in, place_in}
use Rattle.book.specs.Words.{name_words_clean, counts_are_room, held_clean}
use Rattle.book.proofs.Names.{place_in_free, clean_free, clean_held, name_length_lem}
use Rattle.book_sound.specs.Tests.{is_below, place_ok}

-- words below a limit

one : (w : ℕ) → ltb w 1 ≡ eqb w 0
one zero = refl
one (suc w) = le-ltb (suc w) 1 (omega arith) ∙ sym (ne_eqb (suc w) 0 (λ z. omega arith))

zeros_below : (ws : List ℕ) → all (is_below 1) ws ≡ zeros ws
zeros_below [] = refl
zeros_below (w ∷ ws) = rw (one w, zeros_below ws) refl

-- a name's words

pub name_long : (ps : List ℕ) → MAX_STATE_NAME < name_length_in ps → name_words_clean ps ≡ false
unfolding name_words_clean
name_long ps h = rw (lt-leb (name_length_in ps) MAX_STATE_NAME h) refl

name_parts : (ps : List ℕ) → name_length_in ps ≤ MAX_STATE_NAME
    → name_words_clean ps
    ≡ (all (is_below BYTES) (between ps 1 (suc (name_length_in ps))) && all (is_below 1) (between ps (suc (name_length_in ps)) NAME_WORDS))
unfolding name_words_clean
name_parts ps h = rw (le-leb (name_length_in ps) MAX_STATE_NAME h, zeros_below (between ps (suc (name_length_in ps)) NAME_WORDS)) refl

module _ (ps : List ℕ) (n : ℕ) (l : n ≡ name_length_in ps) (h : n ≤ MAX_STATE_NAME) (r : Bool) (f : r ≡ all (is_below BYTES) (between ps 1 (n + 1))) where
  parts : name_words_clean ps ≡ (r && all (is_below 1) (between ps (n + 1) NAME_WORDS))
  parts =
      let z : n + 1 ≡ suc (name_length_in ps) = omega arith in
      name_parts ps (omega arith)
      ∙ (ap (λ (k : ℕ). all (is_below BYTES) (between ps 1 k) && all (is_below 1) (between ps k NAME_WORDS)) (sym z)
      ∙ ap (λ (b : Bool). b && all (is_below 1) (between ps (n + 1) NAME_WORDS)) (sym f))

  pub name_first : r ≡ false → r ≡ name_words_clean ps
  name_first q = rw (parts, q) refl

  pub name_last : r ≡ true → (t : Bool) → t ≡ all (is_below 1) (between ps (n + 1) NAME_WORDS) → t ≡ name_words_clean ps
  name_last q t g = rw (parts, q) g

-- capacities of a store that is sound

room_yes : (s : Store) → s.node_room ≤ MAX_NODES → s.child_room ≤ MAX_CHILDREN → length s.nodes ≤ s.node_room → s.children ≤ s.child_room
    → room_sound s ≡ true
unfolding room_sound
room_yes s a b c d =
    rw (
      le-leb s.node_room MAX_NODES a,
      le-leb s.child_room MAX_CHILDREN b,
      le-leb (length s.nodes) s.node_room c,
      le-leb s.children s.child_room d,
    )
    refl

-- a store whose capacities are its counts is sound just where it is with larger ones within the limits
pub sound_with_room : (e : Env) (n c : ℕ) (s : Store) → s.node_room ≡ length s.nodes → s.child_room ≡ s.children → length s.nodes ≤ n → s.children ≤ c
    → n ≤ MAX_NODES → c ≤ MAX_CHILDREN → sound_store e (with_room n c s) ≡ sound_store e s
unfolding sound_store
sound_with_room e n c s p q a b l m =
    rw (
      room_yes (with_room n c s) l m a b,
      room_yes s (omega arith) (omega arith) (omega arith) (omega arith),
    )
    refl

many_nodes : (e : Env) (n c : ℕ) (s : Store) → MAX_NODES < n → sound_store e (with_room n c s) ≡ false
unfolding sound_store room_sound
many_nodes e n c s h = rw (lt-leb n MAX_NODES h) refl

many_children : (e : Env) (n c : ℕ) (s : Store) → MAX_CHILDREN < c → sound_store e (with_room n c s) ≡ false
unfolding sound_store room_sound
many_children e n c s h = rw (lt-leb c MAX_CHILDREN h, and-false (leb n MAX_NODES)) refl

-- places

module _ (e : Env) (n c : ℕ) (ps : List ℕ) where
  pub ok_free : name_length_in ps ≡ 0 → place_ok e n c ps ≡ true
  ok_free z = rw (clean_free n c ps z, place_in_free n c ps z) refl

  module _ (held : name_length_in ps ≡ 0 → ⊥) where
    is_held_lem : place_in n c ps ≡ some (record { name = name_bytes_in ps; store = held_in n c ps })
    unfolding place_in
    is_held_lem = rw (ne_eqb (name_length_in ps) 0 held) refl

    -- the state that it holds
    abbrev state_ok : Bool
    state_ok = name_length (name_bytes_in ps) && (same_room (held_in n c ps) (blank n c) && sound_store e (held_in n c ps))

    ok_held : place_ok e n c ps ≡ (held_clean n c ps && state_ok)
    ok_held = rw (clean_held n c ps held, is_held_lem) refl

    unclean : held_clean n c ps ≡ false → place_ok e n c ps ≡ false
    unclean h = ok_held ∙ ap (λ (b : Bool). b && state_ok) h

    unsound : sound_store e (held_in n c ps) ≡ false → place_ok e n c ps ≡ false
    unsound h =
        ok_held
        ∙ rw (h, and-false (same_room (held_in n c ps) (blank n c)), and-false (name_length (name_bytes_in ps)), and-false (held_clean n c ps)) refl

    no_name : name_words_clean ps ≡ false → held_clean n c ps ≡ false
    unfolding held_clean
    no_name h = rw h refl

    pub ok_name : name_words_clean ps ≡ false → place_ok e n c ps ≡ false
    ok_name h = unclean (no_name h)

    pub ok_nodes : MAX_NODES < n → place_ok e n c ps ≡ false
    ok_nodes h = unsound (many_nodes e n c (store_in (head_in ps) (nodes_in n ps) (kids_in n c ps)) h)

    pub ok_children : MAX_CHILDREN < c → place_ok e n c ps ≡ false
    ok_children h = unsound (many_children e n c (store_in (head_in ps) (nodes_in n ps) (kids_in n c ps)) h)

    no_counts : counts_are_room (head_in ps) ≡ false → held_clean n c ps ≡ false
    unfolding held_clean
    no_counts h = rw (h, and-false (name_words_clean ps)) refl

    module _ (x : Header) (g : x ≡ header_in (head_in ps)) where
      made : x.nodes ≡ nodes_made (head_in ps)
      made = ap (λ (y : Header). y.nodes) g

      born : x.children ≡ children_made (head_in ps)
      born = ap (λ (y : Header). y.children) g

      node_cap : x.node_room ≡ node_room (head_in ps)
      node_cap = ap (λ (y : Header). y.node_room) g

      child_cap : x.child_room ≡ child_room (head_in ps)
      child_cap = ap (λ (y : Header). y.child_room) g

      node_counts : x.node_room ≡ x.nodes → node_room (head_in ps) ≡ nodes_made (head_in ps)
      node_counts h = sym node_cap ∙ (h ∙ made)

      child_counts : x.child_room ≡ x.children → child_room (head_in ps) ≡ children_made (head_in ps)
      child_counts h = sym child_cap ∙ (h ∙ born)

      pub ok_node_count : (x.node_room ≡ x.nodes → ⊥) → place_ok e n c ps ≡ false
      ok_node_count h =
          unclean (no_counts (ap (λ (b : Bool). b && eqb (child_room (head_in ps)) (children_made (head_in ps)))
          (ne_eqb (node_room (head_in ps)) (nodes_made (head_in ps)) (λ q. h (node_cap ∙ (q ∙ sym made))))))

      pub ok_child_count : (x.child_room ≡ x.children → ⊥) → place_ok e n c ps ≡ false
      ok_child_count h =
          unclean (no_counts (ap (λ (b : Bool). eqb (node_room (head_in ps)) (nodes_made (head_in ps)) && b)
          (ne_eqb (child_room (head_in ps)) (children_made (head_in ps)) (λ q. h (child_cap ∙ (q ∙ sym born))))
          ∙ and-false (eqb (node_room (head_in ps)) (nodes_made (head_in ps)))))

      -- what is left is whether the store that it holds is sound
      module _ (len : length ps ≡ place_words n c) (name : name_words_clean ps ≡ true) (few : n ≤ MAX_NODES) (small : c ≤ MAX_CHILDREN)
          (nodes : x.node_room ≡ x.nodes) (children : x.child_room ≡ x.children) where
        name_fits : name_length_in ps ≤ MAX_STATE_NAME
        unfolding name_words_clean
        name_fits = leb-true (name_length_in ps) MAX_STATE_NAME (and_left (leb (name_length_in ps) MAX_STATE_NAME) _ name)

        name_ok : name_length (name_bytes_in ps) ≡ true
        name_ok =
            let f = name_fits in
            let l : length (name_bytes_in ps) ≡ name_length_in ps = name_length_lem ps (omega arith) in
            rw l (and_both _ _ (le-leb 1 (name_length_in ps) (omega arith)) (le-leb (name_length_in ps) MAX_STATE_NAME f))

        counts : counts_are_room (head_in ps) ≡ true
        counts = and_both _ _ (eq-eqb _ _ (node_counts nodes)) (eq-eqb _ _ (child_counts children))

        nodes_length : length (nodes_in n ps) ≡ kids_from n - nodes_from
        nodes_length = mid_len nodes_from (kids_from n) ps (omega arith)

        kids_length : length (kids_in n c ps) ≡ place_words n c - kids_from n
        kids_length = mid_len (kids_from n) (place_words n c) ps (omega arith)

        same_sound : clean (head_in ps) (nodes_in n ps) (kids_in n c ps) ≡ true
            → sound_store e (held_in n c ps) ≡ sound_store e (store_in (head_in ps) (nodes_in n ps) (kids_in n c ps))
        unfolding store_in
        same_sound cl =
            let l : Lies (head_in ps) (nodes_in n ps) (kids_in n c ps) = clean_lies (head_in ps) (nodes_in n ps) (kids_in n c ps) cl in
            let d : length (store_in (head_in ps) (nodes_in n ps) (kids_in n c ps)).nodes ≡ nodes_made (head_in ps) =
            length_decode (nodes_in n ps) (kids_in n c ps) (nodes_made (head_in ps)) in
            let p = nodes_length in
            let q = kids_length in
            let r = node_counts nodes in
            let t = child_counts children in
            let a : nodes_made (head_in ps) ≤ n = omega (arith, l.node_slots) in
            let b : children_made (head_in ps) ≤ c = omega (arith, l.child_slots) in
            sound_with_room e n c (store_in (head_in ps) (nodes_in n ps) (kids_in n c ps)) (r ∙ sym d) t (rw d a) b few small

        abbrev store_ok : Bool
        store_ok = sound e (lent_of (head_in ps) (nodes_in n ps) (kids_in n c ps))

        clean_name : held_clean n c ps ≡ clean (head_in ps) (nodes_in n ps) (kids_in n c ps)
        unfolding held_clean
        clean_name = rw (name, counts) refl

        stray_by : clean (head_in ps) (nodes_in n ps) (kids_in n c ps) ≡ false → store_ok ≡ false
        unfolding lent_of
        stray_by q = rw q refl

        sound_by : (t : Bool) → clean (head_in ps) (nodes_in n ps) (kids_in n c ps) ≡ t → place_ok e n c ps ≡ store_ok
        sound_by true q =
            ok_held ∙ (rw (clean_name, q, name_ok, eq-eqb n n refl, eq-eqb c c refl) (same_sound q)
            ∙ sym (ap (sound e) (lent_clean (head_in ps) (nodes_in n ps) (kids_in n c ps) q)))
        sound_by false q = unclean (clean_name ∙ q) ∙ sym (stray_by q)

        pub ok_sound : place_ok e n c ps ≡ sound e (lent_of (head_in ps) (nodes_in n ps) (kids_in n c ps))
        ok_sound = sound_by (clean (head_in ps) (nodes_in n ps) (kids_in n c ps)) refl
