-- One law for each way out of the tests of a store and of a chart. A store that cannot be read is not sound, whichever of the tests before reading it
-- breaks; one that can is sound if it passes the tests that are left. What stands beside the chart says nothing of a store.
-- Assumes nothing.
use mathlib.Core.Path.{◌≡◌, refl, ap, sym, ◌∙◌, subst}
use mathlib.Core.Bool.{Bool, true, false, ◌&&◌, and_assoc, and-true, and-false, false≢true}
use mathlib.Core.List.{List, [], ◌∷◌}
use mathlib.Core.Option.{none, some}
use Prim.Native.Nat.{ℕ, ◌%◌, ◌≤◌}
use native.Mathlib.Omega.{arith}
use lib.Dec.{eqb, leb}
use lib.ListN.{length, get_or}
use borrow.Author.Tests.{le-leb, leb-true}
use Rattle.scope.specs.Base.{all, from}
use Rattle.scope.specs.Limits.{MAX_NODES, MAX_CHILDREN}
use Rattle.scope.specs.Chart.{Env, record_ok, chart_ok}
use Rattle.scope.specs.Nodes as nodes
use Rattle.scope.specs.Sound.{Lent, stray, reads, node_sound, remembered, room_sound, shape_sound, sound_store, sound}
use Rattle.scope.specs.Refusals.{BAD_CHART, UNSOUND, first_broken, lent_tests}
use Rattle.names.proofs.Tests.{both, all_at}
use Rattle.chart.specs.declared.Beside.{Beside}
use Rattle.chart.specs.Words.{RECORD_WORDS}
use Rattle.chart.specs.declared.Env as lent
use Rattle.chart.specs.Env.{env_of, chart_in, chart_lent, chart_words_ok}
use Rattle.layout.specs.Words.{node_words, nodes_made, children_made, node_room, child_room, node_at, node_clean, decode, store_in, long_enough, unused_zero, nodes_clean, clean, lent_of}
use Rattle.layout.specs.Meaning.{Lies, header_in, remembered_means}
use Rattle.layout.specs.declared.Header.{Header}
use Rattle.layout.proofs.Laws.{past, length_decode}
use Rattle.layout.proofs.StoreLaws.{remembered_means_lem, lies, clean_lies, clean_nodes, lent_clean}
use Rattle.clean.specs.Parts.{room_clean}
use Rattle.layout.proofs.Lists.{all_map}
use Rattle.kind_sound.proofs.Laws.{kind_inside, nodes_beside}
use Rattle.node_sound.specs.Tests.{nodes_test}
use Rattle.shape.specs.Asks.{node_inside, Shaped}
use Rattle.sound.specs.Tests.{within, readable, no_chart, env_in, env_lent}

-- two tests of every element

swap_and : (a b c d : Bool) → ((a && b) && (c && d)) ≡ ((a && c) && (b && d))
swap_and true true c d = refl
swap_and true false c d = sym (and-false c)
swap_and false b c d = refl

pub all_both : {A : Type 0} (p q : A → Bool) (l : List A) → all (λ x. p x && q x) l ≡ (all p l && all q l)
all_both p q [] = refl
all_both p q (x ∷ l) = ap (λ (b : Bool). (p x && q x) && b) (all_both p q l) ∙ swap_and (p x) (q x) (all p l) (all q l)

-- before a store is read

module _ (h ws ks : List ℕ) where
  -- a store is clean where its room is and its nodes are

  clean_room : clean h ws ks ≡ (room_clean h ws ks && nodes_clean h ws ks)
  unfolding clean
  clean_room = sym (and_assoc (long_enough h ws ks) (unused_zero h ws ks) (nodes_clean h ws ks))

  readable_parts : readable h ws ks ≡ true → (within h ≡ true) × (room_clean h ws ks ≡ true)
  unfolding readable
  readable_parts r = both (within h) (room_clean h ws ks) r

  readable_clean : readable h ws ks ≡ true → clean h ws ks ≡ nodes_clean h ws ks
  readable_clean r = clean_room ∙ rw (readable_parts r).1

  pub readable_words : (x : Header) → x ≡ header_in h → readable h ws ks ≡ true → (node_words x.nodes ≤ length ws) × (x.children ≤ MAX_CHILDREN)
  readable_words x g r =
      let p = readable_parts r in
      let l : Lies h ws ks = lies h ws ks (both (long_enough h ws ks) (unused_zero h ws ks) p.1).0 in
      let m : x.nodes ≡ nodes_made h = ap (λ (y : Header). y.nodes) g in
      let c : x.children ≡ children_made h = ap (λ (y : Header). y.children) g in
      let k : child_room h ≤ MAX_CHILDREN = leb-true (child_room h) MAX_CHILDREN (both (leb (node_room h) MAX_NODES) (leb (child_room h) MAX_CHILDREN) p.0).1 in
      (omega (arith, l.nodes, l.node_slots, m), omega (arith, l.children, k, c))

  room_within : clean h ws ks ≡ true → room_sound (store_in h ws ks) ≡ within h
  unfolding room_sound store_in
  room_within q =
      let l : Lies h ws ks = clean_lies h ws ks q in
      rw (
        length_decode ws ks (nodes_made h),
        le-leb (nodes_made h) (node_room h) l.nodes,
        le-leb (children_made h) (child_room h) l.children,
        and-true (leb (child_room h) MAX_CHILDREN),
      )

  module _ (e : Env) where
    stray_unsound : clean h ws ks ≡ false → sound e (lent_of h ws ks) ≡ false
    unfolding lent_of
    stray_unsound q = rw q

    clean_by : (b : Bool) → clean h ws ks ≡ b → sound e (lent_of h ws ks) ≡ true → clean h ws ks ≡ true
    clean_by true q s = q
    clean_by false q s = absurd (false≢true (sym (stray_unsound q) ∙ s))

    -- numbers that are a sound store say one
    pub sound_clean : sound e (lent_of h ws ks) ≡ true → clean h ws ks ≡ true
    sound_clean s = clean_by (clean h ws ks) refl s

    read_sound : clean h ws ks ≡ true → sound e (lent_of h ws ks) ≡ sound_store e (store_in h ws ks)
    read_sound q = ap (sound e) (lent_clean h ws ks q)

    room_unsound : clean h ws ks ≡ true → within h ≡ false → sound e (lent_of h ws ks) ≡ false
    unfolding sound_store
    room_unsound q w = read_sound q ∙ rw (room_within q, w)

    unsound_by : (b w : Bool) → room_clean h ws ks ≡ b → within h ≡ w → (w && b) ≡ false → sound e (lent_of h ws ks) ≡ false
    unsound_by false w q p z = stray_unsound (clean_room ∙ rw q)
    unsound_by true false q p z = narrow_by (clean h ws ks) refl
      where
        narrow_by : (b : Bool) → clean h ws ks ≡ b → sound e (lent_of h ws ks) ≡ false
        narrow_by true g = room_unsound g p
        narrow_by false g = stray_unsound g
    unsound_by true true q p z = absurd (false≢true (sym z))

    -- a store that cannot be read is not sound
    pub unreadable : readable h ws ks ≡ false → sound e (lent_of h ws ks) ≡ false
    unfolding readable
    unreadable z = unsound_by (room_clean h ws ks) (within h) refl refl z

    -- the tests that are left once the nodes are tested, by the header
    abbrev pub rest : Header → Bool
    rest x =
        let ns : List nodes.Node = decode ws ks x.nodes in
        remembered ns (remembered_means x.error) && (remembered ns (remembered_means x.nil) && shape_sound ns)

    rest_head : sound_store e (store_in h ws ks)
        ≡ (room_sound (store_in h ws ks) && (all (node_sound e (decode ws ks (nodes_made h))) (decode ws ks (nodes_made h)) && rest (header_in h)))
    unfolding sound_store store_in
    rest_head = rw (remembered_means_lem (get_or h 4 0), remembered_means_lem (get_or h 5 0))

    -- the nodes' test is that they are clean and that they are sound
    nodes_parts : nodes_test e ws ks (children_made h) (nodes_made h)
        ≡ (nodes_clean h ws ks && all (node_sound e (decode ws ks (nodes_made h))) (decode ws ks (nodes_made h)))
    unfolding nodes_clean decode
    nodes_parts =
        all_both (node_clean ws ks (children_made h)) (λ i. node_sound e (decode ws ks (nodes_made h)) (node_at ws ks i)) (from 0 (nodes_made h))
        ∙ ap (λ (b : Bool). nodes_clean h ws ks && b) (sym (all_map (node_sound e (decode ws ks (nodes_made h))) (node_at ws ks) (from 0 (nodes_made h))))

    sound_by : (b : Bool) → nodes_clean h ws ks ≡ b → readable h ws ks ≡ true
        → sound e (lent_of h ws ks) ≡ (nodes_test e ws ks (children_made h) (nodes_made h) && rest (header_in h))
    sound_by true q r =
        let g : clean h ws ks ≡ true = readable_clean r ∙ q in
        read_sound g ∙ (rest_head ∙ rw (room_within g, (readable_parts r).0, nodes_parts, q))
    sound_by false q r = stray_unsound (readable_clean r ∙ q) ∙ sym (rw (nodes_parts, q))

    pub readable_sound : (x : Header) → x ≡ header_in h → readable h ws ks ≡ true
        → sound e (lent_of h ws ks) ≡ (nodes_test e ws ks x.children x.nodes && rest x)
    readable_sound x g r = sound_by (nodes_clean h ws ks) refl r ∙ sym (ap (λ (y : Header). nodes_test e ws ks y.children y.nodes && rest y) g)

    -- what nodes that pass say
    pub tested : (x : Header) → x ≡ header_in h → readable h ws ks ≡ true → nodes_test e ws ks x.children x.nodes ≡ true
        → (clean h ws ks ≡ true) × (all (node_sound e (decode ws ks (nodes_made h))) (decode ws ks (nodes_made h)) ≡ true)
    tested x g r t =
        let u : nodes_test e ws ks (children_made h) (nodes_made h) ≡ true = sym (ap (λ (y : Header). nodes_test e ws ks y.children y.nodes) g) ∙ t in
        let p = both (nodes_clean h ws ks) (all (node_sound e (decode ws ks (nodes_made h))) (decode ws ks (nodes_made h))) (sym nodes_parts ∙ u) in
        (readable_clean r ∙ p.0, p.1)

-- a sound node's parent, or its kind's children, are nodes of the store
node_inside_lem : (e : Env) (ns : List nodes.Node) (v : nodes.Node) → node_sound e ns v ≡ true → node_inside ns v ≡ true
node_inside_lem e ns (nodes.Root (nodes.Known i k) z) h = kind_inside e ns k h
node_inside_lem e ns (nodes.Root (nodes.Unknown s) z) h = refl
node_inside_lem e ns (nodes.Root nodes.InferenceFailed z) h = refl
node_inside_lem e ns (nodes.Child t) h = h

-- the tests before that of the shape pass
pub record Passed (h ws ks : List ℕ) (e : Env) (x : Header) : Type 0 where
  pub head : x ≡ header_in h
  pub readable : readable h ws ks ≡ true
  pub nodes : nodes_test e ws ks x.children x.nodes ≡ true
  pub error : remembered (decode ws ks x.nodes) (remembered_means x.error) ≡ true
  pub nil : remembered (decode ws ks x.nodes) (remembered_means x.nil) ≡ true

module _ {h ws ks : List ℕ} {e : Env} {x : Header} (p : Passed h ws ks e x) where
  pub shaped : Shaped ws ks x.nodes
  shaped =
      let m : nodes_made h ≡ x.nodes = sym (ap (λ (y : Header). y.nodes) p.head) in
      let t = tested h ws ks e x p.head p.readable p.nodes in
      let ns : List nodes.Node = decode ws ks (nodes_made h) in
      let l : Lies h ws ks = clean_lies h ws ks t.0 in
      let w = (both (leb (node_room h) MAX_NODES) (leb (child_room h) MAX_CHILDREN) (readable_parts h ws ks p.readable).0).0 in
      let k : node_room h ≤ MAX_NODES = leb-true (node_room h) MAX_NODES w in
      subst (Shaped ws ks) m record {
        made = children_made h;
        few = omega (arith, l.nodes, k);
        clean = clean_nodes h ws ks t.0;
        inside = λ i q. node_inside_lem e ns (nodes.at ns i) (all_at (node_sound e ns) ns past i t.1 (rw (length_decode ws ks (nodes_made h)) q));
      }

  pub sound_passed : sound e (lent_of h ws ks) ≡ shape_sound (decode ws ks x.nodes)
  sound_passed = rw (readable_sound h ws ks e x p.head p.readable, p.nodes, p.error, p.nil)

-- what stands beside the chart

module _ (ws : List ℕ) (b : Beside) (rule text : List ℕ) where
  pub sound_beside : (l : Lent) → sound (env_of ws b rule text) l ≡ sound (chart_in ws rule text) l
  unfolding sound_store
  sound_beside stray = refl
  sound_beside (reads s) = rw (nodes_beside ws b rule text s.nodes)

  no_chart_lem : chart_ok no_chart ≡ false
  unfolding chart_ok record_ok
  no_chart_lem = refl

  whole_by : eqb (length ws % RECORD_WORDS) 0 ≡ true → env_in ws b rule text ≡ env_of ws b rule text
  unfolding env_in
  whole_by q = rw q

  torn_by : eqb (length ws % RECORD_WORDS) 0 ≡ false → env_in ws b rule text ≡ no_chart
  unfolding env_in
  torn_by q = rw q

  env_by : (t : Bool) → eqb (length ws % RECORD_WORDS) 0 ≡ t → chart_ok (env_in ws b rule text) ≡ (eqb (length ws % RECORD_WORDS) 0 && chart_ok (env_of ws b rule text))
  env_by true q = ap chart_ok (whole_by q) ∙ sym (rw q)
  env_by false q = ap chart_ok (torn_by q) ∙ (no_chart_lem ∙ sym (rw q))

  -- the chart that the numbers are is ok if and only if they are whole records and break no limit
  pub env_ok : chart_ok (env_in ws b rule text) ≡ chart_words_ok ws b rule text
  unfolding chart_words_ok
  env_ok = env_by (eqb (length ws % RECORD_WORDS) 0) refl

  -- numbers that pass are the chart of their records
  pub env_whole : chart_words_ok ws b rule text ≡ true → env_in ws b rule text ≡ env_of ws b rule text
  unfolding chart_words_ok
  env_whole h = whole_by (both (eqb (length ws % RECORD_WORDS) 0) (chart_ok (env_of ws b rule text)) h).0

  pub env_sound : chart_words_ok ws b rule text ≡ true → (l : Lent) → sound (env_in ws b rule text) l ≡ sound (chart_in ws rule text) l
  env_sound h l = ap (λ (e : Env). sound e l) (env_whole h) ∙ sound_beside l

-- the first of the two tests that breaks

module _ (e : lent.Env) (l : Lent) where
  -- the chart breaks no limit
  abbrev ok : Bool
  ok = chart_words_ok e.chart.now e.beside e.texts.rule.now e.texts.chart.now

  pub refuses_chart : ok ≡ false → first_broken (lent_tests (env_lent e) l) ≡ some BAD_CHART
  refuses_chart h = rw (env_ok, h)

  module _ (h : ok ≡ true) where
    pub refuses_store : sound (chart_lent e) l ≡ false → first_broken (lent_tests (env_lent e) l) ≡ some UNSOUND
    refuses_store s = rw (env_ok, h, env_sound _ _ _ _ h l, s)

    pub refuses_nothing : sound (chart_lent e) l ≡ true → first_broken (lent_tests (env_lent e) l) ≡ none
    refuses_nothing s = rw (env_ok, h, env_sound _ _ _ _ h l, s)
