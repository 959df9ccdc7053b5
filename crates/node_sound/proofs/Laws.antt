-- What a quick yes says of a kind and of a node, and the ways out of a node's test.
-- Assumes nothing.
use mathlib.Core.Path.{◌≡◌, refl, ap, sym, ◌∙◌, subst}
use mathlib.Core.Bool.{Bool, true, false, not, ◌&&◌, and_assoc, false≢true}
use mathlib.Core.List.{List, []}
use Prim.Native.Nat.{ℕ, zero, suc, ◌+◌, ◌-◌, ◌≤◌, ◌<◌}
use native.Mathlib.Omega.{arith}
use lib.Dec.{eqb}
use lib.ListN.{length, get_or, set, length-set, replicate, length-replicate}
use lib.Seq.{get_or-set_same, get_or-set_other}
use native.Mathlib.Decide.{ℕ_discrete}
use borrow.Author.Tests.{eqb-true, lt-ltb, le-leb}
use Rattle.scope.specs.Base.{pick, all, from, or_else}
use Rattle.scope.specs.Limits.{MAX_WIDTH, MAX_CHILDREN, KINDS}
use Rattle.scope.specs.Types.{ty_of}
use Rattle.scope.specs.Names.{Texts, Name, name, bytes, name_ok, lt_bytes}
use Rattle.scope.specs.Chart.{Env}
use Rattle.scope.specs.Kinds.{NO_NAMES, CHILD_NAMES, AS_CHART, DEFINITION, row_of, flex_ok, flag_of, flag_is}
use Rattle.scope.specs.Kinds as scope
use Rattle.scope.specs.Nodes as nodes
use Rattle.scope.specs.Sound as sound
use Rattle.scope.specs.Sound.{slot_bare, name_clean, in_store, names_clean, node_sound}
use Rattle.kinds.specs.Rows.{dual_number, number_number, as_row}
use Rattle.kinds.specs.declared.Number.{Number}
use Rattle.kinds.specs.declared.Number.TheVariants.{Definition}
use Rattle.kinds.specs.declared.Number.TheVariants as number
use Rattle.kinds.specs.declared.SelfDual.{SelfDual}
use Rattle.kinds.specs.declared.SelfDual.TheVariants.{AsChart}
use Rattle.kinds.specs.declared.SelfDual.TheVariants as dual
use Rattle.kinds.specs.declared.Row.{Row}
use Rattle.kinds.proofs.Laws.{defined_row}
use Rattle.names.specs.Place.{texts_by, name_of}
use Rattle.chart.specs.Env.{chart_lent}
use Rattle.chart.specs.declared.Env as lent
use Rattle.names.proofs.Tests.{both}
use Rattle.names.proofs.Laws.{name_length_lem}
use Rattle.layout.specs.Words.{KNOWN_TAG, slot_at, slots, node_at, node_clean}
use Rattle.layout.specs.Meaning.{cell_in, cell_words, cell_kind, kind_cell, kind_means, node_means, node_of, read_at, slot_means}
use Rattle.layout.specs.declared.Cell.{Cell}
use Rattle.layout.specs.declared.Kind.{Kind}
use Rattle.layout.specs.declared.Slot.{Slot}
use Rattle.layout.specs.declared.TypeNode.{TypeNode}
use Rattle.layout.proofs.Lists.{all_map}
use Rattle.layout.proofs.Laws.{past}
use Rattle.layout.proofs.Cells.{cell_node, cell_clean, node_words_lem, clean_words, says}
use Rattle.clean.proofs.Laws.{run_next, child_clean, slots_run, names_run, cell_known, known_parts, known_names}
use Rattle.kind_sound.proofs.Laws.{made_tests, kind_tests, sound_narrow}
use Rattle.kind_sound.proofs.NameLaws.{no_empty, some_before, child_names, up_from, up_start, up_end, up_step, names_test, child_names_lem, no_names}
use Rattle.node_sound.specs.Tests.{node_test, plain_slot, inside_at, name_at, Told, Framed, Rises, TrueSeen, Follows, Named, PlainKind, PlainNode}
use Rattle.scope.proofs.Sizes.{all_from, from_all}

-- a kind of no definition

not_defined : (n : Number) → ((s o : ℕ) → n ≡ Definition s o → ⊥) → eqb (number_number n) DEFINITION ≡ false
not_defined number.No d = refl
not_defined number.Any d = refl
not_defined (Definition s o) d = absurd (d s o refl)

not_charted : (d : SelfDual) → (d ≡ AsChart → ⊥) → eqb (dual_number d) AS_CHART ≡ false
not_charted dual.No f = refl
not_charted dual.Yes f = refl
not_charted AsChart f = absurd (f refl)

pub told_plain : (chart : List ℕ) (k : Kind) (row : Row) → as_row row ≡ row_of k.code → ((s o : ℕ) → row.number ≡ Definition s o → ⊥)
    → (row.dual ≡ AsChart → ⊥) → not k.dual ≡ true → Told chart k
unfolding kind_means flag_is flag_of
told_plain chart k row e d f t = record {
  is_defined = defined_row _ _ ∙ rw (← e, not_defined row.number d);
  has_flag = rw (← e, not_charted row.dual f) (by_dual k.dual t);
}
  where
    by_dual : (b : Bool) → not b ≡ true → scope.eq_bool b false ≡ true
    by_dual true h = absurd (false≢true h)
    by_dual false h = refl

pick_same : (b : Bool) → pick b true true ≡ true
pick_same true = refl
pick_same false = refl

-- names

clean_by : (b : Bool) (x : Texts) (t i n : ℕ) → eqb n 0 ≡ b → name_ok x (name t i n) ≡ true → name_clean t i n ≡ true
clean_by true x t i n q o = absurd (false≢true (sym (no_empty x t i) ∙ (ap (λ (m : ℕ). name_ok x (name t i m)) (sym (eqb-true n 0 q)) ∙ o)))
clean_by false x t i n q o = rw q

-- a name that is ok is clean
name_clean_lem : (x : Texts) (t i n : ℕ) → name_ok x (name t i n) ≡ true → name_clean t i n ≡ true
name_clean_lem x t i n o = clean_by (eqb n 0) x t i n refl o

-- and comes after the empty name
name_first : (x : Texts) (n : Name) → name_ok x n ≡ true → lt_bytes [] (bytes x n) ≡ true
name_first x n o = some_before (bytes x n) (name_length_lem x n o).0

-- names that are ok, each after the one before it, the first after p
up_all : (x : Texts) (ks : List ℕ) (i n : ℕ) (p : List ℕ) → ((j : ℕ) → i ≤ j → j < i + n → name_ok x (name_at ks j) ≡ true)
    → (0 < n → lt_bytes p (bytes x (name_at ks i)) ≡ true)
    → ((j : ℕ) → i < j → j < i + n → lt_bytes (bytes x (name_at ks (j - 1))) (bytes x (name_at ks j)) ≡ true) → up_from x p (child_names ks i n) ≡ true
up_all x ks i zero p o l r = up_end x p [] 0 (omega arith)
up_all x ks i (suc n) p o l r =
    up_step x p (child_names ks i (suc n)) 0 (name_at ks i) (omega arith) refl (o i (omega arith) (omega arith)) (l (omega arith))
    ∙ up_all x ks (suc i) n (bytes x (name_at ks i)) (λ j a b. o j (omega arith) (omega arith))
    (λ h. let z : suc i - 1 ≡ i = omega arith in rw z at (r (suc i) (omega arith) (omega arith))) (λ j a b. r j (omega arith) (omega arith))

-- plain_children: a flag that says of the children before i takes in child i
pub flag_more : (p : ℕ → Bool) (i e : ℕ) (ok b : Bool) → i < e → b ≡ p i → (ok && all p (from i (e - i))) ≡ ((ok && b) && all p (from (i + 1) (e - (i + 1))))
flag_more p i e ok b h q = rw (run_next p i e h, q, and_assoc)

-- what was seen

pub seen_none : (x : Texts) (ks : List ℕ) → TrueSeen x ks (replicate MAX_CHILDREN false)
seen_none x ks = record { long = length-replicate {A = Bool} MAX_CHILDREN false; right = λ i z. absurd (false≢true (sym (zeros MAX_CHILDREN i) ∙ z)) }
  where
    zeros : (m v : ℕ) → ◌≡◌ {A = Bool} (get_or (replicate m false) v false) false
    zeros zero v = refl
    zeros (suc m) zero = refl
    zeros (suc m) (suc v) = zeros m v

pub seen_more : {x : Texts} {ks : List ℕ} {seen : List Bool} {i : ℕ} (b : Bool) → TrueSeen x ks seen → i < MAX_CHILDREN → (b ≡ true → Rises x ks i) → TrueSeen x ks (set seen i b)
seen_more {x} {ks} {seen} {i} b s l r = record { long = length-set seen i b ∙ s.long; right = λ j z. go j z (ℕ_discrete j i) }
  where
    go : (j : ℕ) → get_or (set seen i b) j false ≡ true → Dec (j ≡ i) → Rises x ks j
    go j z (yes e) = rw e (r (sym (get_or-set_same seen i b false (omega (arith, l, s.long))) ∙ (ap (λ (k : ℕ). get_or (set seen i b) k false) (sym e) ∙ z)))
    go j z (no d) = s.right j (sym (get_or-set_other seen i j b false d) ∙ z)

-- child i, where the code has read it and the one before it
pub rises_at : (x : Texts) (ks : List ℕ) (i : ℕ) {last child : Slot} → slot_means last ≡ slot_at ks (i - 1) → slot_means child ≡ slot_at ks i
    → name_ok x (name_of child.name) ≡ true → lt_bytes (bytes x (name_of last.name)) (bytes x (name_of child.name)) ≡ true → Rises x ks i
rises_at x ks i {child = child} p q o l = record {
  named = ap (λ (s : sound.Slot). name_ok x (name s.text s.start s.len)) (sym q) ∙ o;
  after = ap (λ (s : sound.Slot). lt_bytes (bytes x (name_at ks (i - 1))) (bytes x (name s.text s.start s.len))) (sym q)
      ∙ (ap (λ (s : sound.Slot). lt_bytes (bytes x (name s.text s.start s.len)) (bytes x (name_of child.name))) (sym p) ∙ l);
}

-- named_children: those after a and before i follow
pub record Gone (x : Texts) (ks : List ℕ) (n a i : ℕ) (marks : List Bool) : Type 0 where
  pub known : TrueSeen x ks marks
  pub low : a < i
  pub each : (j : ℕ) → j < i → a < j → Follows x ks n j

-- a kind by its children

module _ (l : lent.Env) (ks : List ℕ) (n : ℕ) (k : Kind) (f : Framed l.chart.now k) where
  abbrev asked : ℕ
  asked = (row_of k.code).names

  flex_none : flex_ok k.code k.flex ≡ true
  flex_none = rw f.flex (pick_same (eqb k.code scope.CLOSURE))

  kids_inside : ((j : ℕ) → k.first ≤ j → j < k.first + k.count → inside_at ks n j ≡ true) → (ns : List nodes.Node) → length ns ≡ n
      → all (in_store ns) (kind_means ks k).kids ≡ true
  unfolding kind_means
  kids_inside each ns m =
      all_map (in_store ns) (λ s. ty_of s.type) (slots ks k.first k.count)
      ∙ (all_map (λ s. in_store ns (ty_of s.type)) (slot_at ks) (from k.first k.count)
      ∙ all_from (λ j. in_store ns (ty_of (slot_at ks j).type)) k.first k.count (λ j a b. rw m (each j a b)))

  kind_plain : names_clean (kind_cell ks k) ≡ true → names_test (texts_by l.texts) ks k ≡ true
      → ((j : ℕ) → k.first ≤ j → j < k.first + k.count → inside_at ks n j ≡ true) → PlainKind (chart_lent l) ks n k
  kind_plain clean names each = record {
    clean = clean;
    sound = λ ns m.
        rw (
          kind_tests l,
          made_tests,
          lt-ltb k.code KINDS f.code,
          le-leb k.count MAX_WIDTH f.width,
          f.shape,
          names,
          flex_none,
          f.number,
          f.told.is_defined,
          f.told.has_flag,
        ) (kids_inside each ns m);
  }

  -- a kind without names
  module _ (none : asked ≡ NO_NAMES) (kids : all (λ j. plain_slot n (slot_at ks j)) (from k.first ((k.first + k.count) - k.first)) ≡ true) where
    each : (j : ℕ) → k.first ≤ j → j < k.first + k.count → (slot_bare (slot_at ks j) ≡ true) × (inside_at ks n j ≡ true)
    each j a b =
        both (slot_bare (slot_at ks j)) (inside_at ks n j)
        (from_all (λ i. plain_slot n (slot_at ks i)) k.first ((k.first + k.count) - k.first) kids j a (omega arith))

    plain_clean : names_clean (kind_cell ks k) ≡ true
    plain_clean =
        let z : (k.first + 0) - k.first ≡ 0 = omega arith in
        let bare : all (child_clean false ks) (from (k.first + 0) ((k.first + k.count) - (k.first + 0))) ≡ true =
        all_from (child_clean false ks) (k.first + 0) ((k.first + k.count) - (k.first + 0)) (λ j a b. (each j (omega arith) (omega arith)).0) in
        names_run ks k asked 0 refl (rw none refl)
        ∙ rw (none, f.own, z) (slots_run false ks (k.first + 0) (k.first + k.count) ∙ bare)

    pub kind_bare : PlainKind (chart_lent l) ks n k
    kind_bare =
        kind_plain plain_clean
        (no_names (texts_by l.texts) ks k asked refl (λ q. omega (arith, none, q)) (λ q. omega (arith, none, q)) (λ q. omega (arith, none, q)))
        (λ j a b. (each j a b).1)

  -- a kind with its children's names
  module _ (some : asked ≡ CHILD_NAMES) (kids : Named (texts_by l.texts) ks n k.first (k.first + k.count)) where
    named_at : (j : ℕ) → k.first ≤ j → j < k.first + k.count → (name_ok (texts_by l.texts) (name_at ks j) ≡ true) × (inside_at ks n j ≡ true)
    named_at j a b = go (ℕ_discrete j k.first)
      where
        go : Dec (j ≡ k.first) → (name_ok (texts_by l.texts) (name_at ks j) ≡ true) × (inside_at ks n j ≡ true)
        go (yes e) = rw e (kids.first (omega arith))
        go (no z) = let h = kids.others j (omega arith) b in (h.rises.named, h.inside)

    named_clean : names_clean (kind_cell ks k) ≡ true
    named_clean =
        let y : (k.first + k.count) - (k.first + k.count) ≡ 0 = omega arith in
        let clean : all (child_clean true ks) (from k.first ((k.first + k.count) - k.first)) ≡ true =
        all_from (child_clean true ks) k.first ((k.first + k.count) - k.first)
        (λ j a b. name_clean_lem (texts_by l.texts) (slot_at ks j).text (slot_at ks j).start (slot_at ks j).len (named_at j a (omega arith)).0) in
        names_run ks k asked k.count refl (rw some refl)
        ∙ rw (some, f.own, slots_run true ks k.first (k.first + k.count), clean, y)

    pub kind_named : PlainKind (chart_lent l) ks n k
    kind_named =
        kind_plain named_clean
        (child_names_lem (texts_by l.texts) ks k asked refl some
        ∙ (sym (up_start (texts_by l.texts) (child_names ks k.first k.count))
        ∙ up_all (texts_by l.texts) ks k.first k.count [] (λ j a b. (named_at j a b).0)
        (λ h. name_first (texts_by l.texts) (name_at ks k.first) (kids.first (omega arith)).0)
        (λ j a b. (kids.others j a b).rises.after)))
        (λ j a b. (named_at j a b).1)

-- a node of such a kind

pub plain_node : (e : Env) (ks : List ℕ) (n c : ℕ) (x : Cell) → x.tag ≡ KNOWN_TAG → x.link + x.count ≤ c → x.inv ≤ 1 → x.dual ≤ 1 → {k : Kind} → k ≡ cell_kind x
    → PlainKind e ks n k → PlainNode e ks n c x
unfolding node_of
plain_node e ks n c x t r i d {k} q p = record {
  clean = cell_known ks c x t ∙ (known_parts ks c x t
      ∙ rw (le-leb (x.link + x.count) c r, le-leb x.inv 1 i, le-leb x.dual 1 d, known_names ks c x t k q) p.clean);
  sound = λ ns l. rw (t, ← q) (p.sound ns l);
}

-- node i, whose cell is x

module _ (e : Env) (ws ks : List ℕ) (c i : ℕ) (ns : List nodes.Node) (x : Cell) (f : x ≡ cell_in (cell_words ws i)) where
  node_cell : node_clean ws ks c i ≡ cell_clean ks c x
  node_cell = clean_words ws ks c i ∙ ap (cell_clean ks c) (sym f)

  node_is : cell_clean ks c x ≡ true → node_at ws ks i ≡ node_means ks (node_of x)
  node_is h = node_words_lem ws ks i ∙ (ap (cell_node ks) (sym f) ∙ ap (λ o. or_else o past) (says ks c x h).node)

  pub test_plain : cell_clean ks c x ≡ true → node_sound e ns (node_means ks (node_of x)) ≡ true → node_test e ws ks c ns i ≡ true
  test_plain h s = rw (node_cell, h, node_is h) s

  pub test_unclean : node_clean ws ks c i ≡ false → node_test e ws ks c ns i ≡ false
  test_unclean h = rw h

  wide_by : (b s : Bool) → node_clean ws ks c i ≡ b → node_sound e ns (node_at ws ks i) ≡ s → MAX_WIDTH < x.count → node_test e ws ks c ns i ≡ false
  wide_by false s p q w = rw p
  wide_by true false p q w = rw (p, q)
  wide_by true true p q w =
      let h : cell_clean ks c x ≡ true = sym node_cell ∙ p in
      let m = sound_narrow e ks ns (node_of x) (ap (node_sound e ns) (sym (node_is h)) ∙ q) in
      absurd (omega (arith, subst (λ (y : Cell). y.count ≤ MAX_WIDTH) (says ks c x h).back m))

  pub test_wide : MAX_WIDTH < x.count → node_test e ws ks c ns i ≡ false
  test_wide w = wide_by (node_clean ws ks c i) (node_sound e ns (node_at ws ks i)) refl refl w

  read_cell : (n : ℕ) → i < n → read_at ws n i ≡ node_of x
  unfolding read_at
  read_cell n l = rw (lt-ltb i n l) (ap node_of (sym f))

  pub test_node : (n : ℕ) → i < n → node_clean ws ks c i ≡ true → {r : Bool} {v : TypeNode} → v ≡ read_at ws n i → r ≡ node_sound e ns (node_means ks v)
      → r ≡ node_test e ws ks c ns i
  test_node n l p {v = v} g s =
      let h : cell_clean ks c x ≡ true = sym node_cell ∙ p in
      let q : node_at ws ks i ≡ node_means ks v = node_is h ∙ ap (node_means ks) (sym (g ∙ read_cell n l)) in
      rw (p, q) s
