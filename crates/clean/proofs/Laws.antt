-- `clean` as the tests of the code. A test over a run of numbers goes one number at a time; a node's cell is some node's where the tests of its tag
-- hold, and the names of a kind's children are a run that may have names and a run that may not.
-- Assumes nothing.
use mathlib.Core.Path.{◌≡◌, refl, ap, sym, ◌∙◌}
use mathlib.Core.Bool.{Bool, true, false, ◌&&◌, and_assoc, and-true, and-false}
use mathlib.Core.List.{List, [], ◌∷◌, ◌++◌}
use mathlib.Core.Option.{none, some}
use Prim.Native.Nat.{ℕ, zero, suc, ◌+◌, ◌*◌, ◌-◌, ◌≤◌, ◌<◌}
use native.Mathlib.Omega.{arith}
use native.Mathlib.Numerals.{add-one}
use native.Mathlib.Decide.{dec_le}
use lib.Dec.{eqb, leb, leb-zero}
use lib.ListN.{length, get_or, take, drop, length-drop}
use lib.Seq.{drop-cons, length-take-le}
use borrow.Author.Tests.{eqb-true, eq-eqb, ne_eqb}
use Rattle.scope.specs.Base.{pick, all, from, is_some}
use Rattle.scope.specs.Types.{ty_of}
use Rattle.scope.specs.Nodes as nodes
use Rattle.scope.specs.Kinds.{row_of, OWN_NAME, CHILD_NAMES, PARAMETER_NAMES}
use Rattle.scope.specs.Sound.{Slot, zeros, name_clean, slot_clean, slot_bare, front, last, names_clean, kind_bare, node_in}
use Rattle.layout.specs.Words.{NODE_WORDS, KNOWN_TAG, between, slot_at, slots, node_clean}
use Rattle.layout.specs.Meaning.{cell_in, cell_words, cell_kind, cell_means, kind_cell, named_of}
use denote.Enum.Bare.{sameb}
use Rattle.kinds.specs.contracts.Names.{the_type}
use Rattle.kinds.specs.declared.Names.{Names}
use Rattle.kinds.specs.declared.Names.TheVariants.{No, Own, OfChildren, OfParameters}
use Rattle.kinds.specs.Rows.{names_number}
use Rattle.names.specs.declared.Name.{Name}
use Rattle.layout.specs.declared.Cell.{Cell}
use Rattle.layout.specs.declared.Kind.{Kind}
use Rattle.layout.proofs.Lists.{length_from, all_map}
use Rattle.layout.proofs.Cells.{cell_first, cell_clean, clean_words}
use Rattle.layout.proofs.ChildLaws.{front_slots, last_slots}
use Rattle.clean.specs.Parts.{name_clean_if, slot_clean_if, slots_clean_if, plain_clean, known_clean}

-- a test over the numbers from a to e

module _ (p : ℕ → Bool) (a e : ℕ) where
  pub run_next : a < e → all p (from a (e - a)) ≡ (p a && all p (from (a + 1) (e - (a + 1))))
  run_next h = let z : e - a ≡ suc (e - (a + 1)) = omega arith in rw (z, add-one)

-- the same of what stands there

-- the word at i is zero
abbrev pub zero_at : List ℕ → ℕ → Bool
zero_at s i = eqb (get_or s i 0) 0

zeros_from : (s : List ℕ) (a n : ℕ) → a + n ≤ length s → zeros (take n (drop a s)) ≡ all (zero_at s) (from a n)
zeros_from s a zero h = refl
zeros_from s a (suc n) h =
    rw (drop-cons s a 0 (omega arith)) (ap (λ (b : Bool). zero_at s a && b) (zeros_from s (suc a) n (omega arith)))

pub zeros_run : (s : List ℕ) (a e : ℕ) → e ≤ length s → zeros (between s a e) ≡ all (zero_at s) (from a (e - a))
zeros_run s a e h = by_order (dec_le a e)
  where
    by_order : Dec (a ≤ e) → zeros (between s a e) ≡ all (zero_at s) (from a (e - a))
    by_order (yes l) = zeros_from s a (e - a) (omega arith)
    by_order (no n) = let z : e - a ≡ 0 = omega arith in rw z

-- one word more
pub zeros_push : (ys : List ℕ) (x : ℕ) → zeros (ys ++ (x ∷ [])) ≡ (zeros ys && eqb x 0)
zeros_push [] x = and-true (eqb x 0)
zeros_push (y ∷ ys) x = ap (λ (b : Bool). eqb y 0 && b) (zeros_push ys x) ∙ sym (and_assoc (eqb y 0) (zeros ys) (eqb x 0))

-- child i's name is clean
abbrev pub child_clean : Bool → List ℕ → ℕ → Bool
child_clean may ks i = slot_clean_if may (slot_at ks i)

pub slots_run : (may : Bool) (ks : List ℕ) (a e : ℕ) → slots_clean_if may ks a e ≡ all (child_clean may ks) (from a (e - a))
slots_run may ks a e = all_map (slot_clean_if may) (slot_at ks) (from a (e - a))

-- a kind's names: its own, those of the children that may have one, and the others

module _ (ks : List ℕ) where
  -- the first m of n children may have a name
  abbrev pub kids_run : ℕ → ℕ → ℕ → Bool
  kids_run i n m = slots_clean_if true ks i (i + m) && slots_clean_if false ks (i + m) (i + n)

  kids_run_lem : (i n m : ℕ) → m ≤ n → kids_run i n m ≡ (all slot_clean (slots ks i m) && all slot_bare (slots ks (i + m) (n - m)))
  kids_run_lem i n m h =
      let y : (i + m) - i ≡ m = omega arith in
      let z : (i + n) - (i + m) ≡ n - m = omega arith in
      rw (y, z)

  abbrev kids_clean : Bool → Bool → List Slot → Bool
  kids_clean cs ps l =
      pick cs (all slot_clean l) (pick ps (all slot_clean (front l) && all slot_bare (last l)) (all slot_bare l))

  kids_clean_lem : (cs ps : Bool) (i n : ℕ) → kids_clean cs ps (slots ks i n) ≡ kids_run i n (pick cs n (pick ps (n - 1) 0))
  kids_clean_lem true ps i n = let z : n - n ≡ 0 = omega arith in rw (kids_run_lem i n n (omega arith), z, and-true)
  kids_clean_lem false true i zero = rw (kids_run_lem i 0 0 (omega arith))
  kids_clean_lem false true i (suc n) =
      let y : suc n - 1 ≡ n = omega arith in
      let z : suc n - n ≡ 1 = omega arith in
      rw (y, kids_run_lem i (suc n) n (omega arith), z, front_slots ks i n, last_slots ks i n)
  kids_clean_lem false false i n =
      let y : i + 0 ≡ i = omega arith in
      let z : n - 0 ≡ n = omega arith in
      rw (kids_run_lem i n 0 (omega arith), y, z)

  abbrev own_bare : Name → Bool
  own_bare n = zeros (n.text ∷ n.start ∷ n.len ∷ [])

  names_by : (d : ℕ) (n : Name) (l : List Slot) (b : Bool) → eqb d OWN_NAME ≡ b
      → pick (eqb d OWN_NAME) (name_clean n.text n.start n.len && all slot_bare l) (own_bare n && kids_clean (eqb d CHILD_NAMES) (eqb d PARAMETER_NAMES) l)
      ≡ (name_clean_if (eqb d OWN_NAME) n && kids_clean (eqb d CHILD_NAMES) (eqb d PARAMETER_NAMES) l)
  names_by d n l true q = rw (eqb-true d OWN_NAME q)
  names_by d n l false q = rw q

  -- d is what names the kind's row has, and m how many children may have one
  pub names_run : (k : Kind) (d m : ℕ) → d ≡ (row_of k.code).names → m ≡ named_of d k.count
      → names_clean (kind_cell ks k) ≡ (name_clean_if (eqb d OWN_NAME) k.name && kids_run k.first k.count m)
  names_run k d m e f =
      rw (← e, f)
      (names_by d k.name (slots ks k.first k.count) (eqb d OWN_NAME) refl
      ∙ ap (λ (b : Bool). name_clean_if (eqb d OWN_NAME) k.name && b)
      (kids_clean_lem (eqb d CHILD_NAMES) (eqb d PARAMETER_NAMES) k.first k.count))

  own : (r : Names) → sameb the_type r Own ≡ eqb (names_number r) OWN_NAME
  own No = refl
  own Own = refl
  own OfChildren = refl
  own OfParameters = refl

  -- the same as the code has it: r is what the row that was read says, and b whether it is the kind's own name
  pub names_said : (k : Kind) (r : Names) {m : ℕ} {b : Bool} → names_number r ≡ (row_of k.code).names → m ≡ named_of (names_number r) k.count
      → b ≡ sameb the_type r Own → names_clean (kind_cell ks k) ≡ (name_clean_if b k.name && kids_run k.first k.count m)
  names_said k r {m} e f g = rw (names_run k (names_number r) m e f, g, own r)

-- a cell by its tag

some_pick : (b : Bool) (v : nodes.Node) → is_some (pick b (some v) none) ≡ b
some_pick true v = refl
some_pick false v = refl

plain_by : (o p q s l b : Bool) (u v w : nodes.Node)
    → is_some (pick o (pick (s && b) (some u) none) (pick p (pick b (some v) none) (pick q (pick (l && b) (some w) none) none)))
    ≡ (pick o s (pick p true (pick q l false)) && b)
plain_by true p q s l b u v w = some_pick (s && b) u
plain_by false true q s l b u v w = some_pick b v
plain_by false false true s l b u v w = some_pick (l && b) w
plain_by false false false s l b u v w = refl

module _ (ks : List ℕ) (c : ℕ) (x : Cell) where
  pub cell_known : x.tag ≡ KNOWN_TAG → cell_clean ks c x ≡ known_clean ks c x
  cell_known e = rw (eq-eqb x.tag KNOWN_TAG e)

  known_some : x.tag ≡ KNOWN_TAG
      → is_some (node_in (cell_means ks x)) ≡ (leb x.inv 1 && (leb x.dual 1 && names_clean (cell_means ks x)))
  unfolding node_in
  known_some e = rw e (some_pick _ _)

  pub known_parts : x.tag ≡ KNOWN_TAG → known_clean ks c x
      ≡ (leb (x.link + x.count) c && (leb x.inv 1 && (leb x.dual 1 && names_clean (cell_means ks x))))
  known_parts e = ap (λ (b : Bool). leb (x.link + x.count) c && b) (known_some e)

  pub known_names : x.tag ≡ KNOWN_TAG → (k : Kind) → k ≡ cell_kind x → names_clean (cell_means ks x) ≡ names_clean (kind_cell ks k)
  known_names e k q = rw (e, q)

  plain_some : (x.tag ≡ KNOWN_TAG → ⊥) → is_some (node_in (cell_means ks x)) ≡ (plain_clean x && kind_bare (cell_means ks x))
  unfolding node_in
  plain_some e =
      rw (ne_eqb x.tag KNOWN_TAG e)
      (plain_by (eqb x.tag 0) (eqb x.tag 1) (eqb x.tag 2) (eqb x.size 0) (eqb x.link 0) _
      (nodes.Child (ty_of x.link)) (nodes.Root (nodes.Unknown x.link) x.size) (nodes.Root nodes.InferenceFailed x.size))

  -- a node without a kind has no children, so it asks for no room
  bare_room : (b : Bool) → eqb x.count 0 ≡ b → eqb x.tag KNOWN_TAG ≡ false
      → (leb (cell_first x + x.count) c && (plain_clean x && kind_bare (cell_means ks x))) ≡ (plain_clean x && kind_bare (cell_means ks x))
  bare_room true q e = let z : x.count ≡ 0 = eqb-true x.count 0 q in rw (e, z, leb-zero)
  bare_room false q e = rw (length_from (slot_at ks) (cell_first x) x.count, q, and-false, and-false, and-false, and-false)

  pub cell_plain : (x.tag ≡ KNOWN_TAG → ⊥) → cell_clean ks c x ≡ (plain_clean x && kind_bare (cell_means ks x))
  cell_plain e =
      ap (λ (b : Bool). leb (cell_first x + x.count) c && b) (plain_some e)
      ∙ bare_room (eqb x.count 0) refl (ne_eqb x.tag KNOWN_TAG e)

-- a node without a kind has zeros for its kind's words
pub bare_words : (ks s : List ℕ) → length s ≡ NODE_WORDS → zeros (between s 3 NODE_WORDS) ≡ kind_bare (cell_means ks (cell_in s))
bare_words ks s h =
    zeros_run s 3 12 (omega arith)
    ∙ rw (length_from (slot_at ks) (cell_first (cell_in s)) (get_or s 11 0)) (simp (and_assoc, and-true))

-- node i, whose cell is x

module _ (ws ks : List ℕ) (c i : ℕ) (x : Cell) (e : x ≡ cell_in (cell_words ws i)) where
  node_cell : node_clean ws ks c i ≡ cell_clean ks c x
  node_cell = clean_words ws ks c i ∙ ap (cell_clean ks c) (sym e)

  pub node_known : x.tag ≡ KNOWN_TAG → node_clean ws ks c i ≡ known_clean ks c x
  node_known t = node_cell ∙ cell_known ks c x t

  pub node_plain : i * NODE_WORDS + NODE_WORDS ≤ length ws → (x.tag ≡ KNOWN_TAG → ⊥)
      → node_clean ws ks c i ≡ (plain_clean x && zeros (between (cell_words ws i) 3 NODE_WORDS))
  node_plain h t =
      node_cell ∙ (cell_plain ks c x t
      ∙ ap (λ (b : Bool). plain_clean x && b) (ap (λ y. kind_bare (cell_means ks y)) e
      ∙ sym (bare_words ks (cell_words ws i) (length-take-le 12 (drop (i * 12) ws) (simp length-drop (omega arith))))))
