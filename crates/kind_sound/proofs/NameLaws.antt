-- The names of a kind, read off words. A name in words is none where its length is 0, and such a name is never ok, so a name that must be there is
-- tested by its place alone. Ascending names are held against the one before, the first against the empty name, which comes before every name that is ok.
-- Assumes nothing.
use mathlib.Core.Path.{◌≡◌, refl, ap, sym, ◌∙◌}
use mathlib.Core.Bool.{Bool, true, false, ◌&&◌, and-true, and-false, false≢true}
use mathlib.Core.Option.{Option, none, some}
use mathlib.Core.List.{List, [], ◌∷◌, map}
use Prim.Native.Nat.{ℕ, suc, ◌+◌, ◌-◌, ◌≤◌, ◌<◌}
use native.Mathlib.Numerals.{add-one}
use native.Mathlib.Omega.{arith}
use lib.Dec.{eqb}
use lib.ListN.{length, get_or, drop, length-map, drop_of_length-le, get_or-map}
use lib.Seq.{drop-cons}
use borrow.Author.Tests.{eq-eqb, ne_eqb, eqb-true}
use Rattle.std.specs.List.{list_all, range_with_len}
use Rattle.scope.specs.Base.{all, from, front}
use Rattle.scope.specs.Names.{Texts, Name, name, bytes, in_text, name_ok, lt_bytes, ascending, bytes_or, named, named_or_none}
use Rattle.scope.specs.Kinds.{row_of, OWN_NAME, CHILD_NAMES, PARAMETER_NAMES, object_names_ok, names_ok}
use Rattle.scope.specs.Sound.{name_in, slot_name}
use Rattle.scope.specs.Sound as sound
use Rattle.names.specs.Place.{name_of}
use Rattle.names.proofs.Laws.{name_length_lem}
use Rattle.names.proofs.InWords.{name_bytes}
use Rattle.layout.specs.Words.{slot_at, slots}
use Rattle.layout.specs.Meaning.{slot_means, kind_means}
use Rattle.layout.specs.declared.Kind.{Kind}
use Rattle.layout.specs.declared.Slot.{Slot}
use Rattle.layout.proofs.Lists.{all_map, all_range}
use Rattle.layout.proofs.ChildLaws.{length_slots, slots_get, front_slots}
use Rattle.layout.proofs.KindLaws.{names_own, names_child, names_parameters}
use Rattle.refusals.proofs.InsideLaws.{all_shift}

-- one name in words

-- a name at a place, or none where its length is 0
abbrev pub name_or : Name → Option Name
name_or n = name_in n.text n.start n.len

pub no_empty : (x : Texts) (t i : ℕ) → name_ok x (name t i 0) ≡ false
unfolding name_ok
no_empty x t i = and-false (in_text x (name t i 0))

named_by : (b : Bool) (x : Texts) (t i n : ℕ) → eqb n 0 ≡ b → named x (name_in t i n) ≡ name_ok x (name t i n)
named_by true x t i n q = rw q (sym (ap (λ (m : ℕ). name_ok x (name t i m)) (eqb-true n 0 q) ∙ no_empty x t i))
named_by false x t i n q = rw q refl

-- a name that must be there
pub named_or : (x : Texts) (n : Name) → named x (name_or n) ≡ name_ok x n
named_or x n = named_by (eqb n.len 0) x n.text n.start n.len refl

pub bytes_or_lem : (x : Texts) (n : Name) → bytes_or x (name_or n) ≡ bytes x n
bytes_or_lem x n = name_bytes x n.text n.start n.len

-- the names of a run of children

abbrev pub child_names : List ℕ → ℕ → ℕ → List (Option Name)
child_names ks i n = map slot_name (slots ks i n)

pub length_names : (ks : List ℕ) (i n : ℕ) → length (child_names ks i n) ≡ n
length_names ks i n = length-map (slots ks i n) slot_name ∙ length_slots ks i n

abbrev bare : sound.Slot
bare = record { type = 0; text = 0; start = 0; len = 0 }

module _ (ks : List ℕ) (i n j : ℕ) where
  pub name_below : j < n → j < length (child_names ks i n)
  name_below h = rw (length_names ks i n) h

  pub names_past : n ≤ j → length (child_names ks i n) ≤ j
  names_past h = rw (length_names ks i n) h

  -- the j-th name, where the code has read the child
  pub name_there : j < n → (c : Slot) → slot_means c ≡ slot_at ks (i + j) → get_or (child_names ks i n) j none ≡ name_or (name_of c.name)
  name_there h c e = get_or-map slot_name (slots ks i n) j bare ∙ ap slot_name (slots_get ks i n j bare h ∙ sym e)

-- a test of each name, by its place
pub names_run : (p : Option Name → Bool) (ks : List ℕ) (i n : ℕ) → list_all (λ j. p (slot_name (slot_at ks (i + j)))) (range_with_len 0 n) ≡ all p (child_names ks i n)
names_run p ks i n =
    all_range _ 0 n
    ∙ (all_shift (λ (j : ℕ). p (slot_name (slot_at ks j))) i 0 n
    ∙ (let z : i + 0 ≡ i = omega arith in rw z (sym (all_map (λ (s : sound.Slot). p (slot_name s)) (slot_at ks) (from i n)))
    ∙ sym (all_map p slot_name (slots ks i n))))

-- "strictly ascending", held against the name before

abbrev pub up_from : Texts → List ℕ → List (Option Name) → Bool
up_from x p ns = all (named x) ns && ascending (p ∷ map (bytes_or x) ns)

pub some_before : (l : List ℕ) → 1 ≤ length l → lt_bytes [] l ≡ true
unfolding lt_bytes
some_before [] h = absurd (omega arith)
some_before (y ∷ l) h = refl

named_before : (x : Texts) (o : Option Name) → named x o ≡ true → lt_bytes [] (bytes_or x o) ≡ true
named_before x none e = absurd (false≢true e)
named_before x (some n) e = some_before (bytes x n) (name_length_lem x n e).0

start_by : (b : Bool) (x : Texts) (o : Option Name) (ns : List (Option Name)) → named x o ≡ b → up_from x [] (o ∷ ns) ≡ object_names_ok x (o ∷ ns)
unfolding ascending object_names_ok
start_by true x o ns q = rw (named_before x o q)
start_by false x o ns q = rw q

pub up_start : (x : Texts) (ns : List (Option Name)) → up_from x [] ns ≡ object_names_ok x ns
unfolding ascending object_names_ok
up_start x [] = refl
up_start x (o ∷ ns) = start_by (named x o) x o ns refl

pub up_end : (x : Texts) (p : List ℕ) (ns : List (Option Name)) (j : ℕ) → length ns ≤ j → up_from x p (drop j ns) ≡ true
unfolding ascending
up_end x p ns j h = rw (drop_of_length-le ns h)

-- n is the name at j of a list of names
module _ (x : Texts) (p : List ℕ) (ns : List (Option Name)) (j : ℕ) (n : Name) (h : j < length ns) (e : get_or ns j none ≡ name_or n) where
  cons : drop j ns ≡ name_or n ∷ drop (j + 1) ns
  cons = rw (drop-cons ns j none h, e, add-one)

  pub up_step : name_ok x n ≡ true → lt_bytes p (bytes x n) ≡ true → up_from x p (drop j ns) ≡ up_from x (bytes x n) (drop (j + 1) ns)
  unfolding ascending
  up_step o l = rw (cons, named_or x n, bytes_or_lem x n, o, l)
      (ap (λ (b : List ℕ). all (named x) (drop (j + 1) ns) && ascending (b ∷ map (bytes_or x) (drop (j + 1) ns))) (bytes_or_lem x n))

  pub up_unnamed : name_ok x n ≡ false → up_from x p (drop j ns) ≡ false
  up_unnamed o = rw (cons, named_or x n, o)

  pub up_unordered : lt_bytes p (bytes x n) ≡ false → up_from x p (drop j ns) ≡ false
  unfolding ascending
  up_unordered l = rw (cons, bytes_or_lem x n, l) (and-false (all (named x) (name_or n ∷ drop (j + 1) ns)))

-- a Closure's parameters are all children but the last

parameter_slots : (ks : List ℕ) (i n : ℕ) → 0 < n → front (slots ks i n) ≡ slots ks i (n - 1)
parameter_slots ks i n h =
    let z : n ≡ suc (n - 1) = omega arith in
    ap (λ (m : ℕ). front (slots ks i m)) z ∙ front_slots ks i (n - 1)

-- the names of a kind, by its row

module _ (x : Texts) (ks : List ℕ) (k : Kind) where
  abbrev asked : ℕ
  asked = (row_of k.code).names

  -- scope's test of the kind's names
  abbrev pub names_test : Bool
  names_test = names_ok x asked (kind_means ks k).head.names k.count

  -- d is what the code's row asks for
  module _ (d : ℕ) (row : d ≡ asked) where
    pub own_names : d ≡ OWN_NAME → names_test ≡ name_ok x (name_of k.name)
    unfolding names_ok
    own_names e = rw (names_own ks k (sym row ∙ e), ← row, e) (and-true (named x (name_or (name_of k.name))) ∙ named_or x (name_of k.name))

    pub child_names_lem : d ≡ CHILD_NAMES → names_test ≡ object_names_ok x (child_names ks k.first k.count)
    unfolding names_ok
    child_names_lem e =
        rw (names_child ks k (sym row ∙ e), ← row, e, eq-eqb (length (child_names ks k.first k.count)) k.count (length_names ks k.first k.count))

    pub parameter_names : d ≡ PARAMETER_NAMES → (k.count ≡ 0 → ⊥) → names_test ≡ all (named_or_none x) (child_names ks k.first (k.count - 1))
    unfolding names_ok
    parameter_names e h =
        let n : ℕ = length (child_names ks k.first (k.count - 1)) in
        let z : suc n ≡ k.count = omega (arith, length_names ks k.first (k.count - 1)) in
        rw (names_parameters ks k (sym row ∙ e), ← row, e, parameter_slots ks k.first k.count (omega arith), eq-eqb (suc n) k.count z)

    pub no_return : d ≡ PARAMETER_NAMES → k.count ≡ 0 → names_test ≡ false
    unfolding names_ok
    no_return e z = rw (names_parameters ks k (sym row ∙ e), ← row, e, z)

    pub no_names : (d ≡ OWN_NAME → ⊥) → (d ≡ CHILD_NAMES → ⊥) → (d ≡ PARAMETER_NAMES → ⊥) → names_test ≡ true
    unfolding names_ok kind_means
    no_names o p q = rw (← row, ne_eqb d OWN_NAME o, ne_eqb d CHILD_NAMES p, ne_eqb d PARAMETER_NAMES q)
