-- Laws of places, words and lines: a line's first word ends at its first space, and the words after it start one place later; so do the input's lines.
-- Beside them what a word's digits say, what types read so far and those to come say together, and what a command with some types is.
-- Assumes nothing.
use mathlib.Core.Path.{◌≡◌, refl, sym, ap, subst, ◌∙◌}
use mathlib.Core.Bool.{Bool, true, false, cond, ◌&&◌}
use mathlib.Core.List.{List, [], ◌∷◌, ◌++◌, map, map-append, append_assoc, append-nil}
use mathlib.Core.Option.{Option, none, some}
use Prim.Native.Nat.{ℕ, zero, suc, ◌+◌, ◌-◌, ◌*◌, ◌≤◌, ◌<◌, max}
use native.Mathlib.Numerals.{add-one}
use native.Mathlib.Decide.{dec_le}
use native.Mathlib.Omega.{arith}
use borrow.Author.Tests.{eq-eqb, ne_eqb, le-leb, lt-leb}
use denote.Ref.{Bor}
use denote.Param.Members.{Mut}
use lib.Dec.{eqb, leb, leb-suc-suc}
use lib.ListN.{length, get_or, take, drop, length-drop, drop_of_length-le}
use lib.Seq.{drop-cons, drop-drop, take_all}
use Rattle.std.specs.List.{slice_split, onto_first, slice_range}
use Rattle.std.specs.Prelude.{is_some}
use Rattle.std.specs.Option.{MatchOption, unwrap_or}
use Rattle.std.specs.declared.option.Option as Option
use Rattle.std.specs.declared.option.Option.TheVariants.{None, Some}
use Rattle.std.specs.declared.slice.Split.{Split}
use Rattle.std.specs.Fn.{CalledAt}
use Rattle.std.specs.Iterator.{Yields}
use Rattle.std.specs.Slice.Iter.{split_rest, split_done, split_callee, split_steps}
use Rattle.std.proofs.lemmas.Iterator.{YieldsList}
use Rattle.std.proofs.lemmas.Iterator.Consumers.{YieldsList-at, YieldsList-turn, YieldsList-end}
use Rattle.std.proofs.lemmas.Iterator.Splits.{YieldsList-from_slice_split}
use Rattle.scope.specs.Base.{all, pick}
use Rattle.scope.specs.Text.{text}
use Rattle.scope.specs.Names.{eq_bytes}
use Rattle.scope.specs.Types.{Ty, ty, ty_of}
use Rattle.scope.specs.Kinds.{TUPLE, REF, NEVER, DEFAULT, row_of}
use Rattle.scope.specs.Sheet as sheet
use Rattle.scope.specs.Sheet.{lines, words, before, is_digit, value_from, no_leading_zero, node_word, type_word, type_words, with_types, words_line, parse, sheet_line}
use Rattle.scope.proofs.NameLaws.{eq_bytes_lem}
use Rattle.scope.specs.Limits.{MAX_LINE, MAX_DIGITS}
use Rattle.sheet_lines.specs.Places.{index_of, next_place, words_from}
use Rattle.sheet_lines.specs.Meaning.{Over, Parsed, TypesRead, ReadIs}
use Rattle.sheet_lines.specs.declared.Line.{Line}

-- what a call that answers a test says of the test
pub said : {r t b : Bool} → r ≡ t → r ≡ b → t ≡ b
said e h = sym e ∙ h

-- a word that was found to be v is v
pub word_is : {r : Bool} (w v : List ℕ) → r ≡ eq_bytes w v → r ≡ true → w ≡ v
word_is w v e h = eq_bytes_lem w v (said e h)

-- where a byte stands next

-- a place past the end is its own
place_past : (b : ℕ) (s : List ℕ) (i : ℕ) → length s < i → i ≡ next_place b s i
unfolding index_of
place_past b s i h =
    let past : length s ≤ i = omega arith in
    rw (drop_of_length-le s past) (omega arith)

-- the byte at a place within is the one that is sought, or another
place_here : (b : ℕ) (s : List ℕ) (i : ℕ) → i < length s → get_or s i 0 ≡ b → i ≡ next_place b s i
unfolding index_of
place_here b s i l e = rw (drop-cons s i 0 l, eq-eqb (get_or s i 0) b e) (omega arith)

place_next : (b : ℕ) (s : List ℕ) (i : ℕ) → i < length s → (get_or s i 0 ≡ b → ⊥) → next_place b s (i + 1) ≡ next_place b s i
unfolding index_of
place_next b s i l e = rw (add-one, drop-cons s i 0 l, ne_eqb (get_or s i 0) b e) (omega arith)

-- nothing stands from the end on
place_none : (b : ℕ) (s : List ℕ) (i : ℕ) → length s ≤ i → i ≡ next_place b s i
unfolding index_of
place_none b s i h = rw (drop_of_length-le s h) (omega arith)

-- over places where it does not stand, the next one stays the same
place_over : (b : ℕ) (s : List ℕ) (i d : ℕ) → i + d ≤ length s → ((k : ℕ) → i ≤ k → k < i + d → get_or s k 0 ≡ b → ⊥) → next_place b s (i + d) ≡ next_place b s i
place_over b s i zero l h = ap (next_place b s) {x = i + 0} {y = i} (omega arith)
place_over b s i (suc d) l h =
    ap (next_place b s) {x = i + suc d} {y = i + d + 1} (omega arith)
    ∙ place_next b s (i + d) (omega arith) (h (i + d) (omega arith) (omega arith))
    ∙ place_over b s i d (omega arith) (λ k m n. h k m (omega arith))

-- the first place from i on where it stands, if there is one
pub place_found :
    (b : ℕ) (s : List ℕ) (i : ℕ) (r : Option.Option ℕ) →
    MatchOption r ((k : ℕ) → i ≤ k → k < length s → get_or s k 0 ≡ b → ⊥)
    (λ j. (i ≤ j) × (j < length s) × (get_or s j 0 ≡ b) × ((k : ℕ) → i ≤ k → k < j → get_or s k 0 ≡ b → ⊥)) →
    unwrap_or r (max i (length s)) ≡ next_place b s i
place_found b s i None h = go (dec_le i (length s))
  where
    go : Dec (i ≤ length s) → max i (length s) ≡ next_place b s i
    go (yes l) =
        let end : i + (length s - i) ≡ length s = omega arith in
        let same : max i (length s) ≡ i + (length s - i) = omega arith in
        same ∙ place_none b s (i + (length s - i)) (omega arith) ∙ place_over b s i (length s - i) (omega arith) (λ k m n. h k m (omega (arith, n)))
    go (no l) = let over : max i (length s) ≡ i = omega arith in over ∙ place_past b s i (omega arith)
place_found b s i (Some j) h =
    let to : i + (j - i) ≡ j = omega (arith, h.0) in
    place_here b s j h.1 h.2 ∙ ap (next_place b s) (sym to) ∙ place_over b s i (j - i) (omega (arith, h.1, to)) (λ k m n. h.3 k m (omega (arith, n, to)))

run_within_by : (b x : ℕ) (xs : List ℕ) (t : Bool) → eqb x b ≡ t → index_of b xs ≤ length xs → index_of b (x ∷ xs) ≤ suc (length xs)
unfolding index_of
run_within_by b x xs true e h = rw e (omega arith)
run_within_by b x xs false e h = rw e (omega arith)

run_within : (b : ℕ) (s : List ℕ) → index_of b s ≤ length s
unfolding index_of
run_within b [] = omega arith
run_within b (x ∷ xs) = run_within_by b x xs (eqb x b) refl (run_within b xs)

-- from a place within it goes on, and stays within
pub place_within : (b : ℕ) (s : List ℕ) (i e : ℕ) → i ≤ length s → e ≡ next_place b s i → (i ≤ e) × (e ≤ length s)
place_within b s i e h p = (omega arith, omega (arith, run_within b (drop i s), length-drop i s))

-- what stands between two places
place_between : (b : ℕ) (s : List ℕ) (i : ℕ) → take (next_place b s i - i) (drop i s) ≡ take (index_of b (drop i s)) (drop i s)
place_between b s i =
    let e : i + index_of b (drop i s) - i ≡ index_of b (drop i s) = omega arith in
    ap (λ (n : ℕ). take n (drop i s)) e

-- words

words_split_by :
    (b : ℕ) (bs : List ℕ) (t : Bool) →
    eqb b 32 ≡ t →
    words bs ≡ take (index_of 32 bs) bs ∷ words_from bs (suc (index_of 32 bs)) →
    words (b ∷ bs) ≡ take (index_of 32 (b ∷ bs)) (b ∷ bs) ∷ words_from (b ∷ bs) (suc (index_of 32 (b ∷ bs)))
unfolding words words_from index_of
words_split_by b bs true e h = rw (e, le-leb 1 (suc (length bs)) (omega arith))
words_split_by b bs false e h = rw (e, h, leb-suc-suc (suc (index_of 32 bs)) (length bs))

-- a line's first word, and the others
words_split : (l : List ℕ) → words l ≡ take (index_of 32 l) l ∷ words_from l (suc (index_of 32 l))
unfolding words words_from index_of
words_split [] = refl
words_split (b ∷ bs) = words_split_by b bs (eqb b 32) refl (words_split bs)

leb_past : (a j m : ℕ) → a ≤ m → leb j (m - a) ≡ leb (a + j) m
leb_past a j m h = go (dec_le j (m - a))
  where
    go : Dec (j ≤ m - a) → leb j (m - a) ≡ leb (a + j) m
    go (yes k) = le-leb j (m - a) k ∙ sym (le-leb (a + j) m (omega arith))
    go (no k) = lt-leb j (m - a) (omega arith) ∙ sym (lt-leb (a + j) m (omega arith))

words_past : (l : List ℕ) (i j : ℕ) → i ≤ length l → words_from (drop i l) j ≡ words_from l (i + j)
unfolding words_from
words_past l i j h = rw (length-drop i l, leb_past i j (length l) h, drop-drop j i l)

pub words_inside : (l : List ℕ) (i : ℕ) → i ≤ length l → words_from l i ≡ words (drop i l)
unfolding words_from
words_inside l i h = rw (le-leb i (length l) h)

-- the word at a place within, and those after it
words_at :
    (l : List ℕ) (i : ℕ) →
    i ≤ length l →
    words_from l i ≡ take (next_place 32 l i - i) (drop i l) ∷ words_from l (next_place 32 l i + 1)
words_at l i h =
    words_inside l i h
    ∙ (words_split (drop i l)
    ∙ (ap (λ (ws : List (List ℕ)). take (index_of 32 (drop i l)) (drop i l) ∷ ws) (words_past l i (suc (index_of 32 (drop i l))) h ∙ ap (words_from l) e)
    ∙ ap (λ (w : List ℕ). w ∷ words_from l (next_place 32 l i + 1)) (sym (place_between 32 l i))))
  where
    e : i + suc (index_of 32 (drop i l)) ≡ next_place 32 l i + 1
    e = omega arith

-- no word past the end
words_end : (l : List ℕ) (i : ℕ) → length l < i → words_from l i ≡ []
unfolding words_from
words_end l i h = rw (lt-leb i (length l) h)

-- lines

lines_split_by :
    (b : ℕ) (bs : List ℕ) (t : Bool) →
    eqb b 10 ≡ t →
    (1 ≤ length bs → lines bs ≡ take (index_of 10 bs) bs ∷ lines (drop (suc (index_of 10 bs)) bs)) →
    lines (b ∷ bs) ≡ take (index_of 10 (b ∷ bs)) (b ∷ bs) ∷ lines (drop (suc (index_of 10 (b ∷ bs))) (b ∷ bs))
unfolding lines index_of
lines_split_by b bs true e h = rw e
lines_split_by b [] false e h = rw e
lines_split_by b (c ∷ bs) false e h = rw (e, h (omega arith))

lines_split : (l : List ℕ) → 1 ≤ length l → lines l ≡ take (index_of 10 l) l ∷ lines (drop (suc (index_of 10 l)) l)
lines_split [] h = absurd (omega arith)
lines_split (b ∷ bs) h = lines_split_by b bs (eqb b 10) refl (lines_split bs)

lines_at :
    (s : List ℕ) (i : ℕ) →
    i < length s →
    lines (drop i s) ≡ take (next_place 10 s i - i) (drop i s) ∷ lines (drop (next_place 10 s i + 1) s)
lines_at s i h =
    lines_split (drop i s) (rw (length-drop i s) (omega arith))
    ∙ (ap (λ (l : List ℕ). take (index_of 10 (drop i s)) (drop i s) ∷ lines l) (drop-drop (suc (index_of 10 (drop i s))) i s ∙ ap (λ (k : ℕ). drop k s) e)
    ∙ ap (λ (l : List ℕ). l ∷ lines (drop (next_place 10 s i + 1) s)) (sym (place_between 10 s i)))
  where
    e : i + suc (index_of 10 (drop i s)) ≡ next_place 10 s i + 1
    e = omega arith

-- the line from place i on ends at e, and the others start after it
pub lines_turn :
    (s : List ℕ) (i e : ℕ) →
    i < length s →
    e ≡ next_place 10 s i →
    lines (drop i s) ≡ take (e - i) (drop i s) ∷ lines (drop (e + 1) s)
lines_turn s i e h p = rw p (lines_at s i h)

-- no line at the end
pub lines_end : (s : List ℕ) (i : ℕ) → length s ≤ i → lines (drop i s) ≡ []
unfolding lines
lines_end s i h = rw (drop_of_length-le s h)

-- a node's digits

abbrev pub tens : ℕ → ℕ
tens zero = 1
tens (suc i) = 10 * tens i

pub tens_small : (i : ℕ) → i ≤ 4 → tens i ≤ 10000
tens_small zero h = omega arith
tens_small (suc zero) h = omega arith
tens_small (suc (suc zero)) h = omega arith
tens_small (suc (suc (suc zero))) h = omega arith
tens_small (suc (suc (suc (suc zero)))) h = omega arith
tens_small (suc (suc (suc (suc (suc i))))) h = absurd (omega arith)

-- a word that is a node
pub node_is :
    (b : Bool) (w : List ℕ) (n : ℕ) →
    (leb (length w) MAX_DIGITS && no_leading_zero w) ≡ true →
    all is_digit w ≡ true →
    value_from 0 w ≡ n →
    node_word b w ≡ some (ty b n)
node_is b w n s d v = rw (d, s, v)

-- a word's first byte

pub type_empty : (w : List ℕ) → length w ≡ 0 → none ≡ type_word w
unfolding type_word
type_empty [] h = refl
type_empty (b ∷ w) h = absurd (omega arith)

pub type_tilde : (w : List ℕ) → 1 ≤ length w → get_or w 0 0 ≡ 126 → node_word true (take (length w - 1) (drop 1 w)) ≡ type_word w
unfolding type_word
type_tilde [] h e = absurd (omega arith)
type_tilde (b ∷ w) h e = ap (node_word true) (take_all (suc (length w) - 1) w (omega arith)) ∙ rw (eq-eqb b 126 e)

pub type_plain : (w : List ℕ) → 1 ≤ length w → (get_or w 0 0 ≡ 126 → ⊥) → node_word false w ≡ type_word w
unfolding type_word
type_plain [] h n = absurd (omega arith)
type_plain (b ∷ w) h n = rw (ne_eqb b 126 n)

-- types read so far, and those to come

abbrev pub onto : List Ty → Option (List Ty) → Option (List Ty)
onto ts none = none
onto ts (some us) = some (ts ++ us)

onto_cons : (ts : List Ty) (t : Ty) (o : Option (List Ty)) → onto (ts ++ (t ∷ [])) o ≡ onto ts (sheet.cons_types (some t) o)
onto_cons ts t none = refl
onto_cons ts t (some us) = ap some (append_assoc ts (t ∷ []) us)

onto_step :
    (ts : List Ty) (t : Ty) (w : List ℕ) (ws : List (List ℕ)) →
    some t ≡ type_word w →
    onto (ts ++ (t ∷ [])) (type_words ws) ≡ onto ts (type_words (w ∷ ws))
unfolding type_words
onto_step ts t w ws e = onto_cons ts t (type_words ws) ∙ ap (λ (o : Option Ty). onto ts (sheet.cons_types o (type_words ws))) e

onto_bad : (ts : List Ty) (w : List ℕ) (ws : List (List ℕ)) → none ≡ type_word w → none ≡ onto ts (type_words (w ∷ ws))
unfolding type_words
onto_bad ts w ws e = ap (λ (o : Option Ty). onto ts (sheet.cons_types o (type_words ws))) e

onto_end : (ts : List Ty) → onto ts (type_words []) ≡ some ts
unfolding type_words
onto_end ts = ap some (append-nil ts)

-- a word with a type has a byte
typed_longer : (t : Ty) (w : List ℕ) → some t ≡ type_word w → 1 ≤ length w
unfolding type_word
typed_longer t [] e = let z : ◌≡◌ {A = ℕ} 0 1 = cc in absurd (omega arith)
typed_longer t (b ∷ w) e = omega arith

-- the parts that a line is cut into at its spaces are its words

parts_by : (b : ℕ) (ps ws : List (List ℕ)) (t : Bool) → ps ≡ ws → cond t ([] ∷ ps) (onto_first b ps) ≡ pick t ([] ∷ ws) (before b ws)
parts_by b ps ws true e = ap (λ (vs : List (List ℕ)). [] ∷ vs) e
parts_by b ps [] false e = rw e refl
parts_by b ps (w ∷ ws) false e = rw e refl

parts_words : (l : List ℕ) → slice_split (λ b. eqb b 32) l ≡ words l
unfolding words
parts_words [] = refl
parts_words (b ∷ bs) = parts_by b (slice_split (λ c. eqb c 32) bs) (words bs) (eqb b 32) (parts_words bs)

-- word n of some words
abbrev pub WordAt : List (List ℕ) → ℕ → List ℕ → Type 0
WordAt ws n w = (n < length ws) × (w ≡ get_or ws n w)

-- a `for` over the parts of what stands from place i on, which has yielded xs
module _ {F : Type 0} {g : Mut F (Bor ℕ × Unit {0}) Bool} {f : F} {s s₀ : Split ℕ F} {bs : List ℕ} (l : List ℕ) (i : ℕ) (xs : List (Bor (List ℕ))) (t : Split ℕ F)
    (y : Yields (split_steps g) s xs t) (from : bs ≡ slice_range l i (length l)) (same : s ≡ s₀) (rest : split_rest s₀ ≡ bs) (done : split_done s₀ ≡ false) (closure : split_callee s₀ ≡ f)
    (cuts : (x : ℕ) (b : Bool) (q : F) → CalledAt g f x b q → (q ≡ f) × (b ≡ eqb x 32)) where
  road : YieldsList (split_steps g) (λ x. x.now) s (words (drop i l))
  road =
      let whole : bs ≡ drop i l = from ∙ take_all (length l - i) (drop i l) (omega (arith, length-drop i l)) in
      subst (YieldsList (split_steps g) (λ x. x.now) s) (parts_words bs ∙ ap words whole) (YieldsList-at same (YieldsList-from_slice_split g (λ b. eqb b 32) bs rest done closure cuts))

  pub words_turn :
      (r : Option.Option (Bor (List ℕ))) (u : Split ℕ F) (w : Bor (List ℕ)) →
      r ≡ Some w →
      split_steps g t r u →
      WordAt (words (drop i l)) (length xs) w.now
  words_turn r u w is p = YieldsList-turn road xs t y r u w is p

  pub words_over : (r : Option.Option (Bor (List ℕ))) (u : Split ℕ F) → r ≡ None → split_steps g t r u → length xs ≡ length (words (drop i l))
  words_over r u is p = (YieldsList-end road xs t y r u is p).1

-- how many bytes some words take, each with a space or an end
abbrev pub weight : List (List ℕ) → ℕ
weight [] = 0
weight (w ∷ ws) = length w + 1 + weight ws

weight_by : (b : ℕ) (ws : List (List ℕ)) (t : Bool) (n : ℕ) → weight ws ≡ suc n → weight (pick t ([] ∷ ws) (before b ws)) ≡ suc (suc n)
weight_by b ws true n e = omega (arith, e)
weight_by b [] false n e = absurd (omega (arith, e))
weight_by b (w ∷ ws) false n e = omega (arith, e)

pub weight_words : (l : List ℕ) → weight (words l) ≡ suc (length l)
unfolding words
weight_words [] = refl
weight_words (b ∷ bs) = weight_by b (words bs) (eqb b 32) (length bs) (weight_words bs)

-- a turn: the word after the first n of some words

module _ (ws : List (List ℕ)) (n : ℕ) (w : List ℕ) {m : ℕ} (q : n ≡ m) (h : WordAt ws m w) where
  turn_word : drop n ws ≡ w ∷ drop (n + 1) ws
  turn_word =
      let here : w ≡ get_or ws n w = h.1 ∙ ap (λ (k : ℕ). get_or ws k w) (sym q) in
      rw add-one (drop-cons ws n w (omega (arith, h.0)) ∙ ap (λ (v : List ℕ). v ∷ drop (suc n) ws) (sym here))

  pub turn_weight : {t : Ty} {k : ℕ} → some t ≡ type_word w → 2 * n + weight (drop n ws) ≤ k → 2 * (n + 1) + weight (drop (n + 1) ws) ≤ k
  turn_weight {t} e g = omega (arith, g, typed_longer t w e, ap weight turn_word)

  pub turn_type :
      (out : List ℕ) (v : ℕ) →
      some (ty_of v) ≡ type_word w →
      onto (map ty_of (out ++ v ∷ [])) (type_words (drop (n + 1) ws)) ≡ onto (map ty_of out) (type_words (drop n ws))
  turn_type out v k =
      ap (λ (ts : List Ty). onto ts (type_words (drop (n + 1) ws))) (map-append ty_of out (v ∷ []))
      ∙ (onto_step (map ty_of out) (ty_of v) w (drop (n + 1) ws) k
      ∙ ap (λ (vs : List (List ℕ)). onto (map ty_of out) (type_words vs)) (sym turn_word))

  pub turn_bad : (ts : List Ty) → none ≡ type_word w → none ≡ onto ts (type_words (drop n ws))
  turn_bad ts k = onto_bad ts w (drop (n + 1) ws) k ∙ ap (λ (vs : List (List ℕ)). onto ts (type_words vs)) (sym turn_word)

-- no word is left
pub turns_end : (ws : List (List ℕ)) (n : ℕ) (ts : List Ty) → length ws ≤ n → some ts ≡ onto ts (type_words (drop n ws))
turns_end ws n ts h = sym (ap (λ (vs : List (List ℕ)). onto ts (type_words vs)) (drop_of_length-le ws h) ∙ onto_end ts)

-- none is read yet
pub turns_start : (o : Option (List Ty)) → onto [] o ≡ o
turns_start none = refl
turns_start (some us) = refl

-- past the end there is no word
pub no_words : (line : List ℕ) (i : ℕ) → length line < i → some [] ≡ type_words (words_from line i)
unfolding type_words
no_words line i h = ap type_words (sym (words_end line i h))

-- a command with some types

tuple_types : (ts : List Ty) → with_types (text "tuple") (some ts) ≡ sheet.Line.tuple ts
unfolding eq_bytes
tuple_types [] = refl
tuple_types (t ∷ []) = refl
tuple_types (t ∷ u ∷ []) = refl
tuple_types (t ∷ u ∷ v ∷ ts) = refl

pub with_tuple : (w : List ℕ) (ts : List Ty) → eq_bytes w (text "tuple") ≡ true → sheet.Line.tuple ts ≡ with_types w (some ts)
with_tuple w ts h = sym (ap (λ (v : List ℕ). with_types v (some ts)) (eq_bytes_lem w (text "tuple") h) ∙ tuple_types ts)

-- a kind's line and the call that makes it

pub never_fits : Over NEVER []
unfolding sheet_line row_of
never_fits = record { names = refl; says = λ s. refl }

pub default_fits : Over DEFAULT []
unfolding sheet_line row_of
default_fits = record { names = refl; says = λ s. refl }

pub tuple_fits : (out : List ℕ) → Over TUPLE out
unfolding sheet_line row_of
tuple_fits out = record { names = refl; says = λ s. refl }

pub ref_fits : (t : ℕ) → Over REF (t ∷ [])
unfolding sheet_line row_of
ref_fits t = record { names = refl; says = λ s. refl }

pub with_more :
    (w : List ℕ) (out : List ℕ) →
    3 ≤ length out →
    eq_bytes w (text "tuple") ≡ false →
    sheet.Line.bad ≡ with_types w (some (map ty_of out))
with_more w [] h e = absurd (omega arith)
with_more w (a ∷ []) h e = absurd (omega arith)
with_more w (a ∷ b ∷ []) h e = absurd (omega arith)
with_more w (a ∷ b ∷ d ∷ out) h e = rw e

-- what is read, or not

pub read_none : (r : TypesRead) (out : List ℕ) {ts : Option (List Ty)} → is_some r ≡ false → ReadIs r out ts → none ≡ ts
read_none (Some u) out h e = let z : ◌≡◌ {A = ℕ} 0 1 = cc in absurd (omega arith)
read_none None out h e = e

pub read_some : (r : TypesRead) (out : List ℕ) {ts : Option (List Ty)} → is_some r ≡ true → ReadIs r out ts → some (map ty_of out) ≡ ts
read_some (Some u) out h e = e
read_some None out h e = let z : ◌≡◌ {A = ℕ} 0 1 = cc in absurd (omega arith)

pub parsed_like : {r : Line} {out : List ℕ} {l m : sheet.Line} → Parsed r out l → l ≡ m → Parsed r out m
parsed_like p e = record { means = p.means ∙ e; fits = p.fits }

-- a line's first word is its command
parse_words : (l : List ℕ) → length l ≤ MAX_LINE → with_types (take (next_place 32 l 0) l) (type_words (words_from l (next_place 32 l 0 + 1))) ≡ parse l
unfolding parse
parse_words l h =
    let e : next_place 32 l 0 - 0 ≡ next_place 32 l 0 = omega arith in
    rw (le-leb (length l) MAX_LINE h)
    (sym
    (ap words_line (sym (words_inside l 0 (omega arith)) ∙ words_at l 0 (omega arith))
    ∙ ap (λ (n : ℕ). with_types (take n l) (type_words (words_from l (next_place 32 l 0 + 1)))) e))

pub parse_of :
    (l : List ℕ) (e : ℕ) (ts : Option (List Ty)) →
    length l ≤ MAX_LINE →
    e ≡ next_place 32 l 0 →
    ts ≡ type_words (words_from l (e + 1)) →
    with_types (take e l) ts ≡ parse l
parse_of l e ts h p k = rw (k, p) (parse_words l h)

pub parse_long : (l : List ℕ) → MAX_LINE < length l → sheet.Line.bad ≡ parse l
unfolding parse
parse_long l h = rw (lt-leb (length l) MAX_LINE h)
