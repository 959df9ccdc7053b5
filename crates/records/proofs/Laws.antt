-- Laws of the records' words: record by record they are what is stored, and what is loaded reads back as the records. Assumes nothing.
use mathlib.Core.Path.{◌≡◌, refl, sym, ap, ◌∙◌}
use mathlib.Core.List.{List, [], ◌∷◌, ◌++◌, append_assoc}
use Prim.Native.Nat.{ℕ, zero, suc, ◌+◌, ◌-◌, ◌*◌, ◌≤◌}
use native.Mathlib.Numerals.{add-one}
use native.Mathlib.Omega.{arith}
use native.Mathlib.Nat.{add-sub_cancel_left}
use lib.ListN.{length, get_or, take, drop, length-append}
use lib.Seq.{sets, length-sets, sets-eq, take-suc, take_at, drop-drop, drop_at, length-take-le, take-length}
use Rattle.chart.specs.Words.{RECORD_WORDS}
use Rattle.records.specs.declared.Record.{Record}
use Rattle.records.specs.Loaded.{no_record, numbers, chart_words, loaded}

-- ten words copied over their own part are stored in the list
pub stored_part : (xs vs : List ℕ) (i : ℕ) → length vs ≡ RECORD_WORDS → i + RECORD_WORDS ≤ length xs
    → take i xs ++ (vs ++ drop (i + RECORD_WORDS - i) (drop i xs)) ≡ sets xs i vs
stored_part xs vs i e h =
    let room : i + length vs ≤ length xs = rw e h in
    rw (add-sub_cancel_left i 10, drop-drop 10 i xs, ← e) (sym (append_assoc (take i xs) vs (drop (i + length vs) xs)) ∙ sym (sets-eq vs xs i room))

-- the list ws once the first k records are stored, ten words each
unfoldable pub stored : List ℕ → List Record → ℕ → List ℕ
stored ws rs zero = ws
stored ws rs (suc k) = sets (stored ws rs k) (k * 10) (numbers (get_or rs k no_record))

pub stored_none : (ws : List ℕ) (rs : List Record) → stored ws rs 0 ≡ ws
unfolding stored
stored_none ws rs = refl

pub stored_more : (ws : List ℕ) (rs : List Record) (k : ℕ) → stored ws rs (k + 1) ≡ sets (stored ws rs k) (k * 10) (numbers (get_or rs k no_record))
unfolding stored
stored_more ws rs k = rw add-one

pub stored_long : (ws : List ℕ) (rs : List Record) (k : ℕ) → length (stored ws rs k) ≡ length ws
unfolding stored
stored_long ws rs zero = refl
stored_long ws rs (suc k) = length-sets (stored ws rs k) (k * 10) (numbers (get_or rs k no_record)) ∙ stored_long ws rs k

pub words_long : (rs : List Record) → length (chart_words rs) ≡ length rs * 10
unfolding chart_words
words_long [] = refl
words_long (r ∷ rs) = length-append (numbers r) (chart_words rs) ∙ (let e = words_long rs in omega (arith, e))

words_then : (rs : List Record) (r : Record) → chart_words (rs ++ (r ∷ [])) ≡ chart_words rs ++ numbers r
unfolding chart_words
words_then [] r = refl
words_then (x ∷ rs) r = ap (λ (l : List ℕ). numbers x ++ l) (words_then rs r) ∙ sym (append_assoc (numbers x) (chart_words rs) (numbers r))

abbrev loaded_to : List ℕ → List Record → ℕ → List ℕ
loaded_to ws rs n = chart_words (take n rs) ++ drop (n * RECORD_WORDS) ws

loaded_none : (ws : List ℕ) (rs : List Record) → loaded_to ws rs 0 ≡ ws
unfolding chart_words
loaded_none ws rs = refl

module _ (ws : List ℕ) (rs : List Record) where
  front_long : (k : ℕ) → k ≤ length rs → length (chart_words (take k rs)) ≡ k * 10
  front_long k l = words_long (take k rs) ∙ ap (λ (n : ℕ). n * 10) (length-take-le k rs l)

  -- stored one after another, they stand at the front, and what follows is as found
  stored_is : (k : ℕ) → k ≤ length rs → k * 10 ≤ length ws → stored ws rs k ≡ loaded_to ws rs k
  unfolding stored
  stored_is zero l m = sym (loaded_none ws rs)
  stored_is (suc k) l m =
      let C : List ℕ = chart_words (take k rs) in
      let r : Record = get_or rs k no_record in
      let L : List ℕ = C ++ drop (k * 10) ws in
      let same : stored ws rs k ≡ L = stored_is k (omega arith) (omega arith) in
      let long : length C ≡ k * 10 = front_long k (omega arith) in
      let room : k * 10 + 10 ≤ length L = rw (← same, stored_long ws rs k) (omega arith) in
      let ten : k * 10 + 10 ≡ suc k * 10 = omega arith in
      let rest : drop (k * 10 + 10) L ≡ drop (suc k * 10) ws =
      sym (drop-drop 10 (k * 10) L) ∙ ap (drop 10) (drop_at C (drop (k * 10) ws) (k * 10) long) ∙ drop-drop 10 (k * 10) ws ∙ ap (λ (n : ℕ). drop n ws) ten in
      ap (λ (l' : List ℕ). sets l' (k * 10) (numbers r)) same
      ∙ sets-eq (numbers r) L (k * 10) room
      ∙ ap (λ (l' : List ℕ). l' ++ numbers r ++ drop (k * 10 + 10) L) (take_at C (drop (k * 10) ws) (k * 10) long)
      ∙ ap (λ (l' : List ℕ). C ++ numbers r ++ l') rest
      ∙ ap (λ (l' : List ℕ). l' ++ drop (suc k * 10) ws) (sym (words_then (take k rs) r))
      ∙ ap (λ (xs : List Record). chart_words xs ++ drop (suc k * 10) ws) (sym (take-suc rs k no_record (omega arith)))

  pub stored_all : length rs * 10 ≤ length ws → stored ws rs (length rs) ≡ loaded ws rs
  stored_all m = stored_is (length rs) (omega arith) m ∙ ap (λ (xs : List Record). chart_words xs ++ drop (length rs * RECORD_WORDS) ws) (take-length rs)
