-- A line in the buffer is whole, or it and what is kept of it are both too long. A piece up to its newline goes on with the line.
-- Assumes nothing.
use mathlib.Core.Path.{◌≡◌, refl, ap, sym, subst, ◌∙◌}
use mathlib.Core.List.{List, [], ◌∷◌, ◌++◌}
use Prim.Native.Nat.{ℕ, ◌+◌, ◌≤◌, ◌<◌, min}
use native.Mathlib.Numerals.{add-one}
use native.Mathlib.Decide.{dec_le}
use native.Mathlib.Omega.{arith}
use lib.ListN.{length, take, drop, set, length-set}
use lib.Seq.{take_at, take_all, take-suc-set}
use Rattle.append.specs.Appended.{Appended, SoFar}
use Rattle.append.proofs.Laws.{so_far_length, so_far_fits, so_far_full}
use Rattle.scope.specs.Limits.{SHEET_TEXT}
use Rattle.scope.specs.Sheet.{Line, parse, sheet_lines}
use Rattle.layout.specs.Words.{store_in}
use Rattle.sheet_lines.specs.Places.{next_place}
use Rattle.sheet_lines.proofs.Laws.{parse_long, place_within}
use Rattle.sheet_calls.specs.Ran.{Ran}
use Rattle.sheet_line.proofs.TextLaws.{ran_text}
use Rattle.sheet_feed.specs.Fed.{LINE_KEPT, LineRan, GoesOn, Answered, Ended, last_lines, LastRan}

line_whole : {line₀ line bs : List ℕ} {at : ℕ} → SoFar line₀ line at bs → at ≤ length line → parse (take at line) ≡ parse bs
line_whole {line₀} {line} {bs} {at} f l =
    let e = so_far_fits f l in
    ap parse (ap (take at) e.0 ∙ take_at bs (drop (length bs) line₀) at (sym e.1))

line_long : {line₀ line bs : List ℕ} {at : ℕ} → SoFar line₀ line at bs → length line < at → length line ≡ LINE_KEPT → parse line ≡ parse bs
line_long {line₀} {line} {bs} f l k =
    let n : length line ≡ length line₀ = so_far_length f in
    sym (parse_long line (omega arith)) ∙ parse_long bs (omega (arith, (so_far_full f l).1))

-- as much of the line as is kept
line_kept : {line₀ line bs : List ℕ} {at e : ℕ} → SoFar line₀ line at bs → length line ≡ LINE_KEPT → e ≡ min at (length line) → parse (take e line) ≡ parse bs
line_kept {line₀} {line} {bs} {at} {e} f k m = go (dec_le at (length line))
  where
    go : Dec (at ≤ length line) → parse (take e line) ≡ parse bs
    go (yes l) =
        let whole : e ≡ at = omega (arith, m) in
        ap (λ (n : ℕ). parse (take n line)) whole ∙ line_whole f l
    go (no l) =
        let all : length line ≤ e = omega (arith, m, l) in
        ap parse (take_all e line all) ∙ line_long f (omega (arith, l)) k

-- the line in the buffer was run, and its newline stands behind what it printed
pub line_ran : {h ws ks h' ws' ks' line text text'' : List ℕ} {at e n : ℕ} → length line ≡ LINE_KEPT → e ≡ min at (length line) → SHEET_TEXT < length text''
    → Ran (store_in h ws ks) (parse (take e line)) h ws ks h' ws' ks' text text'' n → LineRan h ws ks h' ws' ks' line at (set text'' n 10) (n + 1)
line_ran {h} {ws} {ks} {h'} {ws'} {ks'} {line} {text} {text''} {at} {e} {n} k m room r = record {
  ran = answered;
  fits = rw length-set (omega (arith, r.printed.short));
  sound = r.sound;
}
  where
    answered : (line₀ bs : List ℕ) → SoFar line₀ line at bs → Answered h ws ks h' ws' ks' (set text'' n 10) (n + 1) bs
    answered line₀ bs f =
        let v = subst (λ (x : Line). Ran (store_in h ws ks) x h ws ks h' ws' ks' text text'' n) (line_kept f k m) r in
        record {
          printed = rw (add-one n) (take-suc-set text'' n 10 (omega (arith, r.printed.short)) ∙ ap (λ (x : List ℕ). x ++ (10 ∷ [])) (ran_text v));
          store = v.store;
        }

-- the piece ended first; the line is what was lent to it
pub goes_on : {h ws ks line lent line' : List ℕ} {at q : ℕ} (piece : List ℕ) (e : ℕ) → e ≡ next_place 10 piece 0 → length piece ≤ e
    → Appended line at lent q (take e piece) → lent ≡ line' → GoesOn h ws ks h ws ks line at line' piece q
goes_on piece e p l a back =
    let w = place_within 10 piece 0 e (omega arith) p in
    record {
      none = omega (arith, p, w.1);
      so_far = λ line₀ bs f. rw (take_all e piece l, back) at (a.keeps line₀ bs f);
      head = refl;
      nodes = refl;
      kids = refl;
    }

-- the line ended first
pub line_ended : {h ws ks h' ws' ks' line lent line' text' : List ℕ} {at q n : ℕ} (piece : List ℕ) (e : ℕ) → e ≡ next_place 10 piece 0 → e < length piece
    → Appended line at lent q (take e piece) → lent ≡ line' → LineRan h ws ks h' ws' ks' line' q text' n → Ended h ws ks h' ws' ks' line at piece text' n (e + 1)
line_ended piece e p l a back r = record {
  took = omega (arith, p);
  inside = omega arith;
  fits = r.fits;
  answered = λ line₀ bs f. rw p at (r.ran line₀ (bs ++ take e piece) (rw back at (a.keeps line₀ bs f)));
  sound = r.sound;
}

-- the end of the input

pub last_none : (h ws ks : List ℕ) {line text : List ℕ} {at : ℕ} → at ≡ 0 → LastRan h ws ks line at text 0
unfolding sheet_lines
last_none h ws ks {line} {text} {at} z = record { printed = λ line₀ bs f. none_left line₀ bs f; fits = omega arith }
  where
    none_left : (line₀ bs : List ℕ) → SoFar line₀ line at bs → take 0 text ≡ sheet_lines (store_in h ws ks) (last_lines bs)
    none_left line₀ [] f = refl
    none_left line₀ (b ∷ bs) f = absurd (omega (arith, f.place))

pub last_ran : {h ws ks h' ws' ks' line text' : List ℕ} {at n : ℕ} → (at ≡ 0 → ⊥) → LineRan h ws ks h' ws' ks' line at text' n → LastRan h ws ks line at text' n
unfolding sheet_lines
last_ran {h} {ws} {ks} {line = line} {text' = text'} {at = at} {n = n} z r = record { printed = one; fits = r.fits }
  where
    one : (line₀ bs : List ℕ) → SoFar line₀ line at bs → take n text' ≡ sheet_lines (store_in h ws ks) (last_lines bs)
    one line₀ [] f = absurd (z (f.place ∙ omega arith))
    one line₀ (b ∷ bs) f = (r.ran line₀ (b ∷ bs) f).printed
