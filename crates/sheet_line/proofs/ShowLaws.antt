-- The line `show`: its answer and its text look at the buffer's length alone, so that what it writes into the lent bytes is what scope's own buffer would get.
-- Assumes nothing.
use mathlib.Core.Path.{◌≡◌, refl, ap, sym, ◌∙◌}
use mathlib.Core.Bool.{Bool, true, false}
use mathlib.Core.List.{List, [], ◌∷◌, ◌++◌, append_assoc}
use mathlib.Core.Option.{Option, none, some}
use Prim.Native.Nat.{ℕ, ◌≤◌}
use native.Mathlib.Omega.{arith}
use borrow.Author.Tests.{leb-true}
use lib.Dec.{leb}
use lib.ListN.{length, take, drop}
use lib.Seq.{length-take-le, drop_at}
use Rattle.scope.specs.Base.{pick}
use Rattle.scope.specs.Limits.{SHEET_TEXT}
use Rattle.scope.specs.Refusals.{SHORT}
use Rattle.scope.specs.Types.{Ty}
use Rattle.scope.specs.Nodes.{Store}
use Rattle.scope.specs.Sound.{reads}
use Rattle.scope.specs.Show.{show}
use Rattle.scope.specs.Calls.{Outcome, refused, done, first_broken, lent_tests, outside, Printed, or_unprinted, show_call}
use Rattle.scope.specs.Sheet.{Line, sheet_env, sheet_buffer, say_text, sheet_line}
use Rattle.promise.specs.Promise.{value, refusal}
use Rattle.promise.specs.Prints.{PrintPromised}
use Rattle.sheet_say.specs.Front.{Front}
use Rattle.sheet_say.specs.Texts.{refused_text}
use Rattle.sheet_calls.specs.Ran.{show_leaves, Shown}

-- what an outcome counts
abbrev counted : Outcome ℕ → ℕ
counted (refused n) = 0
counted (done n s) = n

-- the number of a refusal
abbrev turned : Outcome ℕ → ℕ
turned (refused n) = n
turned (done n s) = 0

abbrev is_done : Outcome ℕ → ℕ
is_done (refused n) = 0
is_done (done n s) = 1

module _ (s : Store) (t : Ty) (out : List ℕ) (room : SHEET_TEXT ≤ length out) where
  abbrev bs : List ℕ
  bs = show sheet_env s.nodes t

  abbrev broken : Option ℕ
  broken = first_broken (lent_tests sheet_env (reads s) ++ (outside s (t ∷ []) ∷ []))

  abbrev printer : Option ℕ → Bool → List ℕ → Printed
  printer b f buf = or_unprinted b buf
      (pick f (record { answer = done (length bs) s; buffer = bs ++ drop (length bs) buf; part = bs })
      (record { answer = refused SHORT; buffer = take (length buf) bs; part = take (length buf) bs }))

  front_long : length (take SHEET_TEXT out) ≡ SHEET_TEXT
  front_long = length-take-le SHEET_TEXT out room

  -- by the tests and by whether the text fits
  lent_is : show_call sheet_env (reads s) t (take SHEET_TEXT out) ≡ printer broken (leb (length bs) SHEET_TEXT) (take SHEET_TEXT out)
  unfolding show_call
  lent_is = ap (λ (n : ℕ). or_unprinted broken (take SHEET_TEXT out)
      (pick (leb (length bs) n) (record { answer = done (length bs) s; buffer = bs ++ drop (length bs) (take SHEET_TEXT out); part = bs })
      (record { answer = refused SHORT; buffer = take (length (take SHEET_TEXT out)) bs; part = take (length (take SHEET_TEXT out)) bs }))) front_long

  own_is : show_call sheet_env (reads s) t sheet_buffer ≡ printer broken (leb (length bs) SHEET_TEXT) sheet_buffer
  unfolding show_call
  own_is = refl

  line_is : (sheet_line s (Line.show t)).bytes
      ≡ (let p : Printed = printer broken (leb (length bs) SHEET_TEXT) sheet_buffer in (say_text s p.part p.answer).bytes)
  unfolding sheet_line
  line_is = ap (λ (p : Printed). (say_text s p.part p.answer).bytes) own_is

  leaves_is : show_leaves s t out ≡ (printer broken (leb (length bs) SHEET_TEXT) (take SHEET_TEXT out)).buffer ++ drop SHEET_TEXT out
  leaves_is = ap (λ (p : Printed). p.buffer ++ drop SHEET_TEXT out) lent_is

  -- it was not: the refusal is printed
  back_by : (b : Option ℕ) (f : Bool) (n : ℕ) → (printer b f (take SHEET_TEXT out)).answer ≡ refused n
      → (let p : Printed = printer b f sheet_buffer in (say_text s p.part p.answer).bytes) ≡ refused_text n
  back_by (some m) f n q = ap refused_text (ap turned q)
  back_by none true n q = let z : ◌≡◌ {A = ℕ} 1 0 = ap is_done q in absurd (omega arith)
  back_by none false n q = ap refused_text (ap turned q)

  module _ {buf : List ℕ} where
    -- the text was written
    fits_by : (b : Option ℕ) (f : Bool) → leb (length bs) SHEET_TEXT ≡ f → (n : ℕ) → (printer b f (take SHEET_TEXT out)).answer ≡ done n s
        → (printer b f (take SHEET_TEXT out)).buffer ≡ buf
        → Front ((printer b f (take SHEET_TEXT out)).buffer ++ drop SHEET_TEXT out) (buf ++ drop SHEET_TEXT out) n
        (let p : Printed = printer b f sheet_buffer in (say_text s p.part p.answer).bytes)
    fits_by (some m) f e n q w = let z : ◌≡◌ {A = ℕ} 0 1 = ap is_done q in absurd (omega arith)
    fits_by none false e n q w = let z : ◌≡◌ {A = ℕ} 0 1 = ap is_done q in absurd (omega arith)
    fits_by none true e n q w =
        let k : length bs ≡ n = ap counted q in
        let rest : List ℕ = drop (length bs) (take SHEET_TEXT out) in
        record {
          bytes = ap (λ (x : List ℕ). x ++ drop SHEET_TEXT out) (sym w)
              ∙ append_assoc bs rest (drop SHEET_TEXT out)
              ∙ sym (ap (λ (x : List ℕ). bs ++ x)
              (ap (drop (length bs)) (append_assoc bs rest (drop SHEET_TEXT out)) ∙ drop_at bs (rest ++ drop SHEET_TEXT out) (length bs) refl));
          end = sym k;
          short = omega (arith, leb-true (length bs) SHEET_TEXT e);
        }

    pub shown_fits : {n : ℕ} → PrintPromised (show_call sheet_env (reads s) t (take SHEET_TEXT out)) (value n) s buf
        → Shown s t out (buf ++ drop SHEET_TEXT out) n
    shown_fits {n} p =
        let f : Bool = leb (length bs) SHEET_TEXT in
        rw (leaves_is, line_is)
        (fits_by broken f refl n (ap (λ (x : Printed). x.answer) (sym lent_is) ∙ p.outcome) (ap (λ (x : Printed). x.buffer) (sym lent_is) ∙ p.buffer))

    pub shown_back : {n r : ℕ} {out' : List ℕ} → PrintPromised (show_call sheet_env (reads s) t (take SHEET_TEXT out)) (refusal n) s buf
        → Front (buf ++ drop SHEET_TEXT out) out' r (refused_text n) → Shown s t out out' r
    shown_back {n} p w =
        let f : Bool = leb (length bs) SHEET_TEXT in
        let e = line_is ∙ back_by broken f n (ap (λ (x : Printed). x.answer) (sym lent_is) ∙ p.outcome) in
        rw (p.buffer, e) w
