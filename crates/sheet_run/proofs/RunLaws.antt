-- A whole input, line by line: what is printed so far and what the lines to come print is the whole.
-- Assumes nothing.
use mathlib.Core.Path.{◌≡◌, refl, ap, sym, subst, ◌∙◌}
use mathlib.Core.List.{List, [], ◌∷◌, ◌++◌, append_assoc, append-nil}
use Prim.Native.Nat.{ℕ, suc, ◌+◌, ◌-◌, ◌≤◌, ◌<◌}
use native.Mathlib.Omega.{arith}
use native.Mathlib.Numerals.{add-one}
use mathlib.Core.Bool.{Bool, true, false, cond, ◌&&◌}
use lib.Dec.{eqb}
use lib.ListN.{length, get_or, take, drop, drop_of_length-le}
use lib.Seq.{drop-cons}
use lib.Pointwise.{pointwise, bytes_decides}
use Rattle.std.proofs.lemmas.List.{take-append-drop}
use Rattle.std.specs.Prelude.{MatchOption, nat_eq}
use Rattle.std.specs.Option.{unwrap_or}
use denote.Param.Members.{Mut}
use denote.Ref.{Bor}
use Rattle.std.specs.List.{onto_first}
use Rattle.std.specs.declared.option.Option as Option
use Rattle.std.specs.declared.option.Option.TheVariants.{None, Some}
use Rattle.std.specs.declared.slice.Split.{Split}
use Rattle.std.specs.Fn.{CalledAt}
use Rattle.std.specs.Iterator.{Yields}
use Rattle.std.specs.Slice.Iter.{split_rest, split_done, split_callee, split_steps}
use Rattle.std.proofs.lemmas.Iterator.{YieldsList}
use Rattle.std.proofs.lemmas.Iterator.Consumers.{YieldsList-at, YieldsList-turn, YieldsList-end}
use Rattle.std.proofs.lemmas.Iterator.Splits.{YieldsList-from_slice_split}
use Rattle.scope.specs.Base.{pick}
use Rattle.scope.specs.Limits.{SHEET_NODES, SHEET_CHILDREN, SHEET_TEXT}
use Rattle.scope.specs.Nodes.{Store}
use Rattle.scope.specs.Calls.{printed_text}
use Rattle.scope.specs.Sheet.{sheet_store, lines, before, parse, sheet_line, sheet_lines, sheet}
use Rattle.layout.specs.Words.{HEAD_WORDS, node_words, child_words, store_in}
use Rattle.append.specs.Appended.{Appended, SoFar}
use Rattle.append.proofs.Laws.{so_far_start}
use Rattle.promise.specs.Promise.{Reply}
use Rattle.promise.specs.Prints.{PrintPromised}
use Rattle.call_show.specs.Ends.{end_reply}
use Rattle.call_show.proofs.tested.Laws.{text_whole}
use Rattle.sheet_calls.specs.Store.{SheetStore}
use Rattle.sheet_calls.specs.Ran.{Ran}
use Rattle.sheet_line.proofs.TextLaws.{ran_text}
use Rattle.sheet_run.specs.Cuts.{parts, CutIs}

-- the lines of an input and the parts between its newlines

one_more : (b : ℕ) (ls ps : List (List ℕ)) (t : Bool) → ls ≡ ps → pick t ([] ∷ ls) (before b ls) ≡ cond t ([] ∷ ps) (onto_first b ps)
one_more b ls ps true e = rw e refl
one_more b ls [] false e = rw e refl
one_more b ls (p ∷ ps) false e = rw e refl

pub lines_ended : (s : List ℕ) → lines (s ++ 10 ∷ []) ≡ parts s
unfolding lines
lines_ended [] = refl
lines_ended (b ∷ bs) = one_more b (lines (bs ++ 10 ∷ [])) (parts bs) (eqb b 10) (lines_ended bs)

one_byte : (b : ℕ) (t : Bool) → t ≡ false → pick t ([] ∷ []) (before b []) ≡ cond t ([] ∷ ([] ∷ [])) (onto_first b ([] ∷ []))
one_byte b true e = cc
one_byte b false e = refl

-- the last byte of some is no newline
abbrev pub Open : List ℕ → Type 0
Open s = (b : ℕ) → drop (length s - 1) s ≡ b ∷ [] → eqb b 10 ≡ false

under : (b c : ℕ) (bs : List ℕ) → drop (length (b ∷ c ∷ bs) - 1) (b ∷ c ∷ bs) ≡ drop (length (c ∷ bs) - 1) (c ∷ bs)
under b c bs = let m : length (b ∷ c ∷ bs) - 1 ≡ suc (length (c ∷ bs) - 1) = omega arith in rw m refl

pub lines_open : (s : List ℕ) → 0 < length s → Open s → lines s ≡ parts s
unfolding lines
lines_open [] h o = absurd (omega arith)
lines_open (b ∷ []) h o = one_byte b (eqb b 10) (o b refl)
lines_open (b ∷ c ∷ bs) h o = one_more b (lines (c ∷ bs)) (parts (c ∷ bs)) (eqb b 10) (lines_open (c ∷ bs) (omega arith) (λ x q. o x (under b c bs ∙ q)))

no_first : (t : Bool) → (t && true) ≡ false → t ≡ false
no_first true e = e
no_first false e = refl

open_byte : (b : ℕ) → pointwise nat_eq (b ∷ []) (10 ∷ []) ≡ false → eqb b 10 ≡ false
open_byte b e = no_first (eqb b 10) e

-- and the part that the code takes
pub cut_is : (b : Bor (List ℕ)) (r : Option.Option (Bor (List ℕ))) {t : Bor (List ℕ)}
    → MatchOption r (pointwise nat_eq (drop (length b.now - 1) b.now) (10 ∷ []) ≡ false)
    (λ x. (pointwise nat_eq (drop (length b.now - 1) b.now) (10 ∷ []) ≡ true) × (x.now ≡ take (length b.now - 1) b.now) × (length x.now + 1 ≡ length b.now))
    → t ≡ unwrap_or r b → CutIs b.now t.now
cut_is b None {t} m e h = rw e (lines_open b.now h (λ x q. open_byte x (rw q at m)))
cut_is b (Some x) {t} m e h =
    let n = length b.now - 1 in
    let newline : drop n b.now ≡ 10 ∷ [] = (bytes_decides (drop n b.now) (10 ∷ [])).0 m.0 in
    let whole : b.now ≡ take n b.now ++ 10 ∷ [] = sym (take-append-drop n b.now) ∙ ap (λ (u : List ℕ). take n b.now ++ u) newline in
    rw e (ap lines whole ∙ lines_ended (take n b.now) ∙ ap parts (sym m.1))

-- line k of some
abbrev pub LineAt : List (List ℕ) → ℕ → List ℕ → Type 0
LineAt ls k l = (k < length ls) × (l ≡ get_or ls k l)

-- a `for` over those parts, which has yielded xs
module _ {F : Type 0} {g : Mut F (Bor ℕ × Unit {0}) Bool} {f : F} {s s₀ : Split ℕ F} (input text : List ℕ) (cut : CutIs input text) (some : 0 < length input)
    (xs : List (Bor (List ℕ))) (t : Split ℕ F) (y : Yields (split_steps g) s xs t) (same : s ≡ s₀) (rest : split_rest s₀ ≡ text) (done : split_done s₀ ≡ false)
    (closure : split_callee s₀ ≡ f) (cuts : (x : ℕ) (b : Bool) (q : F) → CalledAt g f x b q → (q ≡ f) × (b ≡ eqb x 10)) where
  road : YieldsList (split_steps g) (λ x. x.now) s (lines input)
  road = subst (YieldsList (split_steps g) (λ x. x.now) s) (sym (cut some)) (YieldsList-at same (YieldsList-from_slice_split g (λ b. eqb b 10) text rest done closure cuts))

  pub line_here : (r : Option.Option (Bor (List ℕ))) (u : Split ℕ F) (w : Bor (List ℕ)) → r ≡ Some w → split_steps g t r u → LineAt (lines input) (length xs) w.now
  line_here r u w is p = YieldsList-turn road xs t y r u w is p

  pub lines_over : (r : Option.Option (Bor (List ℕ))) (u : Split ℕ F) → r ≡ None → split_steps g t r u → length xs ≡ length (lines input)
  lines_over r u is p = (YieldsList-end road xs t y r u is p).1

-- the arrays, and the memory that is lent, are as long as they were
pub record Long (m₀ m h ws ks t : List ℕ) : Type 0 where
  pub memory : length m ≡ length m₀
  pub head : length h ≡ HEAD_WORDS
  pub nodes : length ws ≡ node_words SHEET_NODES
  pub kids : length ks ≡ child_words SHEET_CHILDREN
  pub text : length t ≡ SHEET_TEXT

-- before line k: the store is sound, and what is printed so far is followed by what the lines from k on print
pub record Turn (input out₀ h ws ks out : List ℕ) (at k : ℕ) : Type 0 where
  pub store : SheetStore h ws ks
  pub said : List ℕ
  pub far : SoFar out₀ out at said
  pub whole : said ++ sheet_lines (store_in h ws ks) (drop k (lines input)) ≡ sheet input

pub turn_first : {input out h ws ks : List ℕ} → (store_in h ws ks ≡ sheet_store) × SheetStore h ws ks → Turn input out h ws ks out 0 0
unfolding sheet
turn_first {out = out} p = record { store = p.1; said = []; far = so_far_start out; whole = rw p.0 refl }

module _ {input out₀ h ws ks out : List ℕ} {at k : ℕ} (w : Turn input out₀ h ws ks out at k) where
  module _ {l : List ℕ} (here : LineAt (lines input) k l) {h' ws' ks' text text' : List ℕ} {n : ℕ}
      (r : Ran (store_in h ws ks) (parse l) h ws ks h' ws' ks' text text' n)
      {mid out' : List ℕ} {p q j : ℕ} (next : j ≡ k + 1) (a : Appended out at mid p (take n text')) (b : Appended mid p out' q (10 ∷ [])) where
    abbrev bs : List ℕ
    bs = (sheet_line (store_in h ws ks) (parse l)).bytes

    far_next : SoFar out₀ out' q ((w.said ++ bs) ++ (10 ∷ []))
    far_next = b.keeps out₀ (w.said ++ bs) (rw (ran_text r) at (a.keeps out₀ w.said w.far))

    first_line : drop k (lines input) ≡ l ∷ drop j (lines input)
    first_line = rw (next, add-one k) (drop-cons (lines input) k l here.0 ∙ ap (λ (v : List ℕ). v ∷ drop (suc k) (lines input)) (sym here.1))

    lines_next : sheet_lines (store_in h ws ks) (drop k (lines input)) ≡ bs ++ (10 ∷ sheet_lines (store_in h' ws' ks') (drop j (lines input)))
    unfolding sheet_lines
    lines_next =
        ap (sheet_lines (store_in h ws ks)) first_line
        ∙ ap (λ (s : Store). bs ++ (10 ∷ sheet_lines s (drop j (lines input)))) (sym r.store.holds.is)

    pub turn_next : Turn input out₀ h' ws' ks' out' q j
    turn_next = record {
      store = r.sound;
      said = (w.said ++ bs) ++ (10 ∷ []);
      far = far_next;
      whole =
          append_assoc (w.said ++ bs) (10 ∷ []) (sheet_lines (store_in h' ws' ks') (drop j (lines input)))
          ∙ append_assoc w.said bs (10 ∷ sheet_lines (store_in h' ws' ks') (drop j (lines input)))
          ∙ ap (λ (x : List ℕ). w.said ++ x) (sym lines_next)
          ∙ w.whole;
    }

  module _ (end : length (lines input) ≤ k) where
    all_said : w.said ≡ sheet input
    unfolding sheet_lines
    all_said = sym (append-nil w.said) ∙ ap (λ (ls : List (List ℕ)). w.said ++ sheet_lines (store_in h ws ks) ls) (sym (drop_of_length-le (lines input) end)) ∙ w.whole

    far_whole : SoFar out₀ out at (sheet input)
    far_whole = rw all_said at w.far

    pub run_done : {r : Reply ℕ} → r ≡ end_reply (length out) at → PrintPromised (printed_text sheet_store (sheet input) out₀) r sheet_store out
    run_done q = rw q (text_whole sheet_store out₀ (sheet input) far_whole)

pub no_lines : (s : List ℕ) → length s ≡ 0 → length (lines s) ≤ 0
unfolding lines
no_lines [] h = omega arith
no_lines (b ∷ bs) h = absurd (omega arith)
