-- `sheet_lines::types_from` meets its contract. The types so far and those of the words to come are those of all the words; each took two bytes or more.
-- Assumes nothing.
use mathlib.Core.Path.{◌≡◌, refl, sym, ap, ◌∙◌}
use mathlib.Core.List.{[], ◌∷◌, ◌++◌, map}
use Prim.Native.Nat.{◌+◌, ◌*◌, ◌≤◌}
use native.Mathlib.Omega.{arith}
use borrow.Author.Rules.{rules}
use borrow.Author.Tests.{tests}
use lib.ListN.{length, drop, length-append, length-drop}
use mathlib.Core.Option.{some}
use Rattle.scope.specs.Types.{Ty, ty_of}
use Rattle.scope.specs.Sheet.{words, type_word, type_words}
use Rattle.sheet_lines.specs.Meaning.{word_means}
use Rattle.sheet_lines.proofs.Laws as laws
use Rattle.sheet_lines.proofs.types_from.Goals.{In-Some-w}
use Rattle.sheet_lines.proofs.types_from.Goals as goal

pub loop-w-init : goal.loop-w-init
loop-w-init c =
    let rest = drop c.args.from c.args.line.now in
    let none = c.requires.1 in
    (ap length none, omega (arith, laws.weight_words rest, length-drop c.args.from c.args.line.now), rw none (laws.turns_start (type_words (words rest))))

-- in a turn: the word is the next of the line's words
word_here : (c : In-Some-w) → laws.WordAt (words (drop c.args.from c.args.line.now)) (length c.loop-w.yielded) c.in-Some-w.w.now
word_here c = let of = c.split-w-items.ensures in
    laws.words_turn c.args.line.now c.args.from c.loop-w.yielded _ c.loop-w.yielded_by c.in-Some.ensures.lookup.0.2 c.into_iter-w-iterator.ensures.into_iter_gives
    of.rest of.done of.closure (λ x r q k. search (rules, tests)) _ _ c.in-Some-w.w c.in-Some-w.is c.next.ensures.steps

-- and it is a type: what is left takes two bytes less, or more
less_left : (c : In-Some-w) (t : Ty) → some t ≡ type_word c.in-Some-w.w.now
    → 2 * (length c.loop-w.yielded + 1) + laws.weight (drop (length c.loop-w.yielded + 1) (words (drop c.args.from c.args.line.now))) ≤ length c.args.line.now + 1
less_left c t k = let l = c.loop-w in
    laws.turn_weight (words (drop c.args.from c.args.line.now)) (length l.yielded) c.in-Some-w.w.now refl (word_here c) k l.invariant.1

pub returns-in_err-type_of : goal.returns-in_err-type_of
returns-in_err-type_of c = let line = c.args.line.now in
    let i = c.args.from in
    let l = c.loop-w in
    let k = ap word_means (sym c.in_err-type_of.was) ∙ c.type_of.ensures in
    let bad = laws.turn_bad (words (drop i line)) (length l.yielded) c.in-Some-w.w.now refl (word_here (goal.at.returns-in_err-type_of c).In-Some-w) (map ty_of l.types.items) k in
    rw c.from_residual.ensures (bad ∙ (l.invariant.2 ∙ ap type_words (sym (laws.words_inside line i c.in-Some.ensures.lookup.0.0))))

pub push-requires : goal.push-requires
push-requires c =
    let k = ap word_means (sym c.in_ok-type_of.was) ∙ c.type_of.ensures in
    omega (arith, c.requires.0, c.loop-w.invariant.0, less_left (goal.at.push-requires c).In-Some-w _ k)

pub loop-w-preserved : goal.loop-w-preserved
loop-w-preserved c = let l = c.loop-w in
    let turn = (goal.at.loop-w-preserved c).In-Some-w in
    let k = ap word_means (sym c.in_ok-type_of.was) ∙ c.type_of.ensures in
    let more : length (l.yielded ++ c.in-Some-w.w ∷ []) ≡ length l.yielded + 1 = length-append l.yielded (c.in-Some-w.w ∷ []) in (
      omega (arith, l.invariant.0, more, c.push.ensures.len),
      rw more (less_left turn _ k),
      rw (more, c.push.ensures.items)
          (laws.turn_type (words (drop c.args.from c.args.line.now)) (length l.yielded) c.in-Some-w.w.now refl (word_here turn) l.types.items _ k ∙ l.invariant.2),
    )

pub returns-in_default : goal.returns-in_default
returns-in_default c = rw c.requires.1 (laws.no_words c.args.line.now c.args.from (let z = c.in_default.ensures.lookup in omega arith))

pub returns : goal.returns
returns c = let line = c.args.line.now in
    let i = c.args.from in
    let l = c.loop-w in
    let at = c.in-Some.ensures.lookup.0 in
    let of = c.split-w-items.ensures in
    let same = c.into_iter-w-iterator.ensures.into_iter_gives in
    let end = laws.words_over line i l.yielded _ l.yielded_by at.2 same of.rest of.done of.closure (λ x r q k. search (rules, tests)) _ _ c.in-None.is c.next.ensures.steps in
    laws.turns_end (words (drop i line)) (length l.yielded) (map ty_of l.types.items) (omega (arith, end)) ∙ (l.invariant.2 ∙ ap type_words (sym (laws.words_inside line i at.0)))
