-- `sheet_run::run` meets its contract. The loop's invariant: what is printed so far and what the lines to come print is the whole, and the arrays are as long as
-- they were.
-- Assumes nothing.
use mathlib.Core.Path.{◌≡◌, refl}
use mathlib.Core.List.{[], ◌∷◌}
use Prim.Native.Nat.{◌<◌}
use native.Mathlib.Omega.{arith}
use borrow.Author.Rules.{rules}
use borrow.Author.Tests.{tests}
use lib.ListN.{length, length-append}
use Rattle.sheet_run.proofs.RunLaws.{line_here, lines_over, turn_first, turn_next, run_done, no_lines}
use Rattle.sheet_run.proofs.run.Goals as goal

pub returns-then-is_empty : goal.returns-then-is_empty
returns-then-is_empty c =
    let input = c.args.input.now in
    let none : length input ≡ 0 = search (rules, tests) in
    run_done (turn_first c.start.ensures) (no_lines input none) c.printed.ensures

pub loop-line-init : goal.loop-line-init
loop-line-init c =
    let kept = c.start.auto in (
      turn_first c.start.ensures,
      record {
        memory = refl;
        head = omega (arith, kept.h);
        nodes = omega (arith, kept.ws);
        kids = omega (arith, kept.ks);
        text = search rules;
      },
      refl,
    )

pub run_line-n-requires-clause-sheet_store : goal.run_line-n-requires-clause-sheet_store
run_line-n-requires-clause-sheet_store c = c.loop-line.invariant.0.store

pub loop-line-preserved : goal.loop-line-preserved
loop-line-preserved c =
    let input = c.args.input.now in
    let l = c.loop-line in
    let of = c.split-line-items.ensures in
    let some : 0 < length input = search (rules, tests) in
    let here = line_here input c.cut.result.now c.cut.ensures some l.yielded _ l.yielded_by c.into_iter-line-iterator.ensures.into_iter_gives of.rest of.done of.closure
    (λ x r q k. search (rules, tests)) _ _ c.in-Some.line c.in-Some.is c.next.ensures.steps in
    let kept = c.run_line-n.auto in
    let long = l.invariant.1 in (
      turn_next l.invariant.0 here c.run_line-n.ensures (length-append l.yielded (c.in-Some.line ∷ [])) c.put.ensures.text c.put_byte.ensures.text,
      record {
        memory = omega (arith, kept.memory, long.memory);
        head = omega (arith, kept.h, long.head);
        nodes = omega (arith, kept.ws, long.nodes);
        kids = omega (arith, kept.ks, long.kids);
        text = omega (arith, kept.out, long.text);
      },
      search rules,
    )

pub returns : goal.returns
returns c =
    let l = c.loop-line in
    let of = c.split-line-items.ensures in
    let some : 0 < length c.args.input.now = search (rules, tests) in
    let end = lines_over c.args.input.now c.cut.result.now c.cut.ensures some l.yielded _ l.yielded_by c.into_iter-line-iterator.ensures.into_iter_gives of.rest of.done of.closure
    (λ x r q k. search (rules, tests)) _ _ c.in-None.is c.next.ensures.steps in
    let said = run_done l.invariant.0 (omega (arith, end)) c.printed-2.ensures in
    search (rules, said)
