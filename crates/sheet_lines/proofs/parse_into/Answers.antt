-- `sheet_lines::parse_into` meets its contract: the first word is the command, and the words after its space are the types.
-- Assumes nothing.
use mathlib.Core.Path.{sym}
use mathlib.Core.List.{map}
use mathlib.Core.Option.{none, some}
use native.Mathlib.Omega.{arith}
use lib.Seq.{length-take-le}
use Rattle.scope.specs.Types.{ty_of}
use Rattle.sheet_lines.proofs.Laws as laws
use Rattle.sheet_lines.proofs.parse_into.Goals as goal

pub returns-then-line-gt-MAX_LINE : goal.returns-then-line-gt-MAX_LINE
returns-then-line-gt-MAX_LINE c = record { means = laws.parse_long c.args.line.now c.if-line-gt-MAX_LINE.true; fits = tt }

pub overflow_add-e : goal.overflow_add-e
overflow_add-e c = let line = c.args.line.now in
    omega (arith, laws.place_within 32 line 0 c.next_place-e.result (omega arith) c.next_place-e.ensures)

pub returns-then-is_none : goal.returns-then-is_none
returns-then-is_none c =
    let t = laws.read_none c.types_from.result c.types_from.new.types.items c.if-is_none.ensures c.types_from.ensures in
    record { means = laws.parse_of c.args.line.now c.next_place-e.result none c.if-line-gt-MAX_LINE.false c.next_place-e.ensures t; fits = tt }

pub slice_bounds-line_of-end : goal.slice_bounds-line_of-end
slice_bounds-line_of-end c = let line = c.args.line.now in
    let e = c.next_place-e.result in
    let p = c.next_place-e.ensures in
    sym (length-take-le e line (laws.place_within 32 line 0 e (omega arith) p).1)

pub returns : goal.returns
returns c =
    let types = c.types_from.new.types.items in
    let t = laws.read_some c.types_from.result types c.if-is_none.ensures c.types_from.ensures in
    let of = rw c.deref.ensures.0 at c.line_of.ensures in
    laws.parsed_like of (laws.parse_of c.args.line.now c.next_place-e.result (some (map ty_of types)) c.if-line-gt-MAX_LINE.false c.next_place-e.ensures t)
