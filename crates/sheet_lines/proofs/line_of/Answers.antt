-- `sheet_lines::line_of` meets its contract: no type, one, two or more, and a tuple takes any number.
-- Assumes nothing.
use mathlib.Core.List.{map}
use Rattle.scope.specs.Types.{ty_of}
use Rattle.sheet_lines.proofs.Laws as laws
use Rattle.sheet_lines.proofs.line_of.Goals as goal

pub returns-in_default : goal.returns-in_default
returns-in_default c =
    let w = c.args.w.now in
    let types = c.args.types.now in
    let t = laws.said c.same_bytes.ensures c.if-same_bytes.true in
    record { means = laws.with_tuple w (map ty_of types) t; fits = laws.tuple_fits types }
