-- `call_ask::tested::find_related` meets its contract: a refusal writes no mark, and where no test breaks the walk's marks are the definition's.
-- Assumes nothing.
use Rattle.refusals.proofs.Laws.{err_told}
use Rattle.promise.proofs.Laws.{inside_tested}
use Rattle.call_ask.proofs.tested.Laws.{marks_refused, marks_short, marks_done, read_stands}
use Rattle.call_ask.proofs.tested.find_related.Goals as goal

pub returns-in_err-inside : goal.returns-in_err-inside
returns-in_err-inside c = rw (err_told c.from_residual.result c.from_residual.ensures.1)
    (marks_refused _ _ _ _ c.args.t.0 (inside_tested c.requires c.in_err-inside.ensures) c.args.marks.now)

pub returns-then-marks-x : goal.returns-then-marks-x
returns-then-marks-x c = let a = c.args in
    marks_short _ _ _ _ a.t.0 (inside_tested c.requires c.in_ok-inside.ensures) c.read_header-x.ensures a.marks.now c.if-marks-x.true

pub invariant_of-nodes : goal.invariant_of-nodes
invariant_of-nodes c = let stands = read_stands _ _ _ _ c.args.t.0 (inside_tested c.requires c.in_ok-inside.ensures) c.read_header-x.ensures in
    record { room = stands.clean.room }

pub find_related-requires : goal.find_related-requires
find_related-requires c = read_stands _ _ _ _ c.args.t.0 (inside_tested c.requires c.in_ok-inside.ensures) c.read_header-x.ensures

pub returns : goal.returns
returns c = let test = inside_tested c.requires c.in_ok-inside.ensures in
    marks_done _ _ _ _ c.args.t.0 test c.read_header-x.ensures c.if-marks-x.false c.find_related.ensures
