-- `chart::word` meets its contract: the field of a record that is there stands at ten times the record's number and its own; one that is not there reads as
-- the record of none. Assumes nothing.
use borrow.Author.Rules.{rules}
use mathlib.Core.Path.{sym}
use native.Mathlib.Omega.{arith}
use Rattle.chart.proofs.Laws as laws
use Rattle.chart.proofs.word.Goals as goal

pub bounds-chart-i : goal.bounds-chart-i
bounds-chart-i c = omega (arith, laws.records_length c.args.chart.now, c.record_count.ensures)

pub returns-then-i-record_count : goal.returns-then-i-record_count
returns-then-i-record_count c = let s = c.args in
    sym (laws.word_there s.chart.now s.n s.field (omega arith) (search rules))
