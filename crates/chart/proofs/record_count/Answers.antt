-- `chart::record_count` meets its contract: there are as many records as have all their ten words. Assumes nothing.
use mathlib.Core.Path.{sym}
use Rattle.chart.proofs.Laws as laws
use Rattle.chart.proofs.record_count.Goals as goal

pub returns : goal.returns
returns c = sym (laws.records_length c.args.chart.now)
