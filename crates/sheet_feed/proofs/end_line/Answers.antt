-- `sheet_feed::end_line` meets its contract: what is kept is the line, or as much of it as is too long.
-- Assumes nothing.
use mathlib.Core.Path.{sym}
use native.Mathlib.Omega.{arith}
use lib.Seq.{length-take-le}
use Rattle.sheet_feed.proofs.FeedLaws.{line_ran}
use Rattle.sheet_feed.proofs.end_line.Goals as goal

pub slice_bounds-run_line-end : goal.slice_bounds-run_line-end
slice_bounds-run_line-end c =
    sym (length-take-le c.kept-e.result c.args.line.now (omega (arith, c.kept-e.ensures)))

pub returns : goal.returns
returns c =
    line_ran c.told-line c.kept-e.ensures (omega (arith, c.run_line-n.auto.out, c.requires.in_bounds)) c.run_line-n.ensures
