-- `sheet_feed::feed` meets its contract: the piece up to its newline goes on with the line, and is all of the piece or ends the line.
-- Assumes nothing.
use mathlib.Core.Path.{sym}
use borrow.Author.Rules.{rules}
use native.Mathlib.Omega.{arith}
use lib.Seq.{length-take-le}
use Rattle.sheet_lines.proofs.Laws.{place_within}
use Rattle.sheet_feed.proofs.FeedLaws.{goes_on, line_ended}
use Rattle.sheet_feed.proofs.feed.Goals as goal

pub slice_bounds-put-end : goal.slice_bounds-put-end
slice_bounds-put-end c = let piece = c.args.piece.now in
    sym (length-take-le c.line_end-e.result piece (place_within 10 piece 0 c.line_end-e.result (omega arith) c.line_end-e.ensures).1)

pub returns-then-piece-e : goal.returns-then-piece-e
returns-then-piece-e c =
    goes_on c.args.piece.now c.line_end-e.result c.line_end-e.ensures c.if-piece-e.true c.put.ensures.text (search rules)

pub returns : goal.returns
returns c =
    line_ended c.args.piece.now c.line_end-e.result c.line_end-e.ensures c.if-piece-e.false c.put.ensures.text (search rules) c.end_line-n.ensures
