-- `sheet_feed::feed_end` meets its contract: no byte is no line, and any other is run.
-- Assumes nothing.
use Rattle.sheet_feed.proofs.FeedLaws.{last_none, last_ran}
use Rattle.sheet_feed.proofs.feed_end.Goals as goal

pub returns-then-at-eq0 : goal.returns-then-at-eq0
returns-then-at-eq0 c = let a = c.args in
    last_none a.h.now a.ws.now a.ks.now c.if-at-eq0.true

pub returns : goal.returns
returns c =
    last_ran c.if-at-eq0.false c.end_line.ensures
