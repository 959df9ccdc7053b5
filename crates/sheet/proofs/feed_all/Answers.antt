-- A line that goes on holds the whole piece; one that ended leaves the buffer to the next.
use Rattle.sheet.proofs.Laws.{begins}
use Rattle.sheet.proofs.feed_all.Goals as goal

pub loop-rest-preserved : goal.loop-rest-preserved
loop-rest-preserved g c = record { store = c.in-Line.ensures.sound; holds = begins c.feed.new.line }
