-- `shape::climb` meets its contract, by the depth that is left. A root that is known stays; a root is its own; any other node has its parent's, or
-- none where the parent has none. Each way out is a law.
-- Assumes nothing.
use Rattle.shape.proofs.+climb.Given as goal

abbrev pub decreases-climb : goal.decreases-climb
decreases-climb l = l.depth
