-- `meeting::same_node` meets its contract: Success where the inversions agree, else as `self_inverse` says of the root.
-- Assumes nothing.
use Rattle.meeting.proofs.MeetLaws.{words_walk, same_crossed}
use Rattle.meeting.proofs.same_node.Goals as goal

pub self_inverse-requires : goal.self_inverse-requires
self_inverse-requires c = let p = c.requires.tops.pair in record { walks = words_walk p.words; inside = p.first }

pub returns-then-inv : goal.returns-then-inv
returns-then-inv c =
    same_crossed c.requires.tops.first c.inv.ensures c.inv-2.ensures c.bitxor-inv.ensures
    c.if-inv.true c.self_inverse.ensures c.from.ensures
