-- `meeting::Search::between` meets its contract. The measure is what lies between low and high. A name that stands in a place stands nowhere else.
-- Assumes nothing.
use native.Mathlib.Omega.{arith}
use Rattle.meeting.proofs.KidLaws.{child_place, child_type, between_over, between_before, between_behind, seek_near}
use Rattle.meeting.proofs.Search.+between.Goals as goal

pub returns-then-low-high : goal.returns-then-low-high
returns-then-low-high t c = between_over c.requires c.if-low-high.true

pub returns-then-same_name : goal.returns-then-same_name
returns-then-same_name t c =
    seek_near _ c.args.self.now.ascends (omega (arith, c.requires.look.below (omega (arith, c.if-low-high.false)), c.requires.top)) (child_place c.child_of-other.ensures)
    c.same_name.ensures c.if-same_name.true (child_type c.child_of-other.ensures)

pub between-requires : goal.between-requires
between-requires t c = (
  omega (arith, c.requires.look.below (omega (arith, c.if-low-high.false)), c.requires.look.above),
  between_before c.requires (omega (arith, c.if-low-high.false)) c.args.self.now.ascends (child_place c.child_of-other.ensures) c.name_before.ensures
      c.if-name_before.true c.next_look.ensures,
)

pub between-requires-2 : goal.between-requires-2
between-requires-2 t c = (
  omega (arith, c.requires.look.below (omega (arith, c.if-low-high.false)), c.requires.look.above),
  between_behind c.requires (omega (arith, c.if-low-high.false)) c.args.self.now.ascends (child_place c.child_of-other.ensures) c.same_name.ensures c.if-same_name.false
      c.name_before.ensures c.if-name_before.false c.next_look-2.ensures,
)
