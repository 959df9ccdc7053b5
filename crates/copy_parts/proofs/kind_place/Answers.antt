-- `copy_parts::kind_place` meets its contract, one law for each way out: a Param where there is a list, no Param, no list.
-- Assumes nothing.
use Rattle.copy_parts.proofs.PlaceLaws.{place_unlisted, place_other, place_param}
use Rattle.copy_parts.proofs.kind_place.Goals as goal

pub returns-in-Some : goal.returns-in-Some
returns-in-Some c = place_param c.in-Some.is c.if-kind-eq-PARAM.true c.entry_place.ensures

pub returns-in_default : goal.returns-in_default
returns-in_default c = place_other c.if-kind-eq-PARAM.false

pub returns-in_default-2 : goal.returns-in_default-2
returns-in_default-2 c = place_unlisted c.in_default.is
