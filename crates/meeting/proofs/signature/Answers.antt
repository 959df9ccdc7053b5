-- `meeting::signature` meets its contract: signatures of one length are a run, others have their returns alone.
-- Assumes nothing.
use mathlib.Core.Logic.{inl, inr}
use Rattle.meeting.proofs.StepLaws.{signature_whole, signature_lacks, signature_lacked, signature_returns}
use Rattle.meeting.proofs.signature.Goals as goal

pub returns-then-s : goal.returns-then-s
returns-then-s c = signature_whole c.if-s.true

pub returns-then-s-eq0-2 : goal.returns-then-s-eq0-2
returns-then-s-eq0-2 c = elim c.if-s-eq0-2.either [
  | inl a ↦ signature_lacks c.if-s.false a
  | inr b ↦ signature_lacked c.if-s.false b.0 b.1
]

pub returns-else-s-eq0-2 : goal.returns-else-s-eq0-2
returns-else-s-eq0-2 c = signature_returns c.if-s.false c.if-s-eq0-2.false.0 c.if-s-eq0-2.false.1 c.returns.ensures
