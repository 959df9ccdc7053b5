-- `meeting::in_steps` meets its contract: a plan is its own steps, but for a signature.
-- Assumes nothing.
use Rattle.meeting.proofs.StepLaws.{stepped_answer}
use Rattle.meeting.proofs.in_steps.Goals as goal

pub returns-in-Answer : goal.returns-in-Answer
returns-in-Answer c = stepped_answer c.in-Answer.is
