-- `names::in_text` meets its contract: a name lies in the text that its number selects.
-- Assumes nothing.
use mathlib.Core.Path.{refl}
use native.Mathlib.Omega.{arith}
use borrow.Author.Tests.{lt-leb}
use Rattle.scope.specs.Names.{in_text}
use Rattle.names.proofs.in_text.Goals as goal

pub returns-in-0 : goal.returns-in-0
unfolding in_text
returns-in-0 c = rw c.in-0.is refl

pub returns-in-1 : goal.returns-in-1
unfolding in_text
returns-in-1 c = rw c.in-1.is refl

pub returns-in_default : goal.returns-in_default
unfolding in_text
returns-in_default c = rw (lt-leb c.args.n.text 1 (omega (arith, c.in_default))) refl
