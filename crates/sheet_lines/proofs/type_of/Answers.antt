-- `sheet_lines::type_of` meets its contract: no byte, a first byte `~` before a node, or a node.
-- Assumes nothing.
use mathlib.Core.Path.{◌∙◌}
use native.Mathlib.Omega.{arith}
use Rattle.sheet_lines.proofs.Laws as laws
use Rattle.sheet_lines.proofs.type_of.Goals as goal

pub returns-in-empty : goal.returns-in-empty
returns-in-empty c = laws.type_empty c.args.w.now (omega (arith, c.in-empty.len_below))

pub returns-in-126 : goal.returns-in-126
returns-in-126 c = c.node_of.ensures ∙ laws.type_tilde c.args.w.now c.in-126.len_at_least (omega arith)

pub returns-in_default : goal.returns-in_default
returns-in_default c = c.node_of-in_default.ensures ∙ laws.type_plain c.args.w.now c.in_default.len_at_least (λ e. omega (arith, e))
