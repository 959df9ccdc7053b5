-- `make::new_vars` meets its contract. The loop's invariant: the slices hold what i variables leave, and their types' words stand at the front of `out`.
-- Assumes nothing.
use native.Mathlib.Omega.{arith}
use mathlib.Core.Path.{refl}
use Rattle.make.proofs.VarLaws.{vars_none, vars_ready, vars_more}
use Rattle.make.proofs.new_vars.Goals as goal

pub loop-i-init : goal.loop-i-init
loop-i-init c = vars_none c.args.span c.requires.ready

pub new_var-requires : goal.new_var-requires
new_var-requires c = vars_ready c.args.span c.loop-i.i c.loop-i.invariant c.requires.ready (omega arith)

pub loop-i-preserved : goal.loop-i-preserved
loop-i-preserved c =
    vars_more c.args.span c.loop-i.i c.loop-i.invariant c.new_var.ensures (omega (arith, c.requires.count_in_bounds)) (omega (arith, c.new_var.type_inv)) refl
