-- `sheet_lines::node_of` meets its contract. The digits passed give n, which is below a power of ten; those to come, started from n, give the whole word's value.
-- Assumes nothing.
use mathlib.Core.Path.{◌≡◌}
use mathlib.Core.Bool.{true, ◌&&◌}
use Prim.Native.Nat.{◌+◌, ◌≤◌}
use lib.Dec.{leb}
use lib.ListN.{length, drop}
use Rattle.scope.specs.Base.{all}
use Rattle.scope.specs.Sheet.{is_digit, value_from, no_leading_zero}
use Rattle.sheet_lines.proofs.Laws as laws
use Rattle.sheet_lines.proofs.node_of.Given as goal

abbrev pub invariant-loop-d : goal.invariant-loop-d
invariant-loop-d l = ((leb (length l.w) 4 && no_leading_zero l.w) ≡ true)
    × (length l.w ≤ 4)
    × (l.n + 1 ≤ laws.tens l.d-index)
    × (all is_digit (drop l.d-index l.w) ≡ all is_digit l.w)
    × (value_from l.n (drop l.d-index l.w) ≡ value_from 0 l.w)
