-- What scope's rows say past the table, and of a kind's head.
-- Assumes nothing.
use mathlib.Core.Path.{◌≡◌, refl}
use Prim.Native.Nat.{ℕ, ◌≤◌}
use lib.ListN.{get_or-eq_default}
use Rattle.scope.specs.Chart.{Env, sort_at}
use Rattle.scope.specs.Kinds.{Head, rows, no_row, row_of, defined}
use Rattle.kinds.specs.Rows.{sort_fits}

-- past the table there is none
pub row_past : (i : ℕ) → 15 ≤ i → row_of i ≡ no_row
unfolding row_of rows
row_past i h = get_or-eq_default rows no_row h

-- a kind's head, read by its row

pub defined_row : (e : Env) (h : Head) → defined e h ≡ sort_fits (row_of h.code) (sort_at e h.number)
unfolding defined
defined_row e h = refl
