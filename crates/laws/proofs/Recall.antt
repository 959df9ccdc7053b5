-- A law of a memory that no proof of a function needs: one whose clock does not run has forgotten as it is. Assumes nothing.
use mathlib.Core.List.{List}
use Prim.Native.Nat.{ℕ}
use native.Mathlib.Omega.{arith}
use Rattle.recall.specs.Memory.{clock_of, Running, Forgot}

pub forgot_stopped : {m : List ℕ} → (Running (clock_of m) → ⊥) → Forgot m m
forgot_stopped h = record {
  tidy = record { past = λ r. absurd (h r) };
  on = omega arith;
  none = λ a b q v. h v.running;
  moved = λ r e. h r;
  marks = λ i k. k;
}
