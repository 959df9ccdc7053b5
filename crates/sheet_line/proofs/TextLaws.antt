-- What a line printed is what stands in front of the buffer.
-- Assumes nothing.
use mathlib.Core.Path.{◌≡◌, ap, sym, ◌∙◌}
use mathlib.Core.List.{List}
use Prim.Native.Nat.{ℕ}
use lib.ListN.{length, take, drop}
use lib.Seq.{take_at}
use Rattle.scope.specs.Nodes.{Store}
use Rattle.scope.specs.Sheet.{Line, sheet_line}
use Rattle.sheet_calls.specs.Ran.{line_leaves, Ran}

pub ran_text : {s : Store} {l : Line} {h ws ks h' ws' ks' out out' : List ℕ} {n : ℕ} → Ran s l h ws ks h' ws' ks' out out' n → take n out' ≡ (sheet_line s l).bytes
ran_text {s} {l} {out = out} {n = n} r =
    ap (take n) r.printed.bytes ∙ take_at (sheet_line s l).bytes (drop (length (sheet_line s l).bytes) (line_leaves s l out)) n (sym r.printed.end)
