-- `skips::scan` meets its contract: up to the first slot that is not passed over, or to the end, the nodes of the children have been told.
-- Assumes nothing.
use mathlib.Core.Path.{◌≡◌}
use mathlib.Core.Bool.{true}
use Prim.Native.Nat.{ℕ}
use borrow.Author.Rules.{rules}
use borrow.Author.Tests.{tests}
use Rattle.std.specs.Prelude.{⊤}
use Rattle.std.proofs.lemmas.Iterator.{first_from_Range}
use Rattle.skips.specs.Table.{slot_seen}
use Rattle.skips.proofs.Laws.{scanned_found, slot_seen_lem}
use Rattle.skips.proofs.scan.Goals as goal

pub returns : goal.returns
returns c =
    let seen = λ (k : ℕ). slot_seen c.args.ks.now c.args.seen.now k ≡ true in
    let first = first_from_Range _ _ _ c.find.result (λ (k : ℕ). ⊤) seen c.find.ensures.ran (λ x q k. tt) (λ x q k. search (rules, tests, slot_seen_lem)) in
    rw c.unwrap_or.ensures (scanned_found c.find.result c.requires first)
