-- `roots::kept_at` meets its contract: what a number is read as.
-- Assumes nothing.
use mathlib.Core.Path.{refl}
use Rattle.std.proofs.Common.{◌≡◌, ◌+◌, ◌<◌, get_or, rules}
use Rattle.roots.specs.Kept.{KEPT_END}
use Rattle.roots.proofs.KeptLaws.{kept_low, kept_high}
use Rattle.roots.proofs.kept_at.Goals as goal

pub returns-then-was-lt-KEPT_INV : goal.returns-then-was-lt-KEPT_INV
returns-then-was-lt-KEPT_INV c =
    let e : get_or c.args.cache.now c.args.i.0 0 ≡ c.in_ok-was.was' + 1 = search rules in
    kept_low _ e c.if-was-lt-KEPT_INV.true refl

pub returns-else-was-lt-KEPT_INV : goal.returns-else-was-lt-KEPT_INV
returns-else-was-lt-KEPT_INV c =
    let e : get_or c.args.cache.now c.args.i.0 0 ≡ c.in_ok-was.was' + 1 = search rules in
    let h : c.in_ok-was.was' < KEPT_END = search rules in
    kept_high _ e c.if-was-lt-KEPT_INV.false h c.inverse.ensures
