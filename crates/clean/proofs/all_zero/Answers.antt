-- `clean::all_zero` meets its contract: what the words so far tell is whether they are zero.
-- Assumes nothing.
use mathlib.Core.Path.{◌≡◌, refl}
use Rattle.std.proofs.Common.{rules, subst}
use Rattle.std.proofs.lemmas.Fn.{fold_over, slice_gives, fronts}
use Rattle.scope.specs.Sound.{zeros}
use Rattle.clean.proofs.Laws.{zeros_push}
use Rattle.clean.proofs.all_zero.Goals as goal

pub returns : goal.returns
returns c = subst (λ l. c.fold.result ≡ zeros l) c.iter.ensures.rest
    (fold_over fronts (λ y. y.now) _ (λ ys z. z ≡ zeros ys) _ (λ ys a x b f' j k. let more = zeros_push ys x.now in search rules)
    _ _ _ _ (slice_gives c.iter.result) refl c.fold.ensures.ran)
