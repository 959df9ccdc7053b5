-- `copy_parts::state_place` meets its contract: it goes by the cases of the state that is read.
-- Assumes nothing.
use mathlib.Core.Path.{refl, sym, ◌∙◌}
use Rattle.layout.specs.declared.TypeState.TheVariants.{Known, Unknown, InferenceFailed}
use Rattle.copy_parts.specs.Places.{params_in}
use Rattle.copy_parts.proofs.PlaceLaws.{place_read, become_unknown, become_failed}
use Rattle.copy_parts.proofs.state_place.Goals as goal

pub returns-in-Known : goal.returns-in-Known
returns-in-Known c =
    place_read (Known _ _) _ c.idx.ensures c.node.ensures (sym c.in-Known.is ∙ c.state_of.ensures) c.kind_place.ensures.becomes
    c.kind_place.ensures.run

pub returns-in-Unknown : goal.returns-in-Unknown
returns-in-Unknown c =
    place_read (Unknown _) _ c.idx.ensures c.node.ensures (sym c.in-Unknown.is ∙ c.state_of.ensures)
    (λ ks. become_unknown (params_in c.args.params) ks c.args.root _) (refl, refl)

pub returns-in-InferenceFailed : goal.returns-in-InferenceFailed
returns-in-InferenceFailed c =
    place_read InferenceFailed _ c.idx.ensures c.node.ensures (sym c.in-InferenceFailed.is ∙ c.state_of.ensures)
    (λ ks. become_failed (params_in c.args.params) ks c.args.root) (refl, refl)
