-- `sound::lent` meets its contract: the chart is tested first, and each way out has its law.
-- Assumes nothing.
use mathlib.Core.Path.{sym, ◌∙◌}
use Rattle.layout.specs.Words.{lent_of}
use Rattle.sound.proofs.Laws.{refuses_chart, refuses_store, refuses_nothing}
use Rattle.sound.proofs.lent.Goals as goal

pub returns-then-not-chart_ok : goal.returns-then-not-chart_ok
returns-then-not-chart_ok c = let a = c.args in
    let lent = lent_of a.h.now a.ws.now a.ks.now in
    refuses_chart a.env.now lent (sym c.chart_ok.ensures ∙ c.if-not-chart_ok.true)

pub returns-then-not-store_sound : goal.returns-then-not-store_sound
returns-then-not-store_sound c = let a = c.args in
    let lent = lent_of a.h.now a.ws.now a.ks.now in
    let chart = sym c.chart_ok.ensures ∙ c.if-not-chart_ok.false in
    refuses_store a.env.now lent chart (sym c.store_sound.ensures ∙ c.if-not-store_sound.true)

pub returns : goal.returns
returns c = let a = c.args in
    let lent = lent_of a.h.now a.ws.now a.ks.now in
    let chart = sym c.chart_ok.ensures ∙ c.if-not-chart_ok.false in
    refuses_nothing a.env.now lent chart (sym c.store_sound.ensures ∙ c.if-not-store_sound.false)
