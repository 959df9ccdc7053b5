-- `call_copy::export` meets its contract: the opening is tested first; where 2 and 8 do not stand the source is tested, and the form for such a source
-- answers.
-- Assumes nothing.
use Rattle.sound.specs.Tests.{env_lent}
use Rattle.refusals.proofs.Laws.{err_told}
use Rattle.tested_export.proofs.Laws.{refused_opening, refused_source, export_back}
use Rattle.call_copy.proofs.export.Goals as goal

pub returns-in_err-opening : goal.returns-in_err-opening
returns-in_err-opening c = let a = c.args in
    let first =
    refused_opening (env_lent a.env.now) a.sh.now a.sw.now a.sk.now a.h.now a.ws.now a.ks.now a.nodes a.children a.ts.now c.in_err-opening.ensures in
    rw (err_told c.from_residual.result c.from_residual.ensures.1) (export_back _ _ _ _ _ _ _ _ _ _ _ first)

pub returns-in_err-lent : goal.returns-in_err-lent
returns-in_err-lent c = let a = c.args in
    let first =
    refused_source (env_lent a.env.now) a.sh.now a.sw.now a.sk.now a.h.now a.ws.now a.ks.now a.nodes a.children a.ts.now
    c.in_ok-opening.ensures c.in_err-lent.ensures in
    rw (err_told c.from_residual-in_err-lent.result c.from_residual-in_err-lent.ensures.1) (export_back _ _ _ _ _ _ _ _ _ _ _ first)
