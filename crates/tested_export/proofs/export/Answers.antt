-- `tested_export::export` meets its contract: 7 comes last, and where nothing stands the copying is asked of what passed.
-- Assumes nothing.
use Rattle.refusals.proofs.Laws.{err_told}
use Rattle.sound.specs.Tests.{env_lent}
use Rattle.tested_export.proofs.Laws.{export_back, export_short, export_ready, export_done}
use Rattle.tested_export.proofs.export.Goals as goal

pub returns-in_err-tests : goal.returns-in_err-tests
returns-in_err-tests c = let a = c.args in
    rw (err_told c.from_residual.result c.from_residual.ensures.1) (export_back (env_lent a.env.now) a.sh.now a.sw.now a.sk.now a.h.now a.ws.now a.ks.now a.nodes a.children a.ts.now a.out.now
    c.in_err-tests.ensures)

pub returns-then-out-ts : goal.returns-then-out-ts
returns-then-out-ts c = let a = c.args in
    export_short (env_lent a.env.now) a.sh.now a.sw.now a.sk.now a.h.now a.ws.now a.ks.now a.nodes a.children a.ts.now a.out.now
    c.in_ok-tests.ensures c.if-out-ts.true

pub export-requires : goal.export-requires
export-requires c = let a = c.args in
    export_ready (env_lent a.env.now) a.sh.now a.sw.now a.sk.now a.h.now a.ws.now a.ks.now a.nodes a.children a.ts.now a.out.now
    c.in_ok-tests.ensures c.if-out-ts.false

pub returns : goal.returns
returns c = let a = c.args in
    export_done (env_lent a.env.now) a.sh.now a.sw.now a.sk.now a.h.now a.ws.now a.ks.now a.nodes a.children a.ts.now a.out.now
    c.in_ok-tests.ensures c.if-out-ts.false c.export.ensures
