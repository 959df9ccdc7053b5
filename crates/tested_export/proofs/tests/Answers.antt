-- `tested_export::tests` meets its contract: the opening, the source's list, and room for what is counted in a source that is sound.
-- Assumes nothing.
use mathlib.Core.Path.{refl}
use Rattle.refusals.proofs.Laws.{err_told}
use Rattle.sound.specs.Tests.{env_lent}
use Rattle.tested_export.proofs.Laws.{one_list, refused_list, needs_asks, told_room, fresh_told}
use Rattle.tested_export.proofs.tests.Goals as goal

pub returns-in_err-lists : goal.returns-in_err-lists
returns-in_err-lists c = let a = c.args in
    rw (err_told c.from_residual-in_err-lists.result c.from_residual-in_err-lists.ensures.1)
    (refused_list (env_lent a.env.now) a.sh.now a.sw.now a.sk.now a.h.now a.ws.now a.ks.now a.nodes a.children a.ts.now
    c.in_ok-opening.ensures c.requires c.read_header-x.ensures (one_list _ c.in_err-lists.ensures) refl)

pub of_export-wanted-requires : goal.of_export-wanted-requires
of_export-wanted-requires c = let a = c.args in
    needs_asks (env_lent a.env.now) a.sh.now a.sw.now a.sk.now a.h.now a.ws.now a.ks.now a.nodes a.children a.ts.now
    c.in_ok-opening.ensures c.requires c.read_header-x.ensures (one_list _ c.in_ok-lists.ensures) refl

pub returns : goal.returns
returns c = let a = c.args in
    told_room (env_lent a.env.now) a.sh.now a.sw.now a.sk.now a.h.now a.ws.now a.ks.now a.nodes a.children a.ts.now
    c.in_ok-opening.ensures c.requires c.read_header-x.ensures (one_list _ c.in_ok-lists.ensures) refl
    c.of_export-wanted.ensures (fresh_told c.of_export-wanted.result c.no_nodes-fresh.ensures c.room_by.ensures)
