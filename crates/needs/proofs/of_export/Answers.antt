-- `needs::of_export` meets its contract: three walks over one list of marks are one walk over the three lists.
-- Assumes nothing.
use native.Mathlib.Omega.{arith}
use Rattle.scope.specs.Limits.{MAX_NODES}
use Rattle.layout.proofs.LinkLaws.{clean_linked}
use Rattle.roots.proofs.KeptLaws.{cached_zeros}
use Rattle.needs.proofs.SourceLaws.{default_is, start_countable, all_countable, export_source, export_needs}
use Rattle.needs.proofs.of_export.Goals as goal

pub count_remembered-first-requires : goal.count_remembered-first-requires
count_remembered-first-requires c =
    start_countable {m = MAX_NODES}
    (export_source c.args.h.now c.args.ws.now c.args.ks.now c.args.ts.now c.read_header-x.ensures c.requires)
    (omega arith) (default_is c.default.ensures)

pub invariant_of-finder : goal.invariant_of-finder
invariant_of-finder c =
    let source = export_source c.args.h.now c.args.ws.now c.args.ks.now c.args.ts.now c.read_header-x.ensures c.requires in
    record { linked = clean_linked _ _ _ _ source.readable.clean; cached = cached_zeros _ _ MAX_NODES }

pub count_remembered-next-requires : goal.count_remembered-next-requires
count_remembered-next-requires c =
    let z = export_source c.args.h.now c.args.ws.now c.args.ks.now c.args.ts.now c.read_header-x.ensures c.requires in
    let k = start_countable {m = MAX_NODES} z (omega arith) (default_is c.default.ensures) in
    rw c.count_remembered-first.ensures.1.nodes (all_countable k c.count_remembered-first.ensures.0 c.count_remembered-first.auto.marks)

pub count_all-requires : goal.count_all-requires
count_all-requires c =
    let z = export_source c.args.h.now c.args.ws.now c.args.ks.now c.args.ts.now c.read_header-x.ensures c.requires in
    let k = start_countable {m = MAX_NODES} z (omega arith) (default_is c.default.ensures) in
    let first = c.count_remembered-first.ensures.1.nodes in
    rw (c.count_remembered-next.ensures.1.nodes, first) (
    all_countable (all_countable k c.count_remembered-first.ensures.0 c.count_remembered-first.auto.marks)
    (rw first at c.count_remembered-next.ensures.0) c.count_remembered-next.auto.marks
    )

pub returns : goal.returns
returns c =
    export_needs c.args.h.now c.args.ws.now c.args.ks.now c.args.ts.now c.read_header-x.ensures c.requires MAX_NODES c.requires.few
    (default_is c.default.ensures)
    (record {
      ms₁ = _;
      ms₂ = _;
      ms₃ = _;
      r₁ = _;
      r₂ = _;
      first = c.count_remembered-first.ensures.0;
      next = rw c.count_remembered-first.ensures.1.nodes at c.count_remembered-next.ensures.0;
      rest = rw (c.count_remembered-next.ensures.1.nodes, c.count_remembered-first.ensures.1.nodes) at c.count_all.ensures.0;
    })
