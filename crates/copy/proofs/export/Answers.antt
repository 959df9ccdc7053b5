-- `copy::export` meets its contract: three lists, one after another over one table, are what the export makes, and what the source remembers is
-- remembered as its copy.
-- Assumes nothing.
use Rattle.scope.specs.Limits.{MAX_NODES}
use Rattle.copy.proofs.WholeLaws.{error_copyable, nil_copyable, list_copyable, export_is}
use Rattle.layout.proofs.LinkLaws.{clean_linked}
use Rattle.roots.proofs.KeptLaws.{cached_zeros}
use Rattle.copy.proofs.export.Goals as goal

pub invariant_of-finder : goal.invariant_of-finder
invariant_of-finder c = record {
  linked = rw c.read_header-x.ensures (clean_linked _ _ _ _ c.requires.source.readable.clean);
  cached = cached_zeros _ _ MAX_NODES;
}

pub copy_remembered-error-requires : goal.copy_remembered-error-requires
copy_remembered-error-requires c =
    error_copyable c.args.sh.now c.args.sw.now c.args.sk.now c.args.ts.now MAX_NODES c.requires c.read_header-x.ensures
    c.requires.source.few c.«open».ensures

pub copy_remembered-nil-requires : goal.copy_remembered-nil-requires
copy_remembered-nil-requires c =
    rw c.copy_remembered-error.ensures.1.nodes (
    nil_copyable c.args.sh.now c.args.sw.now c.args.sk.now c.args.ts.now MAX_NODES c.requires c.read_header-x.ensures
    c.requires.source.few c.«open».ensures c.copy_remembered-error.ensures.0
    )

pub copy_all-requires : goal.copy_all-requires
copy_all-requires c =
    let nil = rw c.copy_remembered-error.ensures.1.nodes at c.copy_remembered-nil.ensures.0 in
    rw (c.copy_remembered-nil.ensures.1.nodes, c.copy_remembered-error.ensures.1.nodes) (record {
      all_copyable = list_copyable c.args.sh.now c.args.sw.now c.args.sk.now c.args.ts.now MAX_NODES c.requires c.read_header-x.ensures
          c.requires.source.few c.«open».ensures c.copy_remembered-error.ensures.0 nil;
      ts_in_bounds = c.requires.long;
    })

pub returns : goal.returns
returns c =
    let nil = rw c.copy_remembered-error.ensures.1.nodes at c.copy_remembered-nil.ensures.0 in
    let all = rw (c.copy_remembered-nil.ensures.1.nodes, c.copy_remembered-error.ensures.1.nodes) at c.copy_all.ensures.0 in
    export_is c.args.sh.now c.args.sw.now c.args.sk.now c.args.ts.now MAX_NODES c.requires c.read_header-x.ensures
    c.requires.source.few c.«open».ensures c.copy_remembered-error.ensures.0 nil all c.remember.ensures
