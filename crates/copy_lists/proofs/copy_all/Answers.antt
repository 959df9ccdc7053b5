-- `copy_lists::copy_all` meets its contract. The loop's invariant: what is left of the list gives what the whole list gives, and the copies so far stand at the
-- front of the answer's list.
-- Assumes nothing.
use native.Mathlib.Omega.{arith}
use lib.ListN.{length, length-map}
use Rattle.scope.specs.Types.{ty_of}
use Rattle.store.proofs.EntryLaws.{listed_below}
use Rattle.needs.proofs.SourceLaws.{listed_next}
use Rattle.copy_lists.proofs.ListLaws.{listing_copyable, listing_next, listing_end}
use Rattle.roots.proofs.StaysLaws.{stays_then}
use Rattle.copy_lists.proofs.copy_all.Goals as goal

pub copy-next-requires : goal.copy-next-requires
copy-next-requires c =
    rw c.loop-i.invariant.1.nodes
    (listing_copyable c.loop-i.invariant.0 _ (listed_next c.args.ts.now c.loop-i.i c.loop-i-test.true) c.requires.all_copyable.source)

pub loop-i-preserved : goal.loop-i-preserved
loop-i-preserved c = (
  listing_next c.loop-i.invariant.0 _ (listed_next c.args.ts.now c.loop-i.i c.loop-i-test.true) (rw c.loop-i.invariant.1.nodes at c.copy-next.ensures.0)
      (listed_below c.args.ts.now c.loop-i.i c.loop-i-test.true)
      (omega (arith, c.loop-i.invariant.0.wide, c.requires.ts_in_bounds))
      (record {
        tables = c.copy-next.auto.table;
        heads = c.copy-next.auto.h;
        nodes = c.copy-next.auto.ws;
        kids = c.copy-next.auto.ks;
      }),
  stays_then c.loop-i.invariant.1 c.copy-next.ensures.1,
)

pub returns : goal.returns
returns c =
    (listing_end c.loop-i.invariant.0 (length c.args.ts.now) (length-map c.args.ts.now ty_of) c.loop-i-test.false, c.loop-i.invariant.1)
