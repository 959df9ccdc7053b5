-- `roots::Finder::keep` meets its contract: one more root is kept.
-- Assumes nothing.
use Rattle.roots.proofs.KeptLaws.{cached_keep}
use Rattle.roots.proofs.Finder.keep.Goals as goal

pub invariant_of-self : goal.invariant_of-self
invariant_of-self c = record {
  linked = c.args.self.now.linked;
  cached = cached_keep c.args.self.now.cached c.requires (rw c.kept_word.ensures at c.put.ensures);
}
