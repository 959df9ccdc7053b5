-- `records::put_record` meets its contract: the part that is lent is one record's, and its ten words are copied there. Assumes nothing.
use mathlib.Core.Path.{refl}
use Rattle.records.specs.Loaded.{numbers}
use Rattle.records.proofs.Laws.{stored_part}
use Rattle.records.proofs.put_record.Goals as goal

pub returns : goal.returns
returns c = rw c.copy_from_slice.ensures.after (stored_part c.args.words.now (numbers c.args.r) c.args.at refl c.requires)
