-- `keep::put_back` meets its contract: the kept words take the place of those in use, and the head says so.
-- Assumes nothing.
use Rattle.keep.proofs.BackLaws.{back_ready, back_ready_kids, back_head, back_became}
use Rattle.keep.proofs.put_back.Goals as goal

pub replace_words-requires : goal.replace_words-requires
replace_words-requires c =
    back_ready c.requires c.read_header-x.ensures c.read_header-kept.ensures c.node_words.ensures c.node_words-2.ensures

pub replace_words-requires-2 : goal.replace_words-requires-2
replace_words-requires-2 c =
    back_ready_kids c.requires c.read_header-x.ensures c.read_header-kept.ensures c.child_words.ensures c.child_words-2.ensures

pub write_header-requires : goal.write_header-requires
write_header-requires c =
    back_head c.requires

pub returns : goal.returns
returns c =
    back_became c.requires c.read_header-x.ensures c.read_header-kept.ensures c.node_words.ensures c.node_words-2.ensures
    c.replace_words.ensures
    c.child_words.ensures c.child_words-2.ensures c.replace_words-2.ensures c.header_back.ensures
    c.write_header.ensures
