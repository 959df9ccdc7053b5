-- `states::hold` meets its contract: each part of the place is written in turn, and proofs/HoldLaws says what the whole then holds.
-- Assumes nothing.
use native.Mathlib.Omega.{arith}
use Rattle.states.proofs.HoldLaws.{code_nodes, code_kids, code_held}
use Rattle.states.proofs.hold.Goals as goal

pub copy_words-requires : goal.copy_words-requires
copy_words-requires c =
    code_nodes c.requires c.read_header-x.ensures c.kids_from-a.ensures c.put_name.ensures c.keep_head.ensures c.node_words.ensures

pub copy_words-requires-2 : goal.copy_words-requires-2
copy_words-requires-2 c =
    code_kids c.requires c.read_header-x.ensures c.kids_from-a.ensures c.put_name.ensures c.keep_head.ensures
    c.node_words.ensures c.place_words-e.ensures
    c.copy_words.ensures c.child_words.ensures

pub returns : goal.returns
returns c =
    code_held c.requires c.read_header-x.ensures c.kids_from-a.ensures c.put_name.ensures c.keep_head.ensures
    c.node_words.ensures c.place_words-e.ensures
    c.copy_words.ensures c.child_words.ensures c.copy_words-2.ensures (λ i l. omega (arith, c.type_inv.name i))
