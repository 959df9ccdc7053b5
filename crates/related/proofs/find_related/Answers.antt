-- `related::find_related` meets its contract: a root's mark, and the walk on from it with a depth of as many roots as there are other nodes.
-- Assumes nothing.
use mathlib.Core.Path.{◌∙◌}
use Rattle.layout.proofs.LinkLaws.{clean_linked}
use Rattle.related.proofs.Laws.{mark_shallow, mark_met, mark_whole}
use Rattle.related.proofs.TurnLaws.{mark_walked}
use Rattle.related.proofs.find_related.Goals as goal
use Rattle.roots.proofs.Laws.{root_is}

pub returns-then-nodes-eq0 : goal.returns-then-nodes-eq0
returns-then-nodes-eq0 c =
    mark_shallow _ _ _ _ c.if-nodes-eq0.true ∙ mark_whole c.args.nodes.now.words.now c.args.nodes.now.kids.now c.args.nodes.now.made _ _

pub find_in-requires : goal.find_in-requires
find_in-requires c = clean_linked _ _ _ _ c.requires.clean

pub returns-then-is_marked : goal.returns-then-is_marked
returns-then-is_marked c =
    mark_met _ _ _ _ (root_is c.find_in.ensures c.idx-root.ensures c.args.nodes.now.kids.now) c.is_marked.ensures c.if-is_marked.true ∙ mark_whole c.args.nodes.now.words.now
    c.args.nodes.now.kids.now c.args.nodes.now.made _ _

pub returns-then-nodes : goal.returns-then-nodes
returns-then-nodes c =
    mark_walked c.args.nodes.now.made _ _ _ c.if-nodes-eq0.false (root_is c.find_in.ensures c.idx-root.ensures c.args.nodes.now.kids.now) c.is_marked.ensures c.if-is_marked.false
    c.set_mark.ensures c.mark_with.ensures ∙ mark_whole c.args.nodes.now.words.now c.args.nodes.now.kids.now c.args.nodes.now.made _ _

pub returns-else-nodes : goal.returns-else-nodes
returns-else-nodes c =
    mark_walked c.args.nodes.now.made _ _ _ c.if-nodes-eq0.false (root_is c.find_in.ensures c.idx-root.ensures c.args.nodes.now.kids.now) c.is_marked.ensures c.if-is_marked.false
    c.set_mark.ensures c.mark_with-else-nodes.ensures ∙ mark_whole c.args.nodes.now.words.now c.args.nodes.now.kids.now c.args.nodes.now.made _ _
