-- `unify_enter::enter` meets its contract: no depth is left, two roots of which no child is unified, an answer that the memory knows, or the children of two roots.
-- Assumes nothing.
use mathlib.Core.Path.{◌≡◌, refl, sym, ◌∙◌}
use mathlib.Core.Bool.{true}
use mathlib.Core.List.{List, [], ◌∷◌}
use Prim.Native.Nat.{ℕ}
use Rattle.std.specs.Prelude.{None}
use Rattle.names.specs.Place.{texts_by}
use Rattle.meeting.specs.Meets.{bare_roots}
use Rattle.meeting.proofs.MeetLaws.{bare_tops, bare_meets}
use Rattle.scope.specs.Names.{Texts}
use Rattle.scope.specs.Types.{ty_of}
use Rattle.unify_enter.specs.Asked.{Asked}
use Rattle.unify_enter.specs.Enters.{AtRoots}
use Rattle.unify_enter.proofs.Laws.{words_linked, asked_pair, climbed, climbed_here, at_roots, no_depth, walk_asks, way_walk, way_known, way_on}
use Rattle.unify_enter.proofs.QuickLaws.{quick_adds, quick_merged, quick_asked, quick_not}
use Rattle.unify_enter.proofs.enter.Goals as goal
use Rattle.unify_enter.proofs.enter.Goals.{After-meet}

pub returns-then-depth-eq0 : goal.returns-then-depth-eq0
returns-then-depth-eq0 c = no_depth c.requires c.if-depth-eq0.true

-- both are roots, one of them without a kind; where neither has one they merge at once

pub quick-requires : goal.quick-requires
quick-requires c = quick_adds c.requires

pub returns-then-quick : goal.returns-then-quick
returns-then-quick c = quick_merged c.requires c.if-depth-eq0.false c.quick.ensures c.if-quick.true

bare : {x : Texts} {ws ks m : List ℕ} {n d p q : ℕ} → Asked x ws ks m n d ((ty_of p, ty_of q) ∷ []) → (d ≡ 0 → ⊥)
    → true ≡ bare_roots ws n (ty_of p).idx (ty_of q).idx → AtRoots x ws ks m ws m n d (ty_of p) (ty_of q) p q None
bare w h e = let v = asked_pair w in at_roots (climbed_here w h (bare_tops v (sym e))) (bare_meets v (sym e))

pub walk_pair-requires : goal.walk_pair-requires
walk_pair-requires c =
    rw (c.quick.ensures.words c.if-quick.false, c.quick.ensures.memory c.if-quick.false)
    (walk_asks (bare c.requires c.if-depth-eq0.false (sym c.if-bare_roots.true ∙ c.bare_roots.ensures)) refl)

pub returns-then-bare_roots : goal.returns-then-bare_roots
returns-then-bare_roots c =
    quick_not c.args.depth c.quick.ensures c.if-quick.false
    (way_walk (bare (quick_asked c.requires c.quick.ensures c.if-quick.false) c.if-depth-eq0.false
    (rw (c.quick.ensures.words c.if-quick.false) (sym c.if-bare_roots.true ∙ c.bare_roots.ensures))) refl c.walk_pair.ensures)

-- both roots are found

pub find-ra-requires : goal.find-ra-requires
find-ra-requires c = (words_linked c.requires.pairs.words, c.visited.ensures.tidy)

pub meet-requires : goal.meet-requires
meet-requires c = (climbed c.requires c.if-depth-eq0.false c.visited.ensures c.find-ra.ensures c.find-rb.ensures).tops

-- the roots have met

met : (c : After-meet) → AtRoots (texts_by c.args.fixed.now.texts) c.args.ws.now c.args.fixed.now.kids.now c.args.memory.now c.find-rb.new.ws c.find-rb.new.memory
    c.args.fixed.now.made c.args.depth (ty_of c.args.a.0) (ty_of c.args.b.0) c.find-ra.result.0 c.find-rb.result.0 c.meet.result
met c = at_roots (climbed c.requires c.if-depth-eq0.false c.visited.ensures c.find-ra.ensures c.find-rb.ensures) c.meet.ensures

pub walk_pair-requires-in_default : goal.walk_pair-requires-in_default
walk_pair-requires-in_default c =
    walk_asks (met (goal.at.walk_pair-requires-in_default c).After-meet) c.in_default.is

pub returns-in_default : goal.returns-in_default
returns-in_default c =
    way_walk (met (goal.at.returns-in_default c).After-meet) c.in_default.is
    c.walk_pair-in_default.ensures

pub returns-in-Some-look : goal.returns-in-Some-look
returns-in-Some-look c =
    way_known (met (goal.at.returns-in-Some-look c).After-meet)
    c.look.ensures c.in-Some-look.is

pub returns-in-None : goal.returns-in-None
returns-in-None c =
    way_on (met (goal.at.returns-in-None c).After-meet) c.in-Some.is
    c.in_steps.ensures c.clock.ensures
