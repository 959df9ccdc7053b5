-- `node_sound::nodes_sound` meets its contract. The loop's invariant: the nodes below i pass, and what was seen is so.
-- Assumes nothing.
use mathlib.Core.Path.{◌≡◌}
use mathlib.Core.Bool.{true}
use Prim.Native.Nat.{ℕ, ◌≤◌, ◌<◌}
use Rattle.names.specs.Place.{texts_by}
use Rattle.chart.specs.Env.{chart_lent}
use Rattle.layout.specs.Lent.{nodes_by}
use Rattle.node_sound.specs.Tests.{node_test, TrueSeen}
use Rattle.node_sound.proofs.nodes_sound.Given as goal

abbrev pub invariant-loop-i : goal.invariant-loop-i
invariant-loop-i l =
    (l.i ≤ l.nodes.made)
    × ((u : ℕ) → u < l.i → node_test (chart_lent l.env) l.nodes.words.now l.nodes.kids.now l.c (nodes_by l.nodes) u ≡ true)
    × TrueSeen (texts_by l.env.texts) l.nodes.kids.now l.seen
