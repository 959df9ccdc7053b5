-- `show::show_by` meets its contract. The measure is the depth. A kind is written child after child; the loop's invariant: what is left to write
-- gives, appended, what the whole gives, and the finder stays.
-- Assumes nothing.
use Prim.Native.Nat.{◌-◌}
use Rattle.scope.specs.Show.{show_f}
use Rattle.names.specs.Place.{texts_by}
use Rattle.chart.specs.Env.{env_by}
use Rattle.layout.specs.Lent.{nodes_by}
use Rattle.roots.specs.StaysLent.{StaysLent}
use Rattle.show_parts.specs.Parts.{gap_of, close_of}
use Rattle.show.specs.Level.{kid_of}
use Rattle.show.proofs.Turns.{Turn}
use Rattle.show.proofs.+show_by.Given as goal

abbrev pub decreases-show_by : goal.decreases-show_by
decreases-show_by l = l.depth

abbrev pub invariant-loop-j : goal.invariant-loop-j
invariant-loop-j l =
    let nodes = l.fn.finder.nodes.now in
    Turn (gap_of (texts_by l.env.texts) nodes.kids.now l.kind) (λ m. show_f (env_by l.env) (l.depth - 1) (nodes_by nodes) (kid_of nodes.kids.now l.kind l.deep.0 m))
    (close_of l.kind l.count) l.count l.initial.out l.out l.j × StaysLent l.fn.finder l.finder
