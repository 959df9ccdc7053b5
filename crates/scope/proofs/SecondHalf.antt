-- Demand 3's second half: what every list of its calls leaves, from a store just opened. Assumes nothing.
use mathlib.Core.List.{List}
use native.Mathlib.Omega.{arith}
use Rattle.scope.specs.Nodes.{Node, opened}
use Rattle.scope.specs.Demand.{after, SecondHalfHolds}
use Rattle.scope.proofs.Sizes.{shallow_twelve}
use Rattle.scope.proofs.Falls.{contains_never}
use Rattle.scope.proofs.SoundLaws.{SoundNodes}
use Rattle.scope.proofs.Reached.{Reached, opened_reached, after_reached}
use Rattle.scope.proofs.NodesMade.{sizes_made}
use Rattle.scope.proofs.Again.{success_again}

pub second_half : SecondHalfHolds
second_half e n c hn hc cs = record {
  again = success_again e (opened n c) (opened_reached e n c hn hc) cs;
  added = sizes_made e n c hn hc cs;
  apart = contains_never ns ok.forest ok.good;
  twelve = shallow_twelve ns ok.forest end.shallow ok.sized (omega (arith, end.facts.node_room_lem, end.facts.node_limit));
}
  where
    ns : List Node
    ns = (after e (opened n c) cs).nodes

    end : Reached e (after e (opened n c) cs)
    end = after_reached e (opened n c) cs (opened_reached e n c hn hc)

    ok : SoundNodes e (after e (opened n c) cs).nodes
    ok = end.facts.nodes
