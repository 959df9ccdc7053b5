-- What the makers test: 2, 8, and room for the nodes that they need of a store.
use Rattle.scope.specs.Chart.{Env}
use Rattle.std.specs.Prelude.{◌≡◌, List, ◌++◌, ℕ}
use Rattle.std.proofs.Math.Option.{Option}
use Rattle.scope.specs.Nodes.{Store}
use Rattle.scope.specs.Calls.{first_broken, store_of, lent_tests, room_tests}
use Rattle.layout.specs.Words.{lent_of}

-- n is the first of refusals 2, 8 and 10 that stands, if one does
pub record RoomTested (e : Env) (h ws ks : List ℕ) (need : Store → ℕ) (n : Option ℕ) : Type 0 where
  pub first :
      first_broken (lent_tests e (lent_of h ws ks) ++ room_tests (store_of (lent_of h ws ks)) (need (store_of (lent_of h ws ks))) 0) ≡ n
