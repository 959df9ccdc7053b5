-- A store that 2 and 8 do not turn back has capacities within the limits, so one that 10 and 11 do not turn back either is ready for what a maker makes.
-- Assumes nothing.
use mathlib.Core.Path.{◌≡◌, ap, sym, ◌∙◌}
use mathlib.Core.List.{List}
use mathlib.Core.Option.{none}
use Prim.Native.Nat.{ℕ}
use native.Mathlib.Omega.{arith}
use Rattle.scope.specs.Chart.{Env}
use Rattle.scope.specs.Nodes.{Store}
use Rattle.scope.specs.Calls.{first_broken, store_of, lent_tests, room_tests}
use Rattle.scope.proofs.SoundLaws.{SoundFacts}
use Rattle.layout.specs.Words.{store_in, lent_of}
use Rattle.store.specs.Holds.{Ready}
use Rattle.refusals.proofs.RoomLaws.{ready_more}
use Rattle.promise.proofs.Laws.{lent_facts, lent_clean_words, lent_store}

module _ (e : Env) (h ws ks : List ℕ) (q : first_broken (lent_tests e (lent_of h ws ks)) ≡ none) where
  pub lent_within : Ready h ws ks 0 0
  lent_within =
      let f : SoundFacts e (store_in h ws ks) = lent_facts e h ws ks q in
      record {
        clean = lent_clean_words e h ws ks q;
        room = record {
          node_limit = f.node_limit;
          child_limit = f.child_limit;
          nodes = omega (arith, f.node_room_lem);
          children = omega (arith, f.child_room_lem);
        };
      }

  module _ (n c : ℕ) where
    -- what is tested of the lent store is tested of the one that the slices hold
    pub lent_room : first_broken (room_tests (store_of (lent_of h ws ks)) n c) ≡ first_broken (room_tests (store_in h ws ks) n c)
    lent_room = ap (λ (s : Store). first_broken (room_tests s n c)) (lent_store e h ws ks q)

    -- from the tests passed to what a maker asks
    pub lent_ready : first_broken (room_tests (store_of (lent_of h ws ks)) n c) ≡ none → Ready h ws ks n c
    lent_ready r = ready_more n c lent_within (sym lent_room ∙ r)
