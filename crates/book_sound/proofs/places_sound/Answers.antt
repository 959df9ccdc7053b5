-- `book_sound::places_sound` meets its contract: the test is made of each place.
-- Assumes nothing.
use mathlib.Core.Path.{◌≡◌, ◌∙◌}
use mathlib.Core.Bool.{Bool}
use mathlib.Core.List.{List}
use Prim.Native.Nat.{ℕ}
use native.Mathlib.Omega.{arith}
use lib.ListN.{length}
use borrow.Author.Rules.{rules}
use borrow.Author.Tests.{tests}
use Rattle.std.proofs.lemmas.Iterator.{YieldsList-from_range, serves_from_Range}
use Rattle.std.proofs.lemmas.Iterator.Search.{all_from_yields_List}
use Rattle.scope.specs.Limits.{MAX_STATES}
use Rattle.chart.specs.Env.{chart_lent}
use Rattle.layout.proofs.Lists.{all_range}
use Rattle.book.specs.Places.{PlaceLies}
use Rattle.book.specs.Words.{place_at, place_words}
use Rattle.book.proofs.Places.{place_length}
use Rattle.book_sound.specs.Tests.{place_ok}
use Rattle.book_sound.proofs.places_sound.Goals as goal

pub all-requires-clause-callable : goal.all-requires-clause-callable
all-requires-clause-callable c = let a = c.args in
    serves_from_Range (λ x q p. search rules) (λ x p b.
    let lies : (j : ℕ) → j ≡ x → PlaceLies a.bs.now a.room.nodes a.room.children j = λ j q. record { words = c.requires; index = rw q b } in
    let long : (j : ℕ) → j ≡ x → (ps : List ℕ) → ps ≡ place_at a.bs.now a.room.nodes a.room.children j → length ps ≡ place_words a.room.nodes a.room.children =
    λ j q ps e. rw e (place_length a.bs.now a.room.nodes a.room.children j c.requires (rw q b)) in
    search (rules, lies, long))

pub returns : goal.returns
returns c = let a = c.args in
    let q : ℕ → Bool = λ j. place_ok (chart_lent a.env.now) a.room.nodes a.room.children (place_at a.bs.now a.room.nodes a.room.children j) in
    all_from_yields_List q _ _ _ c.all.ensures.ran (YieldsList-from_range 0 MAX_STATES MAX_STATES (cc) (omega arith)) (λ x b p k. search (rules, tests))
    ∙ all_range q 0 MAX_STATES
