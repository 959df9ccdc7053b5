-- `book::find_free` meets its contract: the test is made of each place.
-- Assumes nothing.
use mathlib.Core.Path.{◌≡◌, refl, sym, ◌∙◌}
use Prim.Native.Nat.{ℕ}
use lib.Dec.{eqb}
use borrow.Author.Rules.{rules}
use borrow.Author.Tests.{tests}
use Rattle.std.proofs.lemmas.Iterator.{YieldsList-from_range, serves_from_Range}
use Rattle.std.proofs.lemmas.Iterator.Adapters.{option_map_id}
use Rattle.std.proofs.lemmas.Iterator.Search.{find_from_yields_List}
use Rattle.scope.specs.States.{is_free}
use Rattle.book.specs.Places.{PlaceLies, place_of}
use Rattle.book.specs.Words.{name_length_in, place_at}
use Rattle.book.proofs.Names.{free_is, place_there}
use Rattle.book.proofs.Search.{find_places}
use Rattle.book.proofs.find_free.Goals as goal

pub find-requires-clause-callable : goal.find-requires-clause-callable
find-requires-clause-callable c =
    let bs = c.args.bs.now in
    let r = c.room_of-room.result in
    serves_from_Range (λ x q p. search rules)
    (λ x a b. let lies : (j : ℕ) → j ≡ x → PlaceLies bs r.nodes r.children j = place_there bs c.requires c.room_of-room.ensures b in search (rules, lies))

pub returns : goal.returns
returns c =
    let bs = c.args.bs.now in
    let r = c.room_of-room.result in
    let t = λ (i : ℕ). eqb (name_length_in (place_at bs r.nodes r.children i)) 0 in
    sym (option_map_id _)
    ∙ (find_from_yields_List t _ _ _ c.find.ensures.ran (YieldsList-from_range 0 8 8 refl refl) (λ x b q k. search (rules, tests))
    ∙ find_places is_free (place_of bs) t (λ j h. rw c.room_of-room.ensures (sym (free_is _ _ _))))
