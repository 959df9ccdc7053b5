-- `book::find_name` meets its contract: each place's name is compared.
-- Assumes nothing.
use mathlib.Core.Path.{◌≡◌, refl, sym, ◌∙◌}
use Prim.Native.Nat.{ℕ}
use mathlib.Core.List.{List}
use borrow.Author.Rules.{rules}
use borrow.Author.Tests.{tests}
use Rattle.std.proofs.lemmas.Iterator.{YieldsList-from_range, serves_from_Range}
use Rattle.std.proofs.lemmas.Iterator.Adapters.{option_map_id}
use Rattle.std.proofs.lemmas.Iterator.Search.{find_from_yields_List}
use Rattle.scope.specs.States.{under}
use Rattle.book.specs.Places.{PlaceLies, NameLies, held_under, place_of}
use Rattle.book.specs.Words.{place_at}
use Rattle.book.proofs.Names.{under_is, place_there, place_named}
use Rattle.book.proofs.Search.{find_places}
use Rattle.book.proofs.find_name.Goals as goal

pub find-requires-clause-callable : goal.find-requires-clause-callable
find-requires-clause-callable c =
    let bs = c.args.bs.now in
    let r = c.room_of-room.result in
    serves_from_Range (λ x q p. search rules)
    (λ x a b y e.
    let lies : (j : ℕ) → j ≡ x → PlaceLies bs r.nodes r.children j = place_there bs c.requires c.room_of-room.ensures b in
    let named : (j : ℕ) → j ≡ x → (ps : List ℕ) → ps ≡ place_at bs r.nodes r.children j → NameLies ps = place_named bs c.requires c.room_of-room.ensures b in
    (search (rules, lies), λ _ _ _ _ _ _ _ _ _ place _. named y.now e place.result.now place.ensures))

pub returns : goal.returns
returns c =
    let bs = c.args.bs.now in
    let r = c.room_of-room.result in
    let t = λ (i : ℕ). held_under c.args.name.now (place_at bs r.nodes r.children i) in
    sym (option_map_id _)
    ∙ (find_from_yields_List t _ _ _ c.find.ensures.ran (YieldsList-from_range 0 8 8 refl refl) (λ x b q k. search (rules, tests))
    ∙ find_places (under c.args.name.now) (place_of bs) t (λ j h. rw c.room_of-room.ensures (sym (under_is _ _ _ _))))
