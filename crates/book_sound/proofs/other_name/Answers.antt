-- `book_sound::other_name` meets its contract: the two places lie in the book, and their names are compared.
-- Assumes nothing.
use Rattle.book.proofs.Places.{book_lies}
use Rattle.book.proofs.Names.{place_name}
use Rattle.book_sound.proofs.other_name.Goals as goal

pub place-requires : goal.place-requires
place-requires c = let b = book_lies c.args.bs.now c.requires.0.clean in
    rw c.room_of-room.ensures (record { words = b.words; index = c.requires.1 })

pub place-requires-2 : goal.place-requires-2
place-requires-2 c = let b = book_lies c.args.bs.now c.requires.0.clean in
    rw c.room_of-room.ensures (record { words = b.words; index = c.requires.0.index })

pub same_names-requires : goal.same_names-requires
same_names-requires c = let a = c.args in
    let w = rw c.room_of-room.ensures at c.place.ensures in
    let v = rw c.room_of-room.ensures at c.place-2.ensures in
    let p = place_name a.bs.now a.j c.requires.0.clean c.requires.1 in
    let q = place_name a.bs.now a.i c.requires.0.clean c.requires.0.index in
    (rw w p, rw v q)
