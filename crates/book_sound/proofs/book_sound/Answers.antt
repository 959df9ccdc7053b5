-- `book_sound::book_sound` meets its contract: each test has its law. Once lengths, capacities and places pass, the names are what is left.
-- Assumes nothing.
use mathlib.Core.Path.{◌≡◌, sym, ap, ◌∙◌}
use mathlib.Core.Bool.{false, not}
use Rattle.std.proofs.Common.{arith}
use Rattle.std.proofs.lemmas.Bool.Decides.{nat_tests}
use Rattle.scope.specs.States.{lent_book_sound}
use Rattle.chart.specs.Env.{chart_lent}
use Rattle.book.specs.Words.{lent_book_of}
use Rattle.book_sound.specs.Tests.{room_alone}
use Rattle.book_sound.proofs.Laws as laws
use Rattle.book_sound.proofs.book_sound.Goals as goal
use Rattle.book_sound.proofs.book_sound.Goals.{then-room-x-2, else-room-x-2}

pub names_differ-requires : goal.names_differ-requires
names_differ-requires c =
    let a = c.args in
    elim c.if-room-x-2.branch [
      | then-room-x-2 w ↦
          laws.read_clean (chart_lent a.env.now) a.h.now a.bs.now c.room_of-room.ensures c.read_header-x.ensures c.book_words.ensures w.if-room-x-2.true.0
          w.places_sound.ensures (ap not (sym w.value-is ∙ c.if-places_sound.true))
      | else-room-x-2 w ↦ absurd (grind arith)
    ]

pub returns-then-places_sound : goal.returns-then-places_sound
returns-then-places_sound c =
    let a = c.args in
    elim c.if-room-x-2.branch [
      | then-room-x-2 w ↦
          let t = w.if-room-x-2.true in
          c.names_differ.ensures
          ∙ sym (laws.read_names (chart_lent a.env.now) a.h.now a.bs.now c.room_of-room.ensures c.read_header-x.ensures c.book_words.ensures t.0
          w.places_sound.ensures t.1 t.2 (ap not (sym w.value-is ∙ c.if-places_sound.true)))
      | else-room-x-2 w ↦ absurd (grind arith)
    ]

pub returns-else-places_sound : goal.returns-else-places_sound
returns-else-places_sound c =
    let a = c.args in
    let e = chart_lent a.env.now in
    elim c.if-room-x-2.branch [
      | then-room-x-2 w ↦
          let t = w.if-room-x-2.true in
          c.if-places_sound.false
          ∙ laws.read_bad e a.h.now a.bs.now c.room_of-room.ensures c.read_header-x.ensures c.book_words.ensures t.0
          w.places_sound.ensures t.1 t.2 (ap not (sym w.value-is ∙ c.if-places_sound.false))
      | else-room-x-2 w ↦
          let short = laws.read_short e a.h.now a.bs.now c.room_of-room.ensures c.read_header-x.ensures c.book_words.ensures in
          let nodes = laws.read_nodes e a.h.now a.bs.now c.room_of-room.ensures c.read_header-x.ensures in
          let kids = laws.read_children e a.h.now a.bs.now c.room_of-room.ensures c.read_header-x.ensures in
          let bad : false ≡ lent_book_sound e (room_alone a.h.now) (lent_book_of a.bs.now) = grind (arith, nat_tests, short, nodes, kids, w.if-room-x-2.either) in
          c.if-places_sound.false ∙ bad
    ]
