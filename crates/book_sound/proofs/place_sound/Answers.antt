-- `book_sound::place_sound` meets its contract: each test has its law, and what is left at last is whether the store that is held is sound.
-- Assumes nothing.
use mathlib.Core.Path.{◌≡◌, sym, ap, ◌∙◌}
use mathlib.Core.Bool.{true, false}
use Prim.Native.Nat.{◌≤◌}
use Rattle.std.proofs.Common.{arith}
use Rattle.std.proofs.lemmas.Bool.Decides.{nat_tests}
use Rattle.scope.specs.Limits.{MAX_NODES, MAX_CHILDREN}
use Rattle.chart.specs.Env.{chart_lent}
use Rattle.layout.specs.Meaning.{header_in}
use Rattle.book.specs.Words.{name_length_in, name_words_clean}
use Rattle.book_sound.specs.Tests.{place_ok}
use Rattle.book_sound.proofs.PlaceLaws.{ok_free, ok_name, ok_nodes, ok_children, ok_node_count, ok_child_count, ok_sound}
use Rattle.book_sound.proofs.place_sound.Goals as goal

pub returns-then-name_length-eq0 : goal.returns-then-name_length-eq0
returns-then-name_length-eq0 c = let a = c.args in
    let e = chart_lent a.env.now in
    let l = c.name_length.ensures in
    sym (ok_free e a.room.nodes a.room.children a.ps.now (sym l ∙ c.if-name_length-eq0.true))

pub returns-then-x-2 : goal.returns-then-x-2
returns-then-x-2 c = let a = c.args in
    let e = chart_lent a.env.now in
    let l = c.name_length.ensures in
    let held : name_length_in a.ps.now ≡ 0 → ⊥ = λ q. c.if-name_length-eq0.false (l ∙ q) in
    let x = c.read_header-x.result in
    let g = c.read_header-x.ensures ∙ ap header_in c.head_of.ensures in
    let s = rw (c.head_of-then-x-2.ensures, c.nodes_of.ensures, c.kids_of.ensures) at c.store_sound.ensures in
    let name : name_words_clean a.ps.now ≡ true = grind arith in
    let few : a.room.nodes ≤ MAX_NODES = grind (arith, nat_tests) in
    let small : a.room.children ≤ MAX_CHILDREN = grind (arith, nat_tests) in
    let nodes : x.node_room ≡ x.nodes = grind arith in
    let kids : x.child_room ≡ x.children = grind arith in
    s ∙ sym (ok_sound e a.room.nodes a.room.children a.ps.now held x g c.requires name few small nodes kids)

pub returns-else-x-2 : goal.returns-else-x-2
returns-else-x-2 c = let a = c.args in
    let e = chart_lent a.env.now in
    let l = c.name_length.ensures in
    let held : name_length_in a.ps.now ≡ 0 → ⊥ = λ q. c.if-name_length-eq0.false (l ∙ q) in
    let x = c.read_header-x.result in
    let g = c.read_header-x.ensures ∙ ap header_in c.head_of.ensures in
    let name = ok_name e a.room.nodes a.room.children a.ps.now held in
    let few = ok_nodes e a.room.nodes a.room.children a.ps.now held in
    let small = ok_children e a.room.nodes a.room.children a.ps.now held in
    let nodes = ok_node_count e a.room.nodes a.room.children a.ps.now held x g in
    let kids = ok_child_count e a.room.nodes a.room.children a.ps.now held x g in
    let bad : place_ok e a.room.nodes a.room.children a.ps.now ≡ false = grind (arith, nat_tests, name, few, small, nodes, kids) in
    c.if-x-2.false ∙ sym bad
