-- `meeting::seek` meets its contract: the names are compared one after the other.
-- Assumes nothing.
use mathlib.Core.Path.{◌≡◌}
use mathlib.Core.Bool.{true, false}
use Prim.Native.Nat.{ℕ}
use borrow.Author.Rules.{rules}
use borrow.Author.Tests.{tests}
use Rattle.std.proofs.lemmas.Iterator.{first_from_Range}
use Rattle.scope.specs.Names.{bytes, eq_bytes}
use Rattle.names.specs.Place.{name_of, texts_by}
use Rattle.meeting.specs.Kids.{nth}
use Rattle.meeting.proofs.KidLaws.{child_type, child_name, seek_over, seek_here}
use Rattle.meeting.proofs.seek.Goals as goal

pub returns : goal.returns
returns c =
    let x = texts_by c.args.texts.now in
    let same = λ (t : ℕ). eq_bytes (bytes x (name_of c.args.name)) (nth x c.args.ks.now c.args.b t) in
    let first = first_from_Range _ _ _ c.find.result (λ (t : ℕ). same t ≡ true) (λ (t : ℕ). same t ≡ false) c.find.ensures.ran
    (λ t q k. search (rules, tests, child_name)) (λ t q k. search (rules, tests, child_name)) in
    let there = rw c.in_ok-j.was at first in
    seek_here x _ _ _ _ there.1 there.2 there.3 (child_type c.child_of.ensures)

pub returns-in_err-j : goal.returns-in_err-j
returns-in_err-j c =
    let x = texts_by c.args.texts.now in
    let same = λ (t : ℕ). eq_bytes (bytes x (name_of c.args.name)) (nth x c.args.ks.now c.args.b t) in
    let first = first_from_Range _ _ _ c.find.result (λ (t : ℕ). same t ≡ true) (λ (t : ℕ). same t ≡ false) c.find.ensures.ran
    (λ t q k. search (rules, tests, child_name)) (λ t q k. search (rules, tests, child_name)) in
    rw c.from_residual.ensures (seek_over x _ _ _ _ (rw c.in_err-j.was at first))
