-- `marks::open_marks` meets its contract: the marks' words are filled with zeros, as far as there are any.
-- Assumes nothing.
use Rattle.std.proofs.Common.{arith, rules, ◌≡◌, ◌-◌, List, ℕ, replicate}
use borrow.Rule.Slice.PartMut.{put_mid}
use Rattle.std.proofs.lemmas.List.{places}
use Rattle.marks.proofs.Laws.{Opening, opened}
use Rattle.marks.proofs.open_marks.Goals as goal

pub returns : goal.returns
returns c =
    let m : List ℕ = c.args.m.now in
    let a : ℕ = c.min.result in
    let e : ℕ = c.min-2.result in
    let w : List ℕ = put_mid a (e - a) m c.fill.new.self in
    let z : c.fill.new.self ≡ replicate (e - a) 0 = search rules in
    let o : Opening m w = record {
      zero = λ j h g. grind (arith, places, z);
      beside = record { before = λ j h. grind (arith, places, z); after = λ j h. grind (arith, places, z) };
    } in
    opened o c.put.ensures
