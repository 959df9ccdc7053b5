-- `recall::clear` meets its contract: the part that is filled is the entries' words.
-- Assumes nothing.
use Rattle.std.proofs.Common.{arith, rules, ◌≡◌, ◌-◌, List, ℕ, [], drop, replicate, length}
use mathlib.Core.List.{append-nil}
use lib.ListN.{drop_of_length-le, length-drop}
use Rattle.std.proofs.lemmas.List.{places}
use Rattle.recall.proofs.Laws.{zero_from}
use Rattle.recall.proofs.clear.Goals as goal

pub returns : goal.returns
returns c =
    let m : List ℕ = c.args.m.now in
    let e : c.fill.new.self ≡ replicate (length m - 131) 0 = search rules in
    let z : drop (length m - 131) (drop 131 m) ≡ [] = drop_of_length-le (drop 131 m) {i = length m - 131} (omega (arith, length-drop 131 m)) in
    record { zero = λ i h. rw (e, z, append-nil) (zero_from 131 (length m - 131) i m h); head = λ i h. search (rules, places) }
