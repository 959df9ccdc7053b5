-- `book::put_name` meets its contract. The invariant: the first i bytes are written and the words behind them are as they were, which are zeros.
-- Assumes nothing.
use mathlib.Core.Path.{◌≡◌, ◌∙◌, ap}
use native.Mathlib.Omega.{arith}
use Prim.Native.Nat.{ℕ}
use mathlib.Core.List.{List}
use borrow.Author.Rules.{rules}
use borrow.Rule.Slice.PartMut.{put_mid, same_len_mid}
use lib.ListN.{length, set, take, drop, replicate, length-set, length-drop}
use lib.Seq.{length-take-le}
use Rattle.scope.specs.Limits.{MAX_STATE_NAME}
use Rattle.book.proofs.Search.{bytes_put, put_byte, put_bytes_end}
use Rattle.book.proofs.put_name.Goals as goal

pub loop-i-preserved : goal.loop-i-preserved
loop-i-preserved c = let a = c.args in
    let ps : List ℕ = set a.ps.now 0 (length a.name.now) in
    let l = length-set a.ps.now 0 (length a.name.now) in
    let long = same_len_mid 1 MAX_STATE_NAME ps c.fill.new.self c.fill.ensures.len in
    let filled = put_mid 1 MAX_STATE_NAME ps c.fill.new.self in
    rw (c.from.ensures, c.loop-i.invariant) (put_byte filled a.name.now c.loop-i.i (omega (arith, long, l, c.requires.words, c.requires.bytes, c.loop-i-test.true)))

pub returns : goal.returns
returns c = let a = c.args in
    let i : c.loop-i.i ≡ length a.name.now = omega (arith, c.loop-i.auto.i-end, c.loop-i-test.false) in
    let ps : List ℕ = set a.ps.now 0 (length a.name.now) in
    let l = length-set a.ps.now 0 (length a.name.now) in
    let long : length (take MAX_STATE_NAME (drop 1 ps)) ≡ MAX_STATE_NAME = length-take-le MAX_STATE_NAME (drop 1 ps) (omega (arith, length-drop 1 ps, l, c.requires.words)) in
    let zs : c.fill.new.self ≡ replicate (length (take MAX_STATE_NAME (drop 1 ps))) 0 = search rules in
    let filled = put_mid 1 MAX_STATE_NAME ps c.fill.new.self in
    c.loop-i.invariant ∙ (ap (bytes_put filled a.name.now) i ∙ put_bytes_end a.ps.now a.name.now c.requires.words c.requires.bytes (zs ∙ ap (λ k. replicate k 0) long))
