-- `append::put` meets its contract: where the text has not outgrown the buffer, the piece, or as much of it as there is room for, is copied to what is left.
-- Assumes nothing.
use mathlib.Core.Path.{◌≡◌, refl, sym, ◌∙◌}
use Prim.Native.Nat.{◌-◌, ◌≤◌}
use native.Mathlib.Omega.{arith}
use borrow.Author.Rules.{rules}
use lib.ListN.{length, take}
use lib.Seq.{take_all}
use Rattle.append.proofs.Laws as laws
use Rattle.append.proofs.put.Goals as goal
use Rattle.append.proofs.put.Goals.{then-is_full-via-then-is_full, then-is_full-via-else-is_full+then-is_empty}

pub returns-then-is_full : goal.returns-then-is_full
returns-then-is_full c =
    elim c.then-is_full.branch [
      | then-is_full-via-then-is_full w ↦ laws.puts_full _ _ (laws.is_over c.is_full.ensures w.if-is_full.true)
      | then-is_full-via-else-is_full+then-is_empty w ↦ laws.puts_nothing _ _ (sym w.is_empty.ensures ∙ w.if-is_empty.true)
    ]

pub returns-then-room-piece : goal.returns-then-room-piece
returns-then-room-piece c =
    let out = c.args.out.now in
    let piece = c.args.piece.now in
    let room : out.at ≤ length out.buf.now = laws.has_room c.is_full.ensures c.if-is_full.false in
    let n = length out.buf.now - out.at in
    let copy = c.copy_from_slice in
    record {
      text =
          laws.append_cut out.buf.now out.at piece n _ _ (omega (arith, room)) (omega arith)
          (laws.part_copied out.buf.now out.at piece n _ copy.new.self refl copy.ensures.after)
          (search rules);
      same = refl;
      long = search rules;
    }

pub returns : goal.returns
returns c =
    let out = c.args.out.now in
    let piece = c.args.piece.now in
    let room : out.at ≤ length out.buf.now = laws.has_room c.is_full.ensures c.if-is_full.false in
    let n = length piece in
    let copy = c.copy_from_slice-2 in
    let whole : piece ≡ take n piece = sym (take_all n piece (omega arith)) in
    record {
      text =
          laws.append_copied out.buf.now out.at piece n _ _ (omega (arith, room)) refl
          (laws.part_copied out.buf.now out.at piece n _ copy.new.self (omega arith) (copy.ensures.after ∙ whole))
          refl;
      same = refl;
      long = search rules;
    }
