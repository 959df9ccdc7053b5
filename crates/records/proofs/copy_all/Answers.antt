-- `records::copy_all` meets its contract: each turn stores one record's words, and all of them are what is loaded.
-- Assumes nothing.
use mathlib.Core.Path.{◌≡◌, sym, ap, ◌∙◌}
use Prim.Native.Nat.{◌*◌}
use native.Mathlib.Omega.{arith}
use lib.ListN.{length, get_or}
use lib.Seq.{sets}
use Rattle.chart.specs.Words.{RECORD_WORDS}
use Rattle.records.specs.Loaded.{no_record, numbers}
use Rattle.records.proofs.Laws.{stored, stored_none, stored_more, stored_all}
use Rattle.records.proofs.copy_all.Goals as goal

pub loop-i-init : goal.loop-i-init
loop-i-init c = sym (stored_none c.args.words.now c.args.records.now)

pub loop-i-preserved : goal.loop-i-preserved
loop-i-preserved c = let a = c.args in
    let e = ap (λ l. sets l (c.loop-i.i * RECORD_WORDS) (numbers (get_or a.records.now c.loop-i.i no_record))) c.loop-i.invariant in
    c.put_record.ensures ∙ (e ∙ sym (stored_more a.words.now a.records.now c.loop-i.i))

pub returns : goal.returns
returns c = let a = c.args in
    let all : c.loop-i.i ≡ length a.records.now = omega arith in
    c.loop-i.invariant ∙ (ap (stored a.words.now a.records.now) all ∙ stored_all a.words.now a.records.now c.requires)
