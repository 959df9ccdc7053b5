-- `sheet_lines::next_place` meets its contract: the first place from there on where the byte stands, or the end.
-- Assumes nothing.
use mathlib.Core.Path.{◌≡◌, ap, ◌∙◌}
use Prim.Native.Nat.{ℕ}
use lib.ListN.{get_or}
use borrow.Author.Rules.{rules}
use borrow.Author.Tests.{tests}
use Rattle.std.specs.Option.{unwrap_or}
use Rattle.std.proofs.lemmas.Iterator.{first_from_Range}
use Rattle.sheet_lines.proofs.Laws.{place_found}
use Rattle.sheet_lines.proofs.next_place.Goals as goal

pub returns : goal.returns
returns c =
    let s = c.args.s.now in
    let b = c.args.byte in
    let here = λ (k : ℕ). get_or s k 0 ≡ b in
    let first = first_from_Range _ _ _ c.find.result here (λ (k : ℕ). here k → ⊥) c.find.ensures.ran (λ x q k. search (rules, tests)) (λ x q k. search (rules, tests)) in
    c.unwrap_or.ensures ∙ (ap (unwrap_or c.find.result) c.max.ensures ∙ place_found b s c.args.from c.find.result first)
