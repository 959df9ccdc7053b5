-- `book::same_name` meets its contract: a free place has no name, names of other lengths are others, and those of one length are compared word by word.
-- Assumes nothing.
use mathlib.Core.Path.{◌∙◌}
use mathlib.Core.Logic.{inl, inr}
use Prim.Native.Nat.{ℕ, ◌+◌}
use lib.Dec.{eqb}
use borrow.Author.Rules.{rules}
use borrow.Author.Tests.{tests}
use Rattle.std.proofs.lemmas.Iterator.{YieldsList-from_slice, YieldsList-from_zip}
use Rattle.std.proofs.lemmas.Iterator.Search.{all_from_yields_List}
use Rattle.layout.specs.Words.{between}
use Rattle.book.proofs.Names.{told_free, told_length, told_words}
use Rattle.book.proofs.same_name.Goals as goal
use Rattle.book.proofs.same_name.Goals.{then-length-ne0, else-length-ne0}

pub returns-then-length-name : goal.returns-then-length-name
returns-then-length-name c = let a = c.args in
    let told = c.if-length-name.true in
    all_from_yields_List (λ (p : ℕ × ℕ). eqb p.0 p.1) c.all.new.self _ _ c.all.ensures.ran
    (YieldsList-from_zip (YieldsList-from_slice (between a.ps.now 1 (c.name_length-length.result + 1)) cc) (YieldsList-from_slice a.name.now cc)) (λ x b q k. search (rules, tests))
    ∙ told_words a.ps.now a.name.now c.requires c.name_length-length.ensures told.0 told.1

pub returns-else-length-name : goal.returns-else-length-name
returns-else-length-name c = let a = c.args in
    let n = c.name_length-length.ensures in
    elim c.if-length-ne0.branch [
      | then-length-ne0 w ↦
          w.t-6-is
          ∙ told_length a.ps.now a.name.now c.requires n w.if-length-ne0.true
          (λ q. elim c.if-length-name.either [ inl p ↦ p.1 q | inr z ↦ w.if-length-ne0.true z ])
      | else-length-ne0 w ↦ w.t-6-is ∙ told_free a.ps.now a.name.now c.requires n w.if-length-ne0.false
    ]
