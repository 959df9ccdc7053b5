-- `sheet_lines::plain_line` meets its contract: a word that was found is that command's, and one that is none of them is none of the definition's.
-- Assumes nothing.
use Rattle.scope.specs.Text.{text}
use Rattle.scope.specs.Names.{eq_bytes}
use mathlib.Core.List.{[]}
use Rattle.sheet_lines.proofs.Laws as laws
use Rattle.sheet_lines.proofs.plain_line.Goals as goal

pub returns-then-same_bytes-3 : goal.returns-then-same_bytes-3
unfolding eq_bytes
returns-then-same_bytes-3 c =
    record { means = rw (laws.word_is c.args.w.now (text "never") c.same_bytes-else-same_bytes-2.ensures c.if-same_bytes-3.true); fits = laws.never_fits }

pub returns-then-same_bytes-4 : goal.returns-then-same_bytes-4
unfolding eq_bytes
returns-then-same_bytes-4 c =
    record { means = rw (laws.word_is c.args.w.now (text "default") c.same_bytes-else-same_bytes-3.ensures c.if-same_bytes-4.true); fits = laws.default_fits }

pub returns-then-same_bytes-7 : goal.returns-then-same_bytes-7
unfolding eq_bytes
returns-then-same_bytes-7 c =
    let is = laws.word_is c.args.w.now (text "tuple") c.same_bytes-else-same_bytes-6.ensures c.if-same_bytes-7.true in
    record { means = rw is; fits = laws.tuple_fits [] }
