-- `sheet_lines::one_type` meets its contract: the tests stand in the definition's order, after that for a tuple.
-- Assumes nothing.
use Rattle.sheet_lines.proofs.Laws as laws
use Rattle.sheet_lines.proofs.one_type.Goals as goal

pub returns-then-same_bytes : goal.returns-then-same_bytes
returns-then-same_bytes c = let e1 = laws.said c.same_bytes.ensures c.if-same_bytes.true in
    record { beside = λ nt. record { means = rw (nt, e1); fits = laws.ref_fits _ } }
