-- `show_parts::put_lead` meets its contract: a ~ or none, and the pieces one after the other.
-- Assumes nothing.
use Rattle.chart.specs.Env.{env_by}
use Rattle.append.proofs.Laws.{puts_then}
use Rattle.show_parts.specs.Parts.{lead_of, own_name}
use Rattle.show_parts.proofs.Laws.{lead_tuple, lead_plain, lead_closure}
use Rattle.show_parts.proofs.put_lead.Goals as goal

pub returns-then-k-eq-FN : goal.returns-then-k-eq-FN
unfolding lead_of
returns-then-k-eq-FN c = puts_then c.put_tilde.ensures (rw c.if-k-eq-FN.true c.put_function.ensures)

pub returns-then-k-eq-TUPLE : goal.returns-then-k-eq-TUPLE
returns-then-k-eq-TUPLE c =
    let a = c.args in
    puts_then c.put_tilde.ensures (rw (lead_tuple (env_by a.env.now) a.k c.if-k-eq-TUPLE.true, ← c.front.ensures) c.put.ensures)

pub returns-then-k-ne-CLOSURE : goal.returns-then-k-ne-CLOSURE
unfolding own_name
returns-then-k-ne-CLOSURE c =
    let a = c.args in
    let pieces = puts_then c.put.ensures (puts_then c.put_name.ensures c.put-2.ensures) in
    puts_then c.put_tilde.ensures
    (rw (lead_plain (env_by a.env.now) a.k c.if-k-eq-FN.false c.if-k-ne-CLOSURE.true, ← c.front.ensures, ← c.own_name.ensures, ← c.back.ensures) pieces)

pub returns : goal.returns
unfolding own_name
returns c =
    let a = c.args in
    let numbered = puts_then c.put_decimal.ensures c.put-3.ensures in
    let pieces = puts_then c.put.ensures (puts_then c.put_name.ensures (puts_then c.put-2.ensures numbered)) in
    puts_then c.put_tilde.ensures
    (rw (lead_closure (env_by a.env.now) a.k c.if-k-ne-CLOSURE.false, ← c.front.ensures, ← c.own_name.ensures, ← c.back.ensures) pieces)
