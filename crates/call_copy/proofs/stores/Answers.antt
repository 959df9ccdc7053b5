-- `call_copy::stores` meets its contract: 2 and 8 come first, and the source is asked with the chart that passed them.
-- Assumes nothing.
use Rattle.call_copy.proofs.Laws.{stores_source, stores_pass}
use Rattle.call_copy.proofs.stores.Goals as goal

pub returns-then-not-store_sound : goal.returns-then-not-store_sound
returns-then-not-store_sound c = stores_source c.args.env.now _ _ _ _ _ _ c.in_ok-lent.ensures c.store_sound.ensures c.if-not-store_sound.true

pub returns : goal.returns
returns c = stores_pass c.args.env.now _ _ _ _ _ _ c.in_ok-lent.ensures c.store_sound.ensures c.if-not-store_sound.false
