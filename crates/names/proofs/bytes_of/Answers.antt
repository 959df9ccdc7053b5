-- `names::bytes_of` meets its contract: the part that the name says of the text that it selects. Assumes nothing.
use mathlib.Core.Path.{◌∙◌, ap}
use lib.ListN.{take, drop}
use Rattle.scope.specs.Names.{bytes}
use Rattle.names.proofs.bytes_of.Goals as goal

pub returns : goal.returns
unfolding bytes
returns c = let n = c.args.n in
    c.part.ensures ∙ ap (λ t. take n.len (drop n.start t)) c.text_of.ensures
