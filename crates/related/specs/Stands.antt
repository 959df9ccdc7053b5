-- What a walk asks of the n nodes in ws whose children lie in ks. It is exact on any clean nodes.
use Rattle.std.specs.Prelude.{List, ℕ}
use Rattle.layout.specs.Meaning.{Clean}
use Rattle.layout.specs.declared.Nodes.{Nodes}

-- clean nodes, with so many children made
pub record Stands (ws ks : List ℕ) (n : ℕ) : Type 0 where
  pub made : ℕ
  pub clean : Clean ws ks made n

-- the same of the nodes that are lent
abbrev pub StandsIn : Nodes → Type 0
StandsIn s = Stands s.words.now s.kids.now s.made
