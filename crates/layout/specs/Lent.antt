-- What is lent of nodes as one.
use Rattle.std.specs.Prelude.{List}
use Rattle.scope.specs.Nodes.{Node}
use Rattle.layout.specs.Words.{decode}
use Rattle.layout.specs.Meaning.{Linked}
use Rattle.layout.specs.declared.Nodes.{Nodes}

abbrev pub nodes_by : Nodes → List Node
nodes_by s = decode s.words.now s.kids.now s.made

-- following parents needs no more of them
abbrev pub LinkedIn : Nodes → Type 0
LinkedIn s = Linked s.words.now s.made
