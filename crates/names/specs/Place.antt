-- A name of the code as a name of scope's definitions, and the two lent slices as its texts.
use Rattle.std.specs.Prelude.{List, ℕ}
use Rattle.scope.specs.Names.{Texts, name}
use Rattle.scope.specs.Names as scope
use Rattle.names.specs.declared.Name.{Name}
use Rattle.names.specs.declared.Texts as lent

abbrev pub texts : List ℕ → List ℕ → Texts
texts r c = record { rule = r; chart = c }

-- the texts that are lent
abbrev pub texts_by : lent.Texts → Texts
texts_by t = texts t.rule.now t.chart.now

abbrev pub name_of : Name → scope.Name
name_of n = name n.text n.start n.len

-- the code's name of three numbers; where there is no name they are zeros
abbrev pub name_from : ℕ → ℕ → ℕ → Name
name_from x i n = record { text = x; start = i; len = n }

abbrev pub no_name : Name
no_name = name_from 0 0 0
