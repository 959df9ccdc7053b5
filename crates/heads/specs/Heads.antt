-- The header with other counts, and the words of a slot that is not used.
use Rattle.std.specs.Prelude.{List, ◌∷◌, ℕ, drop}
use Rattle.layout.specs.Meaning.{words_of, plain_cell, Remembered}
use Rattle.layout.specs.declared.Header.{Header}
use Rattle.heads.specs.declared.Once.{Once}
use Rattle.heads.specs.declared.Once.TheVariants.{Error, Nil}

-- so many nodes and children made, and every other word as it is
unfoldable pub put_counts : List ℕ → ℕ → ℕ → List ℕ
put_counts h n c = n ∷ c ∷ drop 2 h

-- the same of what the words say
abbrev pub counted : Header → ℕ → ℕ → Header
counted x n c = record {
  nodes = n;
  children = c;
  node_room = x.node_room;
  child_room = x.child_room;
  error = x.error;
  nil = x.nil;
  reports = x.reports;
}

-- the type that a header remembers as such
abbrev pub remembered_by : Once → Header → Remembered
remembered_by Error x = x.error
remembered_by Nil x = x.nil

-- a slot's twelve words, all 0
abbrev pub no_words : List ℕ
no_words = words_of (plain_cell 0 0 0)
