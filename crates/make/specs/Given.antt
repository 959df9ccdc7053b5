-- What `new_kind` is given, and the kind that it means. Its children are lent as entries, each as it lies in a store.
use Rattle.std.specs.Prelude.{◌≡◌, List, true, ℕ, ◌+◌, ◌<◌, drop}
use Rattle.scope.specs.Nodes as nodes
use Rattle.layout.specs.Words.{child_words, slot_at}
use Rattle.layout.specs.Meaning.{kind_means, kind_fits, Kept}
use Rattle.layout.specs.declared.Kind.{Kind}
use Rattle.store.specs.Holds.{Ready}
use Rattle.store.specs.Entries.{entry_count}

-- the kind with n children from `first` on, wherever its own lie
abbrev pub kind_at : Kind → ℕ → ℕ → Kind
kind_at k first n = record {
  code = k.code;
  number = k.number;
  dual = k.dual;
  flex = k.flex;
  name = k.name;
  first = first;
  count = n;
}

-- a kind whose children are all the entries
abbrev pub kind_over : Kind → List ℕ → Kind
kind_over k es = kind_at k 0 (entry_count es)

abbrev pub kind_given : Kind → List ℕ → nodes.Kind
kind_given k es = kind_means es (kind_over k es)

-- the slices have room for the kind, and names that it does not have are zeros
pub record KindReady (h ws ks : List ℕ) (k : Kind) (es : List ℕ) : Type 0 where
  pub ready : Ready h ws ks 1 (entry_count es)
  pub fits : kind_fits es (entry_count es) (kind_over k es) ≡ true

-- the first n entries stand from `first` on; the children before and the words after are as they were
pub record Put (es : List ℕ) (first n : ℕ) (ks ks' : List ℕ) : Type 0 where
  pub put : (i : ℕ) → i < n → slot_at ks' (first + i) ≡ slot_at es i
  pub before : Kept first ks ks'
  pub after : drop (child_words (first + n)) ks' ≡ drop (child_words (first + n)) ks
