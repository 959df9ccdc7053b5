-- A store's used words, kept in other slices and put back. Kept words are a store of their own, whose capacities are its counts; put back, it has the
-- capacities and the report count of the store whose place it takes.
use Rattle.std.specs.Prelude.{◌≡◌, true, List, ◌++◌, ℕ, ◌≤◌, length, take, drop}
use Rattle.scope.specs.Nodes.{Store}
use Rattle.scope.specs.States.{keep_reports}
use Rattle.layout.specs.Words.{HEAD_WORDS, node_words, child_words, nodes_made, children_made, node_room, child_room}
use Rattle.layout.specs.Words as words
use Rattle.layout.specs.Meaning.{header_in}
use Rattle.layout.specs.declared.Header.{Header}
use Rattle.book.specs.Words.{with_room}
use Rattle.make.specs.Header.{cleared}

-- the first n words of `from`, and behind them what `to` has there
abbrev pub copied : ℕ → List ℕ → List ℕ → List ℕ
copied n from to = take n from ++ drop n to

-- both lists have n words
pub record Copyable (n : ℕ) (from to : List ℕ) : Type 0 where
  pub source : n ≤ length from
  pub target : n ≤ length to

-- the first n words of `from`, in place of the first `used` of `to`: where these are more, the others are 0
abbrev pub replaced : ℕ → ℕ → List ℕ → List ℕ → List ℕ
replaced used n from to = copied n from (cleared to used)

pub record Replaceable (used n : ℕ) (from to : List ℕ) : Type 0 where
  pub copyable : Copyable n from to
  pub clearable : used ≤ length to

-- a head with its counts as its capacities
abbrev pub kept_header : Header → Header
kept_header x = record {
  nodes = x.nodes;
  children = x.children;
  node_room = x.nodes;
  child_room = x.children;
  error = x.error;
  nil = x.nil;
  reports = x.reports;
}

-- the head p put back over x: the capacities and the report count are x's
abbrev pub header_back : Header → Header → Header
header_back x p = record {
  nodes = p.nodes;
  children = p.children;
  node_room = x.node_room;
  child_room = x.child_room;
  error = p.error;
  nil = p.nil;
  reports = x.reports;
}

-- ph pn pk have the used words of the store in h ws ks, whatever lies behind them
pub record Keeps (h ws ks ph pn pk : List ℕ) : Type 0 where
  pub head : header_in ph ≡ kept_header (header_in h)
  pub nodes : take (node_words (nodes_made h)) pn ≡ take (node_words (nodes_made h)) ws
  pub kids : take (child_words (children_made h)) pk ≡ take (child_words (children_made h)) ks
  pub head_len : HEAD_WORDS ≤ length ph
  pub node_len : node_words (nodes_made h) ≤ length pn
  pub child_len : child_words (children_made h) ≤ length pk

-- the store in ph pn pk can be put back over the one in h ws ks: both are clean, and it is within the capacities
pub record BackReady (h ws ks ph pn pk : List ℕ) : Type 0 where
  pub clean : words.clean h ws ks ≡ true
  pub kept : words.clean ph pn pk ≡ true
  pub nodes : nodes_made ph ≤ node_room h
  pub children : children_made ph ≤ child_room h

-- the store p put back over s
abbrev pub store_back : Store → Store → Store
store_back s p = keep_reports s (with_room s.node_room s.child_room p)
