-- Headers that the makers write, the words that they zero, and the one step that all of them share: a root is put behind the others and counted.
use Rattle.std.specs.Prelude.{◌≡◌, List, ◌++◌, false, ℕ, ◌+◌, ◌<◌, ◌≤◌, length, drop, replicate}
use Rattle.types.specs.declared.«Type».{«Type»}
use Rattle.layout.specs.Words.{HEAD_WORDS, node_words, nodes_made}
use Rattle.layout.specs.Meaning.{HALF, cell_words, header_in, put_at, put_header}
use Rattle.heads.specs.Heads.{no_words}
use Rattle.layout.specs.declared.Header.{Header}
use Rattle.layout.specs.Meaning.{Remembered}
use Rattle.std.specs.Prelude.{Some, None}
use Rattle.layout.specs.declared.TypeState.{TypeState}
use Rattle.layout.specs.declared.TypeState.TheVariants.{Known}
use Rattle.layout.specs.declared.TypeNode.TheVariants.{Root}
use Rattle.store.specs.Bare.{bare_kind}

-- the first e words are 0
abbrev pub cleared : List ℕ → ℕ → List ℕ
cleared xs e = replicate e 0 ++ drop e xs

-- a store without nodes
abbrev pub fresh : ℕ → ℕ → ℕ → Header
fresh n c r = record {
  nodes = 0;
  children = 0;
  node_room = n;
  child_room = c;
  error = None;
  nil = None;
  reports = r;
}

-- one node and c children more, with the remembered types e and n
abbrev pub grown : Header → ℕ → Remembered → Remembered → Header
grown x c e n = record {
  nodes = x.nodes + 1;
  children = x.children + c;
  node_room = x.node_room;
  child_room = x.child_room;
  error = e;
  nil = n;
  reports = x.reports;
}

-- other remembered types alone
abbrev pub with_remembered : Header → Remembered → Remembered → Header
with_remembered x e n = record {
  nodes = x.nodes;
  children = x.children;
  node_room = x.node_room;
  child_room = x.child_room;
  error = e;
  nil = n;
  reports = x.reports;
}

-- the slices have the words for it, and the counts stay within theirs
pub record Pushable (h ws : List ℕ) (x : Header) (c : ℕ) : Type 0 where
  pub head : HEAD_WORDS ≤ length h
  pub node_len : node_words (x.nodes + 1) ≤ length ws
  pub nodes : x.nodes + 1 < HALF
  pub children : x.children + c < HALF

-- the same, and the next node's words are 0
pub record BlankReady (h ws : List ℕ) (c : ℕ) : Type 0 where
  pub pushable : Pushable h ws (header_in h) c
  pub slot : cell_words ws (nodes_made h) ≡ no_words

-- the root with the state st is node x .nodes, and the header counts it
pub record Pushed (h ws h' ws' : List ℕ) (x : Header) (c : ℕ) (e n : Remembered) (st : TypeState) (t : «Type») : Type 0 where
  pub type : t.0 ≡ x.nodes
  pub nodes : ws' ≡ put_at ws (x.nodes + 1) x.nodes (Root st 1)
  pub head : h' ≡ put_header h (grown x c e n)

-- a type that is made once: it is remembered, or there are the words for one node more
pub record OnceReady (h ws : List ℕ) (x : Header) (was : Remembered) : Type 0 where
  pub head : HEAD_WORDS ≤ length h
  pub pushable : was ≡ None → Pushable h ws x 0

-- the type that was remembered and every word as found, or a root more whose kind has no children
pub record OnceMade (h ws h' ws' : List ℕ) (x : Header) (was e n : Remembered) (code : ℕ) (t : «Type») : Type 0 where
  pub same : (u : «Type») → was ≡ Some u → (t ≡ u) × ((h' ≡ h) × (ws' ≡ ws))
  pub new : was ≡ None → Pushed h ws h' ws' x 0 e n (Known (record { 0 = false }) (bare_kind code)) t
