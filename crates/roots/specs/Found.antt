-- What `find` and `find_mut` say of node words: the root that scope's `find` gives, and the nodes that scope's `find_mut` leaves, whatever the children's
-- words ks are, since a parent is no child of a kind. The words are the n nodes in ws, before, and in ws', after.
use Rattle.std.specs.Prelude.{◌≡◌, List, ℕ, ◌+◌, ◌*◌, ◌<◌, length, get_or, drop}
use Rattle.scope.specs.Types.{ty_of}
use Rattle.scope.specs.Nodes.{find, find_mut}
use Rattle.types.specs.declared.«Type».{«Type»}
use Rattle.layout.specs.Words.{NODE_WORDS, node_words, node_field, decode}
use Rattle.layout.specs.Meaning.{CHILD_TAG, Clean, Linked}
use Rattle.layout.specs.declared.Nodes.{Nodes}
use Rattle.std.specs.Prelude.{Some}
use Rattle.std.specs.declared.option.Option as option

-- the root of a type that is near it
abbrev pub Nearby : Type 0
Nearby = option.Option «Type»

-- the word r holds the root of the type in the word t
pub record Found (ws : List ℕ) (n t r : ℕ) : Type 0 where
  pub root : (ks : List ℕ) → ty_of r ≡ find (decode ws ks n) (ty_of t)

-- the same of the nodes that are lent
abbrev pub FoundIn : Nodes → ℕ → ℕ → Type 0
FoundIn s t r = Found s.words.now s.made t r

-- words with some children's links changed, and nothing else
pub record Relinked (ws : List ℕ) (n : ℕ) (ws' : List ℕ) : Type 0 where
  pub long : length ws' ≡ length ws
  pub tail : drop (node_words n) ws' ≡ drop (node_words n) ws
  pub others : (p : ℕ) → ((i : ℕ) → i < n → node_field ws i 0 ≡ CHILD_TAG → p ≡ i * NODE_WORDS + 1 → ⊥) → get_or ws' p 0 ≡ get_or ws p 0
  pub linked : Linked ws' n
  pub clean : (ks : List ℕ) (c : ℕ) → Clean ws ks c n → Clean ws' ks c n

pub record FoundMut (ws : List ℕ) (n : ℕ) (ws' : List ℕ) (t r : ℕ) : Type 0 where
  pub root : (ks : List ℕ) → ty_of r ≡ find (decode ws ks n) (ty_of t)
  pub nodes : (ks : List ℕ) → decode ws' ks n ≡ find_mut (decode ws ks n) (ty_of t)
  pub words : Relinked ws n ws'

-- told the root of the type in the word t, its `find_mut` leaves the nodes as they are
pub record Near (ws : List ℕ) (n t : ℕ) (q : Nearby) : Type 0 where
  pub found : (r : «Type») → q ≡ Some r → Found ws n t r.0
  pub stays : (r : «Type») → q ≡ Some r → (ks : List ℕ) → find_mut (decode ws ks n) (ty_of t) ≡ decode ws ks n
