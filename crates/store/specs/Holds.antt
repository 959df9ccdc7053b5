-- What a call on three lent slices promises: they hold the store that scope's definition gives, and words past what the capacities need are as
-- they were. What it asks: the words are clean and have room.
use Rattle.std.specs.Prelude.{◌≡◌, true, List, ℕ, ◌+◌, ◌≤◌, length, drop}
use Rattle.scope.specs.Limits.{MAX_NODES, MAX_CHILDREN}
use Rattle.scope.specs.Nodes.{Store}
use Rattle.layout.specs.Words.{HEAD_WORDS, node_words, child_words, store_in}
use Rattle.layout.specs.Words as words

-- the slices are clean and hold the store s
pub record Holds (h ws ks : List ℕ) (s : Store) : Type 0 where
  pub clean : words.clean h ws ks ≡ true
  pub is : store_in h ws ks ≡ s

-- words past what n nodes and c children need stay
pub record Beyond (n c : ℕ) (h ws ks h' ws' ks' : List ℕ) : Type 0 where
  pub head : drop HEAD_WORDS h' ≡ drop HEAD_WORDS h
  pub nodes : drop (node_words n) ws' ≡ drop (node_words n) ws
  pub kids : drop (child_words c) ks' ≡ drop (child_words c) ks

-- the slices were h ws ks, and now hold s, of the same capacities
pub record Became (h ws ks h' ws' ks' : List ℕ) (s : Store) : Type 0 where
  pub holds : Holds h' ws' ks' s
  pub beyond : Beyond s.node_room s.child_room h ws ks h' ws' ks'

-- the slices can hold a store with n nodes and c children, whatever they hold now
pub record Openable (n c : ℕ) (h ws ks : List ℕ) : Type 0 where
  pub nodes : n ≤ MAX_NODES
  pub children : c ≤ MAX_CHILDREN
  pub head : HEAD_WORDS ≤ length h
  pub node_len : node_words n ≤ length ws
  pub child_len : child_words c ≤ length ks

-- the capacities are within the limits, and n nodes and c children more are within the capacities
pub record Room (s : Store) (n c : ℕ) : Type 0 where
  pub node_limit : s.node_room ≤ MAX_NODES
  pub child_limit : s.child_room ≤ MAX_CHILDREN
  pub nodes : length s.nodes + n ≤ s.node_room
  pub children : s.children + c ≤ s.child_room

-- the slices are clean, and the store that they hold has that room
pub record Ready (h ws ks : List ℕ) (n c : ℕ) : Type 0 where
  pub clean : words.clean h ws ks ≡ true
  pub room : Room (store_in h ws ks) n c
