-- Merging over words: a root that stays keeps all its words but its size's, and two roots without kinds merge at once.
use Rattle.std.specs.Prelude.{◌≡◌, Bool, true, false, ◌||◌, List, ℕ, ◌+◌, ◌≤◌, eqb, ltb, length, drop}
use Rattle.scope.specs.Base.{pick}
use Rattle.scope.specs.Types.{Ty}
use Rattle.scope.specs.Kinds.{TUPLE}
use Rattle.scope.specs.Nodes as nodes
use Rattle.layout.specs.Words.{node_words, decode}
use Rattle.layout.specs.Meaning.{read_at, put_at, Clean}
use Rattle.layout.specs.declared.TypeState.{TypeState}
use Rattle.layout.specs.declared.TypeState.TheVariants.{Known, Unknown, InferenceFailed}
use Rattle.layout.specs.declared.TypeNode.{TypeNode}
use Rattle.layout.specs.declared.TypeNode.TheVariants.{Root, Child}
use Rattle.merge.specs.declared.Rank.{Rank}
use Rattle.merge.specs.declared.Rank.TheVariants as rank
use Rattle.merge.specs.Meaning.{state_at, size_at, Adds, Bound}
use Rattle.std.specs.Prelude.{Some, None}
use Rattle.std.specs.declared.option.Option as option

-- the size of a root, if it has no kind
abbrev pub Bare : Type 0
Bare = option.Option ℕ

-- the size of a root without a kind

abbrev pub bare_by : TypeState → ℕ → Bare
bare_by (Known i k) z = None
bare_by (Unknown s) z = Some z
bare_by InferenceFailed z = Some z

abbrev pub bare_in : TypeNode → Bare
bare_in (Root st z) = bare_by st z
bare_in (Child t) = None

-- of node i of the n
abbrev pub bare_within : List ℕ → ℕ → ℕ → Bare
bare_within ws n i = pick (ltb i n) (bare_in (read_at ws n i)) None

-- a root without a kind
abbrev pub bare_node : nodes.Node → Bool
bare_node (nodes.Root (nodes.Known i k) z) = false
bare_node (nodes.Root (nodes.Unknown s) z) = true
bare_node (nodes.Root nodes.InferenceFailed z) = true
bare_node (nodes.Child t) = false

-- how much there is of a node: a root without a kind, one without children, or any other
abbrev pub rank_in : TypeNode → Rank
rank_in (Root (Known i k) z) = pick (eqb k.count 0) rank.Lone rank.More
rank_in (Root (Unknown s) z) = rank.Bare
rank_in (Root InferenceFailed z) = rank.Bare
rank_in (Child t) = rank.More

-- a root without children
abbrev pub lone_node : nodes.Node → Bool
lone_node (nodes.Root (nodes.Known i k) z) = eqb (length k.kids) 0
lone_node (nodes.Root (nodes.Unknown s) z) = true
lone_node (nodes.Root nodes.InferenceFailed z) = true
lone_node (nodes.Child t) = false

-- a Tuple of nothing
abbrev pub nil_node : nodes.Node → Bool
nil_node (nodes.Root (nodes.Known i k) z) = pick (eqb k.head.code TUPLE) (eqb (length k.kids) 0) false
nil_node (nodes.Root (nodes.Unknown s) z) = false
nil_node (nodes.Root nodes.InferenceFailed z) = false
nil_node (nodes.Child t) = false

-- ws' after ws: in clean words node i alone has changed, and it has its state still and the size z
pub record Resized (ws ws' : List ℕ) (n i z : ℕ) : Type 0 where
  pub tail : drop (node_words n) ws' ≡ drop (node_words n) ws
  pub put : (ks : List ℕ) (c : ℕ) → Clean ws ks c n → ws' ≡ put_at ws n i (Root (state_at ws n i) z)

-- z is the size of both together
pub record Sums (ws : List ℕ) (n : ℕ) (w l : Ty) (z : ℕ) : Type 0 where
  pub room : node_words n ≤ length ws
  pub sum : z ≡ size_at ws n w.idx + size_at ws n l.idx

-- y and z are the sizes
pub record Sized (ws : List ℕ) (n : ℕ) (a b : Ty) (y z : ℕ) : Type 0 where
  pub adds : Adds ws n a b
  pub first : y ≡ size_at ws n a.idx
  pub second : z ≡ size_at ws n b.idx

-- ws' after ws: two roots without children, of which one has no kind, became one
pub record Quick (ws ws' : List ℕ) (n : ℕ) (a b : Ty) : Type 0 where
  pub apart : a.idx ≡ b.idx → ⊥
  pub first : (ks : List ℕ) (c : ℕ) → Clean ws ks c n → lone_node (nodes.at (decode ws ks n) a.idx) ≡ true
  pub second : (ks : List ℕ) (c : ℕ) → Clean ws ks c n → lone_node (nodes.at (decode ws ks n) b.idx) ≡ true
  pub bare : (ks : List ℕ) (c : ℕ) → Clean ws ks c n
      → (bare_node (nodes.at (decode ws ks n) a.idx) || bare_node (nodes.at (decode ws ks n) b.idx)) ≡ true
  pub bound : Bound ws ws' n a b

-- told that they merged, they did; else nothing changed
pub record Tried (ws ws' : List ℕ) (n : ℕ) (a b : Ty) (r : Bool) : Type 0 where
  pub merged : r ≡ true → Quick ws ws' n a b
  pub stays : r ≡ false → ws' ≡ ws

-- told so, a and b are types of one nil
pub record OneNil (ws : List ℕ) (n : ℕ) (a b : Ty) (r : Bool) : Type 0 where
  pub one : r ≡ true → a.idx ≡ b.idx
  pub nil : r ≡ true → (ks : List ℕ) (c : ℕ) → Clean ws ks c n → nil_node (nodes.at (decode ws ks n) a.idx) ≡ true
