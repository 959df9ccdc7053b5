-- "Trees": finite trees, their inversion, and what it is for trees given to nodes to fit.
use Rattle.std.specs.Prelude.{◌≡◌, List, [], ◌∷◌, map, Bool, true, false, not, ◌&&◌, ◌||◌, ℕ, zero, suc, eqb, ltb, length}
use Rattle.scope.specs.Base.{pick}
use Rattle.scope.specs.Limits.{KINDS}
use Rattle.scope.specs.Names.{Texts, bytes_or, ascending}
use Rattle.scope.specs.Chart.{Env, sort_at}
use Rattle.scope.specs.Types.{Ty}
use Rattle.scope.specs.Kinds.{Head, Row, row_of, dual_by, flag_of, shape_fits, number_ok, OBJECT, KEY, DEFINITION}
use Rattle.scope.specs.Nodes.{Kind, State, Known, Unknown, InferenceFailed, Node, Root, Child, at}

-- "a kind with its numbers" "and names": what of a kind a tree has. "A Param's name and a Closure's names and `Flex` are no part of a tree"
pub record TreeHead : Type 0 where
  pub code : ℕ
  pub number : ℕ
  pub names : List (List ℕ)

-- "child trees, and an inversion mark if the kind is not self-dual"
mutual
  pub data Tree : Type 0 where
    node : TreeHead → Bool → Forest → Tree

  pub data Forest : Type 0 where
    fnil : Forest
    fcons : Tree → Forest → Forest

-- the names that a tree has: an Object's and a Key's
abbrev pub has_names : ℕ → Bool
has_names c = eqb c OBJECT || eqb c KEY

unfoldable pub tree_head : Texts → Head → TreeHead
tree_head x h = record { code = h.code; number = h.number; names = pick (has_names h.code) (map (bytes_or x) h.names) [] }

-- self-dual, "as the chart's flag says"
unfoldable pub tree_dual : Env → TreeHead → Bool
tree_dual e h = dual_by (row_of h.code).dual (flag_of e h.code h.number)

-- "Inverting a self-dual kind inverts each child; inverting another flips its mark"
unfoldable mutual
  pub invert : Env → Tree → Tree
  invert e (node h m ts) = pick (tree_dual e h) (node h m (inverts e ts)) (node h (not m) ts)

  pub inverts : Env → Forest → Forest
  inverts e fnil = fnil
  inverts e (fcons t ts) = fcons (invert e t) (inverts e ts)

abbrev pub trees : Forest → ℕ
trees fnil = zero
trees (fcons t ts) = suc (trees ts)

-- the names are an Object's, strictly ascending, one for each child; a Key's one name; none
abbrev pub tree_names_ok : ℕ → List (List ℕ) → ℕ → Bool
tree_names_ok c ns n =
    pick (eqb c OBJECT) (eqb (length ns) n && ascending ns) (eqb (length ns) (pick (eqb c KEY) 1 0))

-- "a definition's is in the chart, of the kind's sort"
abbrev pub tree_defined : Env → TreeHead → Bool
tree_defined e h =
    let r : Row = row_of h.code in
    let s : ℕ = sort_at e h.number in
    pick (eqb r.number DEFINITION) (eqb s r.sort || eqb s r.other) (number_ok r.number h.number)

-- one of the fifteen kinds, with as many children as its row says
abbrev pub head_proper : Env → TreeHead → ℕ → Bool
head_proper e h n =
    ltb h.code KINDS && (shape_fits (row_of h.code).shape n && (tree_names_ok h.code h.names n && tree_defined e h))

-- what is a tree: each head is a kind's, and only kinds that are not self-dual are marked
unfoldable mutual
  pub proper : Env → Tree → Bool
  proper e (node h m ts) = head_proper e h (trees ts) && (not (m && tree_dual e h) && propers e ts)

  pub propers : Env → Forest → Bool
  propers e fnil = true
  propers e (fcons t ts) = proper e t && propers e ts

-- trees given to nodes
abbrev pub Val : Type 0
Val = ℕ → Tree

abbrev pub Proper : Env → Val → Type 0
Proper e v = (n : ℕ) → proper e (v n) ≡ true

abbrev pub invert_if : Env → Bool → Tree → Tree
invert_if e false t = t
invert_if e true t = invert e t

-- "A type's tree is its node's, inverted if its bit is set"
abbrev pub val : Env → Val → Ty → Tree
val e v t = invert_if e t.inv (v t.idx)

abbrev pub vals : Env → Val → List Ty → Forest
vals e v [] = fnil
vals e v (t ∷ ts) = fcons (val e v t) (vals e v ts)

-- "its kind over its children's trees"
unfoldable pub build : Env → Val → Kind → Tree
build e v k = node (tree_head e.texts k.head) false (vals e v k.kids)

-- "inverted if the state says so"
abbrev pub StateFits : Env → Val → State → Tree → Type 0
StateFits e v (Known i k) t = t ≡ invert_if e i (build e v k)
StateFits e v (Unknown p) t = Unit {0}
StateFits e v InferenceFailed t = Unit {0}

-- "each Known root's tree is its kind over its children's trees", "and each child's tree is its parent type's"
abbrev pub NodeFits : Env → Val → ℕ → Node → Type 0
NodeFits e v n (Root st z) = StateFits e v st (v n)
NodeFits e v n (Child t) = v n ≡ val e v t

-- trees fit a store
abbrev pub Fits : Env → Val → List Node → Type 0
Fits e v ns = (n : ℕ) → NodeFits e v n (at ns n)

-- "they fit a pair if its two types' trees are equal"
abbrev pub PairFits : Env → Val → Ty → Ty → Type 0
PairFits e v a b = val e v a ≡ val e v b
