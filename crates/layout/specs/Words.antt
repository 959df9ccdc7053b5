-- The layout: a store in three lent slices of numbers. `head` holds the counts, the capacities, the remembered types and the report count; `nodes`
-- twelve numbers for each node; `kids` four for each child. Numbers past what the capacities need are no part of the store.
use Rattle.std.specs.Prelude.{List, map, Bool, ◌&&◌, ℕ, ◌+◌, ◌*◌, ◌-◌, eqb, leb, length, get_or, take, drop}
use Rattle.std.proofs.Math.Option.{Option, none, some}
use Rattle.scope.specs.Base.{pick, all, from, is_some, or_else}
use Rattle.scope.specs.Limits.{NONE}
use Rattle.scope.specs.Types.{Ty, ty_of}
use Rattle.scope.specs.Nodes.{Node, Root, Unknown, Store}
use Rattle.scope.specs.Sound.{Slot, Cell, node_in, zeros, Lent, stray, reads}

abbrev pub HEAD_WORDS : ℕ
HEAD_WORDS = 8

abbrev pub NODE_WORDS : ℕ
NODE_WORDS = 12

abbrev pub CHILD_WORDS : ℕ
CHILD_WORDS = 4

-- how many words the capacities need
abbrev pub node_words : ℕ → ℕ
node_words n = n * NODE_WORDS

abbrev pub child_words : ℕ → ℕ
child_words c = c * CHILD_WORDS

-- field k of node i, and of child i
abbrev pub node_field : List ℕ → ℕ → ℕ → ℕ
node_field ws i k = get_or ws (i * NODE_WORDS + k) 0

abbrev pub child_field : List ℕ → ℕ → ℕ → ℕ
child_field ks i k = get_or ks (i * CHILD_WORDS + k) 0

-- a child's numbers: its type, and its name's text, start and length
abbrev pub slot_at : List ℕ → ℕ → Slot
slot_at ks i = record { type = child_field ks i 0; text = child_field ks i 1; start = child_field ks i 2; len = child_field ks i 3 }

-- n children from i on
abbrev pub slots : List ℕ → ℕ → ℕ → List Slot
slots ks i n = map (slot_at ks) (from i n)

-- a node's numbers: tag, link, size, inversion, code, number, flag, `Flex`, own name (text, start, length), number of children. A Known node's
-- link is the place of its first child
abbrev pub KNOWN_TAG : ℕ
KNOWN_TAG = 3

abbrev pub is_known_at : List ℕ → ℕ → Bool
is_known_at ws i = eqb (node_field ws i 0) KNOWN_TAG

abbrev pub first_at : List ℕ → ℕ → ℕ
first_at ws i = pick (is_known_at ws i) (node_field ws i 1) 0

abbrev pub count_at : List ℕ → ℕ → ℕ
count_at ws i = node_field ws i 11

unfoldable pub cell_at : List ℕ → List ℕ → ℕ → Cell
cell_at ws ks i = record {
  tag = node_field ws i 0;
  link = pick (is_known_at ws i) 0 (node_field ws i 1);
  size = node_field ws i 2;
  inv = node_field ws i 3;
  code = node_field ws i 4;
  number = node_field ws i 5;
  dual = node_field ws i 6;
  flex = node_field ws i 7;
  text = node_field ws i 8;
  start = node_field ws i 9;
  len = node_field ws i 10;
  kids = slots ks (first_at ws i) (count_at ws i);
}

-- the node that stands at i; its fields are within their values where `node_clean` holds
unfoldable pub node_at : List ℕ → List ℕ → ℕ → Node
node_at ws ks i = or_else (node_in (cell_at ws ks i)) (Root (Unknown NONE) 0)

-- a node's children lie among the c children made, no field is outside its values, no unused number is not zero
unfoldable pub node_clean : List ℕ → List ℕ → ℕ → ℕ → Bool
node_clean ws ks c i = leb (first_at ws i + count_at ws i) c && is_some (node_in (cell_at ws ks i))

-- the first n nodes
unfoldable pub decode : List ℕ → List ℕ → ℕ → List Node
decode ws ks n = map (node_at ws ks) (from 0 n)

-- the head's numbers: nodes made, children made, the two capacities, the remembered error and nil types, the report count's two halves
abbrev pub nodes_made : List ℕ → ℕ
nodes_made h = get_or h 0 0

abbrev pub children_made : List ℕ → ℕ
children_made h = get_or h 1 0

abbrev pub node_room : List ℕ → ℕ
node_room h = get_or h 2 0

abbrev pub child_room : List ℕ → ℕ
child_room h = get_or h 3 0

-- a remembered type; 4,294,967,295 is none
abbrev pub remembered : ℕ → Option Ty
remembered w = pick (eqb w NONE) none (some (ty_of w))

abbrev pub reports : List ℕ → ℕ
reports h = get_or h 6 0 + get_or h 7 0 * 4294967296

-- the store that three slices hold
unfoldable pub store_in : List ℕ → List ℕ → List ℕ → Store
store_in h ws ks = record {
  nodes = decode ws ks (nodes_made h);
  children = children_made h;
  node_room = node_room h;
  child_room = child_room h;
  error = remembered (get_or h 4 0);
  nil = remembered (get_or h 5 0);
  reports = reports h;
}

-- the slices are as long as the capacities need
unfoldable pub long_enough : List ℕ → List ℕ → List ℕ → Bool
long_enough h ws ks =
    leb HEAD_WORDS (length h)
    && (leb (nodes_made h) (node_room h)
    && (leb (children_made h) (child_room h) && (leb (node_words (node_room h)) (length ws) && leb (child_words (child_room h)) (length ks))))

-- words a to e of a list
abbrev pub between : List ℕ → ℕ → ℕ → List ℕ
between xs a e = take (e - a) (drop a xs)

-- "unused numbers": node slots from the count to the capacity, child slots likewise
unfoldable pub unused_zero : List ℕ → List ℕ → List ℕ → Bool
unused_zero h ws ks =
    zeros (between ws (node_words (nodes_made h)) (node_words (node_room h)))
    && zeros (between ks (child_words (children_made h)) (child_words (child_room h)))

unfoldable pub nodes_clean : List ℕ → List ℕ → List ℕ → Bool
nodes_clean h ws ks = all (node_clean ws ks (children_made h)) (from 0 (nodes_made h))

unfoldable pub clean : List ℕ → List ℕ → List ℕ → Bool
clean h ws ks = long_enough h ws ks && (unused_zero h ws ks && nodes_clean h ws ks)

-- what three lent slices are as a store
unfoldable pub lent_of : List ℕ → List ℕ → List ℕ → Lent
lent_of h ws ks = pick (clean h ws ks) (reads (store_in h ws ks)) stray
