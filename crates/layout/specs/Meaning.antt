-- What the code's nodes, children and header are in words, and what they mean among scope's. A node's words are the same whatever its children are;
-- its meaning takes their words too.
use Rattle.std.specs.Prelude.{◌≡◌, List, [], ◌∷◌, ◌++◌, map, Bool, true, false, not, ◌&&◌, ℕ, ◌+◌, ◌-◌, ◌*◌, ◌/◌, ◌%◌, ◌≤◌, ◌<◌, eqb, ltb, leb, length, get_or, take, drop}
use Rattle.std.proofs.Math.Option.{Option, none, some}
use Rattle.scope.specs.Base.{pick, is_some}
use Rattle.scope.specs.Limits.{NONE}
use Rattle.scope.specs.Types.{Ty, ty_of}
use Rattle.scope.specs.Kinds.{CHILD_NAMES, PARAMETER_NAMES}
use Rattle.scope.specs.Nodes as nodes
use Rattle.scope.specs.Sound as sound
use Rattle.types.specs.declared.«Type».{«Type»}
use Rattle.types.specs.declared.Inverted.{Inverted}
use Rattle.names.specs.Place.{name_from, no_name}
use Rattle.layout.specs.Words.{NODE_WORDS, CHILD_WORDS, HEAD_WORDS, KNOWN_TAG, node_words, child_words, node_field, slot_at, slots, cell_at, node_clean}
use Rattle.layout.specs.Words.{nodes_made, children_made, node_room, child_room, reports}
use Rattle.layout.specs.declared.Kind.{Kind}
use Rattle.layout.specs.declared.Cell.{Cell}
use Rattle.layout.specs.declared.Slot.{Slot}
use Rattle.layout.specs.declared.Header.{Header}
use Rattle.layout.specs.declared.TypeState.{TypeState}
use Rattle.layout.specs.declared.TypeState.TheVariants.{Known, Unknown, InferenceFailed}
use Rattle.layout.specs.declared.TypeNode.{TypeNode}
use Rattle.layout.specs.declared.TypeNode.TheVariants.{Root, Child}
use Rattle.std.specs.declared.option.Option.TheVariants as held
use Rattle.std.specs.Prelude.{Some, None}
use Rattle.std.specs.declared.option.Option as option

-- a node's inversion and kind, if it has a kind
abbrev pub Held : Type 0
Held = option.Option (Inverted × Kind)

-- a type that `error` or `nil` returns again, if there is one
abbrev pub Remembered : Type 0
Remembered = option.Option «Type»

abbrev pub CHILD_TAG : ℕ
CHILD_TAG = 0

abbrev pub UNKNOWN_TAG : ℕ
UNKNOWN_TAG = 1

abbrev pub FAILED_TAG : ℕ
FAILED_TAG = 2

abbrev pub flag_word : Bool → ℕ
flag_word b = pick b 1 0

abbrev pub type_of : ℕ → «Type»
type_of w = record { 0 = w }

-- words as a cell, by their index, and back

abbrev pub cell_by : (ℕ → ℕ) → Cell
cell_by f = record {
  tag = f 0;
  link = f 1;
  size = f 2;
  inv = f 3;
  code = f 4;
  number = f 5;
  dual = f 6;
  flex = f 7;
  name = name_from (f 8) (f 9) (f 10);
  count = f 11;
}

abbrev pub cell_in : List ℕ → Cell
cell_in s = cell_by (λ k. get_or s k 0)

abbrev pub words_of : Cell → List ℕ
words_of c =
    c.tag ∷ c.link ∷ c.size ∷ c.inv ∷ c.code ∷ c.number ∷ c.dual ∷ c.flex ∷ c.name.text ∷ c.name.start ∷ c.name.len
    ∷ c.count ∷ []

-- a cell as a node, and back; a Known node's link is the place of its first child

abbrev pub cell_kind : Cell → Kind
cell_kind c = record {
  code = c.code;
  number = c.number;
  dual = eqb c.dual 1;
  flex = c.flex;
  name = c.name;
  first = c.link;
  count = c.count;
}

unfoldable pub node_of : Cell → TypeNode
node_of c =
    pick (eqb c.tag CHILD_TAG) (Child (type_of c.link))
    (pick (eqb c.tag UNKNOWN_TAG) (Root (Unknown c.link) c.size)
    (pick (eqb c.tag FAILED_TAG) (Root InferenceFailed c.size)
    (Root (Known (record { 0 = eqb c.inv 1 }) (cell_kind c)) c.size)))

abbrev pub plain_cell : ℕ → ℕ → ℕ → Cell
plain_cell t l z = record {
  tag = t;
  link = l;
  size = z;
  inv = 0;
  code = 0;
  number = 0;
  dual = 0;
  flex = 0;
  name = no_name;
  count = 0;
}

abbrev pub known_cell : Inverted → Kind → ℕ → Cell
known_cell i k z = record {
  tag = KNOWN_TAG;
  link = k.first;
  size = z;
  inv = flag_word i.0;
  code = k.code;
  number = k.number;
  dual = flag_word k.dual;
  flex = k.flex;
  name = k.name;
  count = k.count;
}

abbrev pub cell_of : TypeNode → Cell
cell_of (Child t) = plain_cell CHILD_TAG t.0 0
cell_of (Root (Unknown s) z) = plain_cell UNKNOWN_TAG s z
cell_of (Root InferenceFailed z) = plain_cell FAILED_TAG 0 z
cell_of (Root (Known i k) z) = known_cell i k z

-- what stands past the last node
abbrev pub no_node : TypeNode
no_node = Root (Unknown NONE) 0

-- node i's words, and the words with others there
abbrev pub cell_words : List ℕ → ℕ → List ℕ
cell_words ws i = take NODE_WORDS (drop (i * NODE_WORDS) ws)

abbrev pub paste_at : List ℕ → ℕ → List ℕ → List ℕ
paste_at ws i c = take (i * NODE_WORDS) ws ++ (c ++ drop NODE_WORDS (drop (i * NODE_WORDS) ws))

-- `node_at` and `put_node`: node i of n
unfoldable pub read_at : List ℕ → ℕ → ℕ → TypeNode
read_at ws n i = pick (ltb i n) (node_of (cell_in (cell_words ws i))) no_node

unfoldable pub put_at : List ℕ → ℕ → ℕ → TypeNode → List ℕ
put_at ws n i v = pick (ltb i n) (paste_at ws i (words_of (cell_of v))) ws

-- what a node's readers take of it: a child has no state of its own, and no size

abbrev pub node_state : TypeNode → TypeState
node_state (Root st z) = st
node_state (Child t) = Unknown NONE

abbrev pub node_size : TypeNode → ℕ
node_size (Root st z) = z
node_size (Child t) = 0

abbrev pub held_by : TypeState → Held
held_by (Known i k) = held.Some (i, k)
held_by (Unknown s) = held.None
held_by InferenceFailed = held.None

abbrev pub held_in : TypeNode → Held
held_in v = held_by (node_state v)

-- a child's four words, and what they mean

abbrev pub slot_in : List ℕ → Slot
slot_in s = record { ty = type_of (get_or s 0 0); name = name_from (get_or s 1 0) (get_or s 2 0) (get_or s 3 0) }

abbrev pub slot_words : Slot → List ℕ
slot_words c = c.ty.0 ∷ c.name.text ∷ c.name.start ∷ c.name.len ∷ []

abbrev pub slot_means : Slot → sound.Slot
slot_means c = record { type = c.ty.0; text = c.name.text; start = c.name.start; len = c.name.len }

-- `put_child`
unfoldable pub put_slot : List ℕ → ℕ → Slot → List ℕ
put_slot ks i c = take (i * CHILD_WORDS) ks ++ (slot_words c ++ drop CHILD_WORDS (drop (i * CHILD_WORDS) ks))

-- scope's cell of a node's words and the children's
abbrev pub cell_means : List ℕ → Cell → sound.Cell
cell_means ks c = record {
  tag = c.tag;
  link = pick (eqb c.tag KNOWN_TAG) 0 c.link;
  size = c.size;
  inv = c.inv;
  code = c.code;
  number = c.number;
  dual = c.dual;
  flex = c.flex;
  text = c.name.text;
  start = c.name.start;
  len = c.name.len;
  kids = slots ks (pick (eqb c.tag KNOWN_TAG) c.link 0) c.count;
}

-- scope's cell of a kind alone
abbrev pub kind_cell : List ℕ → Kind → sound.Cell
kind_cell ks k = cell_means ks (known_cell (record { 0 = false }) k 0)

-- what the code's kind, state and node mean, with the children's words ks

unfoldable pub kind_means : List ℕ → Kind → nodes.Kind
kind_means ks k = record {
  head = record {
    code = k.code;
    number = k.number;
    dual = k.dual;
    flex = k.flex;
    names = sound.names_in (kind_cell ks k);
  };
  kids = map (λ s. ty_of s.type) (slots ks k.first k.count);
}

-- how many of n children, from the first on, may have a name: those of a kind whose row has the names d
abbrev pub named_of : ℕ → ℕ → ℕ
named_of d n = pick (eqb d CHILD_NAMES) n (pick (eqb d PARAMETER_NAMES) (n - 1) 0)

abbrev pub state_means : List ℕ → TypeState → nodes.State
state_means ks (Known i k) = nodes.Known i.0 (kind_means ks k)
state_means ks (Unknown s) = nodes.Unknown s
state_means ks InferenceFailed = nodes.InferenceFailed

abbrev pub lacks_kind : TypeState → Bool
lacks_kind (Known i k) = false
lacks_kind (Unknown s) = true
lacks_kind InferenceFailed = true

abbrev pub node_means : List ℕ → TypeNode → nodes.Node
node_means ks (Root st z) = nodes.Root (state_means ks st) z
node_means ks (Child t) = nodes.Child (ty_of t.0)

-- the children of what a node holds
abbrev pub held_kids : List ℕ → Held → List Ty
held_kids ks (held.Some (i, k)) = (kind_means ks k).kids
held_kids ks held.None = []

-- a kind that may stand in a node: its children lie among the c made, and names that it does not have are zeros
unfoldable pub kind_fits : List ℕ → ℕ → Kind → Bool
kind_fits ks c k = leb (k.first + k.count) c && sound.names_clean (kind_cell ks k)

abbrev pub state_fits : List ℕ → ℕ → TypeState → Bool
state_fits ks c (Known i k) = kind_fits ks c k
state_fits ks c (Unknown s) = true
state_fits ks c InferenceFailed = true

abbrev pub node_fits : List ℕ → ℕ → TypeNode → Bool
node_fits ks c (Root st z) = state_fits ks c st
node_fits ks c (Child t) = true

-- n nodes lie in ws, each clean, with c children made in ks
pub record Clean (ws ks : List ℕ) (c n : ℕ) : Type 0 where
  pub room : node_words n ≤ length ws
  pub each : (i : ℕ) → i < n → node_clean ws ks c i ≡ true

-- n nodes lie in ws, and those that are children say nothing else: all that following parents needs. A child has no children, so any ks serves
pub record Linked (ws : List ℕ) (n : ℕ) : Type 0 where
  pub room : node_words n ≤ length ws
  pub bare : (i : ℕ) → i < n → node_field ws i 0 ≡ CHILD_TAG → is_some (sound.node_in (cell_at ws [] i)) ≡ true

-- a node's parent, if it is a child
abbrev pub parent_of : nodes.Node → Option Ty
parent_of (nodes.Root st z) = none
parent_of (nodes.Child t) = some t

-- the children's words agree on the first c children
pub record Kept (c : ℕ) (ks ks' : List ℕ) : Type 0 where
  pub same : (i : ℕ) → i < c → slot_at ks' i ≡ slot_at ks i

-- the header

abbrev pub HALF : ℕ
HALF = 4294967296

abbrev pub remembered_of : ℕ → Remembered
remembered_of w = pick (eqb w NONE) None (Some (type_of w))

abbrev pub remembered_word : Remembered → ℕ
remembered_word (Some t) = t.0
remembered_word None = NONE

abbrev pub remembered_means : Remembered → Option Ty
remembered_means (Some t) = some (ty_of t.0)
remembered_means None = none

-- no store has the node whose inverse is the number that means none
abbrev pub remembered_fits : Remembered → Bool
remembered_fits (Some t) = not (eqb t.0 NONE)
remembered_fits None = true

abbrev pub header_in : List ℕ → Header
header_in h = record {
  nodes = nodes_made h;
  children = children_made h;
  node_room = node_room h;
  child_room = child_room h;
  error = remembered_of (get_or h 4 0);
  nil = remembered_of (get_or h 5 0);
  reports = reports h;
}

abbrev pub header_words : Header → List ℕ
header_words x =
    x.nodes ∷ x.children ∷ x.node_room ∷ x.child_room ∷ remembered_word x.error ∷ remembered_word x.nil ∷ x.reports % HALF
    ∷ x.reports / HALF ∷ []

unfoldable pub put_header : List ℕ → Header → List ℕ
put_header h x = header_words x ++ drop HEAD_WORDS h

-- the store of a header and nodes
abbrev pub store_means : Header → List nodes.Node → nodes.Store
store_means x ns = record {
  nodes = ns;
  children = x.children;
  node_room = x.node_room;
  child_room = x.child_room;
  error = remembered_means x.error;
  nil = remembered_means x.nil;
  reports = x.reports;
}

-- three slices are as long as the counts and capacities in h need
pub record Lies (h ws ks : List ℕ) : Type 0 where
  pub head : HEAD_WORDS ≤ length h
  pub nodes : nodes_made h ≤ node_room h
  pub children : children_made h ≤ child_room h
  pub node_slots : node_words (node_room h) ≤ length ws
  pub child_slots : child_words (child_room h) ≤ length ks

-- the store in h' ws' ks' has grown out of the one in h ws ks, and its unused words have not been written
pub record Grown (h ws ks h' ws' ks' : List ℕ) : Type 0 where
  pub node_rooms : node_room h' ≡ node_room h
  pub child_rooms : child_room h' ≡ child_room h
  pub nodes : nodes_made h ≤ nodes_made h'
  pub children : children_made h ≤ children_made h'
  pub node_tail : drop (node_words (nodes_made h')) ws' ≡ drop (node_words (nodes_made h')) ws
  pub child_tail : drop (child_words (children_made h')) ks' ≡ drop (child_words (children_made h')) ks
