-- "Turned back because of the state": refusal 8. A store is lent as numbers; those of a node and its children are a cell here, wherever they lie.
use Rattle.std.specs.Prelude.{List, [], ◌∷◌, map, Bool, true, false, not, ◌&&◌, ◌||◌, ℕ, zero, suc, eqb, ltb, leb, length}
use Rattle.std.proofs.Math.Option.{Option, none, some}
use Rattle.scope.specs.Base.{pick, all, count, from}
pub use Rattle.scope.specs.Base.{front, last}
use Rattle.scope.specs.Limits.{MAX_NODES, MAX_CHILDREN}
use Rattle.scope.specs.Names.{Name, name}
use Rattle.scope.specs.Chart.{Env}
use Rattle.scope.specs.Types.{Ty, ty, ty_of}
use Rattle.scope.specs.Kinds.{row_of, OWN_NAME, CHILD_NAMES, PARAMETER_NAMES, makeable, defined, flag_is}
use Rattle.scope.specs.Nodes.{Kind, Known, Unknown, InferenceFailed, Node, Root, Child, Store, at, is_root, state_of, find, kids_of}

-- a child's numbers: its type, and its name or zeros
pub record Slot : Type 0 where
  pub type : ℕ
  pub text : ℕ
  pub start : ℕ
  pub len : ℕ

-- a node's numbers: what it is (0 a child, 1 Unknown, 2 InferenceFailed, 3 Known), its parent's type or its span, its size, its inversion, its
-- kind's code, number, flag, `Flex` and own name, and its children
pub record Cell : Type 0 where
  pub tag : ℕ
  pub link : ℕ
  pub size : ℕ
  pub inv : ℕ
  pub code : ℕ
  pub number : ℕ
  pub dual : ℕ
  pub flex : ℕ
  pub text : ℕ
  pub start : ℕ
  pub len : ℕ
  pub kids : List Slot

-- "unused numbers not zero"
abbrev pub zeros : List ℕ → Bool
zeros ns = all (λ n. eqb n 0) ns

-- a name, or none where its length is 0; then the other two numbers are unused
abbrev pub name_in : ℕ → ℕ → ℕ → Option Name
name_in x i n = pick (eqb n 0) none (some (name x i n))

abbrev pub name_clean : ℕ → ℕ → ℕ → Bool
name_clean x i n = not (eqb n 0) || zeros (x ∷ i ∷ [])

-- a child's name; its numbers where it has one, and where it has none
abbrev pub slot_name : Slot → Option Name
slot_name s = name_in s.text s.start s.len

abbrev pub slot_clean : Slot → Bool
slot_clean s = name_clean s.text s.start s.len

abbrev pub slot_bare : Slot → Bool
slot_bare s = zeros (s.text ∷ s.start ∷ s.len ∷ [])

-- a kind's names, where its row has them
abbrev pub names_in : Cell → List (Option Name)
names_in c =
    let d : ℕ = (row_of c.code).names in
    pick (eqb d OWN_NAME) (name_in c.text c.start c.len ∷ [])
    (pick (eqb d CHILD_NAMES) (map slot_name c.kids) (pick (eqb d PARAMETER_NAMES) (map slot_name (front c.kids)) []))

abbrev pub own_bare : Cell → Bool
own_bare c = zeros (c.text ∷ c.start ∷ c.len ∷ [])

abbrev pub names_clean : Cell → Bool
names_clean c =
    let d : ℕ = (row_of c.code).names in
    pick (eqb d OWN_NAME) (name_clean c.text c.start c.len && all slot_bare c.kids)
    (own_bare c
    && pick (eqb d CHILD_NAMES) (all slot_clean c.kids)
    (pick (eqb d PARAMETER_NAMES) (all slot_clean (front c.kids) && all slot_bare (last c.kids)) (all slot_bare c.kids)))

abbrev pub kind_in : Cell → Kind
kind_in c = record {
  head = record { code = c.code; number = c.number; dual = eqb c.dual 1; flex = c.flex; names = names_in c };
  kids = map (λ s. ty_of s.type) c.kids;
}

-- the numbers of a kind are unused where there is none
abbrev pub kind_bare : Cell → Bool
kind_bare c = zeros (c.inv ∷ c.code ∷ c.number ∷ c.dual ∷ c.flex ∷ []) && (own_bare c && eqb (length c.kids) 0)

-- the node that a cell says, if no field is outside its values and no unused number is not zero
unfoldable pub node_in : Cell → Option Node
node_in c =
    pick (eqb c.tag 0) (pick (eqb c.size 0 && kind_bare c) (some (Child (ty_of c.link))) none)
    (pick (eqb c.tag 1) (pick (kind_bare c) (some (Root (Unknown c.link) c.size)) none)
    (pick (eqb c.tag 2) (pick (eqb c.link 0 && kind_bare c) (some (Root InferenceFailed c.size)) none)
    (pick
    (eqb c.tag 3 && (eqb c.link 0 && (leb c.inv 1 && (leb c.dual 1 && names_clean c))))
    (some (Root (Known (eqb c.inv 1) (kind_in c)) c.size))
    none)))

-- what is lent as a store: its numbers say one, or they break a field's values, leave an unused number not zero or are too few
pub data Lent : Type 0 where
  stray : Lent
  reads : Store → Lent

-- a type's node is in the store; else refusal 3
abbrev pub in_store : List Node → Ty → Bool
in_store ns t = ltb t.idx (length ns)

-- at most f parent steps lead to a root
abbrev pub rooted_node : (ℕ → Bool) → Node → Bool
rooted_node g (Root st z) = true
rooted_node g (Child t) = g t.idx

unfoldable pub rooted : ℕ → List Node → ℕ → Bool
rooted zero ns i = is_root (at ns i)
rooted (suc f) ns i = rooted_node (rooted f ns) (at ns i)

-- from the root r, fewer than f steps from a root to the roots of its kind's children lead to a root without children
unfoldable pub falls : ℕ → List Node → ℕ → Bool
falls zero ns r = false
falls (suc f) ns r = all (λ c. falls f ns (find ns c).idx) (kids_of (state_of (at ns r)))

-- "its tree's node count"
unfoldable pub tree_size : List Node → ℕ → ℕ
tree_size ns r = count (λ i. eqb (find ns (ty false i)).idx r) (from 0 (length ns))

-- "a root size that isn't its tree's node count" is unsound
abbrev pub size_is : List Node → ℕ → Node → Bool
size_is ns i (Root st z) = eqb z (tree_size ns i)
size_is ns i (Child t) = true

-- no "kind that 4 or 5 would turn back", no "flag that isn't the chart's", no child outside the store
unfoldable pub kind_sound : Env → List Node → Kind → Bool
kind_sound e ns k =
    makeable e.texts k.head (length k.kids)
    && (defined e k.head && (flag_is e k.head && all (in_store ns) k.kids))

abbrev pub node_sound : Env → List Node → Node → Bool
node_sound e ns (Root (Known i k) z) = kind_sound e ns k
node_sound e ns (Root (Unknown p) z) = true
node_sound e ns (Root InferenceFailed z) = true
node_sound e ns (Child t) = in_store ns t

-- a remembered type is in the store
abbrev pub remembered : List Node → Option Ty → Bool
remembered ns none = true
remembered ns (some t) = in_store ns t

-- the counts are within the capacities, and these within the limits
unfoldable pub room_sound : Store → Bool
room_sound s =
    leb s.node_room MAX_NODES
    && (leb s.child_room MAX_CHILDREN && (leb (length s.nodes) s.node_room && leb s.children s.child_room))

-- no "parent or child cycle", no "root size that isn't its tree's node count"
unfoldable pub shape_sound : List Node → Bool
shape_sound ns =
    let is : List ℕ = from 0 (length ns) in
    all (λ i. rooted (length ns) ns i) is
    && (all (λ i. size_is ns i (at ns i)) is && all (λ i. falls (length ns) ns i) is)

-- the whole store
unfoldable pub sound_store : Env → Store → Bool
sound_store e s =
    room_sound s
    && (all (node_sound e s.nodes) s.nodes
    && (remembered s.nodes s.error && (remembered s.nodes s.nil && shape_sound s.nodes)))

-- refusal 8 stands where this fails, and 9 of import's source
abbrev pub sound : Env → Lent → Bool
sound e stray = false
sound e (reads s) = sound_store e s
