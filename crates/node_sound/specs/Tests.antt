-- What is tested of each node, and what a quick yes says.
use Rattle.std.specs.Prelude.{◌≡◌, Bool, true, false, ◌&&◌, List, [], ℕ, ◌-◌, ◌≤◌, ◌<◌, ltb, length, get_or}
use Rattle.scope.specs.Base.{all, from}
use Rattle.scope.specs.Limits.{MAX_CHILDREN, MAX_WIDTH, KINDS}
use Rattle.scope.specs.Types.{ty_of}
use Rattle.scope.specs.Names.{Texts, Name, name, bytes, name_ok, lt_bytes}
use Rattle.scope.specs.Chart.{Env}
use Rattle.scope.specs.Kinds.{row_of, shape_fits, number_ok, defined, flag_is}
use Rattle.scope.specs.Nodes.{Node}
use Rattle.scope.specs.Sound.{Slot, slot_bare, names_clean, kind_sound, node_sound}
use Rattle.chart.specs.Env.{chart_alone}
use Rattle.layout.specs.Words.{slot_at, node_at, node_clean, decode}
use Rattle.layout.specs.Meaning.{kind_cell, kind_means, node_means, node_of}
use Rattle.layout.specs.declared.Cell.{Cell}
use Rattle.layout.specs.declared.Kind.{Kind}
use Rattle.layout.proofs.Cells.{cell_clean}
use Rattle.clean.specs.Parts.{name_clean_if}

-- node i's words say a node, with c children made, and it is sound among the nodes ns
abbrev pub node_test : Env → List ℕ → List ℕ → ℕ → List Node → ℕ → Bool
node_test e ws ks c ns i = node_clean ws ks c i && node_sound e ns (node_at ws ks i)

abbrev pub nodes_test : Env → List ℕ → List ℕ → ℕ → ℕ → Bool
nodes_test e ws ks c n = all (node_test e ws ks c (decode ws ks n)) (from 0 n)

-- a child without a name, one of n nodes
abbrev pub plain_slot : ℕ → Slot → Bool
plain_slot n s = slot_bare s && ltb (ty_of s.type).idx n

-- a kind that the chart defines, with its flag
pub record Told (chart : List ℕ) (k : Kind) : Type 0 where
  pub is_defined : defined (chart_alone chart) (kind_means [] k).head ≡ true
  pub has_flag : flag_is (chart_alone chart) (kind_means [] k).head ≡ true

-- a kind that passes all tests but those of its children, and has no name of its own
pub record Framed (chart : List ℕ) (k : Kind) : Type 0 where
  pub code : k.code < KINDS
  pub width : k.count ≤ MAX_WIDTH
  pub flex : k.flex ≡ 0
  pub shape : shape_fits (row_of k.code).shape k.count ≡ true
  pub number : number_ok (row_of k.code).number k.number ≡ true
  pub own : name_clean_if false k.name ≡ true
  pub told : Told chart k

-- the name of the child at i, in words
abbrev pub name_at : List ℕ → ℕ → Name
name_at ks i = name (slot_at ks i).text (slot_at ks i).start (slot_at ks i).len

-- the child at i is one of n nodes
abbrev pub inside_at : List ℕ → ℕ → ℕ → Bool
inside_at ks n i = ltb (ty_of (slot_at ks i).type).idx n

-- the child at i has a name, and it comes after the one before it
pub record Rises (x : Texts) (ks : List ℕ) (i : ℕ) : Type 0 where
  pub named : name_ok x (name_at ks i) ≡ true
  pub after : lt_bytes (bytes x (name_at ks (i - 1))) (bytes x (name_at ks i)) ≡ true

-- a child that was seen has such a name
pub record TrueSeen (x : Texts) (ks : List ℕ) (seen : List Bool) : Type 0 where
  pub long : length seen ≡ MAX_CHILDREN
  pub right : (i : ℕ) → get_or seen i false ≡ true → Rises x ks i

-- the child at i follows
pub record Follows (x : Texts) (ks : List ℕ) (n i : ℕ) : Type 0 where
  pub inside : inside_at ks n i ≡ true
  pub rises : Rises x ks i

-- the children a to e are nodes, with ascending names
pub record Named (x : Texts) (ks : List ℕ) (n a e : ℕ) : Type 0 where
  pub first : a < e → (name_ok x (name_at ks a) ≡ true) × (inside_at ks n a ≡ true)
  pub others : (j : ℕ) → a < j → j < e → Follows x ks n j

-- a kind whose words and whose children's are clean, and which is sound among any n nodes
pub record PlainKind (e : Env) (ks : List ℕ) (n : ℕ) (k : Kind) : Type 0 where
  pub clean : names_clean (kind_cell ks k) ≡ true
  pub sound : (ns : List Node) → length ns ≡ n → kind_sound e ns (kind_means ks k) ≡ true

-- the same of a node's words
pub record PlainNode (e : Env) (ks : List ℕ) (n c : ℕ) (x : Cell) : Type 0 where
  pub clean : cell_clean ks c x ≡ true
  pub sound : (ns : List Node) → length ns ≡ n → node_sound e ns (node_means ks (node_of x)) ≡ true
