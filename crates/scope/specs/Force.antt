-- "Forcing and importing": forcing; and the calls "Outside the theorem's first half" that neither unify nor print.
use Rattle.std.specs.Prelude.{List, [], ◌∷◌, map, Bool, true, false, not, ◌&&◌, ◌||◌, ℕ, zero, suc, eqb, ltb, length, get_or, set}
use Rattle.std.proofs.Math.Option.{Option, none, some}
use Rattle.scope.specs.Base.{pick, xor}
use Rattle.scope.specs.Limits.{MAX_REPORTS}
use Rattle.scope.specs.Types.{Ty}
use Rattle.scope.specs.Chart.{Env, record_at}
use Rattle.scope.specs.Kinds.{TUPLE, OPAQUE, STRUCT, ENUM, UNION, REF, DEFAULT, ERROR}
use Rattle.scope.specs.Nodes.{Kind, State, Known, Unknown, InferenceFailed, Node, Root, Child, Store, opened, with_nodes, at, size_of, state_at, find, find_mut, kids_of}
use Rattle.scope.specs.Make.{bare}

-- force_kind's answer: inversion and kind, and the span where "its span is in the answer"
pub record Forced : Type 0 where
  pub inv : Bool
  pub kind : Kind
  pub span : Option ℕ

-- "Both give Error uninverted"
abbrev pub forced_error : Option ℕ → Forced
forced_error p = record { inv = false; kind = bare ERROR; span = p }

-- "A Known gives its kind and its inversion combined with the type's"
abbrev pub forced : Ty → State → Forced
forced r (Known i k) = record { inv = xor i r.inv; kind = k; span = none }
forced r (Unknown p) = forced_error (some p)
forced r InferenceFailed = forced_error none

-- "one report count, a u64 that stops at its largest value"
abbrev pub report : ℕ → ℕ
report n = pick (ltb n MAX_REPORTS) (suc n) n

abbrev pub with_reports : Store → ℕ → Store
with_reports s r = record {
  nodes = s.nodes;
  children = s.children;
  node_room = s.node_room;
  child_room = s.child_room;
  error = s.error;
  nil = s.nil;
  reports = r;
}

-- "An Unknown becomes InferenceFailed"; r is the root
abbrev pub fail : Store → Ty → State → Store
fail s r (Known i k) = s
fail s r (Unknown p) =
    with_reports (with_nodes s (set s.nodes r.idx (Root InferenceFailed (size_of (at s.nodes r.idx))))) (report s.reports)
fail s r InferenceFailed = s

-- `force_kind`
unfoldable pub force_kind : Store → Ty → Forced × Store
force_kind s t =
    let r : Ty = find s.nodes t in
    let st : State = state_at s.nodes t in
    (forced r st, fail (with_nodes s (find_mut s.nodes t)) r st)

-- "only roots without a kind change, each to Default uninverted"
abbrev pub finish_state : State → State
finish_state (Known i k) = Known i k
finish_state (Unknown p) = Known false (bare DEFAULT)
finish_state InferenceFailed = Known false (bare DEFAULT)

abbrev pub finish_node : Bool → Node → Node
finish_node b (Root st z) = Root (pick b (finish_state st) st) z
finish_node b (Child t) = Child t

-- "a lent byte for each node, nonzero chooses, absent means no"
unfoldable pub finish_where : List ℕ → List Node → List Node
finish_where bs [] = []
finish_where [] (n ∷ ns) = n ∷ ns
finish_where (b ∷ bs) (n ∷ ns) = finish_node (not (eqb b 0)) n ∷ finish_where bs ns

unfoldable pub finish_inference : List Node → List Node
finish_inference ns = map (finish_node true) ns

-- `find_related`: "nonzero means already in the set, and 1 is written for each root added"; g goes on at a child
abbrev pub related_kids : (List ℕ → Ty → List ℕ) → List ℕ → List Ty → List ℕ
related_kids g ms [] = ms
related_kids g ms (t ∷ ts) = related_kids g (g ms t) ts

abbrev pub related_root : (List ℕ → Ty → List ℕ) → Bool → List ℕ → ℕ → List Ty → List ℕ
related_root g true ms r ts = related_kids g (set ms r 1) ts
related_root g false ms r ts = ms

unfoldable pub related_f : ℕ → List Node → List ℕ → Ty → List ℕ
related_f zero ns ms t = ms
related_f (suc f) ns ms t =
    related_root (related_f f ns) (eqb (get_or ms (find ns t).idx 0) 0) ms (find ns t).idx (kids_of (state_at ns t))

unfoldable pub find_related : List Node → Ty → List ℕ → List ℕ
find_related ns t ms = related_f (length ns) ns ms t

-- `is_nil`: a Tuple of nothing
abbrev pub nil_state : State → Bool
nil_state (Known i k) = eqb k.head.code TUPLE && eqb (length k.kids) 0
nil_state (Unknown p) = false
nil_state InferenceFailed = false

unfoldable pub is_nil : List Node → Ty → Bool
is_nil ns t = nil_state (state_at ns t)

-- get_mod's answer
pub data Mod : Type 0 where
  none_mod : Mod
  mod_of : ℕ → Mod
  error_mod : Mod

-- through a Ref by g; a definition's def number; an Error is an error
abbrev pub mod_of_ref : (Ty → Mod) → List Ty → Mod
mod_of_ref g [] = none_mod
mod_of_ref g (t ∷ ts) = g t

abbrev pub has_def : ℕ → Bool
has_def c = eqb c OPAQUE || (eqb c STRUCT || (eqb c ENUM || eqb c UNION))

abbrev pub mod_of_kind : Env → (Ty → Mod) → Kind → Mod
mod_of_kind e g k =
    pick (has_def k.head.code) (mod_of (record_at e k.head.number).def)
    (pick (eqb k.head.code ERROR) error_mod none_mod)

abbrev pub mod_of_state : Env → (Ty → Mod) → State → Mod
mod_of_state e g (Known i k) = elim (eqb k.head.code REF) [ true ↦ mod_of_ref g k.kids | false ↦ mod_of_kind e g k ]
mod_of_state e g (Unknown p) = none_mod
mod_of_state e g InferenceFailed = none_mod

-- at most f Refs deep
unfoldable pub get_mod_f : Env → ℕ → List Node → Ty → Mod
get_mod_f e zero ns t = none_mod
get_mod_f e (suc f) ns t = mod_of_state e (get_mod_f e f ns) (state_at ns t)

-- `get_mod`
unfoldable pub get_mod : Env → List Node → Ty → Mod
get_mod e ns t = get_mod_f e (length ns) ns t

-- `reset` "frees all"; the report count "outlives `reset`"
unfoldable pub reset : Store → Store
reset s = with_reports (opened s.node_room s.child_room) s.reports
