-- "Forcing and importing": `import` and `export`, "a list of at most 255 types, one shared mapping".
use Rattle.std.specs.Prelude.{List, [], ◌∷◌, Bool, true, false, ◌||◌, ℕ, zero, suc, eqb, length, set}
use Rattle.std.proofs.Math.Option.{Option, none, some}
use Rattle.std.proofs.Math.ListN.{get_elem?}
use Rattle.scope.specs.Base.{pick, any, count, from}
use Rattle.scope.specs.Limits.{NONE}
use Rattle.scope.specs.Types.{Ty, ty, flip}
use Rattle.scope.specs.Kinds.{PARAM}
use Rattle.scope.specs.Nodes.{Kind, State, Known, Unknown, InferenceFailed, Node, Root, Store, with_nodes, remembering, at, state_of, find, kids_of}
use Rattle.scope.specs.Make.{pushed}

-- the work so far: the destination, the mapping from source roots to nodes of the destination, and whether a Param had no entry
pub record Work : Type 0 where
  pub dest : Store
  pub mapping : List (ℕ × ℕ)
  pub missing : Bool

-- the work so far with the type that a source's type became, and with the types of a list
pub record Moved : Type 0 where
  pub work : Work
  pub type : Ty

pub record MovedAll : Type 0 where
  pub work : Work
  pub types : List Ty

-- the node that a source root was copied to
unfoldable pub copy_of : List (ℕ × ℕ) → ℕ → Option ℕ
copy_of [] r = none
copy_of (p ∷ ps) r = pick (eqb p.0 r) (some p.1) (copy_of ps r)

-- "With a parameter list, a Param is replaced by that entry and no node is made": what a state is replaced by, if there is a list
pub data Replaced : Type 0 where
  keep : Replaced
  missing_entry : Replaced
  entry : Ty → Replaced

abbrev pub entry_at : Bool → Option Ty → Replaced
entry_at i none = missing_entry
entry_at i (some t) = entry (flip i t)

abbrev pub param_of : List Ty → Bool → Kind → Replaced
param_of ps i k = pick (eqb k.head.code PARAM) (entry_at i (get_elem? ps k.head.number)) keep

unfoldable pub replaced : Option (List Ty) → State → Replaced
replaced none st = keep
replaced (some ps) (Known i k) = param_of ps i k
replaced (some ps) (Unknown p) = keep
replaced (some ps) InferenceFailed = keep

-- "Each source root becomes a new Unknown before its children are walked"; "InferenceFailed becomes Unknown with `Span::NONE`"
abbrev pub span_of : State → ℕ
span_of (Known i k) = NONE
span_of (Unknown p) = p
span_of InferenceFailed = NONE

-- the new Unknown for the root r; c children will be its kind's
abbrev pub begun : Work → ℕ → State → Work
begun w r st = record {
  dest = pushed w.dest (Unknown (span_of st)) (length (kids_of st));
  mapping = (r, length w.dest.nodes) ∷ w.mapping;
  missing = w.missing;
}

-- the work with another destination
abbrev pub with_dest : Work → Store → Work
with_dest w d = record { dest = d; mapping = w.mapping; missing = w.missing }

-- "then takes its kind"
abbrev pub ended : Work → ℕ → State → Work
ended w n st = with_dest w (with_nodes w.dest (set w.dest.nodes n (Root st 1)))

-- types in order, each by g
unfoldable pub many : (Work → Ty → Moved) → Work → List Ty → MovedAll
many g w [] = record { work = w; types = [] }
many g w (t ∷ ts) =
    let a : Moved = g w t in
    let b : MovedAll = many g a.work ts in
    record { work = b.work; types = a.type ∷ b.types }

-- a root seen for the first time: the root r of the source, in state st
abbrev pub copied : (Work → Ty → Moved) → Work → Ty → State → Moved
copied g w r (Known i k) =
    let n : ℕ = length w.dest.nodes in
    let b : MovedAll = many g (begun w r.idx (Known i k)) k.kids in
    record { work = ended b.work n (Known i (record { head = k.head; kids = b.types })); type = ty r.inv n }
copied g w r (Unknown p) = record { work = begun w r.idx (Unknown p); type = ty r.inv (length w.dest.nodes) }
copied g w r InferenceFailed = record { work = begun w r.idx InferenceFailed; type = ty r.inv (length w.dest.nodes) }

-- a type that stands for a Param with no entry
abbrev pub lacking : Work → Work
lacking w = record { dest = w.dest; mapping = w.mapping; missing = true }

abbrev pub fresh : (Work → Ty → Moved) → Work → Ty → State → Replaced → Moved
fresh g w r st keep = copied g w r st
fresh g w r st missing_entry = record { work = lacking w; type = r }
fresh g w r st (entry t) = record { work = w; type = flip r.inv t }

-- a root seen before is its copy's node
abbrev pub place : (Work → Ty → Moved) → Work → Ty → State → Replaced → Option ℕ → Moved
place g w r st u (some n) = record { work = w; type = ty r.inv n }
place g w r st u none = fresh g w r st u

-- `transfer_type`, at most f deep
unfoldable pub transfer : ℕ → List Node → Option (List Ty) → Work → Ty → Moved
transfer zero ns ps w t = record { work = w; type = t }
transfer (suc f) ns ps w t =
    let r : Ty = find ns t in
    let st : State = state_of (at ns r.idx) in
    place (transfer f ns ps) w r st (replaced ps st) (copy_of w.mapping r.idx)

-- no root is copied yet
abbrev pub start : Store → Work
start s = record { dest = s; mapping = []; missing = false }

-- `import` of a list out of the nodes ns
unfoldable pub import : List Node → Option (List Ty) → Store → List Ty → MovedAll
import ns ps s ts = many (transfer (length ns) ns ps) (start s) ts

-- a remembered type, if any, moved into the fresh store
abbrev pub carried : (Work → Ty → Moved) → Work → Option Ty → MovedAll
carried g w none = record { work = w; types = [] }
carried g w (some t) = many g w (t ∷ [])

-- the type that a remembered one became
abbrev pub first_of : List Ty → Option Ty
first_of [] = none
first_of (t ∷ ts) = some t

-- "`export` is the same into a fresh store", "error type first, nil next; it has no parameter list"
unfoldable pub export : Store → Store → List Ty → MovedAll
export s d ts =
    let g : Work → Ty → Moved = transfer (length s.nodes) s.nodes none in
    let a : MovedAll = carried g (start d) s.error in
    let b : MovedAll = carried g a.work s.nil in
    let c : MovedAll = many g b.work ts in
    record { work = with_dest c.work (remembering c.work.dest (first_of a.types) (first_of b.types)); types = c.types }

-- is the source's root n copied? It is if a listed type leads to it, or a child of one that is copied; a replaced Param is not
abbrev pub reaches_state : (List Ty → Bool) → Option (List Ty) → Bool → State → Replaced → Bool
reaches_state g ps b st keep = b || g (kids_of st)
reaches_state g ps b st missing_entry = false
reaches_state g ps b st (entry t) = false

unfoldable pub reaches : ℕ → List Node → Option (List Ty) → ℕ → List Ty → Bool
reaches zero ns ps n ts = false
reaches (suc f) ns ps n ts =
    any (λ t. reaches_state (reaches f ns ps n) ps (eqb (find ns t).idx n) (state_of (at ns (find ns t).idx)) (replaced ps (state_of (at ns (find ns t).idx)))) ts

-- "one for each source root that `import` copies"
unfoldable pub copies : List Node → Option (List Ty) → List Ty → ℕ
copies ns ps ts = count (λ n. reaches (length ns) ns ps n ts) (from 0 (length ns))
