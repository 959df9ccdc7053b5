-- Each refusal of document 01 met once, and the order where two are true at once, computed over the definitions. Assumes nothing.
use mathlib.Core.Path.{◌≡◌, refl}
use mathlib.Core.List.{List, [], ◌∷◌, map}
use mathlib.Core.Bool.{true, false}
use mathlib.Core.Option.{none, some}
use Prim.Native.Nat.{ℕ, suc}
use lib.ListN.{replicate}
use Rattle.scope.specs.Text.{text}
use Rattle.scope.specs.Limits.{MAX_NODES, MAX_CHILDREN, MAX_WIDTH, MAX_LIST, SIGILS, KINDS, NONE}
use Rattle.scope.specs.Names.{name}
use Rattle.scope.specs.Chart.{Env, STRUCT_SORT}
use Rattle.scope.specs.Types.{Ty, ty}
use Rattle.scope.specs.Kinds.{PARAM, TUPLE, STRUCT}
use Rattle.scope.specs.Nodes.{Unknown, Root, Store, opened, with_nodes}
use Rattle.scope.specs.Refusals.{UNOPENABLE, BAD_CHART, OUTSIDE, UNMAKEABLE, UNDEFINED, NO_ENTRY, SHORT, UNSOUND, SOURCE_UNSOUND, NODES_FULL, CHILDREN_FULL}
use Rattle.scope.specs.Calls.{open_call, refused, over}
use Rattle.scope.specs.Demand.{Call, make, unify, import, later, new, new_var, new_vars, unify_types}
use Rattle.scope.specs.Sound.{Lent, stray, reads}
use Rattle.scope.specs.Replies.{Reply, number, type, types}
use Rattle.scope.proofs.Run.{ran}

-- a chart of one struct, with a flag, and beside it some sigils
unfoldable pub env : ℕ → ℕ → Env
env flag sigils = record {
  records = record { sort = STRUCT_SORT; name = name 0 0 1; path = name 0 0 1; def = 0; dual = flag; trait = 0 } ∷ [];
  fn_trait = NONE;
  sigils = replicate sigils (name 0 0 0);
  texts = record { rule = text "ab"; chart = [] };
}

pub param : Call
param = make (new (record { code = PARAM; number = 2; flex = 0; names = some (name 0 0 1) ∷ []; kids = [] }))

-- a source with one Param, number 2, and one whose root's size is wrong
pub source : Lent
source = reads (ran (env 1 SIGILS) (opened 4 4) (param ∷ [])).store

pub unsound : Store
unsound = with_nodes (opened 4 4) (Root (Unknown 0) 2 ∷ [])

pub t : ℕ → Ty
t n = ty false n

-- the answers of calls on a store with room for three nodes and two children
pub asked : ℕ → List Call → List Reply
asked flag cs = (ran (env flag SIGILS) (opened 3 2) cs).replies

pub record Row : Type 0 where
  pub got : List Reply
  pub want : List Reply

pub rows : List Row
rows =
    -- 2: a flag of 2; three sigils, and five
    record { got = asked 2 (make (new_var 0) ∷ []); want = number BAD_CHART ∷ [] }
    ∷ record { got = (ran (env 1 3) (opened 3 2) (make (new_var 0) ∷ [])).replies; want = number BAD_CHART ∷ [] }
    ∷ record { got = (ran (env 1 5) (opened 3 2) (make (new_var 0) ∷ [])).replies; want = number BAD_CHART ∷ [] }
    -- 3: a node that isn't there; in a list of 256 types too, though 4 is true as well
    ∷ record { got = asked 1 (unify (t 0) (t 0) ∷ []); want = number OUTSIDE ∷ [] }
    ∷ record { got = asked 1 (later (unify_types (replicate (suc MAX_LIST) (t 0)) [] false) ∷ []); want = number OUTSIDE ∷ [] }
    -- 4: a list of 256 types that are there; a bad code; a Struct of 256 children over no definition, though 5 is true as well
    ∷ record {
      got = asked 1 (make (new_var 0) ∷ later (unify_types (replicate (suc MAX_LIST) (t 0)) [] false) ∷ []);
      want = type (t 0) ∷ number UNMAKEABLE ∷ [];
    }
    ∷ record { got = asked 1 (make (new (over KINDS 0 [])) ∷ []); want = number UNMAKEABLE ∷ [] }
    ∷ record {
      got = asked 1 (make (new_var 0) ∷ make (new (over STRUCT 1 (replicate (suc MAX_WIDTH) (t 0)))) ∷ []);
      want = type (t 0) ∷ number UNMAKEABLE ∷ [];
    }
    -- 5: no such definition
    ∷ record { got = asked 1 (make (new (over STRUCT 1 [])) ∷ make (new (over STRUCT 0 [])) ∷ []); want = number UNDEFINED ∷ type (t 0) ∷ [] }
    -- 6: "Param 2: two entries: 6; three: the third"
    ∷ record {
      got = asked 1 (make (new_vars 0 3 3) ∷ import source (t 0 ∷ []) (some (t 0 ∷ t 1 ∷ [])) 1 ∷ import source (t 0 ∷ []) (some (t 0 ∷ t 1 ∷ t 2 ∷ [])) 1 ∷ []);
      want = types (t 0 ∷ t 1 ∷ t 2 ∷ []) ∷ number NO_ENTRY ∷ types (t 2 ∷ []) ∷ [];
    }
    -- 7 comes last: a list too short for the types, and 10 where there is no room for the nodes either
    ∷ record { got = asked 1 (make (new_vars 0 2 1) ∷ make (new_vars 0 4 1) ∷ []); want = number SHORT ∷ number NODES_FULL ∷ [] }
    -- 8: a root size that isn't its tree's node count; 9: the same in a source, and numbers that say no store
    ∷ record { got = (ran (env 1 SIGILS) unsound (make (new_var 0) ∷ [])).replies; want = number UNSOUND ∷ [] }
    ∷ record { got = asked 1 (import (reads unsound) [] none 0 ∷ import stray [] none 0 ∷ []); want = number SOURCE_UNSOUND ∷ number SOURCE_UNSOUND ∷ [] }
    -- 11: three children where there is room for two
    ∷ record { got = asked 1 (make (new_var 0) ∷ make (new (over TUPLE 0 (replicate 3 (t 0)))) ∷ []); want = type (t 0) ∷ number CHILDREN_FULL ∷ [] }
    ∷ []

-- the table, and 1 at an opening
pub refusals_hold : (map (λ r. r.got) rows ≡ map (λ r. r.want) rows)
    × (open_call (suc MAX_NODES) 0 true ≡ refused UNOPENABLE)
    × (open_call 0 (suc MAX_CHILDREN) true ≡ refused UNOPENABLE)
    × (open_call MAX_NODES MAX_CHILDREN false ≡ refused UNOPENABLE)
unfolding ran env param source unsound t asked rows open_call
refusals_hold = (refl, refl, refl, refl)
