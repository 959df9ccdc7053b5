-- What an import needs: 10's "nodes made plus those needed", 11's "the same for children", and 6's "reaches a Param with no entry". A walk over the
-- source alone: it goes where `transfer` goes, counts each root once and copies nothing.
use Rattle.std.specs.Prelude.{List, [], ◌∷◌, ◌++◌, Bool, true, false, ℕ, zero, suc, ◌+◌, eqb, length, get_or, set, replicate}
use Rattle.std.proofs.Math.Option.{Option, none, some}
use Rattle.scope.specs.Types.{Ty}
use Rattle.scope.specs.Nodes.{State, Node, Store, state_at, find, kids_of}
use Rattle.scope.specs.Import.{Replaced, keep, missing_entry, entry, replaced}

pub record Needs : Type 0 where
  pub missing : Bool
  pub nodes : ℕ
  pub children : ℕ

-- the walk so far: a mark for each node of the source, 0 until that root is counted, and the sums
pub record Counted : Type 0 where
  pub marks : List ℕ
  pub sum : Needs

-- the root r is counted: one node, and its kind's children
abbrev pub counted : Counted → ℕ → State → Counted
counted c r st = record {
  marks = set c.marks r 1;
  sum = record { missing = c.sum.missing; nodes = c.sum.nodes + 1; children = c.sum.children + length (kids_of st) };
}

-- a Param with no entry
abbrev pub missed : Counted → Counted
missed c = record { marks = c.marks; sum = record { missing = true; nodes = c.sum.nodes; children = c.sum.children } }

-- types in order, each by g
abbrev pub count_all : (Counted → Ty → Counted) → Counted → List Ty → Counted
count_all g c [] = c
count_all g c (t ∷ ts) = count_all g (g c t) ts

-- a root that is not counted yet; "a Param is replaced by that entry and no node is made"
abbrev pub count_new : (Counted → Ty → Counted) → Counted → ℕ → State → Replaced → Counted
count_new g c r st keep = count_all g (counted c r st) (kids_of st)
count_new g c r st missing_entry = missed c
count_new g c r st (entry t) = c

abbrev pub count_root : (Counted → Ty → Counted) → Bool → Counted → ℕ → State → Replaced → Counted
count_root g true c r st u = count_new g c r st u
count_root g false c r st u = c

-- at most f deep; what has no mark is not counted
unfoldable pub count_f : ℕ → List Node → Option (List Ty) → Counted → Ty → Counted
count_f zero ns ps c t = c
count_f (suc f) ns ps c t =
    let r : ℕ = (find ns t).idx in
    count_root (count_f f ns ps) (eqb (get_or c.marks r 1) 0) c r (state_at ns t) (replaced ps (state_at ns t))

-- nothing is counted yet
abbrev pub uncounted : List ℕ → Counted
uncounted ms = record { marks = ms; sum = record { missing = false; nodes = 0; children = 0 } }

-- what an import of a list out of the nodes ns needs
unfoldable pub needs : List Node → Option (List Ty) → List Ty → Needs
needs ns ps ts = (count_all (count_f (length ns) ns ps) (uncounted (replicate (length ns) 0)) ts).sum

-- what `export` imports: "error type first, nil next", then the list
abbrev pub listed : Option Ty → List Ty
listed none = []
listed (some t) = t ∷ []

abbrev pub exported : Store → List Ty → List Ty
exported s ts = listed s.error ++ (listed s.nil ++ ts)
