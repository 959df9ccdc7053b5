-- A unify that remembers: a pair that did not succeed is remembered with its answer, if no word of a node changed from the beginning of its visit on, and it counts
-- only until one changes. Beside the nodes goes a memory, whose clock moves where a node changes: at a merge, and where `find_mut` shortens a path. No note is ever
-- lost, as in a lent memory where each pair of types has its own place (crate recall); what crates recall, heed and unify do to words is done here to notes. The rest
-- is `Unify`'s, in its order.
use Rattle.std.specs.Prelude.{List, [], ◌∷◌, Bool, true, false, ◌&&◌, ℕ, zero, suc, eqb, length}
use Rattle.std.proofs.Math.Option.{Option, none, some}
use Rattle.scope.specs.Base.{pick, xor}
use Rattle.scope.specs.Names.{Texts}
use Rattle.scope.specs.Types.{Ty}
use Rattle.scope.specs.Kinds.{eq_bool}
use Rattle.scope.specs.Nodes.{Kind, Node, Root, Child, at, is_root, find, find_mut}
use Rattle.scope.specs.Answers.{Answer, Success, Failure, Indeterminate, both}
use Rattle.scope.specs.Unify.{Out, out, Plan, plan, kind_in, same_node, bind, settle}

-- two roots that were met, the clock then, and what they answered
pub record Note : Type 0 where
  pub first : Ty
  pub second : Ty
  pub when : ℕ
  pub answer : Answer

-- the clock is 0 until it starts, at the first visit after those that `left` still counts; nothing is noted before. `visits` counts all of them
pub record Memory : Type 0 where
  pub clock : ℕ
  pub left : ℕ
  pub notes : List Note
  pub visits : ℕ

-- nothing is remembered, and the first w visits are only counted
abbrev pub begun : ℕ → Memory
begun w = record { clock = 0; left = w; notes = []; visits = 0 }

abbrev pub timed : Memory → ℕ → Memory
timed m c = record { clock = c; left = m.left; notes = m.notes; visits = m.visits }

-- one visit more
abbrev pub visited_at : ℕ → ℕ → List Note → ℕ → Memory
visited_at zero zero ns v = record { clock = 1; left = 0; notes = ns; visits = suc v }
visited_at zero (suc l) ns v = record { clock = 0; left = l; notes = ns; visits = suc v }
visited_at (suc c) l ns v = record { clock = suc c; left = l; notes = ns; visits = suc v }

unfoldable pub visited : Memory → Memory
visited m = visited_at m.clock m.left m.notes m.visits

-- a node changes: a clock that has started moves
abbrev pub moved : ℕ → ℕ
moved zero = zero
moved (suc c) = suc (suc c)

abbrev pub changed : Memory → Memory
changed m = timed m (moved m.clock)

-- only Success merges
abbrev pub merged : Answer → Memory → Memory
merged Success m = changed m
merged Failure m = m
merged Indeterminate m = m

-- `find_mut` changes no node where the type's node or its parent is a root
abbrev pub near_node : List Node → Node → Bool
near_node ns (Root st z) = true
near_node ns (Child u) = is_root (at ns u.idx)

abbrev pub near : List Node → Ty → Bool
near ns t = near_node ns (at ns t.idx)

abbrev pub found : Memory → List Node → Ty → Memory
found m ns t = pick (near ns t) m (changed m)

-- does a note speak of these two roots now?
abbrev pub same_type : Ty → Ty → Bool
same_type t u = eq_bool t.inv u.inv && eqb t.idx u.idx

abbrev pub speaks : ℕ → Ty → Ty → Note → Bool
speaks c a b n = eqb n.when c && (same_type n.first a && same_type n.second b)

abbrev pub told : ℕ → List Note → Ty → Ty → Option Answer
told c [] a b = none
told c (n ∷ ns) a b = pick (speaks c a b n) (some n.answer) (told c ns a b)

abbrev pub look : Memory → Ty → Ty → Option Answer
look m a b = told m.clock m.notes a b

-- what two roots answered is noted if the clock is as it was when their visit began, and had started then
abbrev pub started : ℕ → Bool
started zero = false
started (suc c) = true

abbrev pub noting : ℕ → ℕ → Bool
noting c began = eqb c began && started began

abbrev pub noted : Memory → Ty → Ty → Answer → Memory
noted m a b r = record {
  clock = m.clock;
  left = m.left;
  notes = record { first = a; second = b; when = m.clock; answer = r } ∷ m.notes;
  visits = m.visits;
}

abbrev pub note : Memory → ℕ → Ty → Ty → Answer → Memory
note m began a b r = pick (noting m.clock began) (noted m a b r) m

-- a Success changes nodes, and anything else is noted
abbrev pub settled : Memory → ℕ → Ty → Ty → Answer → Memory
settled m began a b Success = changed m
settled m began a b Failure = note m began a b Failure
settled m began a b Indeterminate = note m began a b Indeterminate

-- the nodes and the answer, and the memory
pub record Result : Type 0 where
  pub out : Out
  pub memory : Memory

abbrev pub result : Out → Memory → Result
result o m = record { out = o; memory = m }

abbrev pub Step : Type 0
Step = Memory → List Node → Ty → Ty → Result

-- pairs in order. u unifies one level down
unfoldable pub recall_run : Step → Memory → List Node → Answer → List (Ty × Ty) → Result
recall_run u m ns r [] = result (out ns r) m
recall_run u m ns r (p ∷ ps) =
    let o : Result = u m ns p.0 p.1 in recall_run u o.memory o.out.nodes (both r o.out.answer) ps

abbrev pub recall_bind : ℕ → Memory → List Node → Ty → Ty → Result
recall_bind n m ns a b = result (bind n ns a b) (merged (bind n ns a b).answer m)

-- the children of two kinds, and what they answered
abbrev pub recall_kids : Step → Texts → Memory → List Node → Ty → Ty → Bool × Kind → Bool × Kind → Result
recall_kids u x m ns a b k l =
    let p : Plan = plan x k.1 l.1 (xor k.0 l.0) in
    let o : Result = recall_run u m ns p.base p.pairs in
    result (settle o.out.nodes a b o.out.answer) (settled o.memory m.clock a b o.out.answer)

-- two kinds: what is remembered of the two roots, or else their children
abbrev pub recall_known : Step → Texts → Memory → List Node → Ty → Ty → Bool × Kind → Bool × Kind → Option Answer → Result
recall_known u x m ns a b k l (some r) = result (out ns r) m
recall_known u x m ns a b k l none = recall_kids u x m ns a b k l

abbrev pub recall_kinds : Step → Texts → ℕ → Memory → List Node → Ty → Ty → Option (Bool × Kind) → Option (Bool × Kind) → Result
recall_kinds u x n m ns a b none l = recall_bind n m ns a b
recall_kinds u x n m ns a b (some k) none = recall_bind n m ns a b
recall_kinds u x n m ns a b (some k) (some l) = recall_known u x m ns a b k l (look m a b)

unfoldable pub recall_meet : Step → Texts → ℕ → Memory → List Node → Ty → Ty → Result
recall_meet u x n m ns a b =
    pick (eqb a.idx b.idx) (result (out ns (same_node n ns a b)) m) (recall_kinds u x n m ns a b (kind_in ns a) (kind_in ns b))

-- each call at a pair, its depth left, is a visit
unfoldable pub recall_f : Texts → ℕ → ℕ → Step
recall_f x n zero m ns p q = result (out ns Failure) m
recall_f x n (suc f) m ns p q =
    let ns₁ : List Node = find_mut ns p in
    recall_meet (recall_f x n f) x n (found (found (visited m) ns p) ns₁ q) (find_mut ns₁ q) (find ns p) (find ns₁ q)

-- from a memory of which w visits are only counted
unfoldable pub recall : ℕ → Texts → List Node → Ty → Ty → Result
recall w x ns p q = recall_f x (length ns) (length ns) (begun w) ns p q

-- what a plan asks, one memory for all its pairs
unfoldable pub recall_carry : ℕ → Texts → List Node → Plan → Result
recall_carry w x ns l = recall_run (recall_f x (length ns) (length ns)) (begun w) ns l.base l.pairs
