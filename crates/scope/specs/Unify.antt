-- "Making and unifying": `unify` and what calls it, over a store's nodes, in 01's order: same node, either has no kind, both are Known. Depths count
-- down from the node count.
use Rattle.std.specs.Prelude.{List, [], ◌∷◌, ◌++◌, Bool, true, false, not, ◌&&◌, ◌||◌, ℕ, zero, suc, ◌+◌, eqb, ltb, length, set}
use Rattle.std.proofs.Math.Option.{Option, none, some}
use Rattle.scope.specs.Base.{pick, xor, all, any, front, last}
use Rattle.scope.specs.Names.{Texts, Name, bytes_or, eq_bytes}
use Rattle.scope.specs.Types.{Ty, flip}
use Rattle.scope.specs.Kinds.{Head, self_dual, OBJECT, CLOSURE, KEY, DEFAULT, ERROR, PARAM}
use Rattle.scope.specs.Nodes.{Kind, State, Known, Unknown, InferenceFailed, Node, Root, Child, at, state_of, size_of, find, find_mut, kids_of, kind_of}
use Rattle.scope.specs.Answers.{Answer, Success, Failure, Indeterminate, both, of_bool}

-- the nodes and the answer
pub record Out : Type 0 where
  pub nodes : List Node
  pub answer : Answer

abbrev pub out : List Node → Answer → Out
out ns r = record { nodes = ns; answer = r }

-- "`self_inverse` holds where the root has a self-dual kind and it holds of every child; never where there is no kind"; a Param is as `param` says
unfoldable pub self_inverse_at : Bool → ℕ → List Node → ℕ → Bool
self_inverse_at param zero ns a = false
self_inverse_at param (suc f) ns a =
    elim (state_of (at ns a)) [
      | Known i k ↦ pick (eqb k.head.code PARAM) param (self_dual k.head && all (λ c. self_inverse_at param f ns (find ns c).idx) k.kids)
      | Unknown p ↦ false
      | InferenceFailed ↦ false
    ]

-- `_self_inverse`, of a type; `self_inverse` is the same with no Param
unfoldable pub self_inverse_of : List Node → Ty → Bool → Bool
self_inverse_of ns t param = self_inverse_at param (length ns) ns (find ns t).idx

-- "Same node: Success if the inversions agree or `self_inverse` holds, else Failure"
abbrev pub same_node : ℕ → List Node → Ty → Ty → Answer
same_node n ns a b = of_bool (not (xor a.inv b.inv) || self_inverse_at false n ns a.idx)

-- `occurs`: is the root x the root y, or in what its kind holds?
unfoldable pub occurs : ℕ → List Node → ℕ → ℕ → Bool
occurs zero ns x y = true
occurs (suc f) ns x y = eqb y x || any (λ c. occurs f ns x (find ns c).idx) (kids_of (state_of (at ns y)))

-- the state of a root, and its inversion and kind as a type of it sees them
abbrev pub state_in : List Node → Ty → State
state_in ns a = state_of (at ns a.idx)

abbrev pub kind_in : List Node → Ty → Option (Bool × Kind)
kind_in ns a = kind_of a (state_in ns a)

-- the root w stays with the state st, the root l becomes its child
abbrev pub join : List Node → Ty → Ty → State → List Node
join ns w l st =
    set (set ns w.idx (Root st (size_of (at ns w.idx) + size_of (at ns l.idx)))) l.idx (Child (flip l.inv w))

-- "The first root stays if its size is larger; on equal sizes it becomes the child"; each comes with the state that it has if it stays
unfoldable pub merge : List Node → Ty → Ty → State → State → List Node
merge ns a b sa sb = pick (ltb (size_of (at ns b.idx)) (size_of (at ns a.idx))) (join ns a b sa) (join ns b a sb)

-- the state of the staying root w: either kind, as w sees it; "The staying root keeps its own span or failed mark"
abbrev pub kept : List Node → Ty → Option (Bool × Kind) → Option (Bool × Kind) → State
kept ns w (some k) m = Known (xor w.inv k.0) k.1
kept ns w none (some m) = Known (xor w.inv m.0) m.1
kept ns w none none = state_in ns w

-- "they merge and keep the kind"
abbrev pub bound : List Node → Ty → Ty → List Node
bound ns a b = merge ns a b (kept ns a (kind_in ns a) (kind_in ns b)) (kept ns b (kind_in ns a) (kind_in ns b))

-- "If either has no kind: Failure if one occurs in the other, else they merge and keep the kind"
unfoldable pub bind : ℕ → List Node → Ty → Ty → Out
bind n ns a b = pick (occurs n ns a.idx b.idx || occurs n ns b.idx a.idx) (out ns Failure) (out (bound ns a b) Success)

-- what is to be done: an answer to start from, and the pairs to unify in order
pub record Plan : Type 0 where
  pub base : Answer
  pub pairs : List (Ty × Ty)

-- nothing to unify
abbrev pub answers : Answer → Plan
answers r = record { base = r; pairs = [] }

-- one plan, then another
abbrev pub after : Plan → Plan → Plan
after l m = record { base = both l.base m.base; pairs = l.pairs ++ m.pairs }

-- the pairs of two runs, the second's types inverted if i
unfoldable pub zipped : Bool → List Ty → List Ty → List (Ty × Ty)
zipped i [] ys = []
zipped i (x ∷ xs) [] = []
zipped i (x ∷ xs) (y ∷ ys) = (x, flip i y) ∷ zipped i xs ys

-- "Runs of different length answer Failure and unify nothing"
unfoldable pub run_plan : Bool → List Ty → List Ty → Plan
run_plan i xs ys = pick (eqb (length xs) (length ys)) (record { base = Success; pairs = zipped i xs ys }) (answers Failure)

-- "but a Closure's returns are still unified": the last children are the returns
unfoldable pub signature_plan : Bool → List Ty → List Ty → Plan
signature_plan i xs ys = after (run_plan i (front xs) (front ys)) (run_plan i (last xs) (last ys))

-- the type beside a name's bytes
unfoldable pub seek : Texts → List ℕ → List (Option Name) → List Ty → Option Ty
seek x n [] ts = none
seek x n (m ∷ ms) [] = none
seek x n (m ∷ ms) (t ∷ ts) = pick (eq_bytes n (bytes_or x m)) (some t) (seek x n ms ts)

-- a's type t and the type that b has under the same name: one pair, or Failure where b has none
abbrev pub shared : Bool → Ty → Option Ty → Plan
shared i t none = answers Failure
shared i t (some u) = record { base = Success; pairs = (t, flip i u) ∷ [] }

-- "their shared names, in a's order"
unfoldable pub shared_names : Texts → Bool → List (Option Name) → List Ty → List (Option Name) → List Ty → Plan
shared_names x i [] ts ms us = answers Success
shared_names x i (n ∷ ns) [] ms us = answers Success
shared_names x i (n ∷ ns) (t ∷ ts) ms us = after (shared i t (seek x (bytes_or x n) ms us)) (shared_names x i ns ts ms us)

-- "Objects of different length or names answer Failure and still unify their shared names"
unfoldable pub object_plan : Texts → Bool → List (Option Name) → List Ty → List (Option Name) → List Ty → Plan
object_plan x i ns ts ms us = after (answers (of_bool (eqb (length ts) (length us)))) (shared_names x i ns ts ms us)

-- the children of two equal kinds, the second's inverted if i
unfoldable pub kids_plan : Texts → Bool → Kind → Kind → Plan
kids_plan x i k m =
    pick (eqb k.head.code OBJECT) (object_plan x i k.head.names k.kids m.head.names m.kids)
    (pick (eqb k.head.code CLOSURE) (signature_plan i k.kids m.kids) (run_plan i k.kids m.kids))

-- a Key's own name, by its bytes
abbrev pub first_name : Texts → List (Option Name) → List ℕ
first_name x [] = []
first_name x (n ∷ ns) = bytes_or x n

-- equal kinds, children apart: by code, by number, a Key by its name; a Param's and a Closure's names and `Flex` are not compared
unfoldable pub same_head : Texts → Head → Head → Bool
same_head x h k =
    eqb h.code k.code
    && (eqb h.number k.number && (not (eqb h.code KEY) || eq_bytes (first_name x h.names) (first_name x k.names)))

-- may equal kinds meet where their inversions differ? Self-dual kinds may, but a Default may not
unfoldable pub crosses : Head → Bool
crosses h = self_dual h && not (eqb h.code DEFAULT)

abbrev pub is_error : Head → Bool
is_error h = eqb h.code ERROR

-- "If both are Known": i says whether their inversions differ. "either Error: Indeterminate"; equal kinds "unify children, inverted if inversions
-- differ"; where they may not cross, "otherwise differing inversions: Failure"; "all else: Failure"
unfoldable pub plan : Texts → Kind → Kind → Bool → Plan
plan x k m i =
    pick (is_error k.head || is_error m.head) (answers Indeterminate)
    (pick (same_head x k.head m.head && (not i || crosses k.head)) (kids_plan x i k m) (answers Failure))

-- pairs in order; "no pair is skipped after a Failure". u unifies one level down
unfoldable pub run : (List Node → Ty → Ty → Out) → List Node → Answer → List (Ty × Ty) → Out
run u ns r [] = out ns r
run u ns r (p ∷ ps) = let o : Out = u ns p.0 p.1 in run u o.nodes (both r o.answer) ps

-- "Only Success merges"
unfoldable pub settle : List Node → Ty → Ty → Answer → Out
settle ns a b Success = out (merge ns a b (state_in ns a) (state_in ns b)) Success
settle ns a b Failure = out ns Failure
settle ns a b Indeterminate = out ns Indeterminate

-- "If either has no kind", "If both are Known": the kinds of two roots, if any; n is the node count
abbrev pub meet_kinds : (List Node → Ty → Ty → Out) → Texts → ℕ → List Node → Ty → Ty → Option (Bool × Kind) → Option (Bool × Kind) → Out
meet_kinds u x n ns a b none m = bind n ns a b
meet_kinds u x n ns a b (some k) none = bind n ns a b
meet_kinds u x n ns a b (some k) (some m) =
    let l : Plan = plan x k.1 m.1 (xor k.0 m.0) in
    let o : Out = run u ns l.base l.pairs in
    settle o.nodes a b o.answer

-- two roots: "Same node", or else by their kinds
unfoldable pub meet : (List Node → Ty → Ty → Out) → Texts → ℕ → List Node → Ty → Ty → Out
meet u x n ns a b =
    pick (eqb a.idx b.idx) (out ns (same_node n ns a b)) (meet_kinds u x n ns a b (kind_in ns a) (kind_in ns b))

-- "`unify` takes both roots with `find_mut`"
unfoldable pub unify_f : Texts → ℕ → ℕ → List Node → Ty → Ty → Out
unify_f x n zero ns p q = out ns Failure
unify_f x n (suc f) ns p q =
    let ns₁ : List Node = find_mut ns p in
    meet (unify_f x n f) x n (find_mut ns₁ q) (find ns p) (find ns₁ q)

unfoldable pub unify : Texts → List Node → Ty → Ty → Out
unify x ns p q = unify_f x (length ns) (length ns) ns p q

-- what a plan asks, each pair by `unify`
abbrev pub carry : Texts → List Node → Plan → Out
carry x ns l = run (unify x) ns l.base l.pairs

-- `unify_types`, `unify_objects`
unfoldable pub unify_types : Texts → List Node → List Ty → List Ty → Bool → Out
unify_types x ns xs ys i = carry x ns (run_plan i xs ys)

unfoldable pub unify_objects : Texts → List Node → List (Option Name) → List Ty → List (Option Name) → List Ty → Bool → Out
unify_objects x ns an xs bn ys i = carry x ns (object_plan x i an xs bn ys)

-- a trait over types, or an error
pub data ImplType : Type 0 where
  Trait : ℕ → List Ty → ImplType
  Error : ImplType

-- two impl types: as many types of one trait, or Failure; an Error is Indeterminate
abbrev pub impl_plan : ImplType → ImplType → Plan
impl_plan Error b = answers Indeterminate
impl_plan (Trait i xs) Error = answers Indeterminate
impl_plan (Trait i xs) (Trait j ys) = pick (eqb i j) (run_plan false xs ys) (answers Failure)

-- `unify_impl_type`, `unify_fn_sig`
unfoldable pub unify_impl_type : Texts → List Node → ImplType → ImplType → Out
unify_impl_type x ns a b = carry x ns (impl_plan a b)

unfoldable pub unify_fn_sig : Texts → List Node → List Ty → Ty → List Ty → Ty → Out
unify_fn_sig x ns xs r ys q = carry x ns (after (run_plan false xs ys) (run_plan false (r ∷ []) (q ∷ [])))

-- `approx_eq`
abbrev pub approx_eq : ImplType → ImplType → Bool
approx_eq Error b = false
approx_eq (Trait i xs) Error = false
approx_eq (Trait i xs) (Trait j ys) = eqb i j
