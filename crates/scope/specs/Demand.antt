-- "Demand 3's lists": the data type of calls, the run of a list of calls from a store just opened, and the two halves as types, to be inhabited.
-- Demand 3's own sentences stand without quotation marks; what these mark is 01's.
use Rattle.std.specs.Prelude.{◌≡◌, Bool, true, false, ◌↔◌, ℕ, suc, ◌+◌, ◌≤◌, ◌<◌, eqb, length, replicate}
use mathlib.Core.List.{List, [], ◌∷◌, ◌++◌, Memᴰ}
use Rattle.std.proofs.Math.Option.{Option, none, some}
use Rattle.scope.specs.Base.{any}
use Rattle.scope.specs.Limits.{MAX_NODES, MAX_CHILDREN}
use Rattle.scope.specs.Chart.{Env}
use Rattle.scope.specs.Types.{Ty}
use Rattle.scope.specs.Kinds.{STRUCT, UNION, TUPLE, DEFAULT, ERROR}
use Rattle.scope.specs.Nodes.{State, Known, Unknown, InferenceFailed, Node, Store, opened, at, state_of, state_at, is_known, size_of, kids_of}
use Rattle.scope.specs.Nodes as Nodes
use Rattle.scope.specs.Answers.{Answer, Success, Failure}
use Rattle.scope.specs.Unify.{ImplType}
use Rattle.scope.specs.Make.{bare}
use Rattle.scope.specs.Import.{copies}
use Rattle.scope.specs.Sound.{Lent, reads, rooted}
use Rattle.scope.specs.Calls.{Outcome, refused, done, store_of, kind_made, NewKind, over, Entries, find_call, find_mut_call, node_call, child_call, name_call, figures_call, new_call, new_struct_call}
use Rattle.scope.specs.Calls.{new_union_call, new_var_call, new_vars_call, error_call, nil_call}
use Rattle.scope.specs.Calls.{unify_call, unify_types_call, unify_objects_call, unify_impl_type_call, approx_eq_call, unify_fn_sig_call}
use Rattle.scope.specs.Calls.{force_kind_call, finish_inference_call, finish_where_call, find_related_call, self_inverse_call, is_nil_call, get_mod_call, import_call, export_call, show_call}
use Rattle.scope.specs.Calls.{show_impl_type_call}
use Rattle.scope.specs.Trees.{invert, Val, Proper, StateFits, NodeFits, Fits, PairFits}

-- the makers; `new_vars` has the room of its answer's list last
pub data Maker : Type 0 where
  new : NewKind → Maker
  new_var : ℕ → Maker
  new_struct : ℕ → List Ty → Maker
  new_union : ℕ → List Ty → Maker
  new_vars : ℕ → ℕ → ℕ → Maker
  error : Maker
  nil : Maker

-- "as reads `find`, `find_mut`, `export` out of the store and whatever hands out a node's state or children"
pub data Read : Type 0 where
  find : Ty → Read
  find_mut : Ty → Read
  export : ℕ → ℕ → Bool → List Ty → ℕ → Read
  node : Ty → Read
  child : Ty → ℕ → Read
  name : Ty → ℕ → Read
  figures : Read

-- the calls "Outside the theorem's first half"
pub data Later : Type 0 where
  unify_types : List Ty → List Ty → Bool → Later
  unify_objects : Entries → Entries → Bool → Later
  unify_impl_type : ImplType → ImplType → Later
  unify_fn_sig : List Ty → Ty → List Ty → Ty → Later
  finish_inference : Later
  finish_where : List ℕ → Later
  find_related : Ty → List ℕ → Later
  self_inverse : Ty → Bool → Later
  is_nil : Ty → Later
  get_mod : Ty → Later
  approx_eq : ImplType → ImplType → Later
  show : Ty → List ℕ → Later
  show_impl_type : ImplType → List ℕ → Later

-- a call on a store and its arguments: "every other argument is free, import's source included". `reset` takes the names buffer too (States)
pub data Call : Type 0 where
  make : Maker → Call
  import : Lent → List Ty → Option (List Ty) → ℕ → Call
  force_kind : Ty → Call
  unify : Ty → Ty → Call
  read : Read → Call
  later : Later → Call

-- the answer that an outcome gives; a refused call gives none
abbrev pub given : {A : Type 0} → Outcome A → Option A
given (refused n) = none
given (done a s) = some a

-- a store and the one that a call leaves, and whether the call was made: a refused call was not
pub record Step : Type 0 where
  pub taken : Bool
  pub store : Store

abbrev pub step : {A : Type 0} → Store → Outcome A → Step
step s (refused n) = record { taken = false; store = s }
step s (done a s') = record { taken = true; store = s' }

abbrev pub step_maker : Env → Store → Maker → Step
step_maker e s (new a) = step s (new_call e (reads s) a)
step_maker e s (new_var p) = step s (new_var_call e (reads s) p)
step_maker e s (new_struct n ts) = step s (new_struct_call e (reads s) n ts)
step_maker e s (new_union n ts) = step s (new_union_call e (reads s) n ts)
step_maker e s (new_vars p n h) = step s (new_vars_call e (reads s) p n h)
step_maker e s error = step s (error_call e (reads s))
step_maker e s nil = step s (nil_call e (reads s))

abbrev pub step_read : Env → Store → Read → Step
step_read e s (find t) = step s (find_call e (reads s) t)
step_read e s (find_mut t) = step s (find_mut_call e (reads s) t)
step_read e s (export n c b ts h) = step s (export_call e (reads s) n c b ts h)
step_read e s (node t) = step s (node_call e (reads s) t)
step_read e s (child t j) = step s (child_call e (reads s) t j)
step_read e s (name t j) = step s (name_call e (reads s) t j)
step_read e s figures = step s (figures_call e (reads s))

abbrev pub step_later : Env → Store → Later → Step
step_later e s (unify_types xs ys i) = step s (unify_types_call e (reads s) xs ys i)
step_later e s (unify_objects a b i) = step s (unify_objects_call e (reads s) a b i)
step_later e s (unify_impl_type a b) = step s (unify_impl_type_call e (reads s) a b)
step_later e s (unify_fn_sig xs r ys q) = step s (unify_fn_sig_call e (reads s) xs r ys q)
step_later e s finish_inference = step s (finish_inference_call e (reads s))
step_later e s (finish_where bs) = step s (finish_where_call e (reads s) bs)
step_later e s (find_related t ms) = step s (find_related_call e (reads s) t ms)
step_later e s (self_inverse t b) = step s (self_inverse_call e (reads s) t b)
step_later e s (is_nil t) = step s (is_nil_call e (reads s) t)
step_later e s (get_mod t) = step s (get_mod_call e (reads s) t)
step_later e s (approx_eq a b) = step s (approx_eq_call e (reads s) a b)
step_later e s (show t bs) = step s (show_call e (reads s) t bs).answer
step_later e s (show_impl_type a bs) = step s (show_impl_type_call e (reads s) a bs).answer

abbrev pub step_of : Env → Store → Call → Step
step_of e s (make m) = step_maker e s m
step_of e s (import l ts ps h) = step s (import_call e (reads s) l ts ps h)
step_of e s (force_kind t) = step s (force_kind_call e (reads s) t)
step_of e s (unify a b) = step s (unify_call e (reads s) a b)
step_of e s (read r) = step_read e s r
step_of e s (later c) = step_later e s c

-- "Each call gets what the last one left"
abbrev pub next : Env → Store → Call → Store
next e s c = (step_of e s c).store

unfoldable pub after : Env → Store → List Call → Store
after e s [] = s
after e s (c ∷ cs) = after e (next e s c) cs

-- "First half: the makers, `import`, `force_kind`, `unify`", and the reads
abbrev pub in_first_half : Call → Bool
in_first_half (make m) = true
in_first_half (import l ts ps h) = true
in_first_half (force_kind t) = true
in_first_half (unify a b) = true
in_first_half (read r) = true
in_first_half (later c) = false

unfoldable pub Each : (Call → Bool) → List Call → Type 0
Each p [] = Unit {0}
Each p (c ∷ cs) = (p c ≡ true) × Each p cs

-- the states that a maker makes its nodes in, from its arguments
abbrev pub unless_there : Option Ty → State → List State
unless_there none st = st ∷ []
unless_there (some t) st = []

unfoldable pub states_made : Env → Store → Maker → List State
states_made e s (new a) = Known false (kind_made e a) ∷ []
states_made e s (new_var p) = Unknown p ∷ []
states_made e s (new_struct n ts) = Known false (kind_made e (over STRUCT n ts)) ∷ []
states_made e s (new_union n ts) = Known false (kind_made e (over UNION n ts)) ∷ []
states_made e s (new_vars p n h) = replicate n (Unknown p)
states_made e s error = unless_there s.error (Known false (bare ERROR))
states_made e s nil = unless_there s.nil (Known false (bare TUPLE))

-- trees fit nodes as made, from node i on
unfoldable pub StatesFit : Env → Val → ℕ → List State → Type 0
StatesFit e v i [] = Unit {0}
StatesFit e v i (st ∷ sts) = StateFits e v st (v i) × StatesFit e v (suc i) sts

-- what a call asks of trees: every node as made, "on the state it was made in or its import left it in", and every pair unified
abbrev pub Asks : Env → Val → Store → Call → Type 0
Asks e v s (make m) = (step_maker e s m).taken ≡ true → StatesFit e v (length s.nodes) (states_made e s m)
Asks e v s (import l ts ps h) =
    (n : ℕ) → length s.nodes ≤ n → NodeFits e v n (at (next e s (import l ts ps h)).nodes n)
Asks e v s (force_kind t) = Unit {0}
Asks e v s (unify a b) = (step_of e s (unify a b)).taken ≡ true → PairFits e v a b
Asks e v s (read r) = Unit {0}
Asks e v s (later c) = Unit {0}

unfoldable pub Asked : Env → Val → Store → List Call → Type 0
Asked e v s [] = Unit {0}
Asked e v s (c ∷ cs) = Asks e v s c × Asked e v (next e s c) cs

-- a unify of the list that was made answered one of these
abbrev pub Answers : (Answer → Type 0) → Env → Store → Call → Type 0
Answers P e s (make m) = Unit {0}
Answers P e s (import l ts ps h) = Unit {0}
Answers P e s (force_kind t) = Unit {0}
Answers P e s (unify a b) = (r : Answer) → given (unify_call e (reads s) a b) ≡ some r → P r
Answers P e s (read r) = Unit {0}
Answers P e s (later c) = Unit {0}

unfoldable pub EveryAnswer : (Answer → Type 0) → Env → Store → List Call → Type 0
EveryAnswer P e s [] = Unit {0}
EveryAnswer P e s (c ∷ cs) = Answers P e s c × EveryAnswer P e (next e s c) cs

-- a Default made or imported
abbrev pub is_default : State → Bool
is_default (Known i k) = eqb k.head.code DEFAULT
is_default (Unknown p) = false
is_default InferenceFailed = false

abbrev pub MakesNoDefault : Env → Store → Call → Type 0
MakesNoDefault e s (make m) = (step_maker e s m).taken ≡ true → any is_default (states_made e s m) ≡ false
MakesNoDefault e s (import l ts ps h) =
    (n : ℕ) → length s.nodes ≤ n → is_default (state_of (at (next e s (import l ts ps h)).nodes n)) ≡ false
MakesNoDefault e s (force_kind t) = Unit {0}
MakesNoDefault e s (unify a b) = Unit {0}
MakesNoDefault e s (read r) = Unit {0}
MakesNoDefault e s (later c) = Unit {0}

unfoldable pub NoDefault : Env → Store → List Call → Type 0
NoDefault e s [] = Unit {0}
NoDefault e s (c ∷ cs) = MakesNoDefault e s c × NoDefault e (next e s c) cs

-- trees give a self-inverse tree to some node that had no kind just before: "A node has no kind if its root isn't Known"
pub record SelfInverseNode (e : Env) (v : Val) (ns : List Node) : Type 0 where
  pub node : ℕ
  pub made : node < length ns
  pub no_kind : is_known (state_at ns (record { inv = false; idx = node })) ≡ false
  pub own_inverse : invert e (v node) ≡ v node

-- the first half, of one list
pub record FirstHalf (e : Env) (s : Store) (cs : List Call) : Type 0 where
  -- if every unify answered Success, finite trees fit the final store exactly when they fit every node as made and every pair unified
  pub success : EveryAnswer (λ r. r ≡ Success) e s cs → (v : Val) → Proper e v → Fits e v (after e s cs).nodes ↔ Asked e v s cs
  -- a first Failure (no Default made or imported before) means that all such trees that also fit this pair give a self-inverse tree to some
  -- node that had no kind just before
  pub failure : (before later : List Call) (a b : Ty)
      → cs ≡ before ++ (unify a b ∷ later)
      → EveryAnswer (λ r. r ≡ Failure → ⊥) e s before
      → NoDefault e s before
      → given (unify_call e (reads (after e s before)) a b) ≡ some Failure
      → (v : Val) → Proper e v → Asked e v s before → PairFits e v a b
      → SelfInverseNode e v (after e s before).nodes

-- "one for each node that a maker makes, and one for each source root that `import` copies"
abbrev pub if_taken : Bool → ℕ → ℕ
if_taken true n = n
if_taken false n = 0

abbrev pub made_by : Env → Store → Call → ℕ
made_by e s (make m) = if_taken (step_maker e s m).taken (length (states_made e s m))
made_by e s (import l ts ps h) = if_taken (step_of e s (import l ts ps h)).taken (copies (store_of l).nodes ps ts)
made_by e s (force_kind t) = 0
made_by e s (unify a b) = 0
made_by e s (read r) = 0
made_by e s (later c) = 0

unfoldable pub nodes_made : Env → Store → List Call → ℕ
nodes_made e s [] = 0
nodes_made e s (c ∷ cs) = made_by e s c + nodes_made e (next e s c) cs

-- root sizes added up
unfoldable pub sizes : List Node → ℕ
sizes [] = 0
sizes (n ∷ ns) = size_of n + sizes ns

-- a step "from a root to the roots of its kind's children"
pub record Holds (ns : List Node) (a x : ℕ) : Type 0 where
  pub kid : Ty
  pub mem : Memᴰ kid (kids_of (state_of (at ns a)))
  pub to : (Nodes.find ns kid).idx ≡ x

-- "steps", "at least one"
pub data Contains (ns : List Node) : ℕ → ℕ → Type 0 where
  one : {a x : ℕ} → Holds ns a x → Contains ns a x
  more : {a y x : ℕ} → Holds ns a y → Contains ns y x → Contains ns a x

-- the second half, of one list
pub record SecondHalf (e : Env) (s : Store) (cs : List Call) : Type 0 where
  -- a pair that once got Success gets it again: "if `unify` of them, as the next call, answers so"
  pub again : (before later : List Call) (a b : Ty)
      → cs ≡ before ++ (unify a b ∷ later)
      → given (unify_call e (reads (after e s before)) a b) ≡ some Success
      → given (unify_call e (reads (after e s cs)) a b) ≡ some Success
  -- root sizes add up to the nodes made
  pub added : sizes (after e s cs).nodes ≡ nodes_made e s cs
  -- no type contains itself
  pub apart : (a : ℕ) → Contains (after e s cs).nodes a a → ⊥
  -- no node is over twelve parent steps from its root
  pub twelve : (i : ℕ) → i < length (after e s cs).nodes → rooted 12 (after e s cs).nodes i ≡ true

-- "Each list starts from a store just opened, with no node"; "Each half is a single claim about the whole list"
abbrev pub FirstHalfHolds : Type 0
FirstHalfHolds =
    (e : Env) (n c : ℕ) → n ≤ MAX_NODES → c ≤ MAX_CHILDREN → (cs : List Call) → Each in_first_half cs → FirstHalf e (opened n c) cs

-- "Second half: these and the next section's calls without `reset`": every `Call` is one of them, so the list is any list. `reset` is a call on a store and its
-- names buffer (States), and StatesDemand's `in_states_half` leaves it out
abbrev pub SecondHalfHolds : Type 0
SecondHalfHolds = (e : Env) (n c : ℕ) → n ≤ MAX_NODES → c ≤ MAX_CHILDREN → (cs : List Call) → SecondHalf e (opened n c) cs
