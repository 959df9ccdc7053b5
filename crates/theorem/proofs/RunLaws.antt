-- A list on memory, call by call: the words read as the store that the definitions' list leaves, every code answer is the definitions' answer, and what is
-- said of the code's answers and of the words is what scope says of the definitions'.
-- Assumes nothing.
use mathlib.Core.Path.{◌≡◌, refl, sym, ap, subst, ◌∙◌}
use mathlib.Core.Bool.{Bool, true, false}
use mathlib.Core.List.{List, [], ◌∷◌, ◌++◌}
use mathlib.Core.Logic.{◌↔◌}
use mathlib.Core.Option.{some}
use Prim.Native.Nat.{ℕ, ◌+◌, ◌≤◌}
use native.Mathlib.Omega.{arith}
use lib.Dec.{ltb}
use lib.ListN.{length}
use borrow.Author.Tests.{ltb-false}
use Rattle.scope.specs.Limits.{MAX_NODES, MAX_CHILDREN}
use Rattle.scope.specs.Chart.{Env}
use Rattle.scope.specs.Nodes.{Store, opened, at, state_of}
use Rattle.scope.specs.Answers.{Answer}
use Rattle.scope.specs.Sound.{reads}
use Rattle.scope.specs.Calls.{Outcome, refused, done, open_test, open_call, unify_call, store_of}
use Rattle.scope.specs.Calls.{new_call, new_struct_call, new_union_call, new_var_call, new_vars_call, error_call, nil_call, import_call}
use Rattle.scope.specs.Import.{copies}
use Rattle.scope.specs.Trees.{Val, NodeFits}
use Rattle.scope.specs.Demand.{Maker, new, new_var, new_struct, new_union, new_vars, error, nil, Call, make, import, force_kind, unify, read, later, given, step, step_maker, next, after}
use Rattle.scope.specs.Demand.{states_made, Asks, Asked, Answers, EveryAnswer, is_default, MakesNoDefault, NoDefault, if_taken, made_by, nodes_made}
use Rattle.scope.specs.Replies.{Reply, type, types, answer, reply, reply_maker, reply_of, replies}
use Rattle.scope.proofs.Steps.{judged_cases}
use Rattle.theorem.specs.Memory.{Memory, Fixed, env, held, roomy, Opened}
use Rattle.theorem.specs.Runs.{Runs, stop, ◌then◌, calls_of, replies_of, joined, EachStep, summed, was_made, asks, unify_answers, no_default, nodes_by}
use Rattle.theorem.proofs.StepLaws.{CleanWords, Leaves, not_done}
use Rattle.theorem.proofs.Steps.{stepped}
use Rattle.std.proofs.lemmas.Bool.{or_parts}

-- opening

-- what an opening that is done says of capacities and of the store
pub record Fresh (n c : ℕ) (s : Store) : Type 0 where
  pub nodes : n ≤ MAX_NODES
  pub children : c ≤ MAX_CHILDREN
  pub is : s ≡ opened n c

open_fresh : (n c : ℕ) (b : Bool) (s : Store) → open_call n c b ≡ done tt s → Fresh n c s
unfolding open_call
open_fresh n c b s = judged_cases (λ o. o ≡ done tt s → Fresh n c s) (open_test n c b ∷ []) (done tt (opened n c))
    (λ k q. not_done q)
    (λ p q. let x = or_parts (ltb MAX_NODES n) _ p.0 in let y = or_parts (ltb MAX_CHILDREN c) _ x.1 in record {
      nodes = ltb-false MAX_NODES n x.0;
      children = ltb-false MAX_CHILDREN c y.0;
      is = same q;
    })
  where
    same : ◌≡◌ {A = Outcome (Unit {0})} (done tt (opened n c)) (done tt s) → s ≡ opened n c
    same q = cc

pub opened_clean : {n c : ℕ} {m : Memory} → Opened n c m → CleanWords m
opened_clean o = record { is = (o.left.again refl).holds.clean }

pub opened_fresh : {n c : ℕ} {m : Memory} → Opened n c m → Fresh n c (held m)
opened_fresh {n} {c} {m} o = open_fresh n c (roomy n c o.found) (held m) o.left.outcome

-- the list

pub record Ended (f : Fixed) {m m' : Memory} (run : Runs f m m') : Type 0 where
  pub says : CleanWords m'
  pub store : held m' ≡ after (env f) (held m) (calls_of run)
  pub answers : replies_of run ≡ replies (env f) (held m) (calls_of run)

pub ended : (f : Fixed) {m m' : Memory} (run : Runs f m m') → CleanWords m → Ended f run
unfolding after replies calls_of replies_of
ended f stop k = record { says = k; store = refl; answers = refl }
ended f (◌then◌ {m} {c} {r} x xs) k =
    let l = stepped f k x in
    let t = ended f xs l.says in record {
      says = t.says;
      store = t.store ∙ ap (λ (s : Store). after (env f) s (calls_of xs)) l.store;
      answers = (λ i. l.answer i ∷ (t.answers ∙ ap (λ (s : Store). replies (env f) s (calls_of xs)) l.store) i);
    }

-- one call: what is said of it

module _ (s : Store) where
  outcome_made : {A : Type 0} (g : A → Reply) → ((a : A) → was_made (g a) ≡ true) → (o : Outcome A) → was_made (reply g o) ≡ (step s o).taken
  outcome_made g h (refused n) = refl
  outcome_made g h (done a s') = h a

  maker_made : (e : Env) (k : Maker) → was_made (reply_maker e s k) ≡ (step_maker e s k).taken
  maker_made e (new a) = outcome_made type (λ t. refl) (new_call e (reads s) a)
  maker_made e (new_var p) = outcome_made type (λ t. refl) (new_var_call e (reads s) p)
  maker_made e (new_struct n ts) = outcome_made type (λ t. refl) (new_struct_call e (reads s) n ts)
  maker_made e (new_union n ts) = outcome_made type (λ t. refl) (new_union_call e (reads s) n ts)
  maker_made e (new_vars p n h) = outcome_made types (λ t. refl) (new_vars_call e (reads s) p n h)
  maker_made e error = outcome_made type (λ t. refl) (error_call e (reads s))
  maker_made e nil = outcome_made type (λ t. refl) (nil_call e (reads s))

-- an answer given, and the reply that says so
pub answer_given : (o : Outcome Answer) (x : Answer) → given o ≡ some x → reply answer o ≡ answer x
answer_given (refused n) x q = let z : ◌≡◌ {A = ℕ} 0 1 = cc in absurd (omega arith)
answer_given (done a s) x q = cc

pub given_answer : (o : Outcome Answer) (x : Answer) → answer x ≡ reply answer o → given o ≡ some x
given_answer (refused n) x q = let z : ◌≡◌ {A = ℕ} 0 1 = cc in absurd (omega arith)
given_answer (done a s) x q = cc

-- one test for another
if_so : {a b : Bool} {X : Type 0} → a ≡ b → (a ≡ true → X) ↔ (b ≡ true → X)
if_so q = ((λ f y. f (q ∙ y)), (λ f y. f (sym q ∙ y)))

same_type_lem : {X Y : Type 0} → X ≡ Y → X ↔ Y
same_type_lem {X} q = subst (λ (Z : Type 0). X ↔ Z) q ((λ x. x), (λ x. x))

module _ (e : Env) (m m' : Memory) where
  abbrev s : Store
  s = held m

  asks_same : (v : Val) (c : Call) {r : Reply} → Leaves (next e s c) (reply_of e s c) r m' → asks e v m c r m' ↔ Asks e v s c
  asks_same v (make k) l = if_so (ap was_made l.answer ∙ maker_made s e k)
  asks_same v (import x ts ps h) l =
      same_type_lem (ap (λ (t : Store). (n : ℕ) → length s.nodes ≤ n → NodeFits e v n (at t.nodes n)) l.store)
  asks_same v (force_kind t) l = ((λ x. x), (λ x. x))
  asks_same v (unify a b) l = if_so (ap was_made l.answer ∙ outcome_made s answer (λ x. refl) (unify_call e (reads s) a b))
  asks_same v (read q) l = ((λ x. x), (λ x. x))
  asks_same v (later q) l = ((λ x. x), (λ x. x))

  answers_same : (P : Answer → Type 0) (c : Call) {r : Reply} → Leaves (next e s c) (reply_of e s c) r m' → unify_answers P m c r m' → Answers P e s c
  answers_same P (make k) l h = tt
  answers_same P (import x ts ps n) l h = tt
  answers_same P (force_kind t) l h = tt
  answers_same P (unify a b) l h = λ x q. h x (l.answer ∙ answer_given (unify_call e (reads s) a b) x q)
  answers_same P (read q) l h = tt
  answers_same P (later q) l h = tt

  default_same : (c : Call) {r : Reply} → Leaves (next e s c) (reply_of e s c) r m' → no_default e m c r m' → MakesNoDefault e s c
  default_same (make k) l h = (if_so (ap was_made l.answer ∙ maker_made s e k)).0 h
  default_same (import x ts ps n) l h =
      (same_type_lem (ap (λ (t : Store). (n : ℕ) → length s.nodes ≤ n → is_default (state_of (at t.nodes n)) ≡ false) l.store)).0 h
  default_same (force_kind t) l h = tt
  default_same (unify a b) l h = tt
  default_same (read q) l h = tt
  default_same (later q) l h = tt

  pub nodes_same : (c : Call) {r : Reply} → Leaves (next e s c) (reply_of e s c) r m' → nodes_by e m c r ≡ made_by e s c
  nodes_same (make k) l = ap (λ (b : Bool). if_taken b (length (states_made e s k))) (ap was_made l.answer ∙ maker_made s e k)
  nodes_same (import x ts ps h) l =
      ap (λ (b : Bool). if_taken b (copies (store_of x).nodes ps ts)) (ap was_made l.answer ∙ outcome_made s types (λ t. refl) (import_call e (reads s) x ts ps h))
  nodes_same (force_kind t) l = refl
  nodes_same (unify a b) l = refl
  nodes_same (read q) l = refl
  nodes_same (later q) l = refl

-- and of a list

module _ (f : Fixed) where
  abbrev e : Env
  e = env f

  pub asked_same : (v : Val) {m m' : Memory} (run : Runs f m m') → CleanWords m → EachStep (asks e v) run ↔ Asked e v (held m) (calls_of run)
  unfolding EachStep Asked calls_of
  asked_same v stop k = ((λ x. x), (λ x. x))
  asked_same v (◌then◌ {m} {m₁} {c} x xs) k =
      let l = stepped f k x in
      let g = asks_same e m m₁ v c l in
      let t = subst (λ (s : Store). EachStep (asks e v) xs ↔ Asked e v s (calls_of xs)) l.store (asked_same v xs l.says) in
      ((λ y. (g.0 y.0, t.0 y.1)), (λ y. (g.1 y.0, t.1 y.1)))

  pub answers_every : (P : Answer → Type 0) {m m' : Memory} (run : Runs f m m') → CleanWords m → EachStep (unify_answers P) run
      → EveryAnswer P e (held m) (calls_of run)
  unfolding EachStep EveryAnswer calls_of
  answers_every P stop k h = tt
  answers_every P (◌then◌ {m} {m₁} {c} x xs) k h =
      let l = stepped f k x in
      (answers_same e m m₁ P c l h.0, subst (λ (s : Store). EveryAnswer P e s (calls_of xs)) l.store (answers_every P xs l.says h.1))

  pub default_none : {m m' : Memory} (run : Runs f m m') → CleanWords m → EachStep (no_default e) run → NoDefault e (held m) (calls_of run)
  unfolding EachStep NoDefault calls_of
  default_none stop k h = tt
  default_none (◌then◌ {m} {m₁} {c} x xs) k h =
      let l = stepped f k x in
      (default_same e m m₁ c l h.0, subst (λ (s : Store). NoDefault e s (calls_of xs)) l.store (default_none xs l.says h.1))

  pub nodes_added : {m m' : Memory} (run : Runs f m m') → CleanWords m → summed (nodes_by e) run ≡ nodes_made e (held m) (calls_of run)
  unfolding summed nodes_made calls_of
  nodes_added stop k = refl
  nodes_added (◌then◌ {m} {m₁} {c} x xs) k =
      let l = stepped f k x in
      (λ i. nodes_same e m m₁ c l i + (nodes_added xs l.says ∙ ap (λ (s : Store). nodes_made e s (calls_of xs)) l.store) i)

  pub calls_joined : {m m₁ m₂ : Memory} (xs : Runs f m m₁) (ys : Runs f m₁ m₂) → calls_of (joined xs ys) ≡ calls_of xs ++ calls_of ys
  unfolding joined calls_of
  calls_joined stop ys = refl
  calls_joined (◌then◌ {c} x xs) ys = ap (λ (cs : List Call). c ∷ cs) (calls_joined xs ys)
