-- One step, whatever the call: slices that hold a store hold the one that the call's definition leaves, and the code's answer is the definition's. By what
-- every call promises, with an answer and without one.
-- Assumes nothing.
use mathlib.Core.Path.{◌≡◌, refl, sym, ap, subst, ◌∙◌}
use mathlib.Core.Bool.{true}
use Prim.Native.Nat.{ℕ}
use native.Mathlib.Omega.{arith}
use Rattle.scope.specs.Nodes.{Store}
use Rattle.scope.specs.Sound.{Lent, reads}
use Rattle.scope.specs.Calls.{Outcome, refused, done}
use Rattle.scope.specs.Demand.{Call, step, next}
use Rattle.scope.specs.Replies.{Reply, reply, reply_of}
use Rattle.layout.specs.Words.{clean}
use Rattle.layout.proofs.StoreLaws.{lent_clean}
use Rattle.promise.specs.Promise.{value, refusal}
use Rattle.promise.specs.Promise as promise
use Rattle.theorem.specs.Memory.{Memory, Fixed, env, lent, held, Did, Told}
use Rattle.theorem.specs.Steps.{replied}

-- the words say a store
pub record CleanWords (m : Memory) : Type 0 where
  pub is : clean m.head m.nodes m.kids ≡ true

pub clean_reads : {m : Memory} → CleanWords m → lent m ≡ reads (held m)
clean_reads {m} k = lent_clean m.head m.nodes m.kids k.is

-- a refusal is no answer
pub not_done : {A P : Type 0} {n : ℕ} {a : A} {s : Store} → ◌≡◌ {A = Outcome A} (refused n) (done a s) → P
not_done q = let z : ◌≡◌ {A = ℕ} 0 1 = cc in absurd (omega arith)

-- the words m say the store s, and the answer r is x
pub record Leaves (s : Store) (x r : Reply) (m : Memory) : Type 0 where
  pub says : CleanWords m
  pub store : held m ≡ s
  pub answer : r ≡ x

-- what a call of a list leaves
abbrev pub Stepped : Fixed → Memory → Call → Reply → Memory → Type 0
Stepped f m c r m' = Leaves (next (env f) (held m) c) (reply_of (env f) (held m) c) r m'

module _ {A : Type 0} (g : A → Reply) (o : Lent → Outcome A) {m : Memory} (k : CleanWords m) where
  abbrev s : Store
  s = held m

  -- the outcome on the words is the one on the store that they hold
  on_store : {x : Outcome A} → o (lent m) ≡ x → o (reads s) ≡ x
  on_store q = ap o (sym (clean_reads k)) ∙ q

  leaves : {r : Reply} {m' : Memory} {x : Outcome A} → o (lent m) ≡ x → Leaves (step s x).store (reply g x) r m'
      → Leaves (step s (o (reads s))).store (reply g (o (reads s))) r m'
  leaves q l = rw (on_store q) l

  pub did : (r : promise.Reply A) {m' : Memory} → Did (o (lent m)) r m m' → Leaves (step s (o (reads s))).store (reply g (o (reads s))) (replied g r) m'
  did (value a) p = leaves p.outcome (record { says = record { is = (p.again refl).holds.clean }; store = refl; answer = refl })
  did (refusal n) {m'} p =
      let same : m ≡ m' = sym (λ i. record { head = (p.kept refl).head i; nodes = (p.kept refl).nodes i; kids = (p.kept refl).kids i }) in
      leaves p.outcome (record { says = subst CleanWords same k; store = sym (ap held same); answer = refl })

  pub told : (r : promise.Reply A) → Told (o (lent m)) r m → Leaves (step s (o (reads s))).store (reply g (o (reads s))) (replied g r) m
  told (value a) p = leaves p (record { says = k; store = refl; answer = refl })
  told (refusal n) p = leaves p (record { says = k; store = refl; answer = refl })
