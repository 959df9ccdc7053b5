-- On lists without the calls on names the ledger is every pair asked and every node made, and the second half with named states is the one that stood. By the
-- list's own shape: a pair stands in the ledger exactly where the list has a unify of it that got that answer.
-- Assumes nothing.
use mathlib.Core.Path.{◌≡◌, refl, sym, ap, subst, ◌∙◌}
use mathlib.Core.List.Memᴰ
use mathlib.Core.List.{List, [], ◌∷◌, ◌++◌, append_assoc, append-nil, Memᴰ}
use mathlib.Core.Logic.{◌↔◌, ◌⊎◌, inl, inr}
use Prim.Native.Nat.{ℕ, ◌+◌}
use native.Mathlib.Omega.{arith}
use Rattle.scope.specs.Types.{Ty}
use Rattle.scope.specs.Answers.{Answer, Success}
use Rattle.scope.specs.Demand.{Call, make, import, force_kind, unify, read, later}
use Rattle.scope.specs.Replies.{Reply, number, type, types, answer, flag, forced, exported, a_node, a_child, a_name, a_store, marks, mod_is, text, nothing}
use Rattle.scope.specs.StatesDemand.{call, Pair, pair, Ledgers, no_ledger}
use Rattle.theorem.specs.Memory.{Memory, Fixed, env}
use Rattle.theorem.specs.Steps.{Ran}
use Rattle.theorem.specs.Runs.{Runs, stop, ◌then◌, joined, summed, nodes_by}
use Rattle.theorem.specs.DeskSteps.{DeskMemory, desk_of, DeskRan, stood}
use Rattle.theorem.specs.DeskRuns.{beside, pairs_of, enters, ledgers_from, ledger}
use Rattle.theorem.specs.StatesTheorem.{StatesHalf}
use Rattle.theorem.specs.Theorem.{SecondHalf}

-- the pairs that a list asks, in order
pairs_in : {f : Fixed} {m m' : Memory} → Runs f m m' → List Pair
pairs_in stop = []
pairs_in (◌then◌ {c} {r} x xs) = pairs_of c r ++ pairs_in xs

module _ (f : Fixed) (bs : List ℕ) where
  -- nodes made, pairs asked
  made_stood : {m m' : Memory} (run : Runs f m m') (g : Ledgers)
      → (ledgers_from g (beside bs run)).present.made ≡ g.present.made + summed (nodes_by (env f)) run
  unfolding ledgers_from beside summed
  made_stood stop g = omega arith
  made_stood (◌then◌ {m} {c} {r} x xs) g = omega (arith, made_stood xs (record { present = enters (env f) m g.present c r; saved = g.saved }))

  pairs_stood : {m m' : Memory} (run : Runs f m m') (g : Ledgers) → (ledgers_from g (beside bs run)).present.pairs ≡ g.present.pairs ++ pairs_in run
  unfolding ledgers_from beside pairs_in
  pairs_stood stop g = sym (append-nil g.present.pairs)
  pairs_stood (◌then◌ {m} {c} {r} x xs) g =
      pairs_stood xs (record { present = enters (env f) m g.present c r; saved = g.saved }) ∙ append_assoc g.present.pairs (pairs_of c r) (pairs_in xs)

-- where a list asked a pair
record Asked (f : Fixed) {m m' : Memory} (run : Runs f m m') (p : Pair) : Type 0 where
  m₁ : Memory
  m₂ : Memory
  before : Runs f m m₁
  asked : Ran f m₁ (unify p.a p.b) (answer p.answer) m₂
  later : Runs f m₂ m'
  list : run ≡ joined before (asked then later)

-- its first call, and the rest of it
first_asked : (f : Fixed) {m m₁ m' : Memory} (c : Call) (r : Reply) (x : Ran f m c r m₁) (xs : Runs f m₁ m') (p : Pair) → Memᴰ p (pairs_of c r)
    → Asked f (x then xs) p
unfolding joined
first_asked f (make k) r x xs p w = elim w [ ]
first_asked f (import l ts ps h) r x xs p w = elim w [ ]
first_asked f (force_kind t) r x xs p w = elim w [ ]
first_asked f (read q) r x xs p w = elim w [ ]
first_asked f (later q) r x xs p w = elim w [ ]
first_asked f {m} {m₁} (unify a b) (answer z) x xs p w =
    subst (Asked f (x then xs)) (sym (Memᴰ.eq_of_singleton w)) (record { m₁ = m; m₂ = m₁; before = stop; asked = x; later = xs; list = refl })
first_asked f (unify a b) (number n) x xs p w = elim w [ ]
first_asked f (unify a b) (type t) x xs p w = elim w [ ]
first_asked f (unify a b) (types ts) x xs p w = elim w [ ]
first_asked f (unify a b) (flag y) x xs p w = elim w [ ]
first_asked f (unify a b) (forced y) x xs p w = elim w [ ]
first_asked f (unify a b) (exported y) x xs p w = elim w [ ]
first_asked f (unify a b) (a_node n) x xs p w = elim w [ ]
first_asked f (unify a b) (a_child t) x xs p w = elim w [ ]
first_asked f (unify a b) (a_name n) x xs p w = elim w [ ]
first_asked f (unify a b) (a_store s) x xs p w = elim w [ ]
first_asked f (unify a b) (marks ms) x xs p w = elim w [ ]
first_asked f (unify a b) (mod_is y) x xs p w = elim w [ ]
first_asked f (unify a b) (text ys) x xs p w = elim w [ ]
first_asked f (unify a b) nothing x xs p w = elim w [ ]

later_asked : (f : Fixed) {m m₁ m' : Memory} {c : Call} {r : Reply} (x : Ran f m c r m₁) (xs : Runs f m₁ m') (p : Pair) → Asked f xs p → Asked f (x then xs) p
unfolding joined
later_asked f x xs p a = record {
  m₁ = a.m₁;
  m₂ = a.m₂;
  before = x then a.before;
  asked = a.asked;
  later = a.later;
  list = ap (λ (ys : Runs f _ _). x then ys) a.list;
}

pairs_asked : (f : Fixed) {m m' : Memory} (run : Runs f m m') (p : Pair) → Memᴰ p (pairs_in run) → Asked f run p
unfolding pairs_in
pairs_asked f stop p m = elim m [ ]
pairs_asked f (◌then◌ {c} {r} x xs) p m = go (Memᴰ.append_cases (pairs_of c r) m) (pairs_asked f xs p)
  where
    go : Memᴰ p (pairs_of c r) ⊎ Memᴰ p (pairs_in xs) → (Memᴰ p (pairs_in xs) → Asked f xs p) → Asked f (x then xs) p
    go (inl m) ih = first_asked f c r x xs p m
    go (inr m) ih = later_asked f x xs p (ih m)

-- and back: what is asked is among them
asked_pairs : (f : Fixed) {m m₁ m₂ m' : Memory} {a b : Ty} {z : Answer} (before : Runs f m m₁) (x : Ran f m₁ (unify a b) (answer z) m₂) (rest : Runs f m₂ m')
    → Memᴰ (pair a b z) (pairs_in (joined before (x then rest)))
unfolding pairs_in joined
asked_pairs f {m} {m₁} {m₂} {m'} {a} {b} {z} stop x rest = Memᴰ.append_left {s = pair a b z ∷ []} (pairs_in rest) (Memᴰ.head refl)
asked_pairs f (◌then◌ {c} {r} y ys) x rest = Memᴰ.append_right (pairs_of c r) (asked_pairs f ys x rest)

pub desk_stood : (f : Fixed) (bs : List ℕ) (m m' : Memory) (run : Runs f m m') → StatesHalf f (beside bs run) ↔ SecondHalf f run
desk_stood f bs m m' run = (to, back)
  where
    pairs : (ledger (beside bs run)).pairs ≡ pairs_in run
    pairs = pairs_stood f bs run no_ledger

    made : (ledger (beside bs run)).made ≡ summed (nodes_by (env f)) run
    made = omega (arith, made_stood f bs run no_ledger)

    to : StatesHalf f (beside bs run) → SecondHalf f run
    to h = record {
      again = λ {m₁} {m₂} {m₃} {a} {b} {r} before x rest q next.
          h.again (rw pairs (subst (λ (ys : Runs f m m'). Memᴰ (pair a b Success) (pairs_in ys)) (sym q) (asked_pairs f before x rest)))
          (stood {d = desk_of m' bs} next);
      added = h.added ∙ made;
      apart = h.apart;
      twelve = h.twelve;
    }

    -- the next unify stands beside the buffer as every call that stood does
    next_stood : {d₁ : DeskMemory} {a b : Ty} {r : Reply} → DeskRan f (desk_of m' bs) (call (unify a b)) r d₁ → (P : Reply → Type 0)
        → ((m₃ : Memory) → Ran f m' (unify a b) r m₃ → P r) → P r
    next_stood (stood {m} x) P g = g m x

    back : SecondHalf f run → StatesHalf f (beside bs run)
    back h = record {
      again = λ {d₁} {a} {b} {r} w next.
          let p = pairs_asked f run (pair a b Success) (subst (Memᴰ (pair a b Success)) pairs w) in
          next_stood next (λ x. x ≡ answer Success) (λ m₃ x. h.again p.before p.asked p.later p.list x);
      added = h.added ∙ sym made;
      apart = h.apart;
      twelve = h.twelve;
    }
