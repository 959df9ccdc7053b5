-- Demand 3 about the compiled calls on lent memory: from both halves of it about the definitions, along the list's own law (RunLaws).
-- Assumes nothing.
use mathlib.Core.Path.{◌≡◌, sym, ap, subst, ◌∙◌}
use mathlib.Core.Bool.{true}
use mathlib.Core.List.{◌∷◌, ◌++◌}
use mathlib.Core.Logic.{◌↔◌}
use mathlib.Core.Option.{some}
use Prim.Native.Nat.{ℕ, ◌<◌}
use lib.ListN.{length}
use Rattle.scope.specs.Chart.{Env}
use Rattle.scope.specs.Types.{Ty}
use Rattle.scope.specs.Nodes.{Store}
use Rattle.scope.specs.Answers.{Answer, Success, Failure}
use Rattle.scope.specs.Sound.{reads, rooted}
use Rattle.scope.specs.Calls.{unify_call}
use Rattle.scope.specs.Trees.{Fits}
use Rattle.scope.specs.Demand.{unify, given, after, SelfInverseNode, sizes, Contains}
use Rattle.scope.specs.Demand as scope
use Rattle.scope.specs.Replies.{Reply, answer, replies}
use Rattle.scope.proofs.FirstHalf.{first_half}
use Rattle.scope.proofs.SecondHalf.{second_half}
use Rattle.theorem.specs.Memory.{Memory, Fixed, env, held, Opened}
use Rattle.theorem.specs.Steps.{Ran}
use Rattle.theorem.specs.Runs.{Runs, ◌then◌, calls_of, joined, EachStep, asks}
use Rattle.theorem.specs.Theorem.{FirstHalf, SecondHalf, ListHolds, Theorem}
use Rattle.theorem.proofs.Contracts.{contracts}
use Rattle.theorem.proofs.DeskStood.{desk_stood}
use Rattle.theorem.proofs.StatesTheorem.{states_theorem}
use Rattle.theorem.proofs.Tested.{tested_forms, stays_tested}
use Rattle.theorem.proofs.StepLaws.{CleanWords, clean_reads}
use Rattle.theorem.proofs.Steps.{stepped}
use Rattle.theorem.proofs.RunLaws.{Fresh, opened_clean, opened_fresh, Ended, ended, answer_given, given_answer, asked_same, answers_every, default_none, nodes_added, calls_joined}

-- two equivalences that meet
meet : {A B C : Type 0} → (A ↔ B) → (C ↔ B) → A ↔ C
meet g h = ((λ x. h.1 (g.0 x)), (λ x. g.1 (h.0 x)))

module _ (f : Fixed) {m m' : Memory} (run : Runs f m m') (k : CleanWords m) where
  abbrev e : Env
  e = env f

  end : Ended f run
  end = ended f run k

  -- a part of the list, and a unify that answered x behind it
  calls_parted : {m₁ m₂ : Memory} {a b : Ty} {r : Reply} (before : Runs f m m₁) (call : Ran f m₁ (unify a b) r m₂) (later : Runs f m₂ m')
      → run ≡ joined before (call then later) → calls_of run ≡ calls_of before ++ (unify a b ∷ calls_of later)
  unfolding calls_of
  calls_parted before call later q = ap calls_of q ∙ calls_joined f before (call then later)

  unify_gave : {m₁ m₂ : Memory} {a b : Ty} (x : Answer) (before : Runs f m m₁) → Ran f m₁ (unify a b) (answer x) m₂
      → given (unify_call e (reads (after e (held m) (calls_of before))) a b) ≡ some x
  unify_gave {m₁} {m₂} {a} {b} x before call =
      let t = ended f before k in
      subst (λ (s : Store). given (unify_call e (reads s) a b) ≡ some x) t.store (given_answer (unify_call e (reads (held m₁)) a b) x (stepped f t.says call).answer)

  pub first : scope.FirstHalf e (held m) (calls_of run) → FirstHalf f run
  first h = record {
    success = λ a v p. subst (λ (s : Store). Fits e v s.nodes ↔ EachStep (asks e v) run) (sym end.store)
        (meet (h.success (answers_every f (λ x. x ≡ Success) run k a) v p) (asked_same f v run k));
    failure = λ {m₁} {m₂} {a} {b} before call later q ans d v p asked pair.
        subst (λ (s : Store). SelfInverseNode e v s.nodes) (sym (ended f before k).store)
        (h.failure (calls_of before) (calls_of later) a b (calls_parted before call later q) (answers_every f (λ x. x ≡ Failure → ⊥) before k ans)
        (default_none f before k d) (unify_gave Failure before call) v p ((asked_same f v before k).0 asked) pair);
  }

  pub second : scope.SecondHalf e (held m) (calls_of run) → SecondHalf f run
  second h = record {
    again = λ {m₁} {m₂} {m₃} {a} {b} {r} before call later q next.
        (stepped f end.says next).answer
        ∙ answer_given (unify_call e (reads (held m')) a b) Success (subst (λ (s : Store). given (unify_call e (reads s) a b) ≡ some Success) (sym end.store)
        (h.again (calls_of before) (calls_of later) a b (calls_parted before call later q) (unify_gave Success before call)));
    added = ap (λ (s : Store). sizes s.nodes) end.store ∙ h.added ∙ sym (nodes_added f run k);
    apart = subst (λ (s : Store). (a : ℕ) → Contains s.nodes a a → ⊥) (sym end.store) h.apart;
    twelve = subst (λ (s : Store). (i : ℕ) → i < length s.nodes → rooted 12 s.nodes i ≡ true) (sym end.store) h.twelve;
  }

lists : (f : Fixed) (n c : ℕ) (m m' : Memory) → Opened n c m → (run : Runs f m m') → ListHolds f n c run
lists f n c m m' o run = record {
  words = clean_reads t.says ∙ ap reads (t.store ∙ ap (λ (s : Store). after (env f) s (calls_of run)) z.is);
  answers = t.answers ∙ ap (λ (s : Store). replies (env f) s (calls_of run)) z.is;
  first = λ p. first f run k
      (subst (λ (s : Store). scope.FirstHalf (env f) s (calls_of run)) (sym z.is) (first_half (env f) n c z.nodes z.children (calls_of run) p));
  second = second f run k
      (subst (λ (s : Store). scope.SecondHalf (env f) s (calls_of run)) (sym z.is) (second_half (env f) n c z.nodes z.children (calls_of run)));
}
  where
    k : CleanWords m
    k = opened_clean o

    z : Fresh n c (held m)
    z = opened_fresh o

    t : Ended f run
    t = ended f run k

pub theorem : Theorem
theorem = record { contracts = contracts; lists = lists; states = states_theorem; stood = desk_stood; forms = tested_forms; stays = stays_tested }
