-- The second half with named states about the compiled calls on lent memory: from the one about the definitions, along the list's own law (DeskLaws).
-- Assumes nothing.
use mathlib.Core.Path.{◌≡◌, refl, sym, ap, subst, ◌∙◌}
use mathlib.Core.Bool.{true}
use mathlib.Core.List.{List, ◌∷◌, ◌++◌, Memᴰ}
use mathlib.Core.Option.{some}
use Prim.Native.Nat.{ℕ, ◌<◌}
use native.Mathlib.Omega.{arith}
use lib.ListN.{length}
use Rattle.scope.specs.Base.{is_some, all}
use Rattle.scope.specs.Chart.{Env}
use Rattle.scope.specs.Nodes.{Store}
use Rattle.scope.specs.Answers.{Success}
use Rattle.scope.specs.Sound.{reads, rooted}
use Rattle.scope.specs.Calls.{Outcome, refused, done, unify_call}
use Rattle.scope.specs.States.{Book, reads_book, keep_reports}
use Rattle.scope.specs.Demand.{given, sizes, Contains}
use Rattle.scope.specs.Replies.{nothing, reply}
use Rattle.scope.specs.StatesDemand.{StateCall, naming, name, return_to, Desk, desk, outcome_on, after_desk, state_replies, pair, Ledgers, no_ledger, after_ledgers}
use Rattle.scope.specs.StatesDemand.{leaves, up_to_return, through_return, AsNamed}
use Rattle.scope.specs.StatesDemand as scope
use Rattle.scope.proofs.StatesHalf.{states_half}
use Rattle.scope.proofs.StatesReturn.{returns_as_named}
use Rattle.book.specs.Words.{book_in}
use Rattle.theorem.specs.Memory.{Fixed, env, held}
use Rattle.theorem.specs.DeskSteps.{DeskMemory, held_desk, OpenedDesk, DeskRan}
use Rattle.theorem.specs.DeskRuns.{DeskRuns, halt, ◌next◌, calls_in, linked}
use Rattle.theorem.specs.StatesTheorem.{StatesHalf, start, DeskHolds, Restored, StatesTheorem}
use Rattle.theorem.proofs.StepLaws.{clean_reads}
use Rattle.theorem.proofs.RunLaws.{Fresh, opened_clean, opened_fresh, answer_given}
use Rattle.theorem.proofs.DeskLaws.{CleanDesk, book_reads, desk_stepped, DeskEnded, desk_ended}
use Rattle.theorem.proofs.DeskOpened.{opened_names}
use Rattle.theorem.proofs.DeskTested.{tested_desk, named_tested}

-- a list

module _ (f : Fixed) {d d' : DeskMemory} (run : DeskRuns f d d') (k : CleanDesk d) where
  end : DeskEnded f run
  end = desk_ended f run k

  pub states_second : scope.StatesHalf (env f) (held d.store) (book_in d.names) (calls_in run) → StatesHalf f run
  states_second h = record {
    again = λ {d₁} {a} {b} {r} w once_more.
        (desk_stepped f end.says once_more).answer
        ∙ answer_given (unify_call (env f) (reads (held d'.store)) a b) Success
        (subst (λ (s : Desk). given (unify_call (env f) (reads s.store) a b) ≡ some Success) (sym end.desk)
        (h.again a b (subst (λ (g : Ledgers). Memᴰ (pair a b Success) g.present.pairs) (end.ledgers no_ledger) w)));
    added = ap (λ (s : Desk). sizes s.store.nodes) end.desk ∙ h.added ∙ sym (ap (λ (g : Ledgers). g.present.made) (end.ledgers no_ledger));
    apart = subst (λ (s : Desk). (a : ℕ) → Contains s.store.nodes a a → ⊥) (sym end.desk) h.apart;
    twelve = subst (λ (s : Desk). (i : ℕ) → i < length s.store.nodes → rooted 12 s.store.nodes i ≡ true) (sym end.desk) h.twelve;
  }

lists : (f : Fixed) (n c : ℕ) (d d' : DeskMemory) → OpenedDesk n c d → (run : DeskRuns f d d') → DeskHolds f n c run
lists f n c d d' o run = record {
  words = clean_reads t.says.store ∙ ap (λ (s : Desk). reads s.store) final_is;
  names = book_reads d'.names t.says.book ∙ ap (λ (s : Desk). reads_book s.book) final_is;
  answers = t.answers ∙ ap (λ (s : Desk). state_replies (env f) s (calls_in run)) begin;
  second = λ p. states_second f run k
      (subst (λ (s : Store). scope.StatesHalf (env f) s (book_in d.names) (calls_in run)) (sym z.is)
      (states_half (env f) n c z.nodes z.children (book_in d.names) o.names.none (calls_in run) p));
}
  where
    k : CleanDesk d
    k = record { store = opened_clean o.store; book = o.names.clean }

    z : Fresh n c (held d.store)
    z = opened_fresh o.store

    t : DeskEnded f run
    t = desk_ended f run k

    begin : held_desk d ≡ start n c d
    begin = ap (λ (s : Store). desk s (book_in d.names)) z.is

    final_is : held_desk d' ≡ after_desk (env f) (start n c d) (calls_in run)
    final_is = t.desk ∙ ap (λ (s : Desk). after_desk (env f) s (calls_in run)) begin

-- a return

calls_linked : (f : Fixed) {d d₁ d₂ : DeskMemory} (xs : DeskRuns f d d₁) (ys : DeskRuns f d₁ d₂) → calls_in (linked xs ys) ≡ calls_in xs ++ calls_in ys
unfolding linked calls_in
calls_linked f halt ys = refl
calls_linked f (◌next◌ {c} x xs) ys = ap (λ (cs : List StateCall). c ∷ cs) (calls_linked f xs ys)

-- an answer that is no number was given
given_nothing : (o : Outcome Book) → nothing ≡ reply (λ b. nothing) o → is_some (given o) ≡ true
given_nothing (refused n) q = let z : ◌≡◌ {A = ℕ} 0 1 = cc in absurd (omega arith)
given_nothing (done b s) q = refl

module _ (f : Fixed) (n : List ℕ) (g : Ledgers) {d d₁ d₂ d₃ : DeskMemory} (save : DeskRan f d (naming (name n)) nothing d₁) (between : DeskRuns f d₁ d₂)
    (back : DeskRan f d₂ (naming (return_to n)) nothing d₃) (quiet : all (leaves n) (calls_in between) ≡ true) where
  abbrev e : Env
  e = env f

  abbrev whole : DeskRuns f d d₃
  whole = save next linked between (back next halt)

  k : CleanDesk d
  k = tested_desk f d (named_tested f refl save)

  calls : calls_in whole ≡ through_return n (calls_in between)
  unfolding calls_in
  calls = ap (λ (cs : List StateCall). naming (name n) ∷ cs) (calls_linked f between (back next halt))

  -- what the return finds
  found : DeskEnded f (save next between)
  found = desk_ended f (save next between) k

  found_is : held_desk d₂ ≡ after_desk e (held_desk d) (up_to_return n (calls_in between))
  unfolding calls_in
  found_is = found.desk

  as_named : AsNamed e (held_desk d) g n (calls_in between)
  as_named = returns_as_named e (held_desk d) g n (calls_in between) quiet
      (given_nothing (outcome_on e (held_desk d) (name n)) (desk_stepped f k save).answer)
      (subst (λ (s : Desk). is_some (given (outcome_on e s (return_to n))) ≡ true) found_is
      (given_nothing (outcome_on e (held_desk d₂) (return_to n)) (desk_stepped f found.says back).answer))

  restored : Restored g save between back
  restored = record {
    store =
        ap (λ (s : Desk). s.store) (desk_ended f whole k).desk
        ∙ ap (λ (cs : List StateCall). (after_desk e (held_desk d) cs).store) calls
        ∙ as_named.store
        ∙ ap (λ (s : Desk). keep_reports s.store (held d.store)) (sym found_is);
    ledger =
        ap (λ (l : Ledgers). l.present) ((desk_ended f whole k).ledgers g)
        ∙ ap (λ (cs : List StateCall). (after_ledgers e (held_desk d) g cs).present) calls
        ∙ as_named.ledger;
  }

pub states_theorem : StatesTheorem
states_theorem = record { opened = opened_names; lists = lists; returns = λ f n g d d₁ d₂ d₃ save between back q. restored f n g save between back q }
