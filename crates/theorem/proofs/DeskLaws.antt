-- A list on a store and its names buffer, call by call: the words read as the store and the book that the definitions' list leaves, every code answer is the
-- definitions' answer, and the ledger of the code's answers is the definitions'. A call that stood by its own step, a call on names by what it promises.
-- Assumes nothing.
use mathlib.Core.Path.{◌≡◌, refl, sym, ap, subst, ◌∙◌}
use mathlib.Core.Bool.{true}
use mathlib.Core.List.{List, ◌∷◌, ◌++◌}
use Prim.Native.Nat.{ℕ, ◌+◌}
use Rattle.scope.specs.Chart.{Env}
use Rattle.scope.specs.Nodes.{Store}
use Rattle.scope.specs.Answers.{Answer}
use Rattle.scope.specs.Sound.{Lent, reads}
use Rattle.scope.specs.Calls.{Outcome, refused, done, unify_call}
use Rattle.scope.specs.States.{Book, LentBook, reads_book, name_state_call, return_to_call, drop_name_call, reset_names_call}
use Rattle.scope.specs.Demand.{Call, make, import, force_kind, unify, read, later, given}
use Rattle.scope.specs.Replies.{Reply, answer, nothing, reply, reply_of}
use Rattle.scope.specs.StatesDemand.{Naming, StateCall, call, naming, Desk, desk, outcome_on, left, next_desk, after_desk, state_reply, state_replies}
use Rattle.scope.specs.StatesDemand.{answered, pairs_by, Ledgers, turned_by, next_ledgers, after_ledgers}
use Rattle.book.specs.Words.{book_in, book_clean, lent_book_of}
use Rattle.promise.specs.Promise.{value, refusal, done_reply}
use Rattle.promise.specs.Promise as promise
use Rattle.theorem.specs.Memory.{Fixed, env, lent, held}
use Rattle.theorem.specs.Steps.{replied}
use Rattle.theorem.specs.Runs.{was_made}
use Rattle.theorem.specs.DeskSteps.{DeskMemory, held_desk, DidNames, DeskRan, stood, name_state, return_to, drop_name}
use Rattle.theorem.specs.DeskSteps as ran
use Rattle.theorem.specs.DeskRuns.{DeskRuns, halt, ◌next◌, calls_in, replies_in, answer_in, pairs_of, turns, ledgers_next, ledgers_from}
use Rattle.theorem.proofs.StepLaws.{CleanWords, clean_reads}
use Rattle.theorem.proofs.Steps.{stepped}
use Rattle.theorem.proofs.RunLaws.{nodes_same}

-- the words say a store and a book
pub record CleanDesk (d : DeskMemory) : Type 0 where
  pub store : CleanWords d.store
  pub book : book_clean d.names ≡ true

pub book_reads : (bs : List ℕ) → book_clean bs ≡ true → lent_book_of bs ≡ reads_book (book_in bs)
unfolding lent_book_of
book_reads bs k = rw k refl

-- the words d say the store and the book of s, and the answer r is x
pub record DeskLeaves (s : Desk) (x r : Reply) (d : DeskMemory) : Type 0 where
  pub says : CleanDesk d
  pub desk : held_desk d ≡ s
  pub answer : r ≡ x

-- what a call of a list leaves
abbrev pub DeskStepped : Fixed → DeskMemory → StateCall → Reply → DeskMemory → Type 0
DeskStepped f d c r d' = DeskLeaves (next_desk (env f) (held_desk d) c) (state_reply (env f) (held_desk d) c) r d'

-- a call on store and names buffer
module _ (o : Lent → LentBook → Outcome Book) {d : DeskMemory} (k : CleanDesk d) where
  abbrev outcome : Outcome Book
  outcome = o (reads (held d.store)) (reads_book (book_in d.names))

  -- the outcome on the words is the one on the store and the book that they hold
  on_desk : {x : Outcome Book} → o (lent d.store) (lent_book_of d.names) ≡ x → outcome ≡ x
  on_desk q = ap (λ l. o l (reads_book (book_in d.names))) (sym (clean_reads k.store)) ∙ ap (o (lent d.store)) (sym (book_reads d.names k.book)) ∙ q

  names_leave : {r : Reply} {d' : DeskMemory} {x : Outcome Book} → o (lent d.store) (lent_book_of d.names) ≡ x
      → DeskLeaves (left (held_desk d) x) (reply (λ b. nothing) x) r d'
      → DeskLeaves (left (held_desk d) outcome) (reply (λ b. nothing) outcome) r d'
  names_leave q l = rw (on_desk q) l

  did_names : (r : promise.Reply (Unit {0})) {d' : DeskMemory} → DidNames (o (lent d.store) (lent_book_of d.names)) r d d'
      → DeskLeaves (left (held_desk d) outcome) (reply (λ b. nothing) outcome) (replied (λ u. nothing) r) d'
  did_names (value u) p = names_leave p.outcome (record {
    says = record { store = record { is = (p.again refl).holds.clean }; book = (p.book refl).clean };
    desk = refl;
    answer = refl;
  })
  did_names (refusal n) {d'} p =
      let w = p.kept refl in
      let same : d ≡ d' =
      sym (λ i. record { store = record { head = w.head i; nodes = w.nodes i; kids = w.kids i }; names = p.kept_book refl i }) in
      names_leave p.outcome (record { says = subst CleanDesk same k; desk = sym (ap held_desk same); answer = refl })

-- every step
pub desk_stepped : (f : Fixed) {d d' : DeskMemory} {c : StateCall} {r : Reply} → CleanDesk d → DeskRan f d c r d' → DeskStepped f d c r d'
desk_stepped f k (stood {d} x) =
    let l = stepped f k.store x in
    record { says = record { store = l.says; book = k.book }; desk = ap (λ (s : Store). desk s (book_in d.names)) l.store; answer = l.answer }
desk_stepped f k (name_state n r p) = did_names (λ l b. name_state_call (env f) l b n) k (done_reply r) p
desk_stepped f k (return_to n r p) = did_names (λ l b. return_to_call (env f) l b n) k (done_reply r) p
desk_stepped f k (drop_name n r p) = did_names (λ l b. drop_name_call (env f) l b n) k (done_reply r) p
desk_stepped f k (ran.reset r p) = did_names (reset_names_call (env f)) k (done_reply r) p

-- the ledger, one call

answer_in_lem : (o : Outcome Answer) → answer_in (reply answer o) ≡ given o
answer_in_lem (refused n) = refl
answer_in_lem (done a s) = refl

pairs_same : (e : Env) (s : Store) (c : Call) {r : Reply} → r ≡ reply_of e s c → pairs_of c r ≡ pairs_by e s c
pairs_same e s (make k) q = refl
pairs_same e s (import l ts ps h) q = refl
pairs_same e s (force_kind t) q = refl
pairs_same e s (unify a b) q = ap (answered a b) (ap answer_in q ∙ answer_in_lem (unify_call e (reads s) a b))
pairs_same e s (read x) q = refl
pairs_same e s (later x) q = refl

turns_same : (g : Ledgers) (x : Naming) (o : Outcome Book) → turns (was_made (reply (λ b. nothing) o)) g x ≡ turned_by g x o
turns_same g x (refused n) = refl
turns_same g x (done b s) = refl

next_same : (f : Fixed) {d d' : DeskMemory} (c : StateCall) {r : Reply} (g : Ledgers) → CleanDesk d → DeskRan f d c r d'
    → ledgers_next (env f) d.store g c r ≡ next_ledgers (env f) (held_desk d) g c
next_same f (call c) g k (stood {d} {m} x) =
    let l = stepped f k.store x in
    (λ i. record {
      present = record {
        pairs = g.present.pairs ++ pairs_same (env f) (held d.store) c l.answer i;
        made = g.present.made + nodes_same (env f) d.store m c l i;
      };
      saved = g.saved;
    })
next_same f {d} (naming x) g k y =
    ap (λ (s : Reply). turns (was_made s) g x) (desk_stepped f k y).answer ∙ turns_same g x (outcome_on (env f) (held_desk d) x)

-- the list

pub record DeskEnded (f : Fixed) {d d' : DeskMemory} (run : DeskRuns f d d') : Type 0 where
  pub says : CleanDesk d'
  pub desk : held_desk d' ≡ after_desk (env f) (held_desk d) (calls_in run)
  pub answers : replies_in run ≡ state_replies (env f) (held_desk d) (calls_in run)
  pub ledgers : (g : Ledgers) → ledgers_from g run ≡ after_ledgers (env f) (held_desk d) g (calls_in run)

pub desk_ended : (f : Fixed) {d d' : DeskMemory} (run : DeskRuns f d d') → CleanDesk d → DeskEnded f run
unfolding after_desk state_replies after_ledgers calls_in replies_in ledgers_from
desk_ended f halt k = record { says = k; desk = refl; answers = refl; ledgers = λ g. refl }
desk_ended f (◌next◌ {d} {c} {r} x xs) k =
    let l = desk_stepped f k x in
    let t = desk_ended f xs l.says in record {
      says = t.says;
      desk = t.desk ∙ ap (λ (s : Desk). after_desk (env f) s (calls_in xs)) l.desk;
      answers = (λ i. l.answer i ∷ (t.answers ∙ ap (λ (s : Desk). state_replies (env f) s (calls_in xs)) l.desk) i);
      ledgers = λ g.
          t.ledgers (ledgers_next (env f) d.store g c r)
          ∙ (λ i. after_ledgers (env f) (l.desk i) (next_same f c g k x i) (calls_in xs));
    }
