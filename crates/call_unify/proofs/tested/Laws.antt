-- From what the tests of a call's arguments tell on a tested store, and from what its core leaves, to what every call promises. A call that no test turns back
-- has a sound store and types inside it, which is what its core asks; its core changes nodes alone. `unify` and the calls on lent lists share this.
-- Assumes nothing.
use mathlib.Core.Path.{◌≡◌, refl, ap, sym, ◌∙◌}
use mathlib.Core.Bool.{Bool, true, not}
use mathlib.Core.List.{List, [], ◌∷◌, ◌++◌}
use mathlib.Core.Option.{Option, none, some}
use Prim.Native.Nat.{ℕ}
use native.Mathlib.Omega.{arith}
use lib.ListN.{length}
use borrow.Author.Tests.{not-false}
use Rattle.scope.specs.Base.{all}
use Rattle.scope.specs.Names.{Texts}
use Rattle.scope.specs.Chart.{Env}
use Rattle.scope.specs.Types.{Ty}
use Rattle.scope.specs.Nodes.{Node, Store, opened, with_nodes}
use Rattle.scope.specs.Answers.{Answer}
use Rattle.scope.specs.Unify.{Out, unify}
use Rattle.scope.specs.Sound.{Lent, in_store}
use Rattle.scope.specs.Calls.{Outcome, done, judged, first_broken, store_of, lent_tests, unified, unify_call}
use Rattle.scope.proofs.SoundLaws.{SoundFacts}
use Rattle.types.specs.Answers.{answer_of}
use Rattle.types.specs.declared.UnifyResult.{UnifyResult}
use Rattle.names.specs.Place.{texts}
use Rattle.chart.specs.declared.Env as declared
use Rattle.chart.specs.Env.{env_of}
use Rattle.layout.specs.Words.{nodes_made, children_made, decode, store_in, clean, lent_of}
use Rattle.layout.specs.Meaning.{header_in}
use Rattle.layout.specs.declared.Header.{Header}
use Rattle.layout.proofs.Laws.{length_decode}
use Rattle.layout.proofs.StoreLaws.{clean_lies, clean_nodes}
use Rattle.store.specs.Holds.{Holds, Became}
use Rattle.store.proofs.Laws.{store_count, beyond_refl, holds_with, beyond_with}
use Rattle.sound.specs.Tests.{env_lent}
use Rattle.promise.specs.Promise.{value, refusal, Promised, Tested}
use Rattle.refusals.proofs.Laws.{test_passed, tests_passed}
use Rattle.promise.proofs.Laws.{lent_env, lent_facts, tested_clean, tested_next}
use Rattle.promise.proofs.CallLaws.{call_back, call_done}
use Rattle.recall.specs.Memory.{Begun}
use Rattle.meeting.specs.Asks.{SoundWords}
use Rattle.unify.specs.Asked.{Asked}
use Rattle.unify_enter.specs.Leaves.{Leaves}
use Rattle.unify_lists.proofs.CallerLaws.{given_pair}
use Rattle.lent_tests.specs.Given.{pair_tests, FirstOf}

-- what passed tests say

module _ {n : ℕ} (A : List Node → Bool) (us : Store → List (Bool × ℕ)) (t : FirstOf n (λ s. (not (A s.nodes), 3) ∷ us s) none)
    (ns : List Node) (m : length ns ≡ n) where
  abbrev store : Store
  store = with_nodes (opened 0 0) ns

  pub first_passed : A ns ≡ true
  first_passed = not-false (A ns) (test_passed (not (A ns)) 3 (us store) (t.code store m))

  pub second_passed : first_broken (us store) ≡ none
  second_passed = tests_passed (not (A ns)) 3 (us store) (t.code store m)

-- what a core asks, of arguments that no test turned back

module _ {x : Texts} {ws ks : List ℕ} {n : ℕ} (w : SoundWords x ws ks n) where
  pub inside : (A : List Node → Bool) (us : Store → List (Bool × ℕ)) → FirstOf n (λ s. (not (A s.nodes), 3) ∷ us s) none → A (decode ws ks n) ≡ true
  inside A us t = first_passed A us t (decode ws ks n) (length_decode ws ks n)

  pub pair_asks : {m : List ℕ} → Begun m → (a b : Ty) → FirstOf n (pair_tests a b) none → Asked x ws ks m n n ((a, b) ∷ [])
  unfolding pair_tests
  pair_asks g a b t = given_pair w g a b (inside (λ ns. all (in_store ns) (a ∷ b ∷ [])) (λ s. []) t)

-- a call, by its tests and by what it does to the store that is lent

pub record Form {A : Type 0} (o : Env → Lent → Outcome A) (tests : Env → Store → List (Bool × ℕ)) (rest : Env → Store → Outcome A) : Type 0 where
  pub is : (e : Env) (l : Lent) → o e l ≡ judged (lent_tests e l ++ tests e (store_of l)) (rest e (store_of l))

-- a call that unifies
pub record Unifies (o : Env → Lent → Outcome Answer) (tests : Env → Store → List (Bool × ℕ)) (core : Texts → List Node → Out) : Type 0 where
  pub form : Form o tests (λ e s. unified s (core e.texts s.nodes))

-- 2 and 8 do not turn a call on these slices back, and x is the header
pub record Passed (l : declared.Env) (h ws ks : List ℕ) (x : Header) : Type 0 where
  pub tested : Tested (env_lent l) h ws ks
  pub header : x ≡ header_in h

pub passed : {l : declared.Env} {h ws ks : List ℕ} {x : Header} → Tested (env_lent l) h ws ks → x ≡ header_in h → Passed l h ws ks x
passed q g = record { tested = q; header = g }

module _ {l : declared.Env} {h ws ks : List ℕ} {x : Header} (c : Passed l h ws ks x) where
  abbrev env : Env
  env = env_lent l

  abbrev lent : Lent
  lent = lent_of h ws ks

  abbrev whole : Env
  whole = env_of l.chart.now l.beside l.texts.rule.now l.texts.chart.now

  env_is : env ≡ whole
  env_is = lent_env l h ws ks c.tested.passed

  words : clean h ws ks ≡ true
  words = tested_clean c.tested

  nodes_made_lem : x.nodes ≡ nodes_made h
  nodes_made_lem = ap (λ (y : Header). y.nodes) c.header

  holds : Holds h ws ks (store_in h ws ks)
  holds = record { clean = words; is = refl }

  -- a sound store is what unifying asks
  pub lent_words : SoundWords (texts l.texts.rule.now l.texts.chart.now) ws ks x.nodes
  unfolding store_in
  lent_words =
      let f : SoundFacts env (store_in h ws ks) = lent_facts env h ws ks c.tested.passed in
      rw nodes_made_lem (record {
        env = env;
        lent = ap (λ (e : Env). e.texts) env_is;
        children = children_made h;
        clean = clean_nodes h ws ks words;
        few = omega (arith, f.child_limit, f.child_room_lem);
        room = let l = clean_lies h ws ks words in omega (arith, l.children, l.child_slots);
        small = omega (arith, f.node_limit, f.node_room_lem, store_count h ws ks);
        sound = f.nodes;
      })

  module _ {A : Type 0} {o : Env → Lent → Outcome A} {tests : Env → Store → List (Bool × ℕ)} {rest : Env → Store → Outcome A} (p : Form o tests rest) where
    own_first : {m : Option ℕ} → FirstOf x.nodes (tests whole) m → first_broken (lent_tests env lent ++ tests env (store_of lent)) ≡ m
    own_first t =
        tested_next c.tested (tests env)
        ∙ (ap (λ (e : Env). first_broken (tests e (store_in h ws ks))) env_is ∙ t.code (store_in h ws ks) (store_count h ws ks ∙ sym nodes_made_lem))

    pub back_own : {m : ℕ} → FirstOf x.nodes (tests whole) (some m) → Promised (o env lent) (refusal m) h ws ks h ws ks
    back_own {m} t = rw (p.is env lent) (call_back env h ws ks (tests env) (rest env) m (own_first t))

    module _ (t : FirstOf x.nodes (tests whole) none) where
      answer : {a : A} {s : Store} {ws' : List ℕ} → rest env (store_in h ws ks) ≡ done a s → Became h ws ks h ws' ks s
          → Promised (o env lent) (value a) h ws ks h ws' ks
      answer e d = rw (p.is env lent) (call_done env h ws ks (tests env) (rest env) (own_first t) e d)

      -- a call that only reads
      pub read_done : {a : A} → rest env (store_in h ws ks) ≡ done a (store_in h ws ks) → Promised (o env lent) (value a) h ws ks h ws ks
      read_done e = answer e (record { holds = holds; beyond = beyond_refl })

  module _ {o : Env → Lent → Outcome Answer} {tests : Env → Store → List (Bool × ℕ)} {core : Texts → List Node → Out} (p : Unifies o tests core)
      (t : FirstOf x.nodes (tests whole) none) {ws' : List ℕ} {r : UnifyResult} (long : length ws' ≡ length ws)
      (l₀ : Leaves ws ks ws' x.nodes (core (texts l.texts.rule.now l.texts.chart.now) (decode ws ks x.nodes)) r) where
    left : Leaves ws ks ws' (nodes_made h) (core (texts l.texts.rule.now l.texts.chart.now) (decode ws ks (nodes_made h))) r
    left = rw nodes_made_lem at l₀

    does : unified (store_in h ws ks) (core env.texts (store_in h ws ks).nodes) ≡ done (answer_of r) (with_nodes (store_in h ws ks) (decode ws' ks (nodes_made h)))
    unfolding store_in
    does =
        ap (λ (e : Env). unified (store_in h ws ks) (core e.texts (decode ws ks (nodes_made h)))) env_is
        ∙ ap (λ (u : Out). unified (store_in h ws ks) u) left.same

    became : Became h ws ks h ws' ks (with_nodes (store_in h ws ks) (decode ws' ks (nodes_made h)))
    unfolding store_in
    became =
        let d = left.clean (children_made h) (clean_nodes h ws ks words) in
        record { holds = holds_with holds ws' long left.tail d; beyond = beyond_with holds ws' long left.tail d }

    pub unify_done : Promised (o env lent) (value (answer_of r)) h ws ks h ws' ks
    unify_done = answer p.form t does became

-- `unify`
pub unify_form : (a b : Ty) → Unifies (λ e l. unify_call e l a b) (λ e. pair_tests a b) (λ x ns. unify x ns a b)
unfolding unify_call pair_tests
unify_form a b = record { form = record { is = λ e l. refl } }
