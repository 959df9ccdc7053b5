-- One law for each way through a public call. A call that 2 and 8 do not turn back has a sound store, whose numbers say one; a call that is turned back,
-- and one that is done, keep what every call promises.
-- Assumes nothing.
use mathlib.Core.Path.{◌≡◌, refl, ap, sym, ◌∙◌}
use mathlib.Core.Bool.{Bool, true, false, not, and-true}
use mathlib.Core.List.{List, [], ◌∷◌, ◌++◌}
use mathlib.Core.Option.{Option, none, some}
use Prim.Native.Nat.{ℕ}
use native.Mathlib.Omega.{arith}
use lib.ListN.{length}
use Rattle.scope.specs.Base.{all}
use Rattle.scope.specs.Chart.{Env, chart_ok}
use Rattle.scope.specs.Types.{Ty}
use Rattle.scope.specs.Nodes.{Node, Store}
use Rattle.scope.specs.Sound.{Lent, in_store, sound}
use Rattle.scope.specs.Refusals.{BAD_CHART, OUTSIDE, UNSOUND}
use Rattle.scope.specs.Calls.{Outcome, refused, done, first_broken, store_of, lent_tests, outside}
use Rattle.scope.proofs.SoundLaws.{SoundFacts, sound_facts}
use Rattle.chart.specs.declared.Env as declared
use Rattle.chart.specs.Env.{env_of}
use Rattle.layout.specs.Words.{nodes_made, children_made, store_in, clean, lent_of}
use Rattle.layout.specs.Meaning.{Linked, header_in}
use Rattle.layout.specs.declared.Header.{Header}
use Rattle.layout.proofs.LinkLaws.{clean_linked}
use Rattle.layout.proofs.StoreLaws.{clean_nodes, lent_clean}
use Rattle.store.specs.Holds.{Became}
use Rattle.store.proofs.Laws.{store_count}
use Rattle.refusals.proofs.Laws.{none_some, broken_first, broken_next, passed_first}
use Rattle.sound.specs.Tests.{env_lent}
use Rattle.sound.proofs.Laws.{sound_clean, env_ok, env_whole}
use Rattle.promise.specs.Promise.{value, refusal, Promised, Tested, TypesTested, TypesInside}

-- a store that 2 and 8 do not turn back

both_pass : (c s : Bool) → first_broken ((not c, BAD_CHART) ∷ (not s, UNSOUND) ∷ []) ≡ none → (c ≡ true) × (s ≡ true)
both_pass false s q = none_some BAD_CHART q
both_pass true false q = none_some UNSOUND q
both_pass true true q = (refl, refl)

module _ (e : Env) (h ws ks : List ℕ) where
  abbrev lent : Lent
  lent = lent_of h ws ks

  module _ (q : first_broken (lent_tests e lent) ≡ none) where
    pub lent_chart : chart_ok e ≡ true
    lent_chart = (both_pass (chart_ok e) (sound e lent) q).0

    pub lent_sound : sound e lent ≡ true
    lent_sound = (both_pass (chart_ok e) (sound e lent) q).1

    pub lent_clean_words : clean h ws ks ≡ true
    lent_clean_words = sound_clean h ws ks e lent_sound

    pub lent_store : store_of lent ≡ store_in h ws ks
    lent_store = ap store_of (lent_clean h ws ks lent_clean_words)

    pub lent_facts : SoundFacts e (store_in h ws ks)
    lent_facts = sound_facts e (store_in h ws ks) (ap (sound e) (sym (lent_clean h ws ks lent_clean_words)) ∙ lent_sound)

    pub lent_linked : (x : Header) → x ≡ header_in h → Linked ws x.nodes
    lent_linked x g =
        let m : x.nodes ≡ nodes_made h = ap (λ (y : Header). y.nodes) g in
        rw m (clean_linked ws ks (children_made h) (nodes_made h) (clean_nodes h ws ks lent_clean_words))

    -- a test of types that looks at the number of nodes alone
    pub lent_inside : (x : Header) → x ≡ header_in h → (ts : List Ty) (b : Bool)
        → ((ns : List Node) → length ns ≡ x.nodes → b ≡ all (in_store ns) ts) → all (in_store (store_of lent).nodes) ts ≡ b
    lent_inside x g ts b i =
        ap (λ (s : Store). all (in_store s.nodes) ts) lent_store
        ∙ sym (i (store_in h ws ks).nodes (store_count h ws ks ∙ sym (ap (λ (y : Header). y.nodes) g)))

    pub lent_outside : (x : Header) → x ≡ header_in h → (ts : List Ty) (b : Bool)
        → ((ns : List Node) → length ns ≡ x.nodes → b ≡ all (in_store ns) ts) → outside (store_of lent) ts ≡ (not b, OUTSIDE)
    lent_outside x g ts b i = ap (λ (y : Bool). (not y, OUTSIDE)) (lent_inside x g ts b i)

  -- "Tested in the order 1, 2, 8"
  pub lent_refused : (us : List (Bool × ℕ)) (n : ℕ) → first_broken (lent_tests e lent) ≡ some n → first_broken (lent_tests e lent ++ us) ≡ some n
  lent_refused us n q = broken_first (lent_tests e lent) us n q

  pub lent_next : (us : List (Bool × ℕ)) → first_broken (lent_tests e lent) ≡ none → first_broken (lent_tests e lent ++ us) ≡ first_broken us
  lent_next us q = broken_next (lent_tests e lent) us q

  -- a call that no test turns back
  pub call_passed : (us : List (Bool × ℕ)) → first_broken (lent_tests e lent ++ us) ≡ none → first_broken (lent_tests e lent) ≡ none
  call_passed us q = passed_first (lent_tests e lent) us q

-- numbers that 2 does not turn back are the chart of their records
pub lent_env : (l : declared.Env) (h ws ks : List ℕ) → first_broken (lent_tests (env_lent l) (lent_of h ws ks)) ≡ none
    → env_lent l ≡ env_of l.chart.now l.beside l.texts.rule.now l.texts.chart.now
lent_env l h ws ks q =
    let rule = l.texts.rule.now in
    let text = l.texts.chart.now in
    env_whole l.chart.now l.beside rule text (sym (env_ok l.chart.now l.beside rule text) ∙ lent_chart (env_lent l) h ws ks q)

-- a tested store: once 2 and 8 are passed a call's tests are those of its arguments, asked of the store that the slices hold

module _ {e : Env} {h ws ks : List ℕ} (q : Tested e h ws ks) where
  pub tested_next : (us : Store → List (Bool × ℕ)) → first_broken (lent_tests e (lent_of h ws ks) ++ us (store_of (lent_of h ws ks))) ≡ first_broken (us (store_in h ws ks))
  tested_next us =
      broken_next (lent_tests e (lent_of h ws ks)) (us (store_of (lent_of h ws ks))) q.passed
      ∙ ap (λ (s : Store). first_broken (us s)) (lent_store e h ws ks q.passed)

  pub tested_clean : clean h ws ks ≡ true
  tested_clean = lent_clean_words e h ws ks q.passed

  pub inside_tested : {ts : List Ty} {n : Option ℕ} → TypesInside h ts n → TypesTested e h ws ks ts n
  inside_tested {ts} p = record { first = tested_next (λ s. outside s ts ∷ []) ∙ p.code ws ks }

  -- a call on no listed type
  pub none_listed : TypesTested e h ws ks [] none
  none_listed = record { first = q.passed }

-- one type, by the header alone

module _ (h : List ℕ) {x : Header} (g : x ≡ header_in h) (t : Ty) {b : Bool} (i : (ns : List Node) → length ns ≡ x.nodes → b ≡ in_store ns t) where
  one_test : (ws ks : List ℕ) → first_broken (outside (store_in h ws ks) (t ∷ []) ∷ []) ≡ first_broken ((not b, OUTSIDE) ∷ [])
  one_test ws ks =
      ap (λ (y : Bool). first_broken ((not y, OUTSIDE) ∷ []))
      (and-true (in_store (store_in h ws ks).nodes t) ∙ sym (i (store_in h ws ks).nodes (store_count h ws ks ∙ sym (ap (λ (y : Header). y.nodes) g))))

  pub one_outside : b ≡ false → TypesInside h (t ∷ []) (some OUTSIDE)
  one_outside f = record { code = λ ws ks. one_test ws ks ∙ rw f }

  pub one_inside : b ≡ true → TypesInside h (t ∷ []) none
  one_inside f = record { code = λ ws ks. one_test ws ks ∙ rw f }

-- a call that is turned back, and one that is done

pub promised_back : {A : Type 0} {o : Outcome A} {n : ℕ} {h ws ks : List ℕ} → o ≡ refused n → Promised o (refusal n) h ws ks h ws ks
promised_back q = record {
  outcome = q;
  again = λ y. let v : ◌≡◌ {A = ℕ} 0 1 = cc in absurd (omega arith);
  kept = λ y. record { head = refl; nodes = refl; kids = refl };
}

pub promised_done : {A : Type 0} {o : Outcome A} {a : A} {s : Store} {h ws ks h' ws' ks' : List ℕ} → o ≡ done a s → Became h ws ks h' ws' ks' s
    → Promised o (value a) h ws ks h' ws' ks'
promised_done {a} {s} {h} {ws} {ks} {h'} {ws'} {ks'} q b = record {
  outcome = q ∙ ap (done a) (sym b.holds.is);
  again = λ y. rw b.holds.is b;
  kept = λ y. let v : ◌≡◌ {A = ℕ} 0 1 = cc in absurd (omega arith);
}
