-- What the questions add to the shared laws of calls that only read: a sound store can be walked, numbers that pass are the chart of their records, and
-- marks are tested last.
-- Assumes nothing.
use mathlib.Core.Path.{◌≡◌, refl, ap, sym, ◌∙◌}
use mathlib.Core.Bool.{Bool, true, ◌&&◌, and-true}
use mathlib.Core.List.{List, [], ◌∷◌, ◌++◌}
use mathlib.Core.Option.{Option, none, some}
use Rattle.std.specs.Prelude.{Ok, Err}
use Prim.Native.Nat.{ℕ, ◌≤◌, ◌<◌}
use native.Mathlib.Omega.{arith}
use lib.ListN.{length}
use borrow.Author.Tests.{ltb-true, lt-ltb, le-ltb}
use Rattle.scope.specs.Limits.{MAX_NODES}
use Rattle.scope.specs.Chart.{Env}
use Rattle.scope.specs.Types.{Ty, ty_of}
use Rattle.scope.specs.Nodes.{Node, Store}
use Rattle.scope.specs.Sound.{in_store}
use Rattle.scope.specs.Force.{find_related}
use Rattle.scope.specs.Refusals.{SHORT}
use Rattle.scope.specs.Calls.{Outcome, done, first_broken, store_of, outside, short_for, find_related_call}
use Rattle.scope.proofs.SoundLaws.{SoundFacts}
use Rattle.chart.specs.declared.Env as declared
use Rattle.chart.specs.Words.{records_of}
use Rattle.layout.specs.Words.{children_made, decode, store_in, lent_of}
use Rattle.layout.specs.Meaning.{Clean, header_in}
use Rattle.layout.specs.declared.Header.{Header}
use Rattle.layout.proofs.Laws.{length_decode}
use Rattle.refusals.specs.Codes.{number}
use Rattle.refusals.specs.declared.Refusal.{Refusal}
use Rattle.refusals.specs.declared.Refusal.TheVariants.{Short}
use Rattle.sound.specs.Tests.{env_lent}
use Rattle.walk.specs.Asks.{Stands, Inverses}
use Rattle.walk.proofs.Answers.{sound_walks}
use Rattle.promise.specs.Promise.{types_tests, TypesTested}
use Rattle.refusals.proofs.Laws.{broken_first, broken_next, test_stands, test_falls, judged_refused}
use Rattle.promise.proofs.Laws.{lent_env, lent_store}
use Rattle.promise.proofs.CallLaws.{call_outcome}
use Rattle.promise.proofs.ReadLaws.{read_passed, read_facts, read_inside, nodes_read, read_clean}
use Rattle.call_ask.specs.Replies.{MarksPromised}

module _ (e : Env) (h ws ks : List ℕ) (w : ℕ) where
  abbrev T : Ty
  T = ty_of w

  -- `find_related`: its tests, its answer, and a call that is turned back

  abbrev marks_tests : List ℕ → List (Bool × ℕ)
  marks_tests ms = types_tests e (lent_of h ws ks) (T ∷ []) ++ (short_for (length ms) (length (store_of (lent_of h ws ks)).nodes) ∷ [])

  abbrev marks_answer : List ℕ → Store → Outcome (List ℕ)
  marks_answer ms s = done (find_related s.nodes T ms) s

  marks_back : (ms : List ℕ) (r : Refusal) → first_broken (marks_tests ms) ≡ some (number r)
      → MarksPromised (find_related_call e (lent_of h ws ks) T ms) (Err r) (store_in h ws ks) ms ms
  unfolding find_related_call
  marks_back ms r p = record { outcome = judged_refused (marks_tests ms) (marks_answer ms (store_of (lent_of h ws ks))) (number r) p; kept = λ y. refl }

  pub marks_refused : {r : Refusal} → TypesTested e h ws ks (T ∷ []) (some (number r)) → (ms : List ℕ)
      → MarksPromised (find_related_call e (lent_of h ws ks) T ms) (Err r) (store_in h ws ks) ms ms
  marks_refused {r} q ms =
      let o : Bool × ℕ = short_for (length ms) (length (store_of (lent_of h ws ks)).nodes) in
      marks_back ms r (broken_first (types_tests e (lent_of h ws ks) (T ∷ [])) (o ∷ []) (number r) q.first)

  module _ (q : TypesTested e h ws ks (T ∷ []) none) {x : Header} (g : x ≡ header_in h) where
    each : Clean ws ks (children_made h) x.nodes
    each = read_clean q g

    pub read_stands : Stands ws ks x.nodes
    read_stands = record { made = children_made h; clean = each }

    -- nodes that can be walked, and a type that is one of them

    facts : SoundFacts e (store_in h ws ks)
    facts = read_facts q

    the_nodes : (store_in h ws ks).nodes ≡ decode ws ks x.nodes
    the_nodes = nodes_read q g

    few : x.nodes ≤ MAX_NODES
    few = omega (arith, length_decode ws ks x.nodes, ap length the_nodes, facts.node_room_lem, facts.node_limit)

    inside : T.idx < x.nodes
    inside =
        let i : (in_store (store_in h ws ks).nodes T && true) ≡ true = read_inside q in
        let j = ltb-true T.idx (length (store_in h ws ks).nodes) (sym (and-true (in_store (store_in h ws ks).nodes T)) ∙ i) in
        omega (arith, length_decode ws ks x.nodes, ap length the_nodes, j)

    pub read_inverses : Inverses ws ks x.nodes w
    read_inverses = record {
      walks = sound_walks e each few (rw the_nodes at facts.nodes);
      inside = inside;
    }

    -- 7 comes last: the marks are as many as the nodes, or too few

    marks_test : (ms : List ℕ) → short_for (length ms) (length (store_of (lent_of h ws ks)).nodes) ≡ short_for (length ms) x.nodes
    marks_test ms =
        let s = lent_store e h ws ks (read_passed q) in
        ap (short_for (length ms)) (ap (λ (y : Store). length y.nodes) s ∙ (ap length the_nodes ∙ length_decode ws ks x.nodes))

    marks_code : (ms : List ℕ) (m : Option ℕ) → first_broken (short_for (length ms) x.nodes ∷ []) ≡ m → first_broken (marks_tests ms) ≡ m
    marks_code ms m c =
        let o : Bool × ℕ = short_for (length ms) (length (store_of (lent_of h ws ks)).nodes) in
        broken_next (types_tests e (lent_of h ws ks) (T ∷ [])) (o ∷ []) q.first ∙ (ap (λ (u : Bool × ℕ). first_broken (u ∷ [])) (marks_test ms) ∙ c)

    pub marks_short : (ms : List ℕ) → length ms < x.nodes → MarksPromised (find_related_call e (lent_of h ws ks) T ms) (Err Short) (store_in h ws ks) ms ms
    marks_short ms l = marks_back ms Short (marks_code ms (some SHORT) (test_stands SHORT [] (lt-ltb (length ms) x.nodes l)))

    pub marks_done : {ms ms' : List ℕ} → x.nodes ≤ length ms → ms' ≡ find_related (decode ws ks x.nodes) T ms
        → MarksPromised (find_related_call e (lent_of h ws ks) T ms) (Ok tt) (store_in h ws ks) ms ms'
    unfolding find_related_call
    marks_done {ms} {ms'} l r = record {
      outcome =
          call_outcome e h ws ks (λ s. outside s (T ∷ []) ∷ short_for (length ms) (length s.nodes) ∷ []) (marks_answer ms)
          (marks_code ms none (test_falls SHORT [] (le-ltb (length ms) x.nodes l)))
          ∙ ap (λ (y : List ℕ). done y (store_in h ws ks)) (ap (λ (y : List Node). find_related y T ms) the_nodes ∙ sym r);
      kept = λ y. let v : ◌≡◌ {A = ℕ} 0 1 = cc in absurd (omega arith);
    }

-- the records of a chart that passes are those of its numbers
pub read_records : (l : declared.Env) {h ws ks : List ℕ} {ts : List Ty} → TypesTested (env_lent l) h ws ks ts none → (env_lent l).records ≡ records_of l.chart.now
read_records l {h} {ws} {ks} q = ap (λ (y : Env). y.records) (lent_env l h ws ks (read_passed q))
