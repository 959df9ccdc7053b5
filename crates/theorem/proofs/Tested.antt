-- The forms for a tested store have the calls' own contracts, so a form's line is nothing but these; and words that pass the tests stay so along a list:
-- what holds a store that is sound, with a chart that is good, passes, and sound stays sound.
-- Assumes nothing.
use mathlib.Core.Path.{◌≡◌, refl, ap, sym, subst, ◌∙◌}
use mathlib.Core.Bool.{Bool, true}
use mathlib.Core.List.{List, [], ◌∷◌, ◌++◌}
use Prim.Native.Nat.{ℕ}
use lib.Dec.{ltb}
use lib.ListN.{length}
use borrow.Author.Tests.{ltb-false}
use Rattle.scope.specs.Limits.{MAX_NODES, MAX_CHILDREN}
use Rattle.scope.specs.Chart.{Env, chart_ok}
use Rattle.scope.specs.Types.{Ty}
use Rattle.scope.specs.Nodes.{Store, opened}
use Rattle.scope.specs.Import.{MovedAll, export}
use Rattle.scope.specs.Sound.{reads, sound}
use Rattle.scope.specs.Refusals.{UNMAKEABLE, NODES_FULL, CHILDREN_FULL}
use Rattle.scope.specs.Calls.{Outcome, done, open_test, lent_tests, outside, too_many, short_for, Exported, export_call}
use Rattle.scope.proofs.TestLaws.{or_no}
use Rattle.scope.proofs.SoundLaws.{SoundFacts, facts_sound}
use Rattle.scope.proofs.SoundKept.{opened_facts}
use Rattle.scope.proofs.ExportKept.{export_kept}
use Rattle.scope.proofs.Steps.{judged_cases, all_inside}
use Rattle.scope.proofs.Reached.{after_sound}
use Rattle.store.specs.Entries.{types_in}
use Rattle.promise.proofs.Laws.{lent_chart, lent_facts, tested_clean}
use Rattle.theorem.specs.Memory.{Memory, Fixed, env, lent, held, roomy, TestedWords}
use Rattle.theorem.specs.Tested.{TestedForms, StaysTested}
use Rattle.theorem.proofs.StepLaws.{CleanWords, clean_reads, not_done}
use Rattle.theorem.proofs.RunLaws.{opened_clean, opened_fresh, ended}
use Rattle.theorem.proofs.DeskTested.{tested_store, opened_tested, after_tested}

pub tested_forms : TestedForms
tested_forms = record {
  new = record { asks = λ κs a t. t; is = λ κs a r x p. p };
  new_var = record { asks = λ κs a t. t; is = λ κs a r x p. p };
  new_struct = record { asks = λ κs a t. t; is = λ κs a r x p. p };
  new_union = record { asks = λ κs a t. t; is = λ κs a r x p. p };
  new_vars = record { asks = λ κs a t. t; is = λ κs a r x p. p };
  error = record { asks = λ κs a t. t; is = λ κs a r x p. p };
  nil = record { asks = λ κs a t. t; is = λ κs a r x p. p };
  force_kind = record { asks = λ κs a t. t; is = λ κs a r x p. p };
  unify = record { asks = λ κs a t. t; is = λ κs a r x p. p };
  unify_recalling = record { asks = λ κs a t. t; is = λ κs a r x p. p };
  find = record { asks = λ κs a t. t; is = λ κs a r x p. p };
  find_mut = record { asks = λ κs a t. t; is = λ κs a r x p. p };
  node = record { asks = λ κs a t. t; is = λ κs a r x p. p };
  child = record { asks = λ κs a t. t; is = λ κs a r x p. p };
  child_name = record { asks = λ κs a t. t; is = λ κs a r x p. p };
  figures = record { asks = λ κs a t. t; is = λ κs a r x p. p };
  export = record { asks = λ κs a t. t; is = λ κs a r x p. p };
  unify_types = record { asks = λ κs a t. t; is = λ κs a r x p. p };
  unify_types_recalling = record { asks = λ κs a t. t; is = λ κs a r x p. p };
  unify_objects = record { asks = λ κs a t. t; is = λ κs a r x p. p };
  unify_objects_recalling = record { asks = λ κs a t. t; is = λ κs a r x p. p };
  unify_impl_type = record { asks = λ κs a t. t; is = λ κs a r x p. p };
  unify_impl_type_recalling = record { asks = λ κs a t. t; is = λ κs a r x p. p };
  unify_fn_sig = record { asks = λ κs a t. t; is = λ κs a r x p. p };
  unify_fn_sig_recalling = record { asks = λ κs a t. t; is = λ κs a r x p. p };
  finish_inference = record { asks = λ κs a t. t; is = λ κs a r x p. p };
  finish_inference_where = record { asks = λ κs a t. t; is = λ κs a r x p. p };
  find_related = record { asks = λ κs a t. t; is = λ κs a r x p. p };
  self_inverse_param = record { asks = λ κs a t. t; is = λ κs a r x p. p };
  self_inverse = record { asks = λ κs a t. t; is = λ κs a r x p. p };
  is_nil = record { asks = λ κs a t. t; is = λ κs a r x p. p };
  get_mod = record { asks = λ κs a t. t; is = λ κs a r x p. p };
  approx_eq = record { asks = λ κs a t. t; is = λ κs a r x p. p };
  show = record { asks = λ κs a t. t; is = λ κs a r x p. p };
  show_impl_type = record { asks = λ κs a t. t; is = λ κs a r x p. p };
  import = record { asks = λ κs a t. t; is = λ κs a r x p. p };
  name_state = record { asks = λ κs a t. t; is = λ κs a r x p. p };
  return_to = record { asks = λ κs a t. t; is = λ κs a r x p. p };
  drop_name = record { asks = λ κs a t. t; is = λ κs a r x p. p };
  reset = record { asks = λ κs a t. t; is = λ κs a r x p. p };
}

-- what passes: a good chart, and words that hold a sound store

module _ (f : Fixed) where
  abbrev e : Env
  e = env f

  words_tested : (m : Memory) → chart_ok e ≡ true → CleanWords m → SoundFacts e (held m) → TestedWords f m
  words_tested m o k ok =
      let s : sound e (lent m) ≡ true = ap (sound e) (clean_reads k) ∙ facts_sound e (held m) ok in
      record { passed = rw (o, s) refl }

  tested_words : (m : Memory) → TestedWords f m → CleanWords m
  tested_words m t = record { is = tested_clean t }

  tested_facts : (m : Memory) → TestedWords f m → SoundFacts e (held m)
  tested_facts m t = lent_facts e m.head m.nodes m.kids t.passed

  tested_chart : (m : Memory) → TestedWords f m → chart_ok e ≡ true
  tested_chart m t = lent_chart e m.head m.nodes m.kids t.passed

-- an export that is done

module _ (e : Env) (s : Store) (ok : SoundFacts e s) (n c : ℕ) (b : Bool) (ts : List Ty) (h : ℕ) where
  abbrev made : MovedAll
  made = export s (opened n c) ts

  abbrev answer : Exported
  answer = record { types = made.types; fresh = made.work.dest }

  export_sound : (x : Exported) (s' : Store) → export_call e (reads s) n c b ts h ≡ done x s' → SoundFacts e x.fresh
  unfolding export_call
  export_sound x s' =
      judged_cases (λ o. o ≡ done x s' → SoundFacts e x.fresh)
      (open_test n c b
      ∷ (lent_tests e (reads s)
      ++ (outside s ts
      ∷ (too_many ts, UNMAKEABLE)
      ∷ (ltb n (length made.work.dest.nodes), NODES_FULL)
      ∷ (ltb c made.work.dest.children, CHILDREN_FULL)
      ∷ short_for h (length ts)
      ∷ []))) (done answer s)
      (λ k q. not_done q)
      (λ t q.
      let a = or_no (ltb MAX_NODES n) _ t.0 in
      let d = or_no (ltb MAX_CHILDREN c) _ a.1 in
      let fresh = opened_facts e n c (ltb-false MAX_NODES n a.0) (ltb-false MAX_CHILDREN c d.0) in
      let rest = t.1.1.1 in
      subst (λ (y : Exported). SoundFacts e y.fresh) (same q)
      (export_kept e s (opened n c) ts ok fresh (all_inside s.nodes ts rest.0) (ltb-false _ _ rest.1.1.0) (ltb-false _ _ rest.1.1.1.0)).facts)
    where
      same : ◌≡◌ {A = Outcome Exported} (done answer s) (done x s') → answer ≡ x
      same q = cc

pub stays_tested : StaysTested
stays_tested = record {
  opened = λ f n c m o w.
      let z = opened_fresh w in
      words_tested f m o (opened_clean w) (subst (SoundFacts (env f)) (sym z.is) (opened_facts (env f) n c z.nodes z.children));
  after = λ f m m' t run.
      let end = ended f run (tested_words f m t) in
      words_tested f m' (tested_chart f m t) end.says (subst (SoundFacts (env f)) (sym end.store) (after_sound (env f) (held m) _ (tested_facts f m t)));
  opened_desk = opened_tested;
  after_desk = after_tested;
  desk_store = tested_store;
  exported = λ f n c m to to' ts out out' t p.
      let q : export_call (env f) (reads (held m)) n c (roomy n c to) (types_in ts) (length out) ≡ _ =
      ap (λ l. export_call (env f) l n c (roomy n c to) (types_in ts) (length out)) (sym (clean_reads (tested_words f m t))) ∙ p.outcome in
      words_tested f to' (tested_chart f m t) (record { is = (p.again refl).holds.clean })
      (export_sound (env f) (held m) (tested_facts f m t) n c (roomy n c to) (types_in ts) (length out) _ _ q);
}
