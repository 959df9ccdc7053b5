-- The calls on impl types: what the core asks follows from the tests that passed, and each call's definition is its tests and its core.
-- Assumes nothing.
use mathlib.Core.Path.{refl}
use mathlib.Core.Bool.{not}
use mathlib.Core.List.{List, [], ◌∷◌}
use mathlib.Core.Option.{Option, none}
use Prim.Native.Nat.{ℕ}
use Rattle.scope.specs.Base.{all, any}
use Rattle.scope.specs.Names.{Texts}
use Rattle.scope.specs.Chart.{Env}
use Rattle.scope.specs.Unify.{unify_impl_type, approx_eq, ImplType}
use Rattle.scope.specs.Sound.{in_store}
use Rattle.scope.specs.Calls.{done, too_many, impl_types, impl_defined}
use Rattle.scope.specs.Calls.{unify_impl_type_call, approx_eq_call}
use Rattle.types.specs.Impls.{impl_means}
use Rattle.types.specs.declared.Impl.{Impl}
use Rattle.chart.specs.declared.Env as declared
use Rattle.chart.specs.Env.{env_of, chart_alone}
use Rattle.recall.specs.Memory.{Begun}
use Rattle.meeting.specs.Asks.{SoundWords}
use Rattle.unify_lists.specs.Lent.{Impls}
use Rattle.unify_lists.proofs.CallerLaws.{given_impls}
use Rattle.lent_tests.proofs.Laws.{defined_alone}
use Rattle.lent_tests.specs.Given.{impls_tests, FirstOf}
use Rattle.call_unify.proofs.tested.Laws.{inside, Form, Unifies}

-- what the core asks, of arguments that no test turned back

module _ {x : Texts} {ws ks m : List ℕ} {n : ℕ} (w : SoundWords x ws ks n) (g : Begun m) where
  pub impls_ask : (e : Env) (a b : Impl) → FirstOf n (impls_tests e (impl_means a) (impl_means b)) none
      → Impls x ws ks m n a b
  unfolding impls_tests
  impls_ask e a b t =
      let both : List ImplType = impl_means a ∷ impl_means b ∷ [] in
      given_impls w g a b (inside w (λ ns. all (λ i. all (in_store ns) (impl_types i)) both)
      (λ s. (any (λ i. too_many (impl_types i)) both, 4) ∷ (not (all (impl_defined e) both), 5) ∷ []) t)

-- a trait is asked of the chart's records alone

pub impls_beside : (l : declared.Env) {n : ℕ} {o : Option ℕ} (i j : ImplType) → FirstOf n (impls_tests (chart_alone l.chart.now) i j) o
    → FirstOf n (impls_tests (env_of l.chart.now l.beside l.texts.rule.now l.texts.chart.now) i j) o
unfolding impls_tests
impls_beside l i j t =
    let chart = l.chart.now in
    let rule = l.texts.rule.now in
    let text = l.texts.chart.now in
    record { code = λ s m. rw (defined_alone chart l.beside rule text i, defined_alone chart l.beside rule text j) (t.code s m) }

-- the two calls

pub impls_form : (a b : ImplType) → Unifies (λ e l. unify_impl_type_call e l a b) (λ e. impls_tests e a b) (λ x ns. unify_impl_type x ns a b)
unfolding unify_impl_type_call impls_tests
impls_form a b = record { form = record { is = λ e l. refl } }

pub approx_form : (a b : ImplType) → Form (λ e l. approx_eq_call e l a b) (λ e. impls_tests e a b) (λ e s. done (approx_eq a b) s)
unfolding approx_eq_call impls_tests
approx_form a b = record { is = λ e l. refl }
