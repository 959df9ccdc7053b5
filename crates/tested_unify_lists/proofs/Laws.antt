-- The calls on lent lists, objects and signatures: what each core asks follows from the tests that passed, and each call's definition is its tests and its core.
-- Assumes nothing.
use mathlib.Core.Path.{◌≡◌, refl}
use mathlib.Core.Bool.{Bool, false, ◌||◌}
use mathlib.Core.List.{List, [], ◌∷◌, ◌++◌, map}
use mathlib.Core.Option.{Option, none}
use Prim.Native.Nat.{ℕ}
use Rattle.scope.specs.Base.{all}
use Rattle.scope.specs.Names.{Texts}
use Rattle.scope.specs.Chart.{Env}
use Rattle.scope.specs.Types.{Ty, ty_of}
use Rattle.scope.specs.Nodes.{Node, Store}
use Rattle.scope.specs.Unify.{unify_types, unify_objects, unify_fn_sig}
use Rattle.scope.specs.Sound.{in_store}
use Rattle.scope.specs.Calls.{too_many, Entries, bad_entries}
use Rattle.scope.specs.Calls.{unify_types_call, unify_objects_call, unify_fn_sig_call}
use Rattle.scope.proofs.TestLaws.{or_no}
use Rattle.types.specs.declared.Inverted.{Inverted}
use Rattle.types.specs.declared.UnifyResult.{UnifyResult}
use Rattle.chart.specs.declared.Env as declared
use Rattle.chart.specs.Env.{env_of, texts_lent}
use Rattle.layout.specs.Words.{decode}
use Rattle.layout.proofs.Laws.{length_decode}
use Rattle.refusals.proofs.Laws.{test_passed}
use Rattle.recall.specs.Memory.{Begun}
use Rattle.meeting.specs.Asks.{SoundWords}
use Rattle.unify_enter.specs.Leaves.{Leaves}
use Rattle.unify_lists.specs.Lent.{Lists, Objects, Signatures}
use Rattle.store.specs.Entries.{entry_names, entry_types}
use Rattle.unify_lists.proofs.CallerLaws.{given_lists, given_objects, given_signatures}
use Rattle.lent_tests.specs.Given.{list_tests, sig_tests, object_tests, entries_in, FirstOf}
use Rattle.lent_tests.proofs.Laws.{fine_names, fine_count}
use Rattle.call_unify.proofs.tested.Laws.{second_passed, inside, Unifies}

-- what each core asks, of arguments that no test turned back

module _ {x : Texts} {ws ks m : List ℕ} {n : ℕ} (w : SoundWords x ws ks n) (g : Begun m) where
  pub lists_ask : (xs ys : List ℕ) (inv : Inverted) → FirstOf n (list_tests (map ty_of xs) (map ty_of ys)) none → Lists x ws ks m n xs ys inv
  unfolding list_tests
  lists_ask xs ys inv t =
      let ps : List Ty = map ty_of xs in
      let qs : List Ty = map ty_of ys in
      given_lists w g xs ys inv (inside w (λ ns. all (in_store ns) (ps ++ qs)) (λ s. (too_many ps || too_many qs, 4) ∷ []) t)

  pub signatures_ask : (xs : List ℕ) (a : Ty) (ys : List ℕ) (b : Ty) → FirstOf n (sig_tests (map ty_of xs) a (map ty_of ys) b) none
      → Signatures x ws ks m n xs a ys b
  unfolding sig_tests
  signatures_ask xs a ys b t =
      let ps : List Ty = map ty_of xs in
      let qs : List Ty = map ty_of ys in
      given_signatures w g xs a ys b (inside w (λ ns. all (in_store ns) (ps ++ (a ∷ qs ++ (b ∷ [])))) (λ s. (too_many ps || too_many qs, 4) ∷ []) t)

  -- entries that 4 does not turn back are whole
  module _ (e : Env) (xs ys : List ℕ) (t : FirstOf n (object_tests e (entries_in xs) (entries_in ys)) none) where
    abbrev A : List Node → Bool
    A ns = all (in_store ns) (entry_types xs ++ entry_types ys)

    abbrev us : Store → List (Bool × ℕ)
    us s = (bad_entries e (entries_in xs) || bad_entries e (entries_in ys), 4) ∷ []

    fine : (bad_entries e (entries_in xs) ≡ false) × (bad_entries e (entries_in ys) ≡ false)
    unfolding object_tests
    fine =
        let v : Bool = bad_entries e (entries_in xs) || bad_entries e (entries_in ys) in
        or_no (bad_entries e (entries_in xs)) (bad_entries e (entries_in ys))
        (test_passed v 4 [] (second_passed A us t (decode ws ks n) (length_decode ws ks n)))

    pub objects_ask : (inv : Inverted) → Objects x ws ks m n xs ys inv
    unfolding object_tests
    objects_ask inv = given_objects w g xs ys inv (inside w A us t) (fine_count xs e fine.0) (fine_count ys e fine.1)

    pub objects_leave : (v : Bool) {ws' : List ℕ} {q : UnifyResult}
        → Leaves ws ks ws' n (unify_objects x (decode ws ks n) (entry_names xs) (entry_types xs) (entry_names ys) (entry_types ys) v) q
        → Leaves ws ks ws' n (unify_objects x (decode ws ks n) (entries_in xs).names (entry_types xs) (entries_in ys).names (entry_types ys) v) q
    objects_leave v l = rw (fine_names xs e fine.0, fine_names ys e fine.1) l

-- objects are asked of the texts alone

pub objects_beside : (l : declared.Env) {n : ℕ} {o : Option ℕ} (i j : Entries) → FirstOf n (object_tests (texts_lent l) i j) o
    → FirstOf n (object_tests (env_of l.chart.now l.beside l.texts.rule.now l.texts.chart.now) i j) o
unfolding object_tests
objects_beside l i j t = record { code = t.code }

-- the three calls

pub types_form : (xs ys : List Ty) (v : Bool) → Unifies (λ e l. unify_types_call e l xs ys v) (λ e. list_tests xs ys) (λ x ns. unify_types x ns xs ys v)
unfolding unify_types_call list_tests
types_form xs ys v = record { form = record { is = λ e l. refl } }

pub objects_form : (a b : Entries) (v : Bool)
    → Unifies (λ e l. unify_objects_call e l a b v) (λ e. object_tests e a b) (λ x ns. unify_objects x ns a.names a.types b.names b.types v)
unfolding unify_objects_call object_tests
objects_form a b v = record { form = record { is = λ e l. refl } }

pub signatures_form : (xs : List Ty) (r : Ty) (ys : List Ty) (q : Ty)
    → Unifies (λ e l. unify_fn_sig_call e l xs r ys q) (λ e. sig_tests xs r ys q) (λ x ns. unify_fn_sig x ns xs r ys q)
unfolding unify_fn_sig_call sig_tests
signatures_form xs r ys q = record { form = record { is = λ e l. refl } }
