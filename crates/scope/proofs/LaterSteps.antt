-- The calls outside the theorem's first half, on a sound store: refused, or a read, or a run of `unify` over pairs of the store, or roots without a
-- kind that become Default. Assumes nothing.
use mathlib.Core.Path.{◌≡◌, refl}
use mathlib.Core.List.Memᴰ
use mathlib.Core.List.{List, [], ◌∷◌, ◌++◌, Memᴰ}
use mathlib.Core.Bool.{Bool, true, false, not, ◌||◌}
use mathlib.Core.Option.{Option, none, some}
use mathlib.Core.Logic.{◌⊎◌, inl, inr}
use Prim.Native.Nat.{ℕ, ◌<◌}
use lib.Dec.{eqb, leb}
use lib.ListN.{length, take, drop}
use borrow.Author.Tests.{ltb-true, not-false}
use Rattle.scope.specs.Base.{pick, all}
use Rattle.scope.specs.Chart.{Env}
use Rattle.scope.specs.Types.{Ty}
use Rattle.scope.specs.Nodes.{Node, Store, with_nodes}
use Rattle.scope.specs.Answers.{Failure}
use Rattle.scope.specs.Unify.{Plan, answers, run_plan, object_plan, after, carry, unify_types, unify_objects}
use Rattle.scope.specs.Unify.{ImplType, Trait, Error, impl_plan, unify_impl_type, unify_fn_sig, approx_eq, self_inverse_of}
use Rattle.scope.specs.Force.{finish_where, finish_inference, find_related, is_nil, get_mod}
use Rattle.scope.specs.Show.{show, show_impl_type}
use Rattle.scope.specs.Sound.{reads, in_store}
use Rattle.scope.specs.Refusals.{UNMAKEABLE, SHORT}
use Rattle.scope.specs.Calls.{refused, done, first_broken, lent_tests, outside, too_many, short_for, unified, unify_types_call, Entries, bad_entries, unify_objects_call}
use Rattle.scope.specs.Calls.{impl_types, impl_tests, unify_impl_type_call, approx_eq_call, unify_fn_sig_call, finish_inference_call, finish_where_call, find_related_call}
use Rattle.scope.specs.Calls.{self_inverse_call, is_nil_call, get_mod_call, Printed, printed_text, or_unprinted, show_call, show_impl_type_call}
use Rattle.scope.specs.Demand.{Later, Step, step, step_later}
use Rattle.scope.specs.Demand as Demand
use Rattle.scope.proofs.TestLaws.{of-all}
use Rattle.scope.proofs.PairLaws.{Betweens, between_nil, between_pick, run_between, shared_between}
use Rattle.scope.proofs.Sim.{Inside}
use Rattle.scope.proofs.Restate.{Restates, finish_where_restates, finish_restates}
use Rattle.scope.proofs.SoundLaws.{SoundFacts}
use Rattle.scope.proofs.Steps.{still, went, all_inside, step_cases, still_cases, read_call_cases}

-- types of nodes below n
abbrev Low : ℕ → List Ty → Type 0
Low n ts = (t : Ty) → Memᴰ t ts → t.idx < n

low_left : (n : ℕ) (xs ys : List Ty) → Low n (xs ++ ys) → Low n xs
low_left n xs ys h t m = h t (Memᴰ.append_left ys m)

low_right : (n : ℕ) (xs ys : List Ty) → Low n (xs ++ ys) → Low n ys
low_right n xs ys h t m = h t (Memᴰ.append_right xs m)

low_one : (n : ℕ) (t : Ty) → t.idx < n → Low n (t ∷ [])
low_one n t h u m = rw (Memᴰ.eq_of_singleton m) h

-- pairs of two lists' types
between_inside : {n : ℕ} {i : Bool} {xs ys : List Ty} {ps : List (Ty × Ty)} → Betweens i xs ys ps → Low n xs → Low n ys → Inside n ps
between_inside b hx hy p w = let z = b p w in (hx p.0 z.left, rw z.turned (hy z.other z.right))

run_inside : (n : ℕ) (i : Bool) (xs ys : List Ty) → Low n xs → Low n ys → Inside n (run_plan i xs ys).pairs
run_inside n i xs ys hx hy = between_inside (run_between i xs ys) hx hy

object_inside : (e : Env) (n : ℕ) (i : Bool) (a b : Entries) → Low n a.types → Low n b.types
    → Inside n (object_plan e.texts i a.names a.types b.names b.types).pairs
unfolding object_plan
object_inside e n i a b hx hy = between_inside (shared_between e.texts i a.names a.types b.names b.types) hx hy

impl_inside : (n : ℕ) (a b : ImplType) → Low n (impl_types a) → Low n (impl_types b) → Inside n (impl_plan a b).pairs
impl_inside n Error b hx hy p w = elim w [ ]
impl_inside n (Trait i xs) Error hx hy p w = elim w [ ]
impl_inside n (Trait i xs) (Trait j ys) hx hy p w =
    between_inside (between_pick (eqb i j) (run_plan false xs ys) (answers Failure) (run_between false xs ys) between_nil) hx hy p w

signature_inside : (n : ℕ) (xs : List Ty) (r : Ty) (ys : List Ty) (q : Ty) → Low n xs → Low n (r ∷ []) → Low n ys → Low n (q ∷ [])
    → Inside n (after (run_plan false xs ys) (run_plan false (r ∷ []) (q ∷ []))).pairs
signature_inside n xs r ys q hx hr hy hq p w = go (Memᴰ.append_cases (run_plan false xs ys).pairs w)
  where
    go : Memᴰ p (run_plan false xs ys).pairs ⊎ Memᴰ p (run_plan false (r ∷ []) (q ∷ [])).pairs → (p.0.idx < n) × (p.1.idx < n)
    go (inl m) = run_inside n false xs ys hx hy p m
    go (inr m) = run_inside n false (r ∷ []) (q ∷ []) hr hq p m

module _ (e : Env) (s : Store) (ok : SoundFacts e s) where
  impl_low : (as' : List ImplType) → not (all (λ a. all (in_store s.nodes) (impl_types a)) as') ≡ false → (a : ImplType) → Memᴰ a as'
      → Low (length s.nodes) (impl_types a)
  impl_low as' q a m t w = ltb-true t.idx (length s.nodes)
      (of-all (in_store s.nodes) (impl_types a) (of-all (λ a. all (in_store s.nodes) (impl_types a)) as' (not-false _ q) m) w)

  print_cases : (P : Step → Type 0) (o : Option ℕ) (bs buffer : List ℕ) → P (still s) → P (went s)
      → P (step s (or_unprinted o buffer (printed_text s bs buffer)).answer)
  print_cases P (some n) bs buffer z f = z
  print_cases P none bs buffer z f = go (leb (length bs) (length buffer))
    where
      go : (b : Bool) → P (step s (pick {A = Printed} b (record { answer = done (length bs) s; buffer = bs ++ drop (length bs) buffer; part = bs })
          (record { answer = refused SHORT; buffer = take (length buffer) bs; part = take (length buffer) bs })).answer)
      go true = f
      go false = z

  pub later_cases : (P : Step → Type 0) (c : Later) → P (still s) → P (went s)
      → ((l : Plan) → Inside (length s.nodes) l.pairs → P (went (with_nodes s (carry e.texts s.nodes l).nodes)))
      → ((ns : List Node) → Restates s.nodes ns → P (went (with_nodes s ns)))
      → P (step_later e s c)
  unfolding unify_types_call unify_objects_call unify_impl_type_call unify_fn_sig_call unify_types unify_objects unify_impl_type unify_fn_sig finish_inference_call
      finish_where_call find_related_call self_inverse_call is_nil_call get_mod_call approx_eq_call show_call show_impl_type_call
  later_cases P (Demand.unify_types xs ys i) z f g r =
      step_cases e s ok P (outside s (xs ++ ys) ∷ (too_many xs || too_many ys, UNMAKEABLE) ∷ []) (unified s (unify_types e.texts s.nodes xs ys i)) z (λ t.
      let h = all_inside s.nodes (xs ++ ys) t.0 in
      g (run_plan i xs ys) (run_inside _ i xs ys (low_left _ xs ys h) (low_right _ xs ys h)))
  later_cases P (Demand.unify_objects a b i) z f g r =
      step_cases e s ok P (outside s (a.types ++ b.types) ∷ (bad_entries e a || bad_entries e b, UNMAKEABLE) ∷ [])
      (unified s (unify_objects e.texts s.nodes a.names a.types b.names b.types i)) z (λ t.
      let h = all_inside s.nodes (a.types ++ b.types) t.0 in
      g (object_plan e.texts i a.names a.types b.names b.types)
      (object_inside e _ i a b (low_left _ a.types b.types h) (low_right _ a.types b.types h)))
  later_cases P (Demand.unify_impl_type a b) z f g r =
      step_cases e s ok P (impl_tests e s (a ∷ b ∷ [])) (unified s (unify_impl_type e.texts s.nodes a b)) z (λ t.
      g (impl_plan a b) (impl_inside _ a b (impl_low (a ∷ b ∷ []) t.0 a (Memᴰ.head refl))
      (impl_low (a ∷ b ∷ []) t.0 b (Memᴰ.tail (Memᴰ.head refl)))))
  later_cases P (Demand.unify_fn_sig xs t ys q) z f g r =
      step_cases e s ok P (outside s (xs ++ (t ∷ ys ++ (q ∷ []))) ∷ (too_many xs || too_many ys, UNMAKEABLE) ∷ [])
      (unified s (unify_fn_sig e.texts s.nodes xs t ys q)) z (λ w.
      let h = all_inside s.nodes (xs ++ (t ∷ ys ++ (q ∷ []))) w.0 in
      let h₁ = low_right _ xs (t ∷ ys ++ (q ∷ [])) h in
      let h₂ : Low (length s.nodes) (ys ++ (q ∷ [])) = λ u m. h₁ u (Memᴰ.tail m) in
      g (after (run_plan false xs ys) (run_plan false (t ∷ []) (q ∷ []))) (signature_inside _ xs t ys q (low_left _ xs (t ∷ ys ++ (q ∷ [])) h)
      (low_one _ t (h₁ t (Memᴰ.head refl))) (low_left _ ys (q ∷ []) h₂) (low_right _ ys (q ∷ []) h₂)))
  later_cases P Demand.finish_inference z f g r =
      step_cases e s ok P [] (done tt (with_nodes s (finish_inference s.nodes))) z (λ t. r (finish_inference s.nodes) (finish_restates s.nodes))
  later_cases P (Demand.finish_where bs) z f g r =
      step_cases e s ok P [] (done tt (with_nodes s (finish_where bs s.nodes))) z (λ t. r (finish_where bs s.nodes) (finish_where_restates bs s.nodes))
  later_cases P (Demand.find_related t ms) z f g r =
      still_cases e s ok P (lent_tests e (reads s) ++ (outside s (t ∷ []) ∷ short_for (length ms) (length s.nodes) ∷ [])) (find_related s.nodes t ms) z f
  later_cases P (Demand.self_inverse t b) z f g r = read_call_cases e s ok P (t ∷ []) (self_inverse_of s.nodes t b) z f
  later_cases P (Demand.is_nil t) z f g r = read_call_cases e s ok P (t ∷ []) (is_nil s.nodes t) z f
  later_cases P (Demand.get_mod t) z f g r = read_call_cases e s ok P (t ∷ []) (get_mod e s.nodes t) z f
  later_cases P (Demand.approx_eq a b) z f g r = still_cases e s ok P (lent_tests e (reads s) ++ impl_tests e s (a ∷ b ∷ [])) (approx_eq a b) z f
  later_cases P (Demand.show t bs) z f g r =
      print_cases P (first_broken (lent_tests e (reads s) ++ (outside s (t ∷ []) ∷ []))) (show e s.nodes t) bs z f
  later_cases P (Demand.show_impl_type a bs) z f g r =
      print_cases P (first_broken (lent_tests e (reads s) ++ impl_tests e s (a ∷ []))) (show_impl_type e s.nodes a) bs z f
