-- A plan step by step: one law for each way out of `signature` and `in_steps`. The parameters and the return of two signatures of one length are one run.
-- Assumes nothing.
use mathlib.Core.Path.{◌≡◌, refl, ap, ap₂, sym, subst, ◌∙◌}
use mathlib.Core.Bool.{Bool, true, ◌&&◌}
use mathlib.Core.List.{List, [], ◌∷◌, ◌++◌, map}
use Prim.Native.Nat.{ℕ, zero, suc, ◌+◌, ◌-◌, ◌<◌, ◌≤◌}
use native.Mathlib.Omega.{arith}
use lib.Dec.{eqb}
use lib.ListN.{length}
use borrow.Author.Tests.{eq-eqb, ne_eqb}
use Rattle.scope.specs.Base.{front, last, all}
use Rattle.scope.specs.Limits.{MAX_CHILDREN}
use Rattle.scope.specs.Names.{Texts, bytes_or, named, ascending}
use Rattle.scope.specs.Types.{Ty, flip}
use Rattle.scope.specs.Kinds.{Head, row_of, names_ok, object_names_ok, makeable, OBJECT}
use Rattle.scope.specs.Answers.{Success, Failure, both}
use Rattle.scope.specs.Answers as answer
use Rattle.scope.specs.Unify.{answers, after, zipped, run_plan, signature_plan}
use Rattle.scope.specs.Unify as scope
use Rattle.scope.proofs.Laws.{both_comm}
use Rattle.types.specs.declared.UnifyResult.{UnifyResult}
use Rattle.types.specs.declared.UnifyResult.TheVariants as code
use Rattle.layout.specs.Words.{child_words}
use Rattle.layout.specs.declared.Kind.{Kind}
use Rattle.layout.proofs.Lists.{and_right}
use Rattle.plan.specs.Meaning.{kids_from, plan_means, Over, PlanOver}
use Rattle.plan.specs.declared.Runs.{Runs}
use Rattle.plan.specs.declared.Plan.{Plan}
use Rattle.plan.specs.declared.Plan.TheVariants as plans
use Rattle.meeting.specs.Steps.{Spans, RunsLie, Ascends, PlanSpans, PlanReady, Stepped, Returns}
use Rattle.meeting.specs.declared.Steps.TheVariants.{Answer, Run}
use Rattle.meeting.proofs.KidLaws.{kid_length, kid_ty, front_kids, last_kid}
use Rattle.scope.proofs.PlanLaws.{names_made}

-- two runs of children

zip_last : (v : Bool) (ks : List ℕ) (a b n : ℕ)
    → zipped v (kids_from ks a n) (kids_from ks b n) ++ ((kid_ty ks (a + n), flip v (kid_ty ks (b + n))) ∷ []) ≡ zipped v (kids_from ks a (suc n)) (kids_from ks b (suc n))
unfolding zipped
zip_last v ks a b zero =
    let p : a + 0 ≡ a = omega arith in
    let q : b + 0 ≡ b = omega arith in
    rw (p, q) refl
zip_last v ks a b (suc n) =
    let p : a + suc n ≡ suc a + n = omega arith in
    let q : b + suc n ≡ suc b + n = omega arith in
    rw (p, q) (ap (λ (ps : List (Ty × Ty)). (kid_ty ks a, flip v (kid_ty ks b)) ∷ ps) (zip_last v ks (suc a) (suc b) n))

run_equal : (v : Bool) (ks : List ℕ) (a b n : ℕ)
    → run_plan v (kids_from ks a n) (kids_from ks b n) ≡ record { base = Success; pairs = zipped v (kids_from ks a n) (kids_from ks b n) }
unfolding run_plan
run_equal v ks a b n = rw (kid_length ks a n, kid_length ks b n, eq-eqb n n refl) refl

run_differs : (v : Bool) (ks : List ℕ) (a b n m : ℕ) → (n ≡ m → ⊥) → run_plan v (kids_from ks a n) (kids_from ks b m) ≡ answers Failure
unfolding run_plan
run_differs v ks a b n m h = rw (kid_length ks a n, kid_length ks b m, ne_eqb n m h) refl

-- the last children alone
last_run : (v : Bool) (ks : List ℕ) (a b n m : ℕ) → 0 < n → 0 < m
    → run_plan v (last (kids_from ks a n)) (last (kids_from ks b m)) ≡ run_plan v (kids_from ks (a + (n - 1)) 1) (kids_from ks (b + (m - 1)) 1)
last_run v ks a b n m h g = rw (last_kid ks a n h, last_kid ks b m g) refl

whole_run : (v : Bool) (ks : List ℕ) (a b n : ℕ) → signature_plan v (kids_from ks a n) (kids_from ks b n) ≡ run_plan v (kids_from ks a n) (kids_from ks b n)
unfolding signature_plan run_plan zipped
whole_run v ks a b zero = refl
whole_run v ks a b (suc n) =
    ap₂ after fronts lasts ∙ (ap (λ (ps : List (Ty × Ty)). record { base = Success; pairs = ps }) (zip_last v ks a b n) ∙ sym (run_equal v ks a b (suc n)))
  where
    one : suc n - 1 ≡ n
    one = omega arith

    fronts : run_plan v (front (kids_from ks a (suc n))) (front (kids_from ks b (suc n))) ≡ record { base = Success; pairs = zipped v (kids_from ks a n) (kids_from ks b n) }
    fronts = rw (front_kids ks a (suc n), front_kids ks b (suc n), one) (run_equal v ks a b n)

    lasts : run_plan v (last (kids_from ks a (suc n))) (last (kids_from ks b (suc n)))
        ≡ record { base = Success; pairs = (kid_ty ks (a + n), flip v (kid_ty ks (b + n))) ∷ [] }
    lasts = rw (last_kid ks a (suc n) (omega arith), last_kid ks b (suc n) (omega arith), one) refl

-- signatures of different length

both_failure : (a : answer.Answer) → both a Failure ≡ Failure
both_failure a = both_comm a Failure

after_failure : (l : scope.Plan) → l.pairs ≡ [] → after l (answers Failure) ≡ answers Failure
after_failure l e = ap₂ (λ (b : answer.Answer) (ps : List (Ty × Ty)). record { base = b; pairs = ps ++ [] }) (both_failure l.base) e

none_first : (v : Bool) (ys : List Ty) → (run_plan v [] ys).pairs ≡ []
unfolding run_plan zipped
none_first v [] = refl
none_first v (y ∷ ys) = rw (ne_eqb 0 (suc (length ys)) (λ e. omega (arith, e))) refl

none_second : (v : Bool) (xs : List Ty) → (run_plan v xs []).pairs ≡ []
unfolding run_plan zipped
none_second v [] = refl
none_second v (x ∷ xs) = rw (ne_eqb (suc (length xs)) 0 (λ e. omega (arith, e))) refl

lacks_first : (v : Bool) (ks : List ℕ) (a b m : ℕ) → 0 < m → signature_plan v (kids_from ks a 0) (kids_from ks b m) ≡ answers Failure
unfolding signature_plan
lacks_first v ks a b m h =
    ap (after (run_plan v [] (front (kids_from ks b m)))) lasts ∙ after_failure (run_plan v [] (front (kids_from ks b m))) (none_first v (front (kids_from ks b m)))
  where
    lasts : run_plan v [] (last (kids_from ks b m)) ≡ answers Failure
    lasts = unfold run_plan in rw (last_kid ks b m h) refl

lacks_second : (v : Bool) (ks : List ℕ) (a b n : ℕ) → 0 < n → signature_plan v (kids_from ks a n) (kids_from ks b 0) ≡ answers Failure
unfolding signature_plan
lacks_second v ks a b n h =
    ap (after (run_plan v (front (kids_from ks a n)) [])) lasts ∙ after_failure (run_plan v (front (kids_from ks a n)) []) (none_second v (front (kids_from ks a n)))
  where
    lasts : run_plan v (last (kids_from ks a n)) [] ≡ answers Failure
    lasts = unfold run_plan in rw (last_kid ks a n h) refl

differs : (v : Bool) (ks : List ℕ) (a b n m : ℕ) → 0 < n → 0 < m → (n ≡ m → ⊥)
    → signature_plan v (kids_from ks a n) (kids_from ks b m) ≡ after (answers Failure) (run_plan v (kids_from ks (a + (n - 1)) 1) (kids_from ks (b + (m - 1)) 1))
unfolding signature_plan
differs v ks a b n m h g d = ap₂ after fronts (last_run v ks a b n m h g)
  where
    fronts : run_plan v (front (kids_from ks a n)) (front (kids_from ks b m)) ≡ answers Failure
    fronts = rw (front_kids ks a n, front_kids ks b m) (run_differs v ks a b (n - 1) (m - 1) (λ e. d (omega (arith, e))))

-- `signature`

module _ {s : Runs} where
  pub signature_whole : s.na ≡ s.nb → Stepped (plans.Signature s) (Run code.Success s)
  unfolding plan_means
  signature_whole e = record { same = λ ks x. rw (← e) (sym (whole_run s.inv.0 ks s.a s.b s.na)); ready = λ ks x d. d }

  pub signature_lacks : (s.na ≡ s.nb → ⊥) → s.na ≡ 0 → Stepped (plans.Signature s) (Answer code.Failure)
  unfolding plan_means
  signature_lacks d e = record { same = λ ks x. rw e (sym (lacks_first s.inv.0 ks s.a s.b s.nb (omega arith))); ready = λ ks x p. tt }

  module _ (d : s.na ≡ s.nb → ⊥) (h : s.na ≡ 0 → ⊥) where
    pub signature_lacked : s.nb ≡ 0 → Stepped (plans.Signature s) (Answer code.Failure)
    unfolding plan_means
    signature_lacked e = record { same = λ ks x. rw e (sym (lacks_second s.inv.0 ks s.a s.b s.na (omega arith))); ready = λ ks x p. tt }

    pub signature_returns : {r : Runs} → (s.nb ≡ 0 → ⊥) → Returns s r → Stepped (plans.Signature s) (Run code.Failure r)
    unfolding plan_means
    signature_returns g w = record {
      same = λ ks x. rw (w.a, w.na, w.b, w.nb, w.inv) (sym (differs s.inv.0 ks s.a s.b s.na s.nb (omega arith) (omega arith) d));
      ready = λ ks x p. record { first = omega (arith, w.a, w.na, p.first); second = omega (arith, w.b, w.nb, p.second) };
    }

-- `in_steps`

module _ {p : Plan} where
  pub stepped_answer : {r : UnifyResult} → p ≡ plans.Answer r → Stepped p (Answer r)
  unfolding plan_means
  stepped_answer e = record { same = λ ks x. rw e refl; ready = λ ks x d. tt }

-- what a plan over two kinds' children has from the kinds

module _ {k m : Kind} {s : Runs} (o : Over k m s) where
  over_spans : k.first + k.count ≤ MAX_CHILDREN → m.first + m.count ≤ MAX_CHILDREN → Spans s
  over_spans h g = record { first = rw (o.a, o.na) h; second = rw (o.b, o.nb) g }

  over_lies : (ks : List ℕ) → child_words (k.first + k.count) ≤ length ks → child_words (m.first + m.count) ≤ length ks → RunsLie ks s
  over_lies ks h g = record { first = rw (o.a, o.na) h; second = rw (o.b, o.nb) g }

  over_ascends : (x : Texts) (ks : List ℕ) → Ascends x ks m.first m.count → Ascends x ks s.b s.nb
  over_ascends x ks h = rw (o.b, o.nb) h

pub plan_spans : (k m : Kind) (p : Plan) → PlanOver k m p → k.first + k.count ≤ MAX_CHILDREN → m.first + m.count ≤ MAX_CHILDREN → PlanSpans p
plan_spans k m (plans.Answer r) o h g = tt
plan_spans k m (plans.Run s) o h g = over_spans o h g
plan_spans k m (plans.Object s) o h g = over_spans o.0 h g
plan_spans k m (plans.Signature s) o h g = over_spans o h g

pub plan_ready : (k m : Kind) (x : Texts) (ks : List ℕ) (p : Plan) → PlanOver k m p → child_words (k.first + k.count) ≤ length ks → child_words (m.first + m.count) ≤ length ks
    → (m.code ≡ OBJECT → Ascends x ks m.first m.count) → PlanReady x ks p
plan_ready k m x ks (plans.Answer r) o h g w = tt
plan_ready k m x ks (plans.Run s) o h g w = over_lies o ks h g
plan_ready k m x ks (plans.Object s) o h g w = (over_lies o.0 ks h g, over_ascends o.0 x ks (w o.1))
plan_ready k m x ks (plans.Signature s) o h g w = over_lies o ks h g

-- an object that can be made has names that ascend

pub object_ascends : (x : Texts) (h : Head) (n : ℕ) → makeable x h n ≡ true → h.code ≡ OBJECT → ascending (map (bytes_or x) h.names) ≡ true
unfolding names_ok row_of object_names_ok
object_ascends x h n q c =
    let w : (eqb (length h.names) n && (all (named x) h.names && ascending (map (bytes_or x) h.names))) ≡ true
    = subst (λ (d : ℕ). names_ok x (row_of d).names h.names n ≡ true) c (names_made x h n q) in
    let b : Bool = ascending (map (bytes_or x) h.names) in
    and_right (all (named x) h.names) b (and_right (eqb (length h.names) n) (all (named x) h.names && b) w)
