-- A sound store is sound after each line: a line is one of demand 3's calls, or changes nothing.
-- Assumes nothing.
use mathlib.Core.Path.{◌≡◌, refl, sym, subst}
use mathlib.Core.List.{[], ◌∷◌}
use Prim.Native.Nat.{ℕ}
use Rattle.scope.specs.Limits.{NONE}
use Rattle.scope.specs.Kinds.{TUPLE, REF, NEVER, DEFAULT}
use Rattle.scope.specs.Types.{Ty}
use Rattle.scope.specs.Nodes.{Store}
use Rattle.scope.specs.Answers.{Answer}
use Rattle.scope.specs.Sound.{reads}
use Rattle.scope.specs.Calls.{Outcome, refused, done, over, new_call, new_var_call, error_call, nil_call, unify_call, finish_inference_call, Printed, show_call}
use Rattle.scope.specs.Demand.{Step, step, Maker, step_maker}
use Rattle.scope.specs.Demand as demand
use Rattle.scope.specs.Sheet.{Line, var, nil, never, default, error, finish, tuple, ref, unify, show, bad}
use Rattle.scope.specs.Sheet.{sheet_env, sheet_buffer, say_type, say_answer, say_done, say_text, sheet_line}
use Rattle.scope.proofs.SoundLaws.{SoundFacts}
use Rattle.scope.proofs.SoundKept.{unify_kept, carry_kept, restates_kept}
use Rattle.scope.proofs.Steps.{maker_cases, unify_cases}
use Rattle.scope.proofs.LaterSteps.{later_cases}

-- what a line leaves is what its call's step leaves
type_step : (s : Store) (o : Outcome Ty) → (say_type s o).store ≡ (step s o).store
type_step s (refused n) = refl
type_step s (done t s') = refl

answer_step : (s : Store) (o : Outcome Answer) → (say_answer s o).store ≡ (step s o).store
answer_step s (refused n) = refl
answer_step s (done t s') = refl

done_step : (s : Store) (o : Outcome (Unit {0})) → (say_done s o).store ≡ (step s o).store
done_step s (refused n) = refl
done_step s (done t s') = refl

module _ (s : Store) (ok : SoundFacts sheet_env s) where
  abbrev Still : Step → Type 0
  Still t = SoundFacts sheet_env t.store

  maker_sound : (m : Maker) → Still (step_maker sheet_env s m)
  maker_sound m = maker_cases sheet_env s ok Still m ok (λ s' k. k.kept.facts)

  unify_sound : (a b : Ty) → Still (step s (unify_call sheet_env (reads s) a b))
  unify_sound a b = unify_cases sheet_env s ok (λ o. Still (step s o)) a b (λ n. ok) (λ ha hb. (unify_kept sheet_env s a b ok ha hb).facts)

  finish_sound : Still (step s (finish_inference_call sheet_env (reads s)))
  finish_sound = later_cases sheet_env s ok Still demand.finish_inference ok ok (λ l h. (carry_kept sheet_env s l ok h).facts) (λ ns x. (restates_kept sheet_env s ns x ok).facts)

  show_sound : (t : Ty) → Still (step s (show_call sheet_env (reads s) t sheet_buffer).answer)
  show_sound t = later_cases sheet_env s ok Still (demand.show t sheet_buffer) ok ok (λ l h. (carry_kept sheet_env s l ok h).facts) (λ ns x. (restates_kept sheet_env s ns x ok).facts)

  by_type : (o : Outcome Ty) → Still (step s o) → SoundFacts sheet_env (say_type s o).store
  by_type o f = subst (λ (x : Store). SoundFacts sheet_env x) (sym (type_step s o)) f

  by_text : (p : Printed) → Still (step s p.answer) → SoundFacts sheet_env (say_text s p.part p.answer).store
  by_text p f = go p.answer f
    where
      go : (o : Outcome ℕ) → Still (step s o) → SoundFacts sheet_env (say_text s p.part o).store
      go (refused n) f = f
      go (done n s') f = f

  pub line_sound : (l : Line) → SoundFacts sheet_env (sheet_line s l).store
  unfolding sheet_line
  line_sound var = by_type (new_var_call sheet_env (reads s) NONE) (maker_sound (demand.new_var NONE))
  line_sound nil = by_type (nil_call sheet_env (reads s)) (maker_sound demand.nil)
  line_sound never = by_type (new_call sheet_env (reads s) (over NEVER 0 [])) (maker_sound (demand.new (over NEVER 0 [])))
  line_sound default = by_type (new_call sheet_env (reads s) (over DEFAULT 0 [])) (maker_sound (demand.new (over DEFAULT 0 [])))
  line_sound error = by_type (error_call sheet_env (reads s)) (maker_sound demand.error)
  line_sound finish = subst (λ (x : Store). SoundFacts sheet_env x) (sym (done_step s (finish_inference_call sheet_env (reads s)))) finish_sound
  line_sound (tuple ts) = by_type (new_call sheet_env (reads s) (over TUPLE 0 ts)) (maker_sound (demand.new (over TUPLE 0 ts)))
  line_sound (ref t) = by_type (new_call sheet_env (reads s) (over REF 0 (t ∷ []))) (maker_sound (demand.new (over REF 0 (t ∷ []))))
  line_sound (unify a b) = subst (λ (x : Store). SoundFacts sheet_env x) (sym (answer_step s (unify_call sheet_env (reads s) a b))) (unify_sound a b)
  line_sound (show t) = by_text (show_call sheet_env (reads s) t sheet_buffer) (show_sound t)
  line_sound bad = ok
