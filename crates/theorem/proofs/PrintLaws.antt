-- A printer's answer: the text's length tells how much of the buffer is the part that the second form hands back.
-- Assumes nothing.
use mathlib.Core.Path.{◌≡◌, refl, sym, ap, subst, ◌∙◌}
use mathlib.Core.Bool.{Bool, true, false}
use mathlib.Core.List.{List, [], ◌∷◌, ◌++◌}
use mathlib.Core.Option.{Option, none, some}
use Prim.Native.Nat.{ℕ}
use lib.Dec.{leb}
use lib.ListN.{length, take, drop}
use Rattle.scope.specs.Base.{pick}
use Rattle.scope.specs.Chart.{Env}
use Rattle.scope.specs.Types.{Ty}
use Rattle.scope.specs.Nodes.{Store}
use Rattle.scope.specs.Unify.{ImplType}
use Rattle.scope.specs.Show.{show, show_impl_type}
use Rattle.scope.specs.Sound.{Lent, reads}
use Rattle.scope.specs.Refusals.{SHORT}
use Rattle.scope.specs.Calls.{refused, done, Printed, or_unprinted, printed_text, first_broken, store_of, lent_tests, outside, impl_tests, show_call, show_impl_type_call}
use Rattle.scope.specs.Demand.{step}
use Rattle.scope.specs.Replies.{Reply, text, reply, printed}
use Rattle.std.specs.declared.option.Option as option
use Rattle.refusals.specs.declared.Refusal.{Refusal}
use Rattle.promise.specs.Promise.{value, refusal}
use Rattle.promise.specs.Promise as promise
use Rattle.promise.specs.Prints.{part_reply, PrintPromised, PartPromised}
use Rattle.theorem.specs.Memory.{Memory, lent, held}
use Rattle.theorem.specs.Steps.{replied}
use Rattle.theorem.proofs.StepLaws.{CleanWords, clean_reads, Leaves, told, not_done}

take_front : (xs ys : List ℕ) → take (length xs) (xs ++ ys) ≡ xs
take_front [] ys = refl
take_front (x ∷ xs) ys = ap (λ (r : List ℕ). x ∷ r) (take_front xs ys)

-- the part is as much of the buffer as was answered
abbrev pub Tells : Printed → Type 0
Tells p = (n : ℕ) (s : Store) → p.answer ≡ done n s → take n p.buffer ≡ p.part

text_tells : (b : Bool) (s : Store) (bs buffer : List ℕ)
    → Tells
    (pick b
    (record { answer = done (length bs) s; buffer = bs ++ drop (length bs) buffer; part = bs })
    (record { answer = refused SHORT; buffer = take (length buffer) bs; part = take (length buffer) bs }))
text_tells true s bs buffer n s' q = let z : length bs ≡ n = cc in subst (λ (k : ℕ). take k (bs ++ drop (length bs) buffer) ≡ bs) z (take_front bs (drop (length bs) buffer))
text_tells false s bs buffer n s' q = not_done q

printed_tells : (t : Option ℕ) (s : Store) (bs buffer : List ℕ) → Tells (or_unprinted t buffer (printed_text s bs buffer))
printed_tells none s bs buffer n s' q = text_tells (leb (length bs) (length buffer)) s bs buffer n s' q
printed_tells (some k) s bs buffer n s' q = not_done q

pub show_tells : (e : Env) (l : Lent) (t : Ty) (buffer : List ℕ) → Tells (show_call e l t buffer)
unfolding show_call
show_tells e l t buffer = printed_tells (first_broken (lent_tests e l ++ (outside (store_of l) (t ∷ []) ∷ []))) (store_of l) (show e (store_of l).nodes t) buffer

pub impl_tells : (e : Env) (l : Lent) (a : ImplType) (buffer : List ℕ) → Tells (show_impl_type_call e l a buffer)
unfolding show_impl_type_call
impl_tells e l a buffer = printed_tells (first_broken (lent_tests e l ++ impl_tests e (store_of l) (a ∷ []))) (store_of l) (show_impl_type e (store_of l).nodes a) buffer

module _ (p : Lent → Printed) {m : Memory} (k : CleanWords m) where
  abbrev s : Store
  s = held m

  -- the answer by the part that the definition hands back
  by_part : {part : List ℕ} {r : Reply} → (p (lent m)).part ≡ part → Leaves (step s (p (reads s)).answer).store (reply (λ n. text part) (p (reads s)).answer) r m
      → Leaves (step s (p (reads s)).answer).store (printed (p (reads s))) r m
  by_part {part} {r} q = subst (λ (bs : List ℕ). Leaves (step s (p (reads s)).answer).store (reply (λ n. text bs) (p (reads s)).answer) r m)
      (sym q ∙ ap (λ (l : Lent). (p l).part) (clean_reads k))

  pub parted : (r : option.Option Refusal) (part : List ℕ) → PartPromised (p (lent m)) r part s
      → Leaves (step s (p (reads s)).answer).store (printed (p (reads s))) (replied (λ n. text part) (part_reply r part)) m
  parted r part q = by_part q.part (told (λ n. text part) (λ l. (p l).answer) k (part_reply r part) q.outcome)

  pub shown : Tells (p (lent m)) → (r : promise.Reply ℕ) (buffer : List ℕ) → PrintPromised (p (lent m)) r s buffer
      → Leaves (step s (p (reads s)).answer).store (printed (p (reads s))) (replied (λ n. text (take n buffer)) r) m
  shown h (value n) buffer q =
      by_part (sym (h n s q.outcome) ∙ ap (take n) q.buffer) (told (λ n'. text (take n buffer)) (λ l. (p l).answer) k (value n) q.outcome)
  shown h (refusal n) buffer q = by_part refl (told (λ n'. text (p (lent m)).part) (λ l. (p l).answer) k (refusal n) q.outcome)
