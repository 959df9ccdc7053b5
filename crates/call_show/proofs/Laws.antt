-- From what a printer promises of its buffer to what its second form promises of the part: a text that fits is the buffer's front, one that does not fill the
-- buffer, and no other refusal has the number 7.
-- Assumes nothing.
use mathlib.Core.Path.{◌≡◌, refl, ap, sym, ◌∙◌}
use mathlib.Core.Bool.{Bool, true, false, not}
use mathlib.Core.List.{List, [], ◌∷◌, ◌++◌}
use mathlib.Core.Option.{Option, none, some}
use Prim.Native.Nat.{ℕ, ◌+◌, ◌≤◌}
use native.Mathlib.Omega.{arith}
use lib.Dec.{eqb, leb}
use lib.ListN.{length, take, drop, length-append}
use lib.Seq.{take_at, take_all}
use borrow.Author.Tests.{not-true}
use Rattle.std.specs.Prelude.{Option as OptionOf, Result, Ok, Err}
use Rattle.std.specs.Result.{result_err}
use Rattle.scope.proofs.TestLaws.{and_left, and_right}
use Rattle.scope.specs.Base.{pick, all}
use Rattle.scope.specs.Chart.{Env}
use Rattle.scope.specs.Types.{Ty}
use Rattle.scope.specs.Nodes.{Store}
use Rattle.scope.specs.Unify.{ImplType}
use Rattle.scope.specs.Sound.{Lent}
use Rattle.scope.specs.Refusals.{SHORT}
use Rattle.scope.specs.Show.{show, show_impl_type}
use Rattle.scope.specs.Calls.{Printed, refused, done, unprinted, or_unprinted, printed_text, show_call, show_impl_type_call, first_broken, store_of, lent_tests, outside, impl_tests}
use Rattle.refusals.specs.declared.Refusal.{Refusal}
use Rattle.refusals.specs.Codes.{number}
use Rattle.promise.specs.Prints.{count_reply, PrintPromised, PartPromised}
use Rattle.call_show.specs.Parts.{part_in, Back}

-- a refusal other than 7

abbrev plain : ℕ → Bool
plain n = not (eqb n SHORT)

plain_code : (ts : List (Bool × ℕ)) → all (λ t. plain t.1) ts ≡ true → (m : ℕ) → first_broken ts ≡ some m → plain m ≡ true
plain_code [] h m e = let z : ◌≡◌ {A = ℕ} 0 1 = cc in absurd (omega arith)
plain_code ((true, n) ∷ ts) h m e = let w : n ≡ m = cc in rw (← w) (and_left (plain n) (all (λ t. plain t.1) ts) h)
plain_code ((false, n) ∷ ts) h m e = plain_code ts (and_right (plain n) (all (λ t. plain t.1) ts) h) m e

-- its part is empty
plain_empty : (n room : ℕ) → plain n ≡ true → pick (eqb n SHORT) room 0 ≡ 0
plain_empty n room h = rw (not-true (eqb n SHORT) h) refl

-- what the second form hands back of the buffer buf, once the first answered r
pub record Handed (p : Printed) (r : Result ℕ Refusal) (s : Store) (buf : List ℕ) : Type 0 where
  pub room : part_in r (length buf) ≤ length buf
  pub promised : PartPromised p (result_err r) (take (part_in r (length buf)) buf) s

abbrev Hands : Printed → Type 0
Hands p = (r : Result ℕ Refusal) (s : Store) (buf : List ℕ) → PrintPromised p (count_reply r) s buf → Handed p r s buf

-- a printer that was turned back
handed_back : (m : ℕ) → plain m ≡ true → (buf₀ : List ℕ) → Hands (unprinted m buf₀)
handed_back m h buf₀ (Ok n) s buf q =
    let o = q.outcome in
    let z : ◌≡◌ {A = ℕ} 0 1 = cc in
    absurd (omega arith)
handed_back m h buf₀ (Err r) s buf q =
    let o = q.outcome in
    let w : m ≡ number r = cc in
    let e : pick (eqb (number r) SHORT) (length buf) 0 ≡ 0 = plain_empty (number r) (length buf) (rw w at h) in
    record {
      room = rw e (omega arith);
      promised = rw e (record { outcome = o; part = refl });
    }

-- a text that fits
handed_fit : (s₀ : Store) (bs rest : List ℕ) → Hands (record { answer = done (length bs) s₀; buffer = bs ++ rest; part = bs })
handed_fit s₀ bs rest (Ok n) s buf q =
    let o = q.outcome in
    let w : length bs ≡ n = cc in
    let v : s₀ ≡ s = cc in
    let front : take n buf ≡ bs = ap (take n) (sym q.buffer) ∙ take_at bs rest n w in
    let long : length buf ≡ length bs + length rest = ap length (sym q.buffer) ∙ length-append bs rest in
    record {
      room = omega (arith, w, long);
      promised = rw front (record { outcome = rw v refl; part = refl });
    }
handed_fit s₀ bs rest (Err r) s buf q =
    let o = q.outcome in
    let z : ◌≡◌ {A = ℕ} 0 1 = cc in
    absurd (omega arith)

-- a text that fills the buffer
handed_full : (bs : List ℕ) → Hands (record { answer = refused SHORT; buffer = bs; part = bs })
handed_full bs (Ok n) s buf q =
    let o = q.outcome in
    let z : ◌≡◌ {A = ℕ} 0 1 = cc in
    absurd (omega arith)
handed_full bs (Err r) s buf q =
    let o = q.outcome in
    let w : number r ≡ SHORT = cc in
    let all : take (length buf) buf ≡ buf = take_all (length buf) buf (omega arith) in
    record {
      room = rw w (omega arith);
      promised = rw (w, all) (record { outcome = o; part = q.buffer });
    }

handed_text : (b : Bool) (s : Store) (bs buf : List ℕ)
    → Hands (pick b (record { answer = done (length bs) s; buffer = bs ++ drop (length bs) buf; part = bs })
    (record { answer = refused SHORT; buffer = take (length buf) bs; part = take (length buf) bs }))
handed_text true s bs buf = handed_fit s bs (drop (length bs) buf)
handed_text false s bs buf = handed_full (take (length buf) bs)

-- a printer whose tests have no such number
handed : (ts : List (Bool × ℕ)) → all (λ t. plain t.1) ts ≡ true → (s : Store) (bs buf : List ℕ) → Hands (or_unprinted (first_broken ts) buf (printed_text s bs buf))
handed ts h s bs buf = go (first_broken ts) refl
  where
    go : (o : Option ℕ) → first_broken ts ≡ o → Hands (or_unprinted o buf (printed_text s bs buf))
    go none e = handed_text (leb (length bs) (length buf)) s bs buf
    go (some m) e = handed_back m (plain_code ts h m e) buf

-- the two calls: the part has room in the buffer, and is what the second form promises

show_hands : (e : Env) (l : Lent) (t : Ty) (buf : List ℕ) → Hands (show_call e l t buf)
unfolding show_call
show_hands e l t buf = handed (lent_tests e l ++ (outside (store_of l) (t ∷ []) ∷ [])) refl (store_of l) (show e (store_of l).nodes t) buf

impl_hands : (e : Env) (l : Lent) (a : ImplType) (buf : List ℕ) → Hands (show_impl_type_call e l a buf)
unfolding show_impl_type_call
impl_hands e l a buf = handed (lent_tests e l ++ impl_tests e (store_of l) (a ∷ [])) refl (store_of l) (show_impl_type e (store_of l).nodes a) buf

hand_promised : {p : Printed} {r : Result ℕ Refusal} {s : Store} {buf : List ℕ} {o : OptionOf Refusal} {part : List ℕ} → Handed p r s buf → Back r buf o part
    → PartPromised p o part s
hand_promised h b = rw (b.told, b.front) h.promised

module _ (e : Env) (l : Lent) where
  pub show_room : (t : Ty) (buf₀ : List ℕ) (r : Result ℕ Refusal) (s : Store) (buf : List ℕ)
      → PrintPromised (show_call e l t buf₀) (count_reply r) s buf → part_in r (length buf) ≤ length buf
  show_room t buf₀ r s buf q = (show_hands e l t buf₀ r s buf q).room

  pub show_part : (t : Ty) (buf₀ : List ℕ) (r : Result ℕ Refusal) {s : Store} {buf : List ℕ} {o : OptionOf Refusal} {part : List ℕ}
      → PrintPromised (show_call e l t buf₀) (count_reply r) s buf → Back r buf o part → PartPromised (show_call e l t buf₀) o part s
  show_part t buf₀ r q b = hand_promised (show_hands e l t buf₀ r _ _ q) b

  pub impl_room : (a : ImplType) (buf₀ : List ℕ) (r : Result ℕ Refusal) (s : Store) (buf : List ℕ)
      → PrintPromised (show_impl_type_call e l a buf₀) (count_reply r) s buf → part_in r (length buf) ≤ length buf
  impl_room a buf₀ r s buf q = (impl_hands e l a buf₀ r s buf q).room

  pub impl_part : (a : ImplType) (buf₀ : List ℕ) (r : Result ℕ Refusal) {s : Store} {buf : List ℕ} {o : OptionOf Refusal} {part : List ℕ}
      → PrintPromised (show_impl_type_call e l a buf₀) (count_reply r) s buf → Back r buf o part → PartPromised (show_impl_type_call e l a buf₀) o part s
  impl_part a buf₀ r q b = hand_promised (impl_hands e l a buf₀ r _ _ q) b
