-- What noting does to a memory's words, and so to what is believed: an entry's own words are read back as they were written, and another entry's are untouched.
-- And what marking leaves as it is, and how large an entry's number is.
-- Assumes nothing.
use mathlib.Core.Path.{◌≡◌, refl, ap, sym, subst, ◌∙◌}
use mathlib.Core.Bool.{Bool, true, false}
use mathlib.Core.List.{List, [], ◌∷◌, ◌++◌}
use mathlib.Core.Logic.{◌⊎◌, inl, inr}
use Prim.Native.Nat.{ℕ, zero, suc, ◌+◌, ◌*◌, ◌<◌, ◌≤◌}
use native.Mathlib.Omega.{arith}
use native.Mathlib.Nat.{mul-le-mul_right}
use native.Mathlib.Decide.{ℕ_discrete}
use lib.ListN.{length, get_or, set, take, replicate, length-set}
use lib.Seq.{get_or-set_same, get_or-set_other}
use Rattle.scope.specs.Base.{pick}
use Rattle.scope.specs.Limits.{MAX_NODES}
use Rattle.scope.specs.Types.{ty_of}
use Rattle.types.specs.Answers.{number_of}
use Rattle.types.specs.declared.UnifyResult.{UnifyResult}
use Rattle.types.specs.declared.UnifyResult.TheVariants.{Success, Failure, Indeterminate}
use Rattle.types.proofs.Laws.{idx_below}
use Rattle.marks.specs.Marks.{Beside}
use Rattle.marks.proofs.Laws.{marks_same}
use Rattle.recall.specs.Memory.{clock_of, Running, entry_at, Believed, Tidy, New, Noted}
use Rattle.recall.specs.Places.{code_of, Entry}

-- `clear`

zeros_at : (n i : ℕ) → get_or (replicate {A = ℕ} n 0) i 0 ≡ 0
zeros_at zero i = refl
zeros_at (suc n) zero = refl
zeros_at (suc n) (suc i) = zeros_at n i

-- from k on a list with zeros for its words there
pub zero_from : (k n i : ℕ) (m : List ℕ) → k ≤ i → get_or (take k m ++ replicate n 0) i 0 ≡ 0
zero_from zero n i m h = zeros_at n i
zero_from (suc k) n i [] h = zeros_at n i
zero_from (suc k) n zero (x ∷ m) h = absurd (omega arith)
zero_from (suc k) n (suc i) (x ∷ m) h = zero_from k n i m (omega arith)

-- an entry's number

code_small : (w : ℕ) {c : ℕ} → c ≡ code_of (ty_of w) → c ≤ 4294967296
code_small w {c} e = go (ty_of w).inv refl
  where
    go : (v : Bool) → (ty_of w).inv ≡ v → c ≤ 4294967296
    go true f = omega (arith, e ∙ ap (λ (v : Bool). pick v (2 * (ty_of w).idx + 1) (2 * (ty_of w).idx)) f, idx_below w)
    go false f = omega (arith, e ∙ ap (λ (v : Bool). pick v (2 * (ty_of w).idx + 1) (2 * (ty_of w).idx)) f, idx_below w)

-- no product here is too large for a number of 64 bits
pub row_small : (w n : ℕ) {c : ℕ} → c ≡ code_of (ty_of w) → n ≤ MAX_NODES → c * (2 * n) ≤ 4294967296 * 8192
row_small w n e h = omega (arith, mul-le-mul_right (2 * n) (code_small w e), h)

pub pair_small : (w v n : ℕ) {c d : ℕ} → c ≡ code_of (ty_of w) → d ≡ code_of (ty_of v) → n ≤ MAX_NODES → c * (2 * n) + d ≤ 4294967296 * 8193
pair_small w v n e f h = omega (arith, row_small w n e h, code_small v f)

-- `note`

number_same : (q r : UnifyResult) → number_of q ≡ number_of r → q ≡ r
number_same Success Success e = refl
number_same Success Failure e = absurd (omega arith)
number_same Success Indeterminate e = absurd (omega arith)
number_same Failure Success e = absurd (omega arith)
number_same Failure Failure e = refl
number_same Failure Indeterminate e = absurd (omega arith)
number_same Indeterminate Success e = absurd (omega arith)
number_same Indeterminate Failure e = absurd (omega arith)
number_same Indeterminate Indeterminate e = refl

-- four words from p on
module _ (m : List ℕ) (p a b c v : ℕ) where
  abbrev m₁ : List ℕ
  m₁ = set m p a

  abbrev m₂ : List ℕ
  m₂ = set m₁ (p + 1) b

  abbrev m₃ : List ℕ
  m₃ = set m₂ (p + 2) c

  abbrev written : List ℕ
  written = set m₃ (p + 3) v

  other : (j : ℕ) → (j ≡ p → ⊥) → (j ≡ p + 1 → ⊥) → (j ≡ p + 2 → ⊥) → (j ≡ p + 3 → ⊥) → get_or written j 0 ≡ get_or m j 0
  other j h₀ h₁ h₂ h₃ =
      get_or-set_other m₃ (p + 3) j v 0 h₃ ∙ (get_or-set_other m₂ (p + 2) j c 0 h₂ ∙ (get_or-set_other m₁ (p + 1) j b 0 h₁ ∙ get_or-set_other m p j a 0 h₀))

  module _ (h : p + 3 < length m) where
    word_0 : get_or written p 0 ≡ a
    word_0 =
        get_or-set_other m₃ (p + 3) p v 0 (λ e. omega arith) ∙ (get_or-set_other m₂ (p + 2) p c 0 (λ e. omega arith)
        ∙ (get_or-set_other m₁ (p + 1) p b 0 (λ e. omega arith) ∙ get_or-set_same m p a 0 (omega arith)))

    word_1 : get_or written (p + 1) 0 ≡ b
    word_1 =
        get_or-set_other m₃ (p + 3) (p + 1) v 0 (λ e. omega arith) ∙ (get_or-set_other m₂ (p + 2) (p + 1) c 0 (λ e. omega arith)
        ∙ get_or-set_same m₁ (p + 1) b 0 (omega (arith, length-set m p a)))

    word_2 : get_or written (p + 2) 0 ≡ c
    word_2 =
        get_or-set_other m₃ (p + 3) (p + 2) v 0 (λ e. omega arith) ∙ get_or-set_same m₂ (p + 2) c 0 (omega (arith, length-set m p a, length-set m₁ (p + 1) b))

    word_3 : get_or written (p + 3) 0 ≡ v
    word_3 = get_or-set_same m₃ (p + 3) v 0 (omega (arith, length-set m p a, length-set m₁ (p + 1) b, length-set m₂ (p + 2) c))

module _ {m : List ℕ} {k c : ℕ} (a b : ℕ) (r : UnifyResult) (t : Tidy m) (ec : clock_of m ≡ c) (en : Entry m k (entry_at k)) where
  abbrev after : List ℕ
  after = written m (entry_at k) a b c (number_of r)

  elsewhere : (j i : ℕ) → i < 4 → (j ≡ k → ⊥) → get_or after (entry_at j + i) 0 ≡ get_or m (entry_at j + i) 0
  elsewhere j i h n =
      other m (entry_at k) a b c (number_of r) (entry_at j + i) (λ e. n (omega arith)) (λ e. n (omega arith)) (λ e. n (omega arith)) (λ e. n (omega arith))

  clock_stays : clock_of after ≡ clock_of m
  clock_stays = other m (entry_at k) a b c (number_of r) 0 (λ e. omega arith) (λ e. omega arith) (λ e. omega arith) (λ e. omega arith)

  past_by : Running (clock_of m) → (j : ℕ) → Dec (j ≡ k) → get_or after (entry_at j + 2) 0 ≤ clock_of m
  past_by w j (yes e) =
      omega (arith, ec, ap (λ (i : ℕ). get_or after (entry_at i + 2) 0) e ∙ word_2 m (entry_at k) a b c (number_of r) en.fits)
  past_by w j (no e) = omega (arith, elsewhere j 2 (omega arith) e, t.past w j)

  only_by : (a' b' : ℕ) (q : UnifyResult) (v : Believed after a' b' q) → Dec (v.place ≡ k) → Believed m a' b' q ⊎ New m c a b r a' b' q
  only_by a' b' q v (yes e) = inr (record {
    running = rw (← clock_stays) v.running;
    now = ec;
    first = sym v.first ∙ (ap (λ (j : ℕ). get_or after (entry_at j) 0) e ∙ word_0 m (entry_at k) a b c (number_of r) en.fits);
    second = sym v.second ∙ (here 1 ∙ word_1 m (entry_at k) a b c (number_of r) en.fits);
    answer = number_same q r (sym v.answer ∙ (here 3 ∙ word_3 m (entry_at k) a b c (number_of r) en.fits));
  })
    where
      here : (i : ℕ) → get_or after (entry_at v.place + i) 0 ≡ get_or after (entry_at k + i) 0
      here i = ap (λ (j : ℕ). get_or after (entry_at j + i) 0) e
  only_by a' b' q v (no e) = inl (record {
    place = v.place;
    running = rw (← clock_stays) v.running;
    first = sym (subst (λ (i : ℕ). get_or after i 0 ≡ get_or m i 0) (omega arith) (elsewhere v.place 0 (omega arith) e)) ∙ v.first;
    second = sym (elsewhere v.place 1 (omega arith) e) ∙ v.second;
    when = sym (elsewhere v.place 2 (omega arith) e) ∙ (v.when ∙ clock_stays);
    answer = sym (elsewhere v.place 3 (omega arith) e) ∙ v.answer;
  })

  noted_after : Noted m after c a b r
  noted_after = record {
    tidy = record { past = λ w j. rw clock_stays (past_by (rw (← clock_stays) w) j (ℕ_discrete j k)) };
    on = clock_stays;
    only = λ a' b' q v. only_by a' b' q v (ℕ_discrete v.place k);
    marks = marks_same (λ j g l.
        other m (entry_at k) a b c (number_of r) j (λ e. omega arith) (λ e. omega arith) (λ e. omega arith) (λ e. omega arith));
  }

pub noted_entry : {m m₁ m₂ m₃ m₄ : List ℕ} {k p a b c x v : ℕ} {r : UnifyResult} → Tidy m → x ≡ clock_of m → x ≡ c → Entry m k p → m₁ ≡ set m p a → m₂ ≡ set m₁ (p + 1) b
    → m₃ ≡ set m₂ (p + 2) c → v ≡ number_of r → m₄ ≡ set m₃ (p + 3) v → Noted m m₄ c a b r
noted_entry {m} {m₁} {m₂} {m₃} {m₄} {k} {p} {a} {b} {c} {r = r} t ex ec en e₁ e₂ e₃ ev e₄ =
    subst (λ (l : List ℕ). Noted m l c a b r) (sym all) (noted_after a b r t (sym ex ∙ ec) (subst (Entry m k) en.is en))
  where
    all : m₄ ≡ written m (entry_at k) a b c (number_of r)
    all = rw (e₄, e₃, e₂, e₁, ev, en.is) refl

-- a mark more is among no other words

module _ {m m' : List ℕ} (s : Beside m m') where
  pub marked_clock : clock_of m' ≡ clock_of m
  marked_clock = s.before 0 (omega arith)

  pub marked_tidy : Tidy m → Tidy m'
  marked_tidy t = record { past = λ r k. omega (arith, marked_clock, s.after (entry_at k + 2) (omega arith), t.past (subst Running marked_clock r) k) }

  pub marked_still : (a b : ℕ) (q : UnifyResult) → Believed m' a b q → Believed m a b q
  marked_still a b q v =
      let k : ℕ = entry_at v.place in
      record {
        place = v.place;
        running = subst Running marked_clock v.running;
        first = sym (s.after k (omega arith)) ∙ v.first;
        second = sym (s.after (k + 1) (omega arith)) ∙ v.second;
        when = sym (s.after (k + 2) (omega arith)) ∙ (v.when ∙ marked_clock);
        answer = sym (s.after (k + 3) (omega arith)) ∙ v.answer;
      }
