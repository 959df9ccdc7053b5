-- The laws of the table of skips: what holds of all that is passed over holds still when one byte is set to a part of which it holds, and when two parts become
-- one. And of a run of slots whose children's nodes have been told.
-- Assumes nothing.
use mathlib.Core.Path.{◌≡◌, ap, sym, ◌∙◌}
use mathlib.Core.Bool.{Bool, true}
use mathlib.Core.List.{List}
use Prim.Native.Nat.{ℕ, ◌+◌, ◌≤◌, ◌<◌}
use native.Mathlib.Omega.{arith}
use native.Mathlib.Decide.{ℕ_discrete, dec_lt}
use lib.ListN.{length, get_or, set}
use lib.Seq.{get_or-set_same, get_or-set_other, set_out}
use Rattle.std.specs.Option.{unwrap_or}
use Rattle.std.specs.Prelude.{MatchOption, Option, None, Some, ⊤}
use Rattle.scope.specs.Types.{ty_of}
use Rattle.layout.specs.Words.{slot_at}
use Rattle.layout.specs.Meaning.{slot_means}
use Rattle.layout.specs.declared.Slot.{Slot}
use Rattle.skips.specs.Table.{BYTES, marked, slot_seen, Skips, Passed, Scanned, Filled, Stretched}

-- the node of the child in a slot
pub slot_seen_lem : (ks seen : List ℕ) (s : ℕ) {j : ℕ} {b : Bool} (d : Slot) → slot_means d ≡ slot_at ks s → j ≡ (ty_of d.ty.0).idx
    → b ≡ marked seen j → b ≡ true → slot_seen ks seen s ≡ true
slot_seen_lem ks seen s d q o m z = ap (marked seen) (sym (o ∙ ap (λ x. (ty_of x.type).idx) q)) ∙ (sym m ∙ z)

-- one byte set
skips_set : {p : ℕ → Bool} {skip : List ℕ} (s v : ℕ) → Skips p skip → ((x : ℕ) → s ≤ x → x < s + v → p x ≡ true) → Skips p (set skip s v)
skips_set {p} {skip} s v c h = record { each = λ a x l u. go a x l u (ℕ_discrete a s) (dec_lt s (length skip)) }
  where
    go : (a x : ℕ) → a ≤ x → x < a + get_or (set skip s v) a 0 → Dec (a ≡ s) → Dec (s < length skip) → p x ≡ true
    go a x l u (yes e) (yes i) =
        let q : get_or (set skip s v) a 0 ≡ v = rw e (get_or-set_same skip s v 0 i) in
        h x (omega (arith, l, e)) (omega (arith, e, rw q at u))
    go a x l u (yes e) (no i) = c.each a x l (rw (set_out skip s v (omega arith)) at u)
    go a x l u (no e) d = c.each a x l (rw (get_or-set_other skip s a v 0 e) at u)

-- passing over

module _ {skip : List ℕ} {s a b : ℕ} (ea : a ≡ get_or skip s 0) (eb : b ≡ get_or skip (s + a) 0) where
  over_both : (p : ℕ → Bool) → Skips p skip → (x : ℕ) → s ≤ x → x < s + (a + b) → p x ≡ true
  over_both p c x l u = go (dec_lt x (s + a))
    where
      go : Dec (x < s + a) → p x ≡ true
      go (yes h) = c.each s x l (rw (← ea) h)
      go (no h) = c.each (s + a) x (omega arith) (rw (← eb) (omega arith))

  module _ (la : a < BYTES) (lb : b < BYTES) where
    pub passed_kept : {skip' : List ℕ} {v : ℕ} → v ≡ a + b → skip' ≡ set skip s v → Passed skip skip' s (a + b)
    passed_kept h e = record {
      over = over_both;
      skips = λ p c. rw (e, h) (skips_set s (a + b) c (over_both p c));
      below = omega arith;
    }

-- what follows a slot

-- the first slot that is not passed over, if there is one
pub scanned_found : {ks seen : List ℕ} {s end : ℕ} (r : Option ℕ) → s ≤ end
    → MatchOption r ((k : ℕ) → s ≤ k → k < end → slot_seen ks seen k ≡ true)
    (λ i. (s ≤ i) × (i < end) × ⊤ × ((k : ℕ) → s ≤ k → k < i → slot_seen ks seen k ≡ true))
    → Scanned ks seen s end (unwrap_or r end)
scanned_found None l h = record { from = l; below = omega arith; over = h }
scanned_found (Some i) l h = record { from = h.0; below = omega (arith, h.1); over = h.3 }

module _ {ks seen skip : List ℕ} {s end r : ℕ} (d : Slot) (w : Scanned ks seen (s + 1) end r) where
  pub stretched_bare : Stretched ks seen skip skip s end r
  stretched_bare = record { scanned = w; skips = λ p c h. c }

  pub stretched_full : {skip' : List ℕ} {j : ℕ} {b : Bool} → Filled skip skip' s r → slot_means d ≡ slot_at ks s → j ≡ (ty_of d.ty.0).idx → b ≡ marked seen j → b ≡ true
      → Stretched ks seen skip skip' s end r
  stretched_full f q o m z = record {
    scanned = w;
    skips = λ p c h. f.skips p c (λ x l u. h x (go x l u (ℕ_discrete x s)));
  }
    where
      go : (x : ℕ) → s ≤ x → x < r → Dec (x ≡ s) → slot_seen ks seen x ≡ true
      go x l u (yes e) = rw e (slot_seen_lem ks seen s d q o m z)
      go x l u (no e) = w.over x (omega arith) u
