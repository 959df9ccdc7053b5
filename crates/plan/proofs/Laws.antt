-- One law for each way out of `same_kinds`, `crosses` and `plan_of`: what the tests on the way showed gives what scope's definition picks there. A kind's
-- head says the code's numbers whatever the children are; its names matter for a Key, which has its own, and for an Object, which has its children's.
-- Assumes nothing.
use mathlib.Core.Path.{◌≡◌, refl, sym, ◌∙◌}
use Rattle.std.proofs.Common.{◌⊎◌, inl, inr}
use mathlib.Core.Bool.{Bool, true, false, not, ◌||◌, ◌&&◌, and-false, or-true}
use mathlib.Core.List.{List, []}
use Rattle.std.proofs.Math.Decide.{ℕ_discrete}
use Prim.Native.Nat.{ℕ, zero, suc, ◌≤◌}
use native.Mathlib.Omega.{arith}
use lib.Dec.{eqb}
use borrow.Author.Tests.{eq-eqb, ne_eqb, eqb-true}
use Rattle.scope.specs.Names.{Texts, bytes, eq_bytes}
use Rattle.scope.specs.Kinds.{TUPLE, OBJECT, STRUCT, UNION, CLOSURE, KEY, IF_CONST, DEFAULT, ERROR, row_of, rows, dual_by, self_dual}
use Rattle.scope.specs.Unify.{first_name, same_head, kids_plan}
use Rattle.scope.specs.Unify as scope
use Rattle.scope.specs.Sound.{names_in}
use Rattle.kinds.proofs.Laws.{row_past}
use Rattle.names.specs.Place.{name_of}
use Rattle.names.proofs.InWords.{name_bytes}
use Rattle.types.specs.declared.Inverted.{Inverted}
use Rattle.types.specs.declared.UnifyResult.TheVariants.{Failure, Indeterminate}
use Rattle.layout.proofs.Lists.{and_left}
use Rattle.layout.specs.Meaning.{kind_cell, kind_means}
use Rattle.layout.specs.declared.Kind.{Kind}
use Rattle.plan.specs.Meaning.{names_from, plan_means, SameKinds, crosses_kind, Over, Planned}
use Rattle.plan.specs.declared.Runs.{Runs}
use Rattle.plan.specs.declared.Plan.TheVariants.{Answer, Run, Object, Signature}

-- names: a Key's own, and an Object's

key_name : (x : Texts) (ks : List ℕ) (k : Kind) → k.code ≡ KEY → first_name x (names_in (kind_cell ks k)) ≡ bytes x (name_of k.name)
unfolding row_of rows
key_name x ks k e = rw e (name_bytes x k.name.text k.name.start k.name.len)

pub object_names : (ks : List ℕ) (k : Kind) → k.code ≡ OBJECT → names_in (kind_cell ks k) ≡ names_from ks k.first k.count
unfolding row_of rows
object_names ks k e = rw e refl

-- `same_kinds`

module _ (x : Texts) (k m : Kind) where
  pub same_not : {t : Bool} → t ≡ false → ((k.code ≡ m.code) × (k.number ≡ m.number → ⊥)) ⊎ (k.code ≡ m.code → ⊥) → SameKinds x k m t
  unfolding same_head kind_means
  same_not z (inl (e, h)) = record { is = λ ks. rw (eq-eqb k.code m.code e, ne_eqb k.number m.number h) z }
  same_not z (inr h) = record { is = λ ks. rw (ne_eqb k.code m.code h) z }

  pub same_plain : (k.code ≡ m.code) × (k.number ≡ m.number) → (k.code ≡ KEY → ⊥) → SameKinds x k m (not (eqb k.code KEY))
  unfolding same_head kind_means
  same_plain (e, f) h = record { is = λ ks. rw (eq-eqb k.code m.code e, eq-eqb k.number m.number f, ne_eqb k.code KEY h) }

  pub same_key : {r : Bool} → (k.code ≡ m.code) × (k.number ≡ m.number) → k.code ≡ KEY
      → r ≡ eq_bytes (bytes x (name_of k.name)) (bytes x (name_of m.name)) → SameKinds x k m r
  unfolding same_head kind_means
  same_key (e, f) h b = record {
    is = λ ks. rw (eq-eqb k.code m.code e, eq-eqb k.number m.number f, eq-eqb k.code KEY h, key_name x ks k h, key_name x ks m (sym e ∙ h)) b;
  }

  same_codes : SameKinds x k m true → k.code ≡ m.code
  unfolding same_head kind_means
  same_codes s = eqb-true k.code m.code (and_left (eqb k.code m.code) _ (sym (s.is [])))

-- `crosses`: two codes that stand side by side, and that what is not named there does not cross

pub one_of : (a c : ℕ) → a ≤ c → c ≤ suc a → (c ≡ a) ⊎ (c ≡ suc a)
one_of a c h g = go (ℕ_discrete c a)
  where
    go : Dec (c ≡ a) → (c ≡ a) ⊎ (c ≡ suc a)
    go (yes e) = inl e
    go (no n) = inr (omega arith)

past_crosses : (c : ℕ) (d : Bool) → 15 ≤ c → false ≡ (dual_by (row_of c).dual d && not (eqb c DEFAULT))
past_crosses c d h = rw (row_past c h) refl

code_crosses : (c : ℕ) (d : Bool) → (c ≡ STRUCT → ⊥) → (c ≡ UNION → ⊥) → (c ≡ TUPLE → ⊥) → (c ≡ OBJECT → ⊥) → (c ≡ IF_CONST → ⊥) → (c ≡ ERROR → ⊥)
    → false ≡ (dual_by (row_of c).dual d && not (eqb c DEFAULT))
unfolding row_of rows
code_crosses zero d hs hu ht ho hi he = refl
code_crosses (suc zero) d hs hu ht ho hi he = absurd (ht refl)
code_crosses (suc (suc zero)) d hs hu ht ho hi he = absurd (ho refl)
code_crosses (suc (suc (suc zero))) d hs hu ht ho hi he = refl
code_crosses (suc (suc (suc (suc zero)))) d hs hu ht ho hi he = absurd (hs refl)
code_crosses (suc (suc (suc (suc (suc zero))))) d hs hu ht ho hi he = refl
code_crosses (suc (suc (suc (suc (suc (suc zero)))))) d hs hu ht ho hi he = absurd (hu refl)
code_crosses (suc (suc (suc (suc (suc (suc (suc zero))))))) d hs hu ht ho hi he = refl
code_crosses (suc (suc (suc (suc (suc (suc (suc (suc zero)))))))) d hs hu ht ho hi he = refl
code_crosses (suc (suc (suc (suc (suc (suc (suc (suc (suc zero))))))))) d hs hu ht ho hi he = refl
code_crosses (suc (suc (suc (suc (suc (suc (suc (suc (suc (suc zero)))))))))) d hs hu ht ho hi he = refl
code_crosses (suc (suc (suc (suc (suc (suc (suc (suc (suc (suc (suc zero))))))))))) d hs hu ht ho hi he = absurd (hi refl)
code_crosses (suc (suc (suc (suc (suc (suc (suc (suc (suc (suc (suc (suc zero)))))))))))) d hs hu ht ho hi he = refl
code_crosses (suc (suc (suc (suc (suc (suc (suc (suc (suc (suc (suc (suc (suc zero))))))))))))) d hs hu ht ho hi he = refl
code_crosses (suc (suc (suc (suc (suc (suc (suc (suc (suc (suc (suc (suc (suc (suc zero)))))))))))))) d hs hu ht ho hi he = absurd (he refl)
code_crosses (suc (suc (suc (suc (suc (suc (suc (suc (suc (suc (suc (suc (suc (suc (suc m))))))))))))))) d hs hu ht ho hi he =
    past_crosses (suc (suc (suc (suc (suc (suc (suc (suc (suc (suc (suc (suc (suc (suc (suc m))))))))))))))) d (omega arith)

pub not_crosses : (k : Kind) → (k.code ≡ STRUCT → ⊥) → (k.code ≡ UNION → ⊥) → (k.code ≡ TUPLE → ⊥) → (k.code ≡ OBJECT → ⊥) → (k.code ≡ IF_CONST → ⊥)
    → (k.code ≡ ERROR → ⊥) → false ≡ crosses_kind k
not_crosses k hs hu ht ho hi he = code_crosses k.code k.dual hs hu ht ho hi he

-- `plan_of`

-- no Error, equal kinds, and their inversions agree or they cross
pub record Meets (x : Texts) (k m : Kind) (i : Bool) : Type 0 where
  pub sound : (k.code ≡ ERROR → ⊥) × (m.code ≡ ERROR → ⊥)
  pub same : SameKinds x k m true
  pub free : (not i || crosses_kind k) ≡ true

pub free_plain : (i t : Bool) → i ≡ false → (not i || t) ≡ true
free_plain i t e = rw e

pub free_crossed : (i r t : Bool) → r ≡ t → r ≡ true → (not i || t) ≡ true
free_crossed i r t e h = rw (sym e ∙ h) (or-true (not i))

module _ (x : Texts) (k m : Kind) (i : Bool) where
  pub plan_error : (k.code ≡ ERROR) ⊎ ((k.code ≡ ERROR → ⊥) × (m.code ≡ ERROR)) → Planned x k m i (Answer Indeterminate)
  unfolding plan_means scope.plan kind_means
  plan_error (inl e) = record { means = λ ks. rw (eq-eqb k.code ERROR e); over = tt }
  plan_error (inr (h, e)) = record { means = λ ks. rw (ne_eqb k.code ERROR h, eq-eqb m.code ERROR e); over = tt }

  module _ (h : k.code ≡ ERROR → ⊥) (g : m.code ≡ ERROR → ⊥) where
    pub plan_unequal : (r : Bool) → SameKinds x k m r → r ≡ false → Planned x k m i (Answer Failure)
    unfolding plan_means scope.plan kind_means
    plan_unequal r s e = record {
      means = λ ks. rw (ne_eqb k.code ERROR h, ne_eqb m.code ERROR g, sym (s.is ks) ∙ e);
      over = tt;
    }

    pub plan_crossed : (r t : Bool) → SameKinds x k m r → i ≡ true → t ≡ crosses_kind k → t ≡ false → Planned x k m i (Answer Failure)
    unfolding plan_means scope.plan scope.crosses self_dual kind_means
    plan_crossed r t s e f n = record {
      means = λ ks. rw (ne_eqb k.code ERROR h, ne_eqb m.code ERROR g, e, sym f ∙ n, and-false (same_head x (kind_means ks k).head (kind_means ks m).head));
      over = tt;
    }

    pub meets : (r : Bool) → SameKinds x k m r → r ≡ true → (not i || crosses_kind k) ≡ true → Meets x k m i
    meets r s e f = record { sound = (h, g); same = record { is = λ ks. sym e ∙ s.is ks }; free = f }

  -- two kinds that meet: what is to be done with their children

  plan_kids : Meets x k m i → (ks : List ℕ) → scope.plan x (kind_means ks k) (kind_means ks m) i ≡ kids_plan x i (kind_means ks k) (kind_means ks m)
  unfolding scope.plan scope.crosses self_dual kind_means
  plan_kids d ks = rw (ne_eqb k.code ERROR d.sound.0, ne_eqb m.code ERROR d.sound.1, sym (d.same.is ks), d.free)

  abbrev runs : Inverted → Runs
  runs j = record { a = k.first; na = k.count; b = m.first; nb = m.count; inv = j }

all_of : (k m : Kind) (j : Inverted) → Over k m (record { a = k.first; na = k.count; b = m.first; nb = m.count; inv = j })
all_of k m j = record { a = refl; na = refl; b = refl; nb = refl }

module _ (x : Texts) (k m : Kind) (j : Inverted) (d : Meets x k m j.0) where
  pub plan_object : k.code ≡ OBJECT → Planned x k m j.0 (Object (runs x k m j.0 j))
  unfolding plan_means kids_plan kind_means
  plan_object e = record {
    means = λ ks. sym (plan_kids x k m j.0 d ks ∙ rw (eq-eqb k.code OBJECT e, object_names ks k e, object_names ks m (sym (same_codes x k m d.same) ∙ e)));
    over = (all_of k m j, sym (same_codes x k m d.same) ∙ e);
  }

  pub plan_closure : k.code ≡ CLOSURE → Planned x k m j.0 (Signature (runs x k m j.0 j))
  unfolding plan_means kids_plan kind_means
  plan_closure e = record {
    means = λ ks. sym (plan_kids x k m j.0 d ks ∙ rw (ne_eqb k.code OBJECT (λ f. omega arith), eq-eqb k.code CLOSURE e));
    over = all_of k m j;
  }

  pub plan_run : (k.code ≡ OBJECT → ⊥) → (k.code ≡ CLOSURE → ⊥) → Planned x k m j.0 (Run (runs x k m j.0 j))
  unfolding plan_means kids_plan kind_means
  plan_run h g = record {
    means = λ ks. sym (plan_kids x k m j.0 d ks ∙ rw (ne_eqb k.code OBJECT h, ne_eqb k.code CLOSURE g));
    over = all_of k m j;
  }
