-- What a memory is told step by step, and that what it holds stays true: nothing is believed of other nodes than those it was noted of. One law for each way out of
-- `find` and `settle`.
-- Assumes nothing.
use mathlib.Core.Path.{◌≡◌, refl, sym, subst, ◌∙◌}
use mathlib.Core.List.{List}
use mathlib.Core.Logic.{◌⊎◌, inl, inr}
use Prim.Native.Nat.{ℕ}
use native.Mathlib.Omega.{arith}
use Rattle.scope.specs.Names.{Texts}
use Rattle.scope.specs.Types.{Ty, ty_of}
use Rattle.scope.specs.Nodes.{Node}
use Rattle.scope.specs.Unify.{settle}
use Rattle.scope.proofs.View.{View, Good, view}
use Rattle.scope.proofs.Grow.{Grow, Self, self_grow, mono_idx}
use Rattle.types.specs.declared.UnifyResult.{UnifyResult}
use Rattle.types.specs.declared.UnifyResult.TheVariants.{Failure, Indeterminate}
use Rattle.layout.specs.Meaning.{Linked}
use Rattle.types.specs.declared.«Type».{«Type»}
use Rattle.roots.specs.Found.{FoundMut, Near}
use Rattle.roots.specs.Found.{Nearby}
use Rattle.std.specs.Prelude.{Some}
use Rattle.roots.proofs.Laws.{relinked_refl}
use Rattle.merge.specs.Meaning.{Settled}
use Rattle.marks.specs.Marks.{Knows, Beside, Marked}
use Rattle.recall.specs.Memory.{Running, Tidy, Begun, Fewer, Forgot, Noted}
use Rattle.recall.proofs.Laws.{marked_clock, marked_tidy, marked_still}
use Rattle.heed.specs.Recalls.{Meets, SelfAt, Marks, Recalls, Since}
use Rattle.heed.specs.Told.{Moved, Closed, FoundTold, SettledTold}

-- clocks

pub since_same : {c : ℕ} {ns : List Node} → Since c c ns ns
since_same = record { on = omega arith; still = λ r e. refl }

pub since_then : {a b c : ℕ} {ns ns₁ ns₂ : List Node} → Since a b ns ns₁ → Since b c ns₁ ns₂ → Since a c ns ns₂
since_then {a} {b} {c} s t = record {
  on = omega (arith, s.on, t.on);
  still = λ r e.
      let f : c ≡ b = omega (arith, s.on, t.on) in
      let g : b ≡ a = omega (arith, s.on, t.on) in
      t.still r f ∙ s.still (subst Running f r) g;
}

-- what a memory holds

pub recalls_begun : {x : Texts} {n : ℕ} {ns : List Node} {m : List ℕ} → Begun m → Recalls x n ns m
recalls_begun b = record { tidy = b.tidy; true = λ p q r v. absurd (b.none p q r v); marks = record { self = λ i k. absurd (b.unmarked i k) } }

pub recalls_moved : {x : Texts} {n : ℕ} {ns ns' : List Node} {m m' : List ℕ} → Recalls x n ns m → Moved m m' ns ns' → Marks ns' m' → Recalls x n ns' m'
recalls_moved {x} {n} w d k = record {
  tidy = d.tidy;
  true = λ a b q v. let o = d.believed a b q v in subst (λ (l : List Node). Meets x n l a b q) (sym o.1) (w.true a b q o.0);
  marks = k;
}

-- what is marked, where roots that are their own inverses stay so

abbrev pub SelfsKept : List Node → List Node → Type 0
SelfsKept ns ns' = (i : ℕ) → SelfAt ns i → SelfAt ns' i

pub marks_kept : {ns ns' : List Node} {m m' : List ℕ} → SelfsKept ns ns' → ((i : ℕ) → Knows m' i → Knows m i) → Marks ns m → Marks ns' m'
marks_kept s f w = record { self = λ i k. s i (w.self i (f i k)) }

pub marks_fewer : {ns : List Node} {m m' : List ℕ} → ((i : ℕ) → Knows m' i → Knows m i) → Marks ns m → Marks ns m'
marks_fewer f w = marks_kept (λ i s. s) f w

pub selfs_view : (ns ns' : List Node) → view ns' ≡ view ns → SelfsKept ns ns'
selfs_view ns ns' e i s = subst (λ (g : View). Self g (g.rep i).idx) (sym e) s

pub selfs_grow : {x : Texts} (ns ns' : List Node) → Good (view ns) → Grow x (view ns) (view ns') → SelfsKept ns ns'
selfs_grow ns ns' good w i s = subst (Self (view ns')) (sym (mono_idx w i)) (self_grow good w (good.idem i) s)

-- a mark more
pub marks_more : {ns : List Node} {m m' : List ℕ} {i : ℕ} → Marks ns m → SelfAt ns i → Marked m m' i → Marks ns m'
marks_more {ns} {i = i} w s k = record { self = λ j v. elim (k.marks j v) [ inl e ↦ subst (SelfAt ns) (sym e) s | inr o ↦ w.self j o ] }

pub moved_marked : {ns : List Node} {m m' : List ℕ} → Tidy m → Beside m m' → Moved m m' ns ns
moved_marked t k = record {
  tidy = marked_tidy k t;
  since = record { on = omega (arith, marked_clock k); still = λ r e. refl };
  believed = λ a b q v. (marked_still k a b q v, refl);
}

-- what it is told

pub moved_fewer : {m m' : List ℕ} {ns : List Node} → Fewer m m' → Moved m m' ns ns
moved_fewer f = record { tidy = f.tidy; since = record { on = f.on; still = λ r e. refl }; believed = λ a b q v. (f.still a b q v, refl) }

pub moved_forgot : {m m' : List ℕ} {ns ns' : List Node} → Forgot m m' → Moved m m' ns ns'
moved_forgot f = record {
  tidy = f.tidy;
  since = record { on = f.on; still = λ r e. absurd (f.moved r e) };
  believed = λ a b q v. absurd (f.none a b q v);
}

pub moved_same : {m : List ℕ} {ns : List Node} → Tidy m → Moved m m ns ns
moved_same t = record { tidy = t; since = since_same; believed = λ a b q v. (v, refl) }

-- `find`

pub found_near : {ws : List ℕ} {n : ℕ} {m : List ℕ} {t : ℕ} {q : Nearby} {r : «Type»} → Linked ws n → Tidy m → Near ws n t q → q ≡ Some r → FoundTold ws n ws m m t r.0
found_near {r = r} l d h e = record {
  found = record { root = (h.found r e).root; nodes = λ ks. sym (h.stays r e ks); words = relinked_refl l };
  told = λ ks. moved_same d;
  marks = λ i k. k;
}

pub found_far : {ws : List ℕ} {n : ℕ} {ws' m m' : List ℕ} {t r : ℕ} → Forgot m m' → FoundMut ws n ws' t r → FoundTold ws n ws' m m' t r
found_far d f = record { found = f; told = λ ks. moved_forgot d; marks = d.marks }

-- `settle`

closed_moved : {m m' : List ℕ} {ns ns' : List Node} {began a b : ℕ} {q : UnifyResult} → Moved m m' ns ns' → Closed m m' ns ns' began a b q
closed_moved d = record { tidy = d.tidy; since = d.since; believed = λ a b q v. let o = d.believed a b q v in (inl o.0, o.1) }

closed_noted : {m m' : List ℕ} {ns : List Node} {began a b : ℕ} {q : UnifyResult} → Noted m m' began a b q → Closed m m' ns ns began a b q
closed_noted d = record {
  tidy = d.tidy;
  since = record { on = omega (arith, d.on); still = λ r e. refl };
  believed = λ a b q v. (d.only a b q v, refl);
}

pub settled_merges : {ws ws' : List ℕ} {n : ℕ} {m m' : List ℕ} {began a b : ℕ} {r q : UnifyResult} → Settled ws ws' n (ty_of a) (ty_of b) r q → Forgot m m'
    → SettledTold ws ws' n m m' began a b r q
settled_merges s f = record { settled = s; told = λ ks. closed_moved (moved_forgot f); marks = f.marks }

-- an answer that merges nothing
stays : {ws : List ℕ} {n : ℕ} {a b : Ty} {r : UnifyResult} → (r ≡ Failure) ⊎ (r ≡ Indeterminate) → Settled ws ws n a b r r
unfolding settle
stays (inl e) = rw e (record { tail = refl; clean = λ ks c cl. cl; nodes = λ ks c cl. refl })
stays (inr e) = rw e (record { tail = refl; clean = λ ks c cl. cl; nodes = λ ks c cl. refl })

pub settled_notes : {ws : List ℕ} {n : ℕ} {m m' : List ℕ} {began a b : ℕ} {r : UnifyResult} → (r ≡ Failure) ⊎ (r ≡ Indeterminate) → Noted m m' began a b r
    → SettledTold ws ws n m m' began a b r r
settled_notes e d = record { settled = stays e; told = λ ks. closed_noted d; marks = d.marks }
