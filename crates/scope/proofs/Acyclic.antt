-- Linking two roots, neither of which contains the other, keeps a view free of cycles. Assumes nothing.
use mathlib.Core.Path.{◌≡◌, refl, sym, ap, subst, ◌∙◌}
use mathlib.Core.Bool.{Bool, false}
use mathlib.Core.Logic.{◌≢◌, ◌⊎◌, inl, inr}
use Prim.Native.Nat.{ℕ}
use Rattle.scope.specs.Types.{ty}
use Rattle.scope.specs.Nodes.{Kind}
use Rattle.scope.proofs.ViewLaws.{same?, idx_eq, not_known, irrefl, rep_hit, rep_miss, st_w, st_l, st_other}
use Rattle.scope.proofs.View.{VState, known, View, link, Kid, Below, one, more, Fin, fin, Good}

-- when w and l may be joined, w keeping the state k
pub record Joins (g : View) (w l : ℕ) (k : VState) : Type 0 where
  pub wtop : g.rep w ≡ ty false w
  pub ltop : g.rep l ≡ ty false l
  pub apart : w ≢ l
  pub now : Below g w l → ⊥
  pub nol : Below g l w → ⊥
  pub from : (i : Bool) (m : Kind) → k ≡ known i m → ((j : Bool) × (g.st w ≡ known j m)) ⊎ ((j : Bool) × (g.st l ≡ known j m))

pub data Hit (g : View) (w l : ℕ) : ℕ → Type 0 where
  is_w : {x : ℕ} → x ≡ w → Hit g w l x
  is_l : {x : ℕ} → x ≡ l → Hit g w l x
  to_w : {x : ℕ} → Below g x w → Hit g w l x
  to_l : {x : ℕ} → Below g x l → Hit g w l x

kid_to : {g : View} {a x y : ℕ} → Kid g a x → x ≡ y → Kid g a y
kid_to c e = record { inv = c.inv; kind = c.kind; kid = c.kid; top = c.top; state = c.state; mem = c.mem; to = c.to ∙ e }

hit_up : {g : View} {w l x y : ℕ} → Kid g x y → Hit g w l y → Below g x w ⊎ Below g x l
hit_up c (is_w e) = inl (one (kid_to c e))
hit_up c (is_l e) = inr (one (kid_to c e))
hit_up c (to_w b) = inl (more c b)
hit_up c (to_l b) = inr (more c b)

hit_on : {g : View} {w l x : ℕ} → Below g x w ⊎ Below g x l → Hit g w l x
hit_on (inl b) = to_w b
hit_on (inr b) = to_l b

module _ (g : View) (w l : ℕ) (i : Bool) (k : VState) (good : Good g) (ok : Joins g w l k) where
  -- where a child led before
  Led : ℕ → ℕ → Type 0
  Led z y = ((z ≡ y) × (y ≢ l)) ⊎ ((z ≡ l) × (y ≡ w))

  led : (n y : ℕ) → ((link g w l i k).rep n).idx ≡ y → Led (g.rep n).idx y
  unfolding Led
  led n y e = go (same? (g.rep n).idx l)
    where
      go : ((g.rep n).idx ≡ l) ⊎ ((g.rep n).idx ≢ l) → (((g.rep n).idx ≡ y) × (y ≢ l)) ⊎ (((g.rep n).idx ≡ l) × (y ≡ w))
      go (inl h) = inr (h, sym e ∙ idx_eq (rep_hit g w l i k n h))
      go (inr h) =
          let e' : (g.rep n).idx ≡ y = sym (idx_eq (rep_miss g w l i k n h)) ∙ e in
          inl (e', λ q. h (e' ∙ q))

  -- a child of a root other than w
  kid_back : {x y : ℕ} → x ≢ w → Kid (link g w l i k) x y → (z : ℕ) × Kid g x z × Led z y
  kid_back {x} {y} nw c = go (same? x l) (same? (g.rep x).idx l)
    where
      go : (x ≡ l) ⊎ (x ≢ l) → ((g.rep x).idx ≡ l) ⊎ ((g.rep x).idx ≢ l) → (z : ℕ) × Kid g x z × Led z y
      go (inl e) d = absurd (not_known (sym (st_l g w l i k (λ q. nw (e ∙ q))) ∙ ap (link g w l i k).st (sym e) ∙ c.state))
      go (inr n) (inl h) = absurd (nw (idx_eq (sym c.top ∙ rep_hit g w l i k x h)))
      go (inr n) (inr h) = (
        (g.rep c.kid.idx).idx,
        record {
          inv = c.inv;
          kind = c.kind;
          kid = c.kid;
          top = sym (rep_miss g w l i k x h) ∙ c.top;
          state = sym (st_other g w l i k x nw n) ∙ c.state;
          mem = c.mem;
          to = refl;
        },
        led c.kid.idx y c.to,
      )

  -- a child of w afterwards was one of w or of l, and leads where it led
  kid_w : {y : ℕ} → Kid (link g w l i k) w y → Kid g w y ⊎ Kid g l y
  unfolding Led
  kid_w {y} c = go (ok.from c.inv c.kind (sym (st_w g w l i k) ∙ c.state)) (led c.kid.idx y c.to)
    where
      at_w : {z : ℕ} (j : Bool) → g.st w ≡ known j c.kind → (g.rep c.kid.idx).idx ≡ z → Kid g w z
      at_w j e t = record { inv = j; kind = c.kind; kid = c.kid; top = ok.wtop; state = e; mem = c.mem; to = t }

      at_l : {z : ℕ} (j : Bool) → g.st l ≡ known j c.kind → (g.rep c.kid.idx).idx ≡ z → Kid g l z
      at_l j e t = record { inv = j; kind = c.kind; kid = c.kid; top = ok.ltop; state = e; mem = c.mem; to = t }

      go : ((j : Bool) × (g.st w ≡ known j c.kind)) ⊎ ((j : Bool) × (g.st l ≡ known j c.kind))
          → (((g.rep c.kid.idx).idx ≡ y) × (y ≢ l)) ⊎ (((g.rep c.kid.idx).idx ≡ l) × (y ≡ w)) → Kid g w y ⊎ Kid g l y
      go (inl s) (inl t) = inl (at_w s.0 s.1 t.0)
      go (inr s) (inl t) = inr (at_l s.0 s.1 t.0)
      go (inl s) (inr t) = absurd (ok.now (one (at_w s.0 s.1 t.0)))
      go (inr s) (inr t) = absurd (irrefl (good.wf l) (one (at_l s.0 s.1 t.0)))

  not_hit : {x : ℕ} → Fin g x → ¬ Hit g w l x → Fin (link g w l i k) x
  unfolding Led
  not_hit {x} (fin f) no_hit = fin (λ y c. go y (λ z d h. not_hit (f z d) h) (kid_back (λ e. no_hit (is_w e)) c))
    where
      go : (y : ℕ) → ((z : ℕ) → Kid g x z → ¬ Hit g w l z → Fin (link g w l i k) z) → (z : ℕ) × Kid g x z × Led z y → Fin (link g w l i k) y
      go y ih (z, c, inl (e, n)) = ih y (kid_to c e) (λ h. no_hit (hit_on (hit_up c (subst (Hit g w l) (sym e) h))))
      go y ih (z, c, inr (e, n)) = absurd (no_hit (to_l (one (kid_to c e))))

  fin_w : Fin (link g w l i k) w
  fin_w = fin (λ y c. go y (kid_w c))
    where
      go : (y : ℕ) → Kid g w y ⊎ Kid g l y → Fin (link g w l i k) y
      go y (inl c) = not_hit (good.wf y) (λ h. elim (hit_up c h) [ inl b ↦ irrefl (good.wf w) b | inr b ↦ ok.now b ])
      go y (inr c) = not_hit (good.wf y) (λ h. elim (hit_up c h) [ inl b ↦ ok.nol b | inr b ↦ irrefl (good.wf l) b ])

  fin_all : {x : ℕ} → Fin g x → Fin (link g w l i k) x
  unfolding Led
  fin_all {x} (fin f) = start (λ z d. fin_all (f z d)) (same? x w)
    where
      go : (y : ℕ) → ((z : ℕ) → Kid g x z → Fin (link g w l i k) z) → (z : ℕ) × Kid g x z × Led z y → Fin (link g w l i k) y
      go y ih (z, c, inl (e, n)) = ih y (kid_to c e)
      go y ih (z, c, inr (e, n)) = subst (Fin (link g w l i k)) (sym n) fin_w

      start : ((z : ℕ) → Kid g x z → Fin (link g w l i k) z) → (x ≡ w) ⊎ (x ≢ w) → Fin (link g w l i k) x
      start ih (inl e) = subst (Fin (link g w l i k)) (sym e) fin_w
      start ih (inr n) = fin (λ y c. go y ih (kid_back n c))

  idem_link : (n : ℕ) → (link g w l i k).rep ((link g w l i k).rep n).idx ≡ ty false ((link g w l i k).rep n).idx
  idem_link n = go (same? (g.rep n).idx l)
    where
      G : View
      G = link g w l i k

      w_top : G.rep w ≡ ty false w
      w_top = rep_miss g w l i k w (λ e. ok.apart (sym (idx_eq ok.wtop) ∙ e)) ∙ ok.wtop

      go : ((g.rep n).idx ≡ l) ⊎ ((g.rep n).idx ≢ l) → (link g w l i k).rep ((link g w l i k).rep n).idx ≡ ty false ((link g w l i k).rep n).idx
      go (inl h) = rw (rep_hit g w l i k n h) w_top
      go (inr h) = rw (rep_miss g w l i k n h) (rep_miss g w l i k (g.rep n).idx (λ e. h (sym (idx_eq (good.idem n)) ∙ e)) ∙ good.idem n)

  pub link_good : Good (link g w l i k)
  link_good = record { idem = idem_link; wf = λ a. fin_all (good.wf a) }
