-- What no unify undoes: roots only merge, known kinds stay known, with heads that trees do not tell apart and the same children's roots, and
-- nothing contains itself. Assumes nothing.
use mathlib.Core.Path.{◌≡◌, refl, sym, ap, subst, ◌∙◌}
use mathlib.Core.List.{List, [], ◌∷◌, Memᴰ}
use mathlib.Core.Bool.{Bool, true, false}
use mathlib.Core.Logic.{◌≢◌, ◌⊎◌, inl, inr}
use Prim.Native.Nat.{ℕ}
use Rattle.scope.specs.Base.{xor}
use Rattle.scope.specs.Names.{Texts}
use Rattle.scope.specs.Types.{Ty, ty, flip}
use Rattle.scope.specs.Kinds.{Head, self_dual}
use Rattle.scope.specs.Nodes.{Kind}
use Rattle.scope.specs.Trees.{tree_head}
use Rattle.scope.proofs.View.{VState, known, View, root_of, link, Kid, Below, one, more, Good}
use Rattle.scope.proofs.ViewLaws.{xor_false, xor_twice, flip_flip, idx_eq, same?, rep_hit, rep_miss, st_w, st_other}
use Rattle.scope.proofs.Acyclic.{Joins, link_good}

-- the number of a type's root
abbrev pub ri : View → Ty → ℕ
ri g t = (g.rep t.idx).idx

-- child by child, the same roots
pub data Alike (g : View) : List Ty → List Ty → Type 0 where
  anil : Alike g [] []
  acons : {x y : Ty} {xs ys : List Ty} → ri g x ≡ ri g y → Alike g xs ys → Alike g (x ∷ xs) (y ∷ ys)

pub alike_refl : {g : View} (xs : List Ty) → Alike g xs xs
alike_refl [] = anil
alike_refl (x ∷ xs) = acons refl (alike_refl xs)

pub alike_sym : {g : View} {xs ys : List Ty} → Alike g xs ys → Alike g ys xs
alike_sym anil = anil
alike_sym (acons e r) = acons (sym e) (alike_sym r)

pub alike_trans : {g : View} {xs ys zs : List Ty} → Alike g xs ys → Alike g ys zs → Alike g xs zs
alike_trans anil anil = anil
alike_trans (acons e r) (acons e' r') = acons (e ∙ e') (alike_trans r r')

-- a child's partner
pub alike_mem : {g : View} {xs ys : List Ty} {x : Ty} → Alike g xs ys → Memᴰ x xs → (y : Ty) × Memᴰ y ys × (ri g x ≡ ri g y)
alike_mem {g = g} anil m = elim m [ ]
alike_mem {g} (acons {y = y} e r) (Memᴰ.head p) = (y, Memᴰ.head refl, ap (ri g) p ∙ e)
alike_mem (acons e r) (Memᴰ.tail m) = let z = alike_mem r m in (z.0, Memᴰ.tail z.1, z.2)

-- heads that trees do not tell apart
pub record Heads (X : Texts) (h k : Head) : Type 0 where
  pub trees : tree_head X h ≡ tree_head X k
  pub codes : h.code ≡ k.code
  pub duals : self_dual h ≡ self_dual k

pub heads_refl : {X : Texts} (h : Head) → Heads X h h
heads_refl h = record { trees = refl; codes = refl; duals = refl }

pub heads_sym : {X : Texts} {h k : Head} → Heads X h k → Heads X k h
heads_sym s = record { trees = sym s.trees; codes = sym s.codes; duals = sym s.duals }

heads_trans : {X : Texts} {h k l : Head} → Heads X h k → Heads X k l → Heads X h l
heads_trans s t = record { trees = s.trees ∙ t.trees; codes = s.codes ∙ t.codes; duals = s.duals ∙ t.duals }

-- what h knows of a, a root that was known as k
pub record Keeps (X : Texts) (h : View) (a : ℕ) (k : Kind) : Type 0 where
  pub inv : Bool
  pub kind : Kind
  pub state : h.st (h.rep a).idx ≡ known inv kind
  pub heads : Heads X k.head kind.head
  pub alike : Alike h k.kids kind.kids

-- from g to h: roots merge, and what is known stays known
pub record Grow (X : Texts) (g h : View) : Type 0 where
  pub good : Good h
  pub mono : (n : ℕ) → h.rep n ≡ flip (g.rep n).inv (h.rep (g.rep n).idx)
  pub knows : (a : ℕ) (i : Bool) (k : Kind) → g.rep a ≡ ty false a → g.st a ≡ known i k → Keeps X h a k

pub mono_idx : {X : Texts} {g h : View} → Grow X g h → (n : ℕ) → (h.rep n).idx ≡ (h.rep (g.rep n).idx).idx
mono_idx w n = idx_eq (w.mono n)

pub mono_eq : {X : Texts} {g h : View} → Grow X g h → (m n : ℕ) → (g.rep m).idx ≡ (g.rep n).idx → (h.rep m).idx ≡ (h.rep n).idx
mono_eq {g} {h} w m n e = mono_idx w m ∙ ap (λ (x : ℕ). (h.rep x).idx) e ∙ sym (mono_idx w n)

pub alike_grow : {X : Texts} {g h : View} {xs ys : List Ty} → Grow X g h → Alike g xs ys → Alike h xs ys
alike_grow w anil = anil
alike_grow w (acons {x = x} {y = y} e r) = acons (mono_eq w x.idx y.idx e) (alike_grow w r)

pub grow_refl : {X : Texts} {g : View} → Good g → Grow X g g
grow_refl {g} good = record {
  good = good;
  mono = λ n. rw (good.idem n) (ap (λ (b : Bool). ty b (g.rep n).idx) (sym (xor_false (g.rep n).inv)));
  knows = λ a i k t s. record {
    inv = i;
    kind = k;
    state = ap (λ (x : Ty). g.st x.idx) t ∙ s;
    heads = heads_refl k.head;
    alike = alike_refl k.kids;
  };
}

pub grow_trans : {X : Texts} {g h m : View} → Good h → Grow X g h → Grow X h m → Grow X g m
grow_trans {X} {g} {h} {m} hg p q = record { good = q.good; mono = mono'; knows = knows' }
  where
    mono' : (n : ℕ) → m.rep n ≡ flip (g.rep n).inv (m.rep (g.rep n).idx)
    mono' n =
        let r = (g.rep n).idx in
        q.mono n ∙ ap (λ (t : Ty). flip t.inv (m.rep t.idx)) (p.mono n)
        ∙ flip_flip (g.rep n).inv (h.rep r).inv (m.rep (h.rep r).idx) ∙ ap (flip (g.rep n).inv) (sym (q.mono r))

    knows' : (a : ℕ) (i : Bool) (k : Kind) → g.rep a ≡ ty false a → g.st a ≡ known i k → Keeps X m a k
    knows' a i k t s =
        let c = p.knows a i k t s in
        let d = q.knows (h.rep a).idx c.inv c.kind (hg.idem a) c.state in
        record {
          inv = d.inv;
          kind = d.kind;
          state = ap m.st (mono_idx q a) ∙ d.state;
          heads = heads_trans c.heads d.heads;
          alike = alike_trans (alike_grow q c.alike) d.alike;
        }

-- containment is kept
pub kid_grow : {X : Texts} {g h : View} {a x : ℕ} → Grow X g h → Kid g a x → Kid h (h.rep a).idx (h.rep x).idx
kid_grow {g} {h} {a} {x} w c =
    let d = w.knows a c.inv c.kind c.top c.state in
    let m = alike_mem d.alike c.mem in
    record {
      inv = d.inv;
      kind = d.kind;
      kid = m.0;
      top = w.good.idem a;
      state = d.state;
      mem = m.1;
      to = sym m.2 ∙ mono_idx w c.kid.idx ∙ ap (λ (n : ℕ). (h.rep n).idx) c.to;
    }

pub below_grow : {X : Texts} {g h : View} {a x : ℕ} → Grow X g h → Below g a x → Below h (h.rep a).idx (h.rep x).idx
below_grow w (one c) = one (kid_grow w c)
below_grow w (more c b) = more (kid_grow w c) (below_grow w b)

-- a root whose tree is its own inverse in every solution, by its kind
pub data Self (g : View) : ℕ → Type 0 where
  self : {a : ℕ} (i : Bool) (k : Kind) → g.st a ≡ known i k → self_dual k.head ≡ true → ((x : Ty) → Memᴰ x k.kids → Self g (ri g x))
      → Self g a

pub self_grow : {X : Texts} {g h : View} {a : ℕ} → Good g → Grow X g h → g.rep a ≡ ty false a → Self g a → Self h (h.rep a).idx
self_grow {X} {g} {h} {a} good w t (self i k s d f) = go (w.knows a i k t s) (λ x m. self_grow good w (good.idem x.idx) (f x m))
  where
    go : Keeps X h a k → ((x : Ty) → Memᴰ x k.kids → Self h (h.rep (ri g x)).idx) → Self h (h.rep a).idx
    go c ih = self c.inv c.kind c.state (sym c.heads.duals ∙ d)
        (λ y m. let z = alike_mem (alike_sym c.alike) m in subst (Self h) (sym (mono_idx w z.0.idx) ∙ sym z.2) (ih z.0 z.1))

-- two types that unify found equal
pub data Joined (g : View) (p q : Ty) : Type 0 where
  agree : root_of g p ≡ root_of g q → Joined g p q
  selfly : ri g p ≡ ri g q → Self g (ri g p) → Joined g p q

pub joined_idx : {g : View} {p q : Ty} → Joined g p q → ri g p ≡ ri g q
joined_idx (agree e) = idx_eq e
joined_idx (selfly e s) = e

pub root_grow : {X : Texts} {g h : View} → Grow X g h → (p : Ty) → root_of h p ≡ root_of h (root_of g p)
root_grow {g} {h} w p = ap (flip p.inv) (w.mono p.idx) ∙ sym (flip_flip p.inv (g.rep p.idx).inv (h.rep (g.rep p.idx).idx))

pub joined_grow : {X : Texts} {g h : View} {p q : Ty} → Good g → Grow X g h → Joined g p q → Joined h p q
joined_grow {g} {h} {p} {q} good w (agree e) = agree (root_grow w p ∙ ap (root_of h) e ∙ sym (root_grow w q))
joined_grow {g} {h} {p} {q} good w (selfly e s) = selfly (mono_eq w p.idx q.idx e)
    (subst (Self h) (sym (mono_idx w p.idx)) (self_grow good w (good.idem p.idx) s))

pub joined_sym : {g : View} {p q : Ty} → Joined g p q → Joined g q p
joined_sym (agree e) = agree (sym e)
joined_sym {g} (selfly e s) = selfly (sym e) (subst (Self g) e s)

pub below_top : {g : View} {a x : ℕ} → Below g a x → g.rep a ≡ ty false a
below_top (one c) = c.top
below_top (more c b) = c.top

-- the new state k keeps what was known as m
pub record Kept (X : Texts) (g : View) (k : VState) (m : Kind) : Type 0 where
  pub inv : Bool
  pub kind : Kind
  pub is : k ≡ known inv kind
  pub heads : Heads X m.head kind.head
  pub alike : Alike g m.kids kind.kids

pub kept_same : {X : Texts} {g : View} {k : VState} {m : Kind} (i : Bool) → k ≡ known i m → Kept X g k m
kept_same {X} {g} {k} {m} i e = record { inv = i; kind = m; is = e; heads = heads_refl m.head; alike = alike_refl m.kids }

-- k keeps what was known of w and of l
pub record Holds (X : Texts) (g : View) (w l : ℕ) (k : VState) : Type 0 where
  pub onw : (i : Bool) (m : Kind) → g.st w ≡ known i m → Kept X g k m
  pub onl : (i : Bool) (m : Kind) → g.st l ≡ known i m → Kept X g k m

module _ (g : View) (w l : ℕ) (i : Bool) (k : VState) (good : Good g) (ok : Joins g w l k) where
  link_mono : (n : ℕ) → (link g w l i k).rep n ≡ flip (g.rep n).inv ((link g w l i k).rep (g.rep n).idx)
  link_mono n = go (same? (g.rep n).idx l)
    where
      go : ((g.rep n).idx ≡ l) ⊎ ((g.rep n).idx ≢ l) → (link g w l i k).rep n ≡ flip (g.rep n).inv ((link g w l i k).rep (g.rep n).idx)
      go (inl h) = rep_hit g w l i k n h
          ∙ ap (flip (g.rep n).inv) (ap (λ (t : Ty). ty (xor t.inv i) w) (sym (good.idem n))
          ∙ sym (rep_hit g w l i k (g.rep n).idx (idx_eq (good.idem n) ∙ h)))
      go (inr h) = rep_miss g w l i k n h ∙ ap (λ (b : Bool). ty b (g.rep n).idx) (sym (xor_false (g.rep n).inv))
          ∙ ap (flip (g.rep n).inv) (sym (good.idem n) ∙ sym (rep_miss g w l i k (g.rep n).idx (λ e. h (sym (idx_eq (good.idem n)) ∙ e))))

  -- children with the same roots keep them
  alike_link : {xs ys : List Ty} → Alike g xs ys → Alike (link g w l i k) xs ys
  alike_link anil = anil
  alike_link (acons {x = x} {y = y} e r) = acons
      (idx_eq (link_mono x.idx) ∙ ap (λ (n : ℕ). ((link g w l i k).rep n).idx) e ∙ sym (idx_eq (link_mono y.idx))) (alike_link r)

  pub link_joined : (wi li : Bool) → i ≡ xor li wi → root_of (link g w l i k) (ty wi w) ≡ root_of (link g w l i k) (ty li l)
  link_joined wi li e =
      ap (flip wi) (rep_miss g w l i k w (λ q. ok.apart (sym (idx_eq ok.wtop) ∙ q)) ∙ ok.wtop)
      ∙ ap (λ (b : Bool). ty b w) (xor_false wi ∙ sym (xor_twice li wi) ∙ ap (xor li) (sym e))
      ∙ ap (flip li) (ap (λ (t : Ty). ty (xor t.inv i) w) (sym ok.ltop) ∙ sym (rep_hit g w l i k l (idx_eq ok.ltop)))

  w_root : ((link g w l i k).rep w).idx ≡ w
  w_root = idx_eq (rep_miss g w l i k w (λ e. ok.apart (sym (idx_eq ok.wtop) ∙ e)) ∙ ok.wtop)

  l_root : ((link g w l i k).rep l).idx ≡ w
  l_root = idx_eq (rep_hit g w l i k l (idx_eq ok.ltop))

  pub link_grow : {X : Texts} → Holds X g w l k → Grow X g (link g w l i k)
  link_grow {X} hold = record { good = link_good g w l i k good ok; mono = link_mono; knows = λ a j m t s. knows a j m t s (same? a w) (same? a l) }
    where
      keep : (a : ℕ) (m : Kind) → ((link g w l i k).rep a).idx ≡ w → Kept X g k m → Keeps X (link g w l i k) a m
      keep a m e c = record {
        inv = c.inv;
        kind = c.kind;
        state = ap (link g w l i k).st e ∙ st_w g w l i k ∙ c.is;
        heads = c.heads;
        alike = alike_link c.alike;
      }

      knows : (a : ℕ) (j : Bool) (m : Kind) → g.rep a ≡ ty false a → g.st a ≡ known j m → (a ≡ w) ⊎ (a ≢ w) → (a ≡ l) ⊎ (a ≢ l)
          → Keeps X (link g w l i k) a m
      knows a j m t s (inl e) d = keep a m (ap (λ (x : ℕ). ((link g w l i k).rep x).idx) e ∙ w_root) (hold.onw j m (ap g.st (sym e) ∙ s))
      knows a j m t s (inr n) (inl e) = keep a m (ap (λ (x : ℕ). ((link g w l i k).rep x).idx) e ∙ l_root) (hold.onl j m (ap g.st (sym e) ∙ s))
      knows a j m t s (inr n) (inr n') =
          let miss = rep_miss g w l i k a (λ e. n' (sym (idx_eq t) ∙ e)) in
          record {
            inv = j;
            kind = m;
            state = ap (λ (x : Ty). (link g w l i k).st x.idx) (miss ∙ t) ∙ st_other g w l i k a n n' ∙ s;
            heads = heads_refl m.head;
            alike = alike_refl m.kids;
          }
