-- The laws of `self_inverse` without marks: what a root tells by itself, and what a walk from it tells, whose runs that are left stand in a list. A walk that
-- meets a root that is not good tells of every depth, and one that ends tells of every depth that it could have reached.
-- Assumes nothing.
use mathlib.Core.Path.{◌≡◌, refl, ap, sym, ◌∙◌}
use mathlib.Core.Bool.{Bool, true, false, ◌&&◌}
use mathlib.Core.List.{List, [], ◌∷◌, ◌++◌}
use Prim.Native.Nat.{ℕ, zero, suc, ◌+◌, ◌-◌, ◌≤◌, ◌<◌}
use native.Mathlib.Omega.{arith}
use lib.Dec.{eqb}
use lib.ListN.{length}
use borrow.Author.Tests.{eq-eqb, ne_eqb}
use Rattle.scope.specs.Base.{pick, all}
use Rattle.scope.specs.Types.{Ty, ty_of}
use Rattle.scope.specs.Kinds.{PARAM, self_dual}
use Rattle.scope.specs.Nodes.{Node, State, at, state_of, find}
use Rattle.scope.specs.Nodes as nodes
use Rattle.scope.specs.Unify.{self_inverse_at, self_inverse_of}
use Rattle.types.specs.declared.Inverted.{Inverted}
use Rattle.layout.specs.Words.{slot_at, decode}
use Rattle.layout.specs.Meaning.{slot_means, kind_means, read_at, held_in, Clean}
use Rattle.layout.specs.declared.Kind.{Kind}
use Rattle.layout.specs.declared.Slot.{Slot}
use Rattle.layout.specs.Meaning.{Held}
use Rattle.std.specs.Prelude.{Option, Some, None, option_to_list, MatchOption}
use Rattle.std.specs.List.{All}
use Rattle.std.proofs.lemmas.List.Elements.{All-nil, All-same, All-push, All-pop, All-weaker}
use Rattle.layout.proofs.Laws.{length_decode}
use Rattle.layout.proofs.HeldLaws.{held_by_lem}
use Rattle.roots.specs.Found.{Found}
use Rattle.std.specs.declared.ops.Range.{Range}
use Rattle.inverse.specs.declared.Judgement.{Judgement}
use Rattle.inverse.specs.declared.Judgement.TheVariants.{Bad, Good, Run}
use Rattle.related.specs.Stands.{Stands}
use Rattle.inverse.specs.Judged.{kids_in, whole, good_kind, self_below, Judges, Tries, Glanced}
use Rattle.std.proofs.Math.Bool.{and-false}
use Rattle.roots.proofs.Laws.{root_is}

-- `self_inverse` by a root's kind; g tells of a child

abbrev self_in : Bool → (Ty → Bool) → State → Bool
self_in param g (nodes.Known i k) = pick (eqb k.head.code PARAM) param (self_dual k.head && all g k.kids)
self_in param g (nodes.Unknown p) = false
self_in param g nodes.InferenceFailed = false

abbrev self_by : Bool → (Ty → Bool) → List ℕ → Held → Bool
self_by param g ks (Some (i, k)) = self_in param g (nodes.Known false (kind_means ks k))
self_by param g ks None = false

self_step : (param : Bool) (f : ℕ) (ns : List Node) (a : ℕ) (st : State) → state_of (at ns a) ≡ st
    → self_inverse_at param (suc f) ns a ≡ self_in param (λ t. self_inverse_at param f ns (find ns t).idx) st
unfolding self_inverse_at
self_step param f ns a (nodes.Known i k) e = rw (e, self_inverse_at)
self_step param f ns a (nodes.Unknown p) e = rw (e, self_inverse_at)
self_step param f ns a nodes.InferenceFailed e = rw (e, self_inverse_at)

pick_no : (c p d a : Bool) → pick c p d ≡ false → false ≡ pick c p (d && a)
pick_no true p d a e = sym e
pick_no false p true a e = cc
pick_no false p false a e = refl

pick_yes : (c p d a : Bool) → pick c p d ≡ true → a ≡ true → true ≡ pick c p (d && a)
pick_yes true p d a e h = sym e
pick_yes false p true a e h = sym h
pick_yes false p false a e h = cc

self_no : (param : Bool) (g : Ty → Bool) (ks : List ℕ) (i : Inverted) (k : Kind) → good_kind param k ≡ false → false ≡ self_by param g ks (Some (i, k))
unfolding kind_means self_dual
self_no param g ks i k e = pick_no (eqb k.code PARAM) param _ _ e

self_yes : (param : Bool) (g : Ty → Bool) (ks : List ℕ) (i : Inverted) (k : Kind) → good_kind param k ≡ true → all g (kind_means ks k).kids ≡ true
    → true ≡ self_by param g ks (Some (i, k))
unfolding kind_means self_dual
self_yes param g ks i k e h = pick_yes (eqb k.code PARAM) param _ _ e h

-- a Param is as param says, whatever its children
pick_param : (c p d a : Bool) → pick c p d ≡ true → c ≡ true → true ≡ pick c p a
pick_param true p d a e h = sym e
pick_param false p d a e h = cc

self_param : (param : Bool) (g : Ty → Bool) (ks : List ℕ) (i : Inverted) (k : Kind) → good_kind param k ≡ true → k.code ≡ PARAM → true ≡ self_by param g ks (Some (i, k))
unfolding kind_means
self_param param g ks i k e h = pick_param (eqb k.code PARAM) param _ _ e (eq-eqb k.code PARAM h)

-- else its children decide
pick_run : (c p d a : Bool) → pick c p d ≡ true → c ≡ false → pick c p (d && a) ≡ a
pick_run true p d a e h = cc
pick_run false p true a e h = refl
pick_run false p false a e h = cc

self_run : (param : Bool) (g : Ty → Bool) (ks : List ℕ) (i : Inverted) (k : Kind) → good_kind param k ≡ true → (k.code ≡ PARAM → ⊥)
    → self_by param g ks (Some (i, k)) ≡ all g (kids_in ks k.first k.count)
unfolding kind_means self_dual
self_run param g ks i k e h = pick_run (eqb k.code PARAM) param _ _ e (ne_eqb k.code PARAM h)

-- what the code reads at i decides, one level down
self_at : (param : Bool) (f : ℕ) {ws ks : List ℕ} {c n : ℕ} → Clean ws ks c n → (i : ℕ) {v q : Held} → v ≡ held_in (read_at ws n i) → v ≡ q
    → self_inverse_at param (suc f) (decode ws ks n) i ≡ self_by param (λ u. self_inverse_at param f (decode ws ks n) (find (decode ws ks n) u).idx) ks q
self_at param f {ws} {ks} {c} {n} cl i e s =
    self_step param f (decode ws ks n) i (state_of (at (decode ws ks n) i)) refl
    ∙ held_by_lem ws ks c n cl i e s
    (self_in param (λ u. self_inverse_at param f (decode ws ks n) (find (decode ws ks n) u).idx))
    (self_by param (λ u. self_inverse_at param f (decode ws ks n) (find (decode ws ks n) u).idx) ks)
    (λ j k. refl) (λ p. refl) refl

self_zero : (param : Bool) (ns : List Node) (i : ℕ) → self_inverse_at param 0 ns i ≡ false
unfolding self_inverse_at
self_zero param ns i = refl

self_never : (param : Bool) {ws ks : List ℕ} {c n : ℕ} → Clean ws ks c n → (i : ℕ) {v q : Held} → v ≡ held_in (read_at ws n i) → v ≡ q
    → ((g : Ty → Bool) → self_by param g ks q ≡ false) → (d : ℕ) → self_inverse_at param d (decode ws ks n) i ≡ false
self_never param {ws} {ks} {c} {n} cl i e s h zero = self_zero param (decode ws ks n) i
self_never param {ws} {ks} {c} {n} cl i e s h (suc d) = self_at param d cl i e s ∙ h (self_below param (decode ws ks n) d)

none_left : (ks : List ℕ) (p : Ty → Bool) (k : Kind) → k.count ≡ 0 → all p (kind_means ks k).kids ≡ true
unfolding kind_means
none_left ks p k h = rw h refl

-- a root by itself

module _ (param : Bool) {ws : List ℕ} {n i : ℕ} {v : Held} (e : v ≡ held_in (read_at ws n i)) where
  judges_bad : {q : Held} → v ≡ q → ((ks : List ℕ) (g : Ty → Bool) → self_by param g ks q ≡ false) → Judges ws n param i Bad
  judges_bad s h = record {
    bad = λ z ks c cl. self_never param cl i e s (h ks);
    good = λ z. let y : ◌≡◌ {A = ℕ} 0 1 = cc in absurd (omega arith);
    run = λ a m z. let y : ◌≡◌ {A = ℕ} 0 1 = cc in absurd (omega arith);
  }

  judges_good : {q : Held} → v ≡ q → ((ks : List ℕ) (g : Ty → Bool) → true ≡ self_by param g ks q) → Judges ws n param i Good
  judges_good s h = record {
    bad = λ z. let y : ◌≡◌ {A = ℕ} 0 1 = cc in absurd (omega arith);
    good = λ z ks c cl d. self_at param d cl i e s ∙ sym (h ks (self_below param (decode ws ks n) d));
    run = λ a m z. let y : ◌≡◌ {A = ℕ} 0 1 = cc in absurd (omega arith);
  }

  pub judges_nothing : v ≡ None → Judges ws n param i Bad
  judges_nothing s = judges_bad s (λ ks g. refl)

  module _ {j : Inverted} {k : Kind} (s : v ≡ Some (j, k)) {b : Bool} (g : b ≡ good_kind param k) where
    pub judges_no : b ≡ false → Judges ws n param i Bad
    judges_no q = judges_bad s (λ ks p. sym (self_no param p ks j k (sym g ∙ q)))

    pub judges_param : b ≡ true → k.code ≡ PARAM → Judges ws n param i Good
    judges_param q h = judges_good s (λ ks p. self_param param p ks j k (sym g ∙ q) h)

    pub judges_bare : b ≡ true → k.count < 1 → Judges ws n param i Good
    judges_bare q h = judges_good s (λ ks p. self_yes param p ks j k (sym g ∙ q) (none_left ks p k (omega arith)))

    pub judges_run : b ≡ true → (k.code ≡ PARAM → ⊥) → Judges ws n param i (Run k.first k.count)
    judges_run q h = record {
      bad = λ z. let y : ◌≡◌ {A = ℕ} 0 1 = cc in absurd (omega arith);
      good = λ z. let y : ◌≡◌ {A = ℕ} 0 1 = cc in absurd (omega arith);
      run = λ a m z ks c cl d.
          let x : k.first ≡ a = cc in
          let y : k.count ≡ m = cc in
          rw (← x, ← y) (self_at param d cl i e s ∙ self_run param (self_below param (decode ws ks n) d) ks j k (sym g ∙ q) h);
    }

-- a walk: p d says whether a type is good at the depth d

-- what is left of a run: its places
abbrev pub Rest : Type 0
Rest = Range ℕ

-- the children that are left of a run
abbrev left : List ℕ → Rest → List Ty
left ks r = kids_in ks r.start (r.end - r.start)

-- its first place i is passed
pub record Passed (r : Rest) (i : ℕ) (u : Rest) : Type 0 where
  pub more : r.start < r.end
  pub place : i ≡ r.start
  pub start : u.start ≡ r.start + 1
  pub end : u.end ≡ r.end

pub passed_next : {r u : Rest} {o : Option ℕ} {i : ℕ}
    → (u.end ≡ r.end) × MatchOption o ((r.end - r.start ≡ 0) × (u.start ≡ r.start)) (λ x. (0 < r.end - r.start) × (x ≡ r.start) × (u.start ≡ r.start + 1))
    → o ≡ Some i → Passed r i u
passed_next {r} {u} {o} {i} s e = let m = rw e at s.1 in record { more = omega (arith, m.0); place = m.1; start = m.2; end = s.0 }

abbrev Never : (ℕ → Ty → Bool) → List Ty → Type 0
Never p ts = (d : ℕ) → all (p d) ts ≡ false

abbrev From : (ℕ → Ty → Bool) → ℕ → List Ty → Type 0
From p v ts = (d : ℕ) → v ≤ d → all (p d) ts ≡ true

left_next : (ks : List ℕ) {r u : Rest} {i : ℕ} (s : Slot) → Passed r i u → slot_means s ≡ slot_at ks i → left ks r ≡ ty_of s.ty.0 ∷ left ks u
left_next ks {r} {u} {i} s h e =
    let m : r.end - r.start ≡ suc (u.end - u.start) = omega (arith, h.more, h.start, h.end) in
    let x : ty_of (slot_at ks r.start).type ≡ ty_of s.ty.0 = ap (λ (k : ℕ). ty_of (slot_at ks k).type) (sym h.place) ∙ ap (λ w. ty_of w.type) (sym e) in
    let n : u.start ≡ suc r.start = omega (arith, h.start) in
    rw (m, x, n) refl

left_none : (ks : List ℕ) (r : Rest) → r.end ≤ r.start → left ks r ≡ []
left_none ks r h = let m : r.end - r.start ≡ 0 = omega arith in rw m refl

left_whole : (ks : List ℕ) (a m : ℕ) → left ks (whole a m) ≡ kids_in ks a m
left_whole ks a m = let e : a + m - a ≡ m = omega arith in rw e refl

-- the run r and those above it, in the list xs, with v visits left, tell what the types ts tell
pub record Going (p : ℕ → Ty → Bool) (ks : List ℕ) (ts : List Ty) (most : ℕ) (xs : List Rest) (r : Rest) (v : ℕ) : Type 0 where
  pub here : Never p (left ks r) → Never p ts
  pub above : All (λ (x : Rest). Never p (left ks x) → Never p ts) xs
  pub sure : From p v (left ks r) → All (λ (x : Rest). From p v (left ks x)) xs → From p most ts

pub going_start : {p : ℕ → Ty → Bool} (ks : List ℕ) (f c most : ℕ) (xs : List Rest) → xs ≡ []
    → Going p ks (kids_in ks f c) most xs (whole f c) most
going_start {p} ks f c most xs x = rw x (record {
  here = λ k d. rw (← left_whole ks f c) (k d);
  above = All-nil (λ (y : Rest). Never p (left ks y) → Never p (kids_in ks f c));
  sure = λ k g d w. rw (← left_whole ks f c) (k d w);
})

module _ {p : ℕ → Ty → Bool} {ks : List ℕ} {ts : List Ty} {most : ℕ} {xs : List Rest} {r : Rest} {v : ℕ} (g : Going p ks ts most xs r v) where
  ended : r.end ≤ r.start → From p v (left ks r)
  ended h d w = ap (all (p d)) (left_none ks r h)

  -- the walk went back up to the run u, the last above
  module _ {ys : List Rest} {o : Option Rest} (q : xs ≡ ys ++ option_to_list o) (h : r.end ≤ r.start) where
    pub going_up : {u : Rest} → o ≡ Some u → Going p ks ts most ys u v
    going_up {u} e =
        let last : xs ≡ ys ++ u ∷ [] = rw e at q in
        let above = All-pop (λ (x : Rest). Never p (left ks x) → Never p ts) xs ys (Some u) last g.above in
        record {
          here = above.1;
          above = above.0;
          sure = λ x y. g.sure (ended h) (All-same (λ (z : Rest). From p v (left ks z)) xs (ys ++ u ∷ []) last (All-push (λ (z : Rest). From p v (left ks z)) ys u y x));
        }

  -- one child, of the type t
  module _ (s : Slot) {i : ℕ} {u : Rest} (h : Passed r i u) (q : slot_means s ≡ slot_at ks i) where
    next : (d : ℕ) → all (p d) (left ks r) ≡ (p d (ty_of s.ty.0) && all (p d) (left ks u))
    next d = ap (all (p d)) (left_next ks s h q)

    first_no : (d : ℕ) → p d (ty_of s.ty.0) ≡ false → all (p d) (left ks r) ≡ false
    first_no d e = next d ∙ ap (λ (c : Bool). c && all (p d) (left ks u)) e

    rest_no : Never p (left ks u) → Never p ts
    rest_no n = g.here (λ d. next d ∙ (ap (λ (c : Bool). p d (ty_of s.ty.0) && c) (n d) ∙ and-false (p d (ty_of s.ty.0))))

    both : (d : ℕ) → p d (ty_of s.ty.0) ≡ true → all (p d) (left ks u) ≡ true → all (p d) (left ks r) ≡ true
    both d e f = next d ∙ (ap (λ (c : Bool). c && all (p d) (left ks u)) e ∙ f)

    pub going_met : ((d : ℕ) → p d (ty_of s.ty.0) ≡ false) → Never p ts
    going_met n = g.here (λ d. first_no d (n d))

    module _ (o : 0 < v) where
      later : (ys : List Rest) → All (λ (x : Rest). From p (v - 1) (left ks x)) ys → All (λ (x : Rest). From p v (left ks x)) ys
      later ys = All-weaker (λ (x : Rest). From p (v - 1) (left ks x)) (λ (x : Rest). From p v (left ks x)) (λ x y d w. y d (omega arith)) ys

      pub going_good : ((d : ℕ) → p (suc d) (ty_of s.ty.0) ≡ true) → Going p ks ts most xs u (v - 1)
      going_good n = record {
        here = rest_no;
        above = g.above;
        sure = λ x y. g.sure (λ d w. both d (at d (omega arith)) (x d (omega arith))) (later xs y);
      }
        where
          at : (d : ℕ) → 0 < d → p d (ty_of s.ty.0) ≡ true
          at zero i = absurd (omega arith)
          at (suc d) i = n d

      module _ (f c : ℕ) (z : p 0 (ty_of s.ty.0) ≡ false) (n : (d : ℕ) → p (suc d) (ty_of s.ty.0) ≡ all (p d) (kids_in ks f c)) where
        at_no : Never p (kids_in ks f c) → (d : ℕ) → p d (ty_of s.ty.0) ≡ false
        at_no k zero = z
        at_no k (suc d) = n d ∙ k d

        at_yes : From p (v - 1) (kids_in ks f c) → (d : ℕ) → v ≤ d → p d (ty_of s.ty.0) ≡ true
        at_yes k zero i = absurd (omega arith)
        at_yes k (suc d) i = n d ∙ k d (omega arith)

        pub going_down : {ys : List Rest} → ys ≡ xs ++ u ∷ [] → Going p ks ts most ys (whole f c) (v - 1)
        going_down {ys} e = rw e (record {
          here = λ k. going_met (at_no (λ d. rw (← left_whole ks f c) (k d)));
          above = All-push (λ (x : Rest). Never p (left ks x) → Never p ts) xs u g.above rest_no;
          sure = λ x y.
              let them = All-pop (λ (m : Rest). From p (v - 1) (left ks m)) (xs ++ u ∷ []) xs (Some u) refl y in
              g.sure (λ d w. both d (at_yes (λ m u. rw (← left_whole ks f c) (x m u)) d w) (them.1 d (omega arith))) (later xs them.0);
        })

-- what the code's answers say

module _ {ns : List Node} {param : Bool} {ts : List Ty} {most : ℕ} where
  pub tries_bad : Never (self_below param ns) ts → Tries ns param ts most (Some false)
  tries_bad h = record { bad = λ q. h; good = λ q. let z : ◌≡◌ {A = ℕ} 0 1 = cc in absurd (omega arith) }

-- what the root i of the type t, found by the code, tells of t at each depth
module _ {ws ks : List ℕ} {n t : ℕ} {param : Bool} (o : Stands ws ks n) {a i : ℕ} (f : Found ws n t a) (e : i ≡ (ty_of a).idx) {r : Judgement} (j : Judges ws n param i r) where
  pub told_zero : self_below param (decode ws ks n) 0 (ty_of t) ≡ false
  told_zero = self_zero param (decode ws ks n) (find (decode ws ks n) (ty_of t)).idx

  pub told_bad : r ≡ Bad → (d : ℕ) → self_below param (decode ws ks n) d (ty_of t) ≡ false
  told_bad q d = rw (← root_is f e ks) (j.bad q ks o.made o.clean d)

  pub told_good : r ≡ Good → (d : ℕ) → self_below param (decode ws ks n) (suc d) (ty_of t) ≡ true
  told_good q d = rw (← root_is f e ks) (j.good q ks o.made o.clean d)

  pub told_run : {x m : ℕ} → r ≡ Run x m → (d : ℕ) → self_below param (decode ws ks n) (suc d) (ty_of t) ≡ all (self_below param (decode ws ks n) d) (kids_in ks x m)
  told_run {x} {m} q d = rw (← root_is f e ks) (j.run x m q ks o.made o.clean d)

-- what is told of a type

module _ {ns : List Node} {param : Bool} {t : ℕ} where
  glanced : {b : Bool} → self_inverse_of ns (ty_of t) param ≡ b → Glanced ns param t (Some b)
  glanced h = record { told = λ a q. cc }

module _ {ws ks : List ℕ} {n t : ℕ} {param : Bool} (o : Stands ws ks n) (l : (ty_of t).idx < n) {a i : ℕ} (f : Found ws n t a) (e : i ≡ (ty_of a).idx)
    {r : Judgement} (j : Judges ws n param i r) where
  one_down : self_inverse_of (decode ws ks n) (ty_of t) param ≡ self_below param (decode ws ks n) (suc (n - 1)) (ty_of t)
  unfolding self_inverse_of
  one_down = let m : length (decode ws ks n) ≡ suc (n - 1) = omega (arith, length_decode ws ks n) in rw m refl

  pub glance_bad : r ≡ Bad → Glanced (decode ws ks n) param t (Some false)
  glance_bad q = glanced (one_down ∙ told_bad o f e j q (suc (n - 1)))

  pub glance_good : r ≡ Good → Glanced (decode ws ks n) param t (Some true)
  glance_good q = glanced (one_down ∙ told_good o f e j q (n - 1))

  pub glance_run : {x m : ℕ} → r ≡ Run x m → {most : ℕ} → most < n → {u : Option Bool} → Tries (decode ws ks n) param (kids_in ks x m) most u
      → Glanced (decode ws ks n) param t u
  glance_run {x} {m} q h {u} w = record { told = λ b z. one_down ∙ (told_run o f e j q (n - 1) ∙ here b z) }
    where
      here : (b : Bool) → u ≡ Some b → all (self_below param (decode ws ks n) (n - 1)) (kids_in ks x m) ≡ b
      here true z = w.good z (n - 1) (omega arith)
      here false z = w.bad z (n - 1)
