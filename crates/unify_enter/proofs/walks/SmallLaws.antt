-- Two roots without children, one of them without a kind: they merge, and that is what `heed::small` does at once. Two types of one nil are done with. Where it does
-- nothing, everything is as it was.
-- Assumes nothing.
use mathlib.Core.Path.{◌≡◌, refl, ap, sym, ◌∙◌}
use mathlib.Core.Bool.{Bool, true, false, not, ◌&&◌, ◌||◌, or-true, false≢true}
use mathlib.Core.Logic.{◌⊎◌, inl, inr}
use mathlib.Core.List.{List, [], ◌∷◌}
use mathlib.Core.Option.{Option, none, some}
use Prim.Native.Nat.{ℕ, zero, suc, ◌<◌}
use native.Mathlib.Omega.{arith}
use lib.Dec.{eqb}
use lib.ListN.{length}
use borrow.Author.Tests.{eq-eqb, ne_eqb, eqb-true}
use Rattle.scope.specs.Base.{pick, xor, all}
use Rattle.scope.specs.Kinds.{PARAM, TUPLE, self_dual, row_of, rows}
use Rattle.scope.specs.Names.{Texts}
use Rattle.scope.specs.Types.{Ty}
use Rattle.scope.specs.Nodes.{Kind, Node, Root, Child, Known, Unknown, InferenceFailed, at, is_root, state_of, kids_of, find}
use Rattle.scope.specs.Answers as answers
use Rattle.scope.specs.Unify.{Out, out, kind_in, self_inverse_at, same_node, occurs, bound, bind, meet_kinds, meet}
use Rattle.types.specs.declared.UnifyResult.{UnifyResult}
use Rattle.types.specs.declared.UnifyResult.TheVariants.{Success}
use Rattle.layout.specs.Words.{decode}
use Rattle.recall.specs.Memory.{Forgot}
use Rattle.merge.specs.Quick.{bare_node, lone_node, nil_node, Quick, OneNil}
use Rattle.merge.proofs.QuickLaws.{bare_none}
use Rattle.heed.specs.Told.{SmallTold}
use Rattle.meeting.specs.Asks.{Pair}
use Rattle.meeting.specs.Meets.{walks}
use Rattle.unify_enter.specs.Walk.{WalkAsks, WalkTold}
use Rattle.unify_enter.proofs.walks.Laws.{walk_still, walk_merged}

-- roots without children

empty : (l : List Ty) → eqb (length l) 0 ≡ true → l ≡ []
empty [] e = refl
empty (x ∷ l) e = let q : length (x ∷ l) ≡ 0 = eqb-true (length (x ∷ l)) 0 e in absurd (omega arith)

lone_kids : (v : Node) → lone_node v ≡ true → kids_of (state_of v) ≡ []
lone_kids (Root (Known i k) z) e = empty k.kids e
lone_kids (Root (Unknown s) z) e = refl
lone_kids (Root InferenceFailed z) e = refl
lone_kids (Child t) e = cc

pub lone_root : (v : Node) → lone_node v ≡ true → is_root v ≡ true
lone_root (Root st z) e = refl
lone_root (Child t) e = e

occurs_lone : (n : ℕ) (ns : List Node) (x y : ℕ) → 0 < n → (y ≡ x → ⊥) → lone_node (at ns y) ≡ true → occurs n ns x y ≡ false
unfolding occurs
occurs_lone zero ns x y h d b = absurd (omega arith)
occurs_lone (suc f) ns x y h d b = rw (ne_eqb y x d, lone_kids (at ns y) b) refl

second_kind : (u : List Node → Ty → Ty → Out) (x : Texts) (n : ℕ) (ns : List Node) (a b : Ty) (k : Option (Bool × Kind)) → meet_kinds u x n ns a b k none ≡ bind n ns a b
second_kind u x n ns a b none = refl
second_kind u x n ns a b (some k) = refl

module _ (n : ℕ) (ns : List Node) (a b : Ty) (h : 0 < n) (d : a.idx ≡ b.idx → ⊥) (f : lone_node (at ns a.idx) ≡ true) (g : lone_node (at ns b.idx) ≡ true) where
  pub lone_bind : bind n ns a b ≡ out (bound ns a b) answers.Success
  unfolding bind
  lone_bind = rw (occurs_lone n ns a.idx b.idx h (λ e. d (sym e)) g, occurs_lone n ns b.idx a.idx h d f) refl

  pub lone_walks : walks n ns a b ≡ out (bound ns a b) answers.Success
  lone_walks = rw (ne_eqb a.idx b.idx d) lone_bind

  pub lone_apart : (u : List Node → Ty → Ty → Out) (x : Texts) → meet u x n ns a b ≡ meet_kinds u x n ns a b (kind_in ns a) (kind_in ns b)
  unfolding meet
  lone_apart u x = rw (ne_eqb a.idx b.idx d) refl

  pub lone_kinds : (u : List Node → Ty → Ty → Out) (x : Texts) (t : Bool) → bare_node (at ns a.idx) ≡ t → (t || bare_node (at ns b.idx)) ≡ true
      → meet_kinds u x n ns a b (kind_in ns a) (kind_in ns b) ≡ bind n ns a b
  lone_kinds u x true p q = ap (λ (k : Option (Bool × Kind)). meet_kinds u x n ns a b k (kind_in ns b)) (bare_none a (at ns a.idx) p)
  lone_kinds u x false p q = ap (meet_kinds u x n ns a b (kind_in ns a)) (bare_none b (at ns b.idx) q) ∙ second_kind u x n ns a b (kind_in ns a)

-- one nil

and_both : (t s : Bool) → pick t s false ≡ true → (t ≡ true) × (s ≡ true)
and_both true s e = (refl, e)
and_both false s e = absurd (false≢true e)

nil_kind : (f : ℕ) (ns : List Node) (k : Kind) → k.head.code ≡ TUPLE → k.kids ≡ []
    → pick (eqb k.head.code PARAM) false (self_dual k.head && all (λ c. self_inverse_at false f ns (find ns c).idx) k.kids) ≡ true
unfolding self_dual row_of rows
nil_kind f ns k c l = rw (c, l) refl

nil_by : (f : ℕ) (ns : List Node) (i : ℕ) (v : Node) → at ns i ≡ v → nil_node v ≡ true → self_inverse_at false (suc f) ns i ≡ true
unfolding self_inverse_at
nil_by f ns i (Root (Known j k) z) q e =
    let w = and_both (eqb k.head.code TUPLE) (eqb (length k.kids) 0) e in
    rw (ap state_of q, self_inverse_at) (nil_kind f ns k (eqb-true k.head.code TUPLE w.0) (empty k.kids w.1))
nil_by f ns i (Root (Unknown s) z) q e = absurd (false≢true e)
nil_by f ns i (Root InferenceFailed z) q e = absurd (false≢true e)
nil_by f ns i (Child t) q e = absurd (false≢true e)

pub nil_root : (v : Node) → nil_node v ≡ true → is_root v ≡ true
nil_root (Root st z) e = refl
nil_root (Child t) e = e

nil_self : (n : ℕ) (ns : List Node) (i : ℕ) → 0 < n → nil_node (at ns i) ≡ true → self_inverse_at false n ns i ≡ true
nil_self zero ns i h e = absurd (omega arith)
nil_self (suc f) ns i h e = nil_by f ns i (at ns i) refl e

module _ (n : ℕ) (ns : List Node) (a b : Ty) (h : 0 < n) (d : a.idx ≡ b.idx) (f : nil_node (at ns a.idx) ≡ true) where
  nil_same : out ns (same_node n ns a b) ≡ out ns answers.Success
  nil_same = rw (nil_self n ns a.idx h f, or-true (not (xor a.inv b.inv))) refl

  pub nil_walks : walks n ns a b ≡ out ns answers.Success
  nil_walks = rw (eq-eqb a.idx b.idx d) nil_same

  pub nil_meet : (u : List Node → Ty → Ty → Out) (x : Texts) → meet u x n ns a b ≡ out ns answers.Success
  unfolding meet
  nil_meet u x = rw (eq-eqb a.idx b.idx d) nil_same

-- `walk_pair`, by `small`

module _ {ws ks m ws' m' : List ℕ} {n : ℕ} {a b : Ty} {r : Bool} where
  pub small_walks : WalkAsks ws ks m n a b → SmallTold ws ws' n m m' a b r → r ≡ true → WalkTold ws ks m ws' m' n a b Success
  small_walks w t e = go (t.done e)
    where
      h : Pair w.roots.lent ws ks n a b
      h = w.roots.tops.pair

      still : OneNil ws n a b true → WalkTold ws ks m ws m n a b Success
      still o = walk_still w (nil_walks n (decode ws ks n) a b (omega (arith, h.first)) (o.one refl) (o.nil refl ks h.words.children h.words.clean))

      go : (Quick ws ws' n a b × Forgot m m') ⊎ (OneNil ws n a b true × ((ws' ≡ ws) × (m' ≡ m))) → WalkTold ws ks m ws' m' n a b Success
      go (inl (k, f)) =
          walk_merged w k.bound f
          (lone_walks n (decode ws ks n) a b (omega (arith, h.first)) k.apart (k.first ks h.words.children h.words.clean)
          (k.second ks h.words.children h.words.clean)
          ∙ ap (λ (ns : List Node). out ns answers.Success) (sym (k.bound.nodes ks h.words.children h.words.clean)))
      go (inr o) = rw (o.1.0, o.1.1) (still o.0)

  pub small_walk_asks : WalkAsks ws ks m n a b → SmallTold ws ws' n m m' a b r → r ≡ false → WalkAsks ws' ks m' n a b
  small_walk_asks w t e = rw (t.words e, t.memory e) w

  pub small_walk_not : {ws₂ m₂ : List ℕ} {s : UnifyResult} → SmallTold ws ws' n m m' a b r → r ≡ false → WalkTold ws' ks m' ws₂ m₂ n a b s
      → WalkTold ws ks m ws₂ m₂ n a b s
  small_walk_not t e u = rw (← t.words e, ← t.memory e) u
