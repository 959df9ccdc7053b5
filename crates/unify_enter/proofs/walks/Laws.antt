-- Two roots of which no child is unified: one law for each way out of `walk_on` and `walk_pair`. What a walk does is what `unify` does one level deep, and so it leaves a
-- root that is its own inverse as it was. Such a root is found so by a walk, whatever was merged since.
-- Assumes nothing.
use mathlib.Core.Path.{◌≡◌, refl, ap, sym, subst, ◌∙◌}
use mathlib.Core.Bool.{Bool, true, false, not, beq, ◌||◌, or-true}
use mathlib.Core.List.{List, []}
use mathlib.Core.Logic.{inl, inr}
use Prim.Native.Nat.{ℕ, zero, suc, ◌-◌, ◌<◌}
use native.Mathlib.Omega.{arith}
use lib.ListN.{length}
use lib.Dec.{eqb}
use borrow.Author.Tests.{eq-eqb, eqb-true, not-false}
use Rattle.scope.specs.Base.{xor}
use Rattle.scope.specs.Names.{Texts}
use Rattle.scope.specs.Types.{Ty, ty, ty_of}
use Rattle.scope.specs.Nodes.{Node, Root, Child, at, is_root, find, find_mut}
use Rattle.scope.specs.Answers as answers
use Rattle.scope.specs.Unify.{Out, out, self_inverse_at, same_node, meet, unify_f}
use Rattle.scope.proofs.Laws.{find_root, compress_root}
use Rattle.scope.proofs.View.{view}
use Rattle.scope.proofs.Grow.{Self}
use Rattle.scope.proofs.Free.{free_nil}
use Rattle.scope.proofs.Chain.{cnil}
use Rattle.scope.proofs.Self.{self_complete}
use Rattle.scope.proofs.Sim.{self_inverse_view}
use Rattle.scope.proofs.Walks.{sound_walkable}
use Rattle.scope.proofs.UnifyKept.{nodes_stable}
use Rattle.types.specs.Answers.{answer_of}
use Rattle.types.specs.declared.UnifyResult.{UnifyResult}
use Rattle.types.specs.declared.UnifyResult.TheVariants.{Success}
use Rattle.layout.specs.Words.{decode}
use Rattle.layout.proofs.Laws.{length_decode}
use Rattle.marks.specs.Marks.{Said}
use Rattle.recall.specs.Memory.{Forgot, WalkNoted}
use Rattle.recall.specs.Places.{Told}
use Rattle.recall.proofs.Laws.{marked_clock}
use Rattle.recall.specs.Places.{Recalled}
use Rattle.std.specs.Prelude.{Some}
use Rattle.heed.specs.Recalls.{SelfAt, Recalls}
use Rattle.heed.proofs.Laws.{since_same, recalls_moved, moved_forgot, moved_marked, SelfsKept, marks_kept, marks_fewer}
use Rattle.merge.specs.Meaning.{Bound}
use Rattle.meeting.specs.Asks.{SoundWords, Tops}
use Rattle.meeting.specs.Meets.{walks, walked_by, WalkedTo}
use Rattle.meeting.specs.Meets.{Walked}
use Rattle.std.specs.Prelude.{Some, None}
use Rattle.own_inverse.specs.Own.{OwnAsks, OwnTold}
use Rattle.unify_enter.specs.Walk.{Childless, WalkAsks, WalkTold}
use Rattle.unify_enter.proofs.walks.Kept.{pair_selfs}

-- sound words

module _ {x : Texts} {ws ks : List ℕ} {n : ℕ} (w : SoundWords x ws ks n) where
  -- what holds of the chart's texts and of the nodes' number
  pub by_words : (P : Texts → ℕ → Type 0) → P w.env.texts (length (decode ws ks n)) → P x n
  by_words P s = subst (λ (y : Texts). P y n) w.lent (subst (λ (m : ℕ). P w.env.texts m) (length_decode ws ks n) s)

  pub below : {i : ℕ} → i < n → i < length (decode ws ks n)
  below h = omega (arith, length_decode ws ks n)

-- one level

pub unify_deep : (x : Texts) (n d : ℕ) (ns : List Node) (p q : Ty) → (d ≡ 0 → ⊥)
    → unify_f x n d ns p q ≡ meet (unify_f x n (d - 1)) x n (find_mut (find_mut ns p) q) (find ns p) (find (find_mut ns p) q)
unfolding unify_f
unify_deep x n zero ns p q h = absurd (h refl)
unify_deep x n (suc d) ns p q h = let e : suc d - 1 ≡ d = omega arith in rw e refl

-- two roots are their own

pub root_find : (ns : List Node) (t : Ty) (v : Node) → at ns t.idx ≡ v → is_root v ≡ true → find ns t ≡ t
root_find ns t (Root st z) e r = find_root ns t st z e
root_find ns t (Child u) e r = cc

root_find_mut : (ns : List Node) (t : Ty) (v : Node) → at ns t.idx ≡ v → is_root v ≡ true → find_mut ns t ≡ ns
unfolding find_mut
root_find_mut ns t (Root st z) e r = compress_root (length ns) ns (find ns t) t e
root_find_mut ns t (Child u) e r = cc

pub unify_roots : (x : Texts) (n d : ℕ) (ns : List Node) (a b : Ty) → (d ≡ 0 → ⊥) → is_root (at ns a.idx) ≡ true → is_root (at ns b.idx) ≡ true
    → unify_f x n d ns a b ≡ meet (unify_f x n (d - 1)) x n ns a b
unify_roots x n d ns a b h f g =
    let e₁ : find_mut ns a ≡ ns = root_find_mut ns a (at ns a.idx) refl f in
    let e₂ : find_mut ns b ≡ ns = root_find_mut ns b (at ns b.idx) refl g in
    let e₃ : find ns a ≡ a = root_find ns a (at ns a.idx) refl f in
    let e₄ : find ns b ≡ b = root_find ns b (at ns b.idx) refl g in
    unify_deep x n d ns a b h ∙ rw (e₁, e₂, e₃, e₄) refl

-- a walk, at any depth: roots that are their own inverses stay so

module _ {ws ks m : List ℕ} {n : ℕ} {a b : Ty} (asks : WalkAsks ws ks m n a b) where
  abbrev x : Texts
  x = asks.roots.lent

  abbrev ns : List Node
  ns = decode ws ks n

  tops : Tops asks.roots.lent ws ks n a b
  tops = asks.roots.tops

  words : SoundWords asks.roots.lent ws ks n
  words = tops.pair.words

  -- one level deep is enough
  walk_unifies : unify_f asks.roots.lent n 1 (decode ws ks n) a b ≡ walks n (decode ws ks n) a b
  walk_unifies = unify_roots x n 1 ns a b (λ e. omega arith) tops.first tops.second ∙ asks.meets (unify_f x n (1 - 1))

  pub walk_selfs : (ws' : List ℕ) (r : UnifyResult) → walks n (decode ws ks n) a b ≡ out (decode ws' ks n) (answer_of r) → SelfsKept (decode ws ks n) (decode ws' ks n)
  walk_selfs ws' r e =
      let s : SelfsKept ns (unify_f x n 1 ns a b).nodes =
      by_words words (λ y k. SelfsKept ns (unify_f y k 1 ns a b).nodes) (pair_selfs words.env words.sound 1 a b (below words tops.pair.first) (below words tops.pair.second)) in
      subst (λ (o : Out). SelfsKept ns o.nodes) (walk_unifies ∙ e) s

  -- nothing is to be done
  pub walk_still : {r : UnifyResult} → walks n (decode ws ks n) a b ≡ out (decode ws ks n) (answer_of r) → WalkTold ws ks m ws m n a b r
  walk_still e = record { leaves = record { same = e; clean = λ c cl. cl; tail = refl }; since = since_same; recalls = λ y h g. g }

  -- a merge that the memory is told of
  pub walk_merged : {ws' m' : List ℕ} → Bound ws ws' n a b → Forgot m m' → walks n (decode ws ks n) a b ≡ out (decode ws' ks n) answers.Success → WalkTold ws ks m ws' m' n a b Success
  walk_merged {ws'} v f e = record {
    leaves = record { same = e; clean = λ c cl. v.clean ks c cl; tail = v.tail };
    since = (moved_forgot f).since;
    recalls = λ y h g. recalls_moved g (moved_forgot f) (marks_kept (walk_selfs ws' Success e) f.marks g.marks);
  }

  pub walk_binds : {w : Walked} {ws' m' : List ℕ} → WalkedTo ws ks n a b w → w ≡ None → Bound ws ws' n a b → Forgot m m' → WalkTold ws ks m ws' m' n a b Success
  walk_binds o e v f =
      walk_merged v f (o.same ∙ (ap (walked_by ns a b) e ∙ ap (λ (l : List Node). out l answers.Success) (sym (v.nodes ks words.children words.clean))))

  -- one node

  module _ {i j : ℕ} (ei : i ≡ a.idx) (ej : j ≡ b.idx) (eij : false ≡ not (eqb i j)) where
    one : a.idx ≡ b.idx
    one = sym ei ∙ (eqb-true i j (not-false (eqb i j) (sym eij)) ∙ ej)

    same_walks : walks n (decode ws ks n) a b ≡ out (decode ws ks n) (same_node n (decode ws ks n) a b)
    same_walks = rw (eq-eqb a.idx b.idx one) refl

    top : (view (decode ws ks n)).rep a.idx ≡ ty false a.idx
    unfolding view
    top = root_find ns (ty false a.idx) (at ns a.idx) refl tops.first

    -- what is marked is its own inverse, and what is its own inverse is found so
    self_found : SelfAt (decode ws ks n) a.idx → self_inverse_at false n (decode ws ks n) a.idx ≡ true
    self_found s =
        let k : ℕ = length ns in
        let st = nodes_stable words.env words.sound in
        let y : self_inverse_at false k ns a.idx ≡ true =
        self_inverse_view false k ns a.idx ∙ self_complete k (view ns) words.sound.good st.inside k a.idx [] top (below words tops.pair.first) cnil (free_nil k)
        (subst (λ (t : Ty). Self (view ns) t.idx) top s) in
        subst (λ (j : ℕ). self_inverse_at false j ns a.idx ≡ true) (length_decode ws ks n) y

    pub walk_known : {h : ℕ} {r : Bool} → h ≡ a.idx → Said m h r → r ≡ true → WalkTold ws ks m ws m n a b Success
    walk_known {h} eh k e =
        walk_still (same_walks ∙ ap (λ (t : Bool). out ns (answers.of_bool t)) (ap (λ (t : Bool). not (xor a.inv b.inv) || t)
        (self_found (subst (SelfAt ns) eh (asks.recalls.marks.self h (k.known e)))) ∙ or-true (not (xor a.inv b.inv))))

    turned : {p q t : Bool} → p ≡ a.inv → q ≡ b.inv → t ≡ beq p q → not (xor a.inv b.inv) ≡ t
    turned {t = t} ep eq h = go a.inv b.inv (rw (ep, eq) at h)
      where
        go : (p q : Bool) → t ≡ beq p q → not (xor p q) ≡ t
        go true true f = sym f
        go true false f = sym f
        go false true f = sym f
        go false false f = sym f

    -- two types that are each other's inverses
    pub walk_crosses : {p q t : Bool} (r : UnifyResult) → p ≡ a.inv → q ≡ b.inv → false ≡ beq p q → t ≡ self_inverse_at false n (decode ws ks n) a.idx
        → answer_of r ≡ answers.of_bool t → walks n (decode ws ks n) a b ≡ out (decode ws ks n) (answer_of r)
    walk_crosses r ep eq h es er =
        same_walks ∙ (ap (λ (y : Bool). out ns (answers.of_bool (y || self_inverse_at false n ns a.idx))) (turned ep eq h)
        ∙ ap (out ns) (ap answers.of_bool (sym es) ∙ sym er))

-- a pair in words: what the memory tells is what a walk would give, and what a walk gave is so

module _ {ws ks m : List ℕ} {n a b : ℕ} (asks : WalkAsks ws ks m n (ty_of a) (ty_of b)) where
  pub walk_told : {t : Recalled} {r : UnifyResult} → Told m a b t → t ≡ Some r → WalkTold ws ks m ws m n (ty_of a) (ty_of b) r
  walk_told {r = r} f e =
      walk_still asks (sym (asks.meets (unify_f asks.roots.lent n n)) ∙ (asks.recalls.true a b r (f.believed r e)).same)

  -- what a walk answered is noted
  noted : {m' : List ℕ} {r : UnifyResult} → walks n (decode ws ks n) (ty_of a) (ty_of b) ≡ out (decode ws ks n) (answer_of r) → WalkNoted m m' a b r
      → (y : Texts) → Childless y n (decode ws ks n) (ty_of a) (ty_of b) → Recalls y n (decode ws ks n) m → Recalls y n (decode ws ks n) m'
  noted same k y h g = record {
    tidy = k.tidy;
    true = λ v w q z. elim (k.only v w q z) [ inl old ↦ g.true v w q old | inr (ev, (ew, eq)) ↦ record { same = rw (ev, ew, eq) (h (unify_f y n n) ∙ same) } ];
    marks = marks_fewer k.marks g.marks;
  }

  pub walk_done : {w : Walked} {m' : List ℕ} {r : UnifyResult} → WalkedTo ws ks n (ty_of a) (ty_of b) w → w ≡ Some r → WalkNoted m m' a b r
      → WalkTold ws ks m ws m' n (ty_of a) (ty_of b) r
  walk_done {r = r} o e k = record {
    leaves = record { same = same; clean = λ c cl. cl; tail = refl };
    since = record { on = k.on; still = λ r e. refl };
    recalls = noted same k;
  }
    where
      same : walks n (decode ws ks n) (ty_of a) (ty_of b) ≡ out (decode ws ks n) (answer_of r)
      same = o.same ∙ ap (walked_by (decode ws ks n) (ty_of a) (ty_of b)) e

-- a root and its own inverse

pub own_asks : {ws ks m : List ℕ} {n a : ℕ} {b : Ty} → WalkAsks ws ks m n (ty_of a) b → OwnAsks ws ks m n a
own_asks {ws} {ks} {n = n} asks =
    let h = asks.roots.tops in
    let w = h.pair.words in
    record {
      stands = record { made = w.children; clean = w.clean };
      few = w.small;
      walkable = sound_walkable w.env (decode ws ks n) w.sound;
      inside = h.pair.first;
      root = h.first;
      marks = asks.recalls.marks;
    }

-- the memory with other marks
own_after : {ws ks m m₁ : List ℕ} {n a : ℕ} {t : Bool} → OwnTold ws ks m m₁ n a t → (y : Texts) → Recalls y n (decode ws ks n) m → Recalls y n (decode ws ks n) m₁
own_after o y g = recalls_moved g (moved_marked g.tidy o.beside) o.marks

module _ {ws ks m m₁ : List ℕ} {n a b : ℕ} {t : Bool} (asks : WalkAsks ws ks m n (ty_of a) (ty_of b)) (o : OwnTold ws ks m m₁ n a t) where
  pub walk_own : {m' : List ℕ} {r : UnifyResult} {i j : ℕ} {p q : Bool} → i ≡ (ty_of a).idx → j ≡ (ty_of b).idx → false ≡ not (eqb i j) → p ≡ (ty_of a).inv → q ≡ (ty_of b).inv
      → false ≡ beq p q → answer_of r ≡ answers.of_bool t → WalkNoted m₁ m' a b r → WalkTold ws ks m ws m' n (ty_of a) (ty_of b) r
  walk_own {r = r} ei ej eij ep eq h er k = record {
    leaves = record { same = same; clean = λ c cl. cl; tail = refl };
    since = record { on = omega (arith, marked_clock o.beside, k.on); still = λ r e. refl };
    recalls = λ y f g. noted after same k y f (own_after o y g);
  }
    where
      same : walks n (decode ws ks n) (ty_of a) (ty_of b) ≡ out (decode ws ks n) (answer_of r)
      same = walk_crosses asks ei ej eij r ep eq h o.same er

      after : WalkAsks ws ks m₁ n (ty_of a) (ty_of b)
      after = record { roots = asks.roots; adds = asks.adds; meets = asks.meets; recalls = own_after o asks.roots.lent asks.recalls }
