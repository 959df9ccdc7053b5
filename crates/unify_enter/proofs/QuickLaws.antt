-- Two roots without children, one of them without a kind, at any depth: `unify` merges them, and that is what `heed::quick` and `heed::small` do at once. Two types of one
-- nil are done with. Where they do nothing, everything is as it was.
-- Assumes nothing.
use mathlib.Core.Path.{◌≡◌, refl, ap, sym, subst, ◌∙◌}
use mathlib.Core.Bool.{Bool, true, false, ◌||◌}
use mathlib.Core.Logic.{◌⊎◌, inl, inr}
use mathlib.Core.List.{List, [], ◌∷◌}
use Prim.Native.Nat.{ℕ, ◌-◌, ◌<◌}
use native.Mathlib.Omega.{arith}
use Rattle.scope.specs.Names.{Texts}
use Rattle.scope.specs.Types.{Ty}
use Rattle.scope.specs.Nodes.{Node, at, is_root}
use Rattle.scope.specs.Answers as answers
use Rattle.scope.specs.Unify.{Out, out, bound, unify_f}
use Rattle.types.specs.Answers.{answer_of}
use Rattle.types.specs.declared.UnifyResult.{UnifyResult}
use Rattle.types.specs.declared.UnifyResult.TheVariants.{Success}
use Rattle.layout.specs.Words.{decode}
use Rattle.recall.specs.Memory.{Tidy, Forgot}
use Rattle.merge.specs.Meaning.{Adds}
use Rattle.merge.specs.Quick.{bare_node, lone_node, nil_node, Quick, OneNil}
use Rattle.heed.specs.Told.{Moved, QuickTold, SmallTold}
use Rattle.heed.proofs.Laws.{SelfsKept, since_same, recalls_moved, marks_kept, moved_forgot}
use Rattle.meeting.specs.Asks.{SoundWords, Pair}
use Rattle.unify_enter.proofs.walks.Laws.{by_words, below, unify_roots}
use Rattle.unify_enter.proofs.walks.SmallLaws.{lone_root, lone_bind, lone_apart, lone_kinds, nil_root, nil_meet}
use Rattle.unify_enter.specs.Asked.{Asked, Unified}
use Rattle.unify_enter.proofs.Laws.{words_add, asked_pair}
use Rattle.unify_enter.proofs.walks.Kept.{pair_selfs}

-- at any depth

module _ (n : ℕ) (ns : List Node) (a b : Ty) (h : 0 < n) where
  lone_unify : (a.idx ≡ b.idx → ⊥) → lone_node (at ns a.idx) ≡ true → lone_node (at ns b.idx) ≡ true
      → (bare_node (at ns a.idx) || bare_node (at ns b.idx)) ≡ true → (x : Texts) (m : ℕ) → (m ≡ 0 → ⊥)
      → unify_f x n m ns a b ≡ out (bound ns a b) answers.Success
  lone_unify d f g q x m e =
      unify_roots x n m ns a b e (lone_root (at ns a.idx) f) (lone_root (at ns b.idx) g)
      ∙ (lone_apart n ns a b h d f g (unify_f x n (m - 1)) x ∙ (lone_kinds n ns a b h d f g (unify_f x n (m - 1)) x (bare_node (at ns a.idx)) refl q ∙ lone_bind n ns a b h d f g))

  nil_unify : a.idx ≡ b.idx → nil_node (at ns a.idx) ≡ true → (x : Texts) (m : ℕ) → (m ≡ 0 → ⊥) → unify_f x n m ns a b ≡ out ns answers.Success
  nil_unify d f x m e =
      let g = nil_root (at ns a.idx) f in
      unify_roots x n m ns a b e g (subst (λ (i : ℕ). is_root (at ns i) ≡ true) d g) ∙ nil_meet n ns a b h d f (unify_f x n (m - 1)) x

-- roots that are their own inverses stay so
words_selfs : {x : Texts} {ws ks : List ℕ} {n : ℕ} → SoundWords x ws ks n → (d : ℕ) (p q : Ty) (ws' : List ℕ) (s : UnifyResult) → p.idx < n → q.idx < n
    → unify_f x n d (decode ws ks n) p q ≡ out (decode ws' ks n) (answer_of s) → SelfsKept (decode ws ks n) (decode ws' ks n)
words_selfs {x} {ws} {ks} {n} w d p q ws' s hp hq e =
    let ns : List Node = decode ws ks n in
    subst (λ (o : Out). SelfsKept ns o.nodes) e
    (by_words w (λ y m. SelfsKept ns (unify_f y m d ns p q).nodes) (pair_selfs w.env w.sound d p q (below w hp) (below w hq)))

-- what `quick` asks, and what it leaves

pub quick_adds : {x : Texts} {ws ks m : List ℕ} {n d : ℕ} {p q : Ty} → Asked x ws ks m n d ((p, q) ∷ []) → Adds ws n p q × Tidy m
quick_adds {p = p} {q = q} w = let h = asked_pair w in (words_add h.words p q h.first h.second, w.recalls.tidy)

module _ {x : Texts} {ws ks m ws' m' : List ℕ} {n d : ℕ} {p q : Ty} where
  merges : Asked x ws ks m n d ((p, q) ∷ []) → (d ≡ 0 → ⊥) → Quick ws ws' n p q → Forgot m m' → Unified x ws ks m ws' m' n (unify_f x n d (decode ws ks n) p q) Success
  merges w e k f = record {
    leaves = record { same = same; clean = λ c cl. k.bound.clean ks c cl; tail = k.bound.tail };
    recalls = recalls_moved w.recalls gone (marks_kept (words_selfs h.words d p q ws' Success h.first h.second same) f.marks w.recalls.marks);
    since = gone.since;
  }
    where
      h : Pair x ws ks n p q
      h = asked_pair w

      same : unify_f x n d (decode ws ks n) p q ≡ out (decode ws' ks n) answers.Success
      same =
          lone_unify n (decode ws ks n) p q (omega (arith, h.first)) k.apart (k.first ks h.words.children h.words.clean)
          (k.second ks h.words.children h.words.clean) (k.bare ks h.words.children h.words.clean) x d e
          ∙ ap (λ (ns : List Node). out ns answers.Success) (sym (k.bound.nodes ks h.words.children h.words.clean))

      gone : Moved m m' (decode ws ks n) (decode ws' ks n)
      gone = moved_forgot f

nothing_done : {x : Texts} {ws ks m : List ℕ} {n d : ℕ} {p q : Ty} → Asked x ws ks m n d ((p, q) ∷ []) → (d ≡ 0 → ⊥) → OneNil ws n p q true
    → Unified x ws ks m ws m n (unify_f x n d (decode ws ks n) p q) Success
nothing_done {x} {ws} {ks} {m} {n} {d} {p} {q} w e o =
    let h = asked_pair w in
    record {
      leaves = record {
        same = nil_unify n (decode ws ks n) p q (omega (arith, h.first)) (o.one refl) (o.nil refl ks h.words.children h.words.clean) x d e;
        clean = λ c cl. cl;
        tail = refl;
      };
      recalls = w.recalls;
      since = since_same;
    }

module _ {x : Texts} {ws ks m ws' m' : List ℕ} {n : ℕ} {p q : Ty} {r : Bool} where
  pub quick_merged : {d : ℕ} → Asked x ws ks m n d ((p, q) ∷ []) → (d ≡ 0 → ⊥) → QuickTold ws ws' n m m' p q r → r ≡ true
      → Unified x ws ks m ws' m' n (unify_f x n d (decode ws ks n) p q) Success
  quick_merged w h t e = merges w h (t.merged e) (t.forgot e)

  pub quick_asked : {d : ℕ} {ps : List (Ty × Ty)} → Asked x ws ks m n d ps → QuickTold ws ws' n m m' p q r → r ≡ false → Asked x ws' ks m' n d ps
  quick_asked w t e = rw (t.words e, t.memory e) w

  pub quick_not : (d : ℕ) {ws₂ m₂ : List ℕ} {s : UnifyResult} → QuickTold ws ws' n m m' p q r → r ≡ false
      → Unified x ws' ks m' ws₂ m₂ n (unify_f x n d (decode ws' ks n) p q) s → Unified x ws ks m ws₂ m₂ n (unify_f x n d (decode ws ks n) p q) s
  quick_not d t e u = rw (← t.words e, ← t.memory e) u

  -- `small`

  pub small_merged : {d : ℕ} → Asked x ws ks m n d ((p, q) ∷ []) → (d ≡ 0 → ⊥) → SmallTold ws ws' n m m' p q r → r ≡ true
      → Unified x ws ks m ws' m' n (unify_f x n d (decode ws ks n) p q) Success
  small_merged {d} w h t e = go (t.done e)
    where
      go : (Quick ws ws' n p q × Forgot m m') ⊎ (OneNil ws n p q true × ((ws' ≡ ws) × (m' ≡ m)))
          → Unified x ws ks m ws' m' n (unify_f x n d (decode ws ks n) p q) Success
      go (inl k) = merges w h k.0 k.1
      go (inr o) = rw (o.1.0, o.1.1) (nothing_done w h o.0)
