-- What unifying asks is kept by both finds, and one law for each way out of `enter`: no depth is left, a walk, what the memory knows, the children.
-- Assumes nothing.
use mathlib.Core.Path.{◌≡◌, refl, ap, sym, subst, ◌∙◌}
use mathlib.Core.Bool.{true}
use mathlib.Core.List.Memᴰ
use mathlib.Core.List.{List, [], ◌∷◌}
use Prim.Native.Nat.{ℕ, ◌-◌, ◌<◌, ◌≤◌}
use native.Mathlib.Omega.{arith}
use lib.ListN.{length}
use Rattle.scope.specs.Limits.{MAX_NODES}
use Rattle.scope.specs.Names.{Texts}
use Rattle.scope.specs.Chart.{Env}
use Rattle.scope.specs.Types.{Ty, ty_of}
use Rattle.scope.specs.Nodes.{Node, at, is_root, size_of, find, find_mut}
use Rattle.scope.specs.Unify.{Out, out, meet, unify_f}
use Rattle.scope.proofs.View.{View, view}
use Rattle.scope.proofs.Paths.{Forest, Tidied, find_idx, find_inside, rep_root, find_mut_tidied, tidied_forest, tidied_trans, tidied_view}
use Rattle.scope.proofs.Sizes.{size_le}
use Rattle.scope.proofs.SoundLaws.{SoundNodes}
use Rattle.scope.proofs.SoundKept.{tidied_nodes}
use Rattle.scope.proofs.Enough.{Enough, enough_root, enough_tidied, enough_meet}
use Rattle.types.specs.Answers.{answer_of}
use Rattle.types.specs.declared.«Type».{«Type»}
use Rattle.types.specs.declared.UnifyResult.{UnifyResult}
use Rattle.types.specs.declared.UnifyResult.TheVariants.{Failure}
use Rattle.layout.specs.Words.{decode}
use Rattle.layout.specs.Meaning.{Clean, Linked}
use Rattle.layout.proofs.Laws.{length_decode}
use Rattle.layout.proofs.HeldLaws.{size_read}
use Rattle.layout.proofs.LinkLaws.{clean_linked}
use Rattle.roots.specs.Found.{FoundMut}
use Rattle.recall.specs.Memory.{clock_of, Fewer}
use Rattle.recall.specs.Places.{Told}
use Rattle.recall.specs.Places.{Recalled}
use Rattle.std.specs.Prelude.{Some}
use Rattle.heed.specs.Recalls.{Marks}
use Rattle.heed.specs.Told.{FoundTold}
use Rattle.heed.proofs.Laws.{since_same, since_then, recalls_moved, marks_kept, marks_fewer, selfs_view, moved_fewer}
use Rattle.merge.specs.Meaning.{Adds}
use Rattle.plan.specs.declared.Plan.{Plan}
use Rattle.meeting.specs.Asks.{SoundWords, Pair, Tops}
use Rattle.meeting.specs.Steps.{Stepped}
use Rattle.meeting.specs.Meets.{met_by, Met}
use Rattle.meeting.specs.declared.Steps.{Steps}
use Rattle.meeting.specs.Meets.{Meeting}
use Rattle.std.specs.declared.option.Option.TheVariants as meetings
use Rattle.std.specs.Prelude.{None}
use Rattle.unify_enter.specs.Asked.{Asked, Unified}
use Rattle.unify_enter.specs.Enters.{Climbed, AtRoots, Left, Enters}
use Rattle.unify_enter.specs.declared.Entered.{Entered}
use Rattle.unify_enter.specs.declared.Entered.TheVariants.{Kids}
use Rattle.unify_enter.specs.Walk.{Childless, WalkAsks, WalkTold}
use Rattle.unify_enter.proofs.walks.Laws.{by_words, unify_deep, unify_roots}

-- sound words

module _ {x : Texts} {ws ks : List ℕ} {n : ℕ} (w : SoundWords x ws ks n) where
  pub words_linked : Linked ws n
  words_linked = clean_linked ws ks w.children n w.clean

  pub words_with : {ws' : List ℕ} → ((c : ℕ) → Clean ws ks c n → Clean ws' ks c n) → SoundNodes w.env (decode ws' ks n) → SoundWords x ws' ks n
  words_with {ws'} cl s = record {
    env = w.env;
    lent = w.lent;
    children = w.children;
    clean = cl w.children w.clean;
    few = w.few;
    room = w.room;
    small = w.small;
    sound = s;
  }

  -- a root's size is at most the node count
  sizes_small : (i : ℕ) → i < n → size_of (at (decode ws ks n) i) ≤ MAX_NODES
  unfolding view
  sizes_small i h =
      let ns : List Node = decode ws ks n in
      omega (arith, w.small, length_decode ws ks n, size_le (length ns) (view ns) w.sound.sized i (omega (arith, length_decode ws ks n)))

  pub words_add : (a b : Ty) → a.idx < n → b.idx < n → Adds ws n a b
  words_add a b ha hb = record {
    room = w.clean.room;
    sizes = rw (size_read ws ks w.children n w.clean a.idx, size_read ws ks w.children n w.clean b.idx)
        (omega (arith, sizes_small a.idx ha, sizes_small b.idx hb));
  }

  -- two roots
  module _ (a b : Ty) (h : a.idx < n) (top : is_root (at (decode ws ks n) a.idx) ≡ true) {d : ℕ} (e : Enough n (decode ws ks n) d ((a, b) ∷ [])) (deep : d ≡ 0 → ⊥) where
    pub words_meet : meet (unify_f x n (d - 1)) x n (decode ws ks n) a b ≡ meet (unify_f x n n) x n (decode ws ks n) a b
    words_meet =
        let ns : List Node = decode ws ks n in
        by_words w (λ y m. a.idx < m → Enough m ns d ((a, b) ∷ []) → meet (unify_f y m (d - 1)) y m ns a b ≡ meet (unify_f y m m) y m ns a b)
        (λ g f. enough_meet w.env w.sound a b g top f deep) h e

pub asked_pair : {x : Texts} {ws ks m : List ℕ} {n d : ℕ} {p q : Ty} → Asked x ws ks m n d ((p, q) ∷ []) → Pair x ws ks n p q
asked_pair {p = p} {q = q} w = let h = w.pairs.inside (p, q) (Memᴰ.head refl) in record { words = w.pairs.words; first = h.0; second = h.1 }

-- both finds

root_stays : {ns ms : List Node} → Tidied ns ms → Forest ns → (t : Ty) → is_root (at ms (find ns t).idx) ≡ true
root_stays {ns} {ms} d ok t =
    ap (λ (i : ℕ). is_root (at ms i)) (find_idx ns t ∙ ap (λ (g : View). (g.rep t.idx).idx) (sym (tidied_view d ok)))
    ∙ ap is_root (rep_root (tidied_forest d ok) t.idx).2

pub climbed : {x : Texts} {ws ks ws₁ ws₂ m m₀ m₁ m₂ : List ℕ} {n d p q a b : ℕ} → Asked x ws ks m n d ((ty_of p, ty_of q) ∷ []) → (d ≡ 0 → ⊥) → Fewer m m₀
    → FoundTold ws n ws₁ m₀ m₁ p a → FoundTold ws₁ n ws₂ m₁ m₂ q b → Climbed x ws ks m ws₂ m₂ n d (ty_of p) (ty_of q) a b
climbed {x} {ws} {ks} {ws₁} {ws₂} {m} {m₀} {m₁} {m₂} {n} {d} {p} {q} {a} {b} w h v f' g' = record {
  same = unify_deep x n d ns (ty_of p) (ty_of q) h ∙ rw (← e₁, ← e₂, ← f.root ks, ← g.root ks) refl;
  clean = λ c cl. g.words.clean ks c (f.words.clean ks c cl);
  tail = g.words.tail ∙ f.words.tail;
  tops = record {
    pair = record {
      words = words_with pre.words (λ c cl. g.words.clean ks c (f.words.clean ks c cl)) (rw e₂ (tidied_nodes e t₂ ok₁));
      first = rw (f.root ks) (omega (arith, length_decode ws ks n, find_inside ok.forest (ty_of p) (omega (arith, length_decode ws ks n, pre.first))));
      second = rw (g.root ks) (omega (arith, length_decode ws₁ ks n, find_inside ok₁.forest (ty_of q) (omega (arith, length_decode ws₁ ks n, pre.second))));
    };
    first = rw (f.root ks, e₂) (root_stays (tidied_trans t₁ t₂) ok.forest (ty_of p));
    second = rw (g.root ks, e₂) (root_stays t₂ ok₁.forest (ty_of q));
  };
  deep = h;
  enough = rw (f.root ks, e₂) (enough_tidied ok₁.forest t₂ (enough_tidied ok.forest t₁ (enough_root ok.forest (ty_of p) (ty_of q) (ty_of b) w.enough)));
  recalls = recalls_moved (recalls_moved (recalls_moved w.recalls (moved_fewer v) marks₀) (f'.told ks) marks₁) (g'.told ks) marks₂;
  since = since_then (since_then (moved_fewer {ns = ns} v).since (f'.told ks).since) (g'.told ks).since;
}
  where
    pre : Pair x ws ks n (ty_of p) (ty_of q)
    pre = asked_pair w

    f : FoundMut ws n ws₁ p a
    f = f'.found

    g : FoundMut ws₁ n ws₂ q b
    g = g'.found

    ns : List Node
    ns = decode ws ks n

    ms : List Node
    ms = decode ws₁ ks n

    e : Env
    e = pre.words.env

    e₁ : ms ≡ find_mut ns (ty_of p)
    e₁ = f.nodes ks

    e₂ : decode ws₂ ks n ≡ find_mut ms (ty_of q)
    e₂ = g.nodes ks

    ok : SoundNodes e ns
    ok = pre.words.sound

    t₁ : Tidied ns ms
    t₁ = rw e₁ (find_mut_tidied ok.forest (ty_of p))

    ok₁ : SoundNodes e ms
    ok₁ = tidied_nodes e t₁ ok

    t₂ : Tidied ms (find_mut ms (ty_of q))
    t₂ = find_mut_tidied ok₁.forest (ty_of q)

    marks₀ : Marks ns m₀
    marks₀ = marks_fewer v.marks w.recalls.marks

    marks₁ : Marks ms m₁
    marks₁ = marks_kept (selfs_view ns ms (tidied_view t₁ ok.forest)) f'.marks marks₀

    marks₂ : Marks (decode ws₂ ks n) m₂
    marks₂ = marks_kept (selfs_view ms (decode ws₂ ks n) (ap view e₂ ∙ tidied_view t₂ ok₁.forest)) g'.marks marks₁

pub climbed_here : {x : Texts} {ws ks m : List ℕ} {n d p q : ℕ} → Asked x ws ks m n d ((ty_of p, ty_of q) ∷ []) → (d ≡ 0 → ⊥) → Tops x ws ks n (ty_of p) (ty_of q)
    → Climbed x ws ks m ws m n d (ty_of p) (ty_of q) p q
climbed_here {x} {ws} {ks} {m} {n} {d} {p} {q} w h t = record {
  same = unify_roots x n d (decode ws ks n) (ty_of p) (ty_of q) h t.first t.second;
  clean = λ c cl. cl;
  tail = refl;
  tops = t;
  deep = h;
  enough = w.enough;
  recalls = w.recalls;
  since = since_same;
}

pub at_roots : {x : Texts} {ws ks m ws₂ m₂ : List ℕ} {n d : ℕ} {p q : Ty} {a b : ℕ} {k : Meeting} → Climbed x ws ks m ws₂ m₂ n d p q a b
    → Met x ws₂ ks n (ty_of a) (ty_of b) k → AtRoots x ws ks m ws₂ m₂ n d p q a b k
at_roots u h = record { up = u; met = h }

-- the ways out

pub no_depth : {x : Texts} {ws ks m : List ℕ} {n d : ℕ} {p q : Ty} → Asked x ws ks m n d ((p, q) ∷ []) → d ≡ 0
    → Unified x ws ks m ws m n (unify_f x n d (decode ws ks n) p q) Failure
unfolding unify_f
no_depth w e = record { leaves = record { same = rw e refl; clean = λ c cl. cl; tail = refl }; recalls = w.recalls; since = since_same }

pub tops_add : {x : Texts} {ws ks m ws₂ m₂ : List ℕ} {n d : ℕ} {p q : Ty} {a b : ℕ} → Climbed x ws ks m ws₂ m₂ n d p q a b → Adds ws₂ n (ty_of a) (ty_of b)
tops_add {a = a} {b = b} c = words_add c.tops.pair.words (ty_of a) (ty_of b) c.tops.pair.first c.tops.pair.second

module _ {x : Texts} {ws ks m ws₂ m₂ : List ℕ} {n d : ℕ} {p q : Ty} {a b : ℕ} {k : Meeting} (c : AtRoots x ws ks m ws₂ m₂ n d p q a b k) where
  abbrev words : SoundWords x ws₂ ks n
  words = c.up.tops.pair.words

  abbrev whole : Out
  whole = unify_f x n d (decode ws ks n) p q

  pub went : {l : Meeting} → k ≡ l → whole ≡ met_by (unify_f x n (d - 1)) x n ks (decode ws₂ ks n) (ty_of a) (ty_of b) l
  went e = c.up.same ∙ (c.met.same (unify_f x n (d - 1)) ∙ ap (met_by (unify_f x n (d - 1)) x n ks (decode ws₂ ks n) (ty_of a) (ty_of b)) e)

  -- the depth here changes nothing
  pub deep_enough : meet (unify_f x n (d - 1)) x n (decode ws₂ ks n) (ty_of a) (ty_of b) ≡ meet (unify_f x n n) x n (decode ws₂ ks n) (ty_of a) (ty_of b)
  deep_enough = words_meet words (ty_of a) (ty_of b) c.up.tops.pair.first c.up.tops.first c.up.enough c.up.deep

  childless : k ≡ None → Childless x n (decode ws₂ ks n) (ty_of a) (ty_of b)
  childless e u = c.met.same u ∙ ap (met_by u x n ks (decode ws₂ ks n) (ty_of a) (ty_of b)) e

  pub walk_asks : k ≡ None → WalkAsks ws₂ ks m₂ n (ty_of a) (ty_of b)
  walk_asks e = record { roots = record { lent = x; tops = c.up.tops }; adds = tops_add c.up; meets = childless e; recalls = c.up.recalls }

  -- nothing after the finds
  at_once : {r : UnifyResult} → whole ≡ out (decode ws₂ ks n) (answer_of r) → Unified x ws ks m ws₂ m₂ n whole r
  at_once e = record { leaves = record { same = e; clean = c.up.clean; tail = c.up.tail }; recalls = c.up.recalls; since = c.up.since }

  -- no child is unified
  pub way_walk : {ws₃ m₃ : List ℕ} {r : UnifyResult} → k ≡ None → WalkTold ws₂ ks m₂ ws₃ m₃ n (ty_of a) (ty_of b) r → Unified x ws ks m ws₃ m₃ n whole r
  way_walk e o = record {
    leaves = record {
      same = went e ∙ o.leaves.same;
      clean = λ h cl. o.leaves.clean h (c.up.clean h cl);
      tail = o.leaves.tail ∙ c.up.tail;
    };
    recalls = o.recalls x (childless e) c.up.recalls;
    since = since_then c.up.since o.since;
  }

  -- what the memory tells is what the roots would give
  pub way_known : {t : Recalled} {r : UnifyResult} → Told m₂ a b t → t ≡ Some r → Unified x ws ks m ws₂ m₂ n whole r
  way_known {r = r} f e = at_once (c.up.same ∙ (deep_enough ∙ (c.up.recalls.true a b r (f.believed r e)).same))

  -- the children are left to do
  module _ {l : Plan} (e : k ≡ meetings.Some l) where
    pub way_on : {s : Steps} {t : ℕ} → Stepped l s → t ≡ clock_of m₂ → Left x ws ks m ws₂ m₂ n d p q s t a b
    way_on st f = record { plan = l; roots = subst (AtRoots x ws ks m ws₂ m₂ n d p q a b) e c; stepped = st; began = f }

-- what was entered, by its answer

module _ {x : Texts} {ws ks m ws₂ m₂ : List ℕ} {n : ℕ} (d : ℕ) (p q : Ty) {r : Entered} (h : Enters x ws ks m ws₂ m₂ n d p q r) where
  pub entered_kids : {l : Steps} {t : ℕ} {a b : «Type»} → r ≡ Kids l t a b → Left x ws ks m ws₂ m₂ n d p q l t a.0 b.0
  entered_kids e = subst (Enters x ws ks m ws₂ m₂ n d p q) e h
