-- What unifying asks is kept by every part of it, and the way out of `unify_pair` after the children: what they ask for, and the answer settled. The words change as the
-- callees ensure; the nodes follow.
-- Assumes nothing.
use mathlib.Core.Path.{◌≡◌, refl, ap, sym, subst, ◌∙◌}
use mathlib.Core.Bool.{true}
use mathlib.Core.List.{List, [], ◌∷◌, ◌++◌, Memᴰ}
use mathlib.Core.Logic.{◌⊎◌, inl, inr}
use Prim.Native.Nat.{ℕ, ◌-◌, ◌<◌}
use lib.ListN.{length}
use Rattle.scope.specs.Names.{Texts}
use Rattle.scope.specs.Types.{Ty, ty_of}
use Rattle.scope.specs.Nodes.{Node, at, is_root, kids_of}
use Rattle.scope.specs.Answers as answers
use Rattle.scope.specs.Unify as scope
use Rattle.scope.specs.Unify.{Out, out, run, state_in, settle, meet, unify_f}
use Rattle.scope.proofs.SoundLaws.{SoundNodes}
use Rattle.scope.proofs.Enough.{Enough, enough_kids, enough_run}
use Rattle.types.specs.Answers.{answer_of}
use Rattle.types.specs.declared.UnifyResult.{UnifyResult}
use Rattle.layout.specs.Words.{decode}
use Rattle.recall.specs.Memory.{Believed, New}
use Rattle.heed.specs.Recalls.{Meets}
use Rattle.heed.specs.Told.{Settles, SettledTold}
use Rattle.heed.proofs.Laws.{since_then, SelfsKept, marks_kept}
use Rattle.meeting.specs.Asks.{SoundWords, Inside}
use Rattle.plan.specs.Meaning.{plan_means}
use Rattle.meeting.specs.Steps.{steps_mean, StepsReady}
use Rattle.meeting.specs.Meets.{does, pairs_of, BothKnown}
use Rattle.meeting.specs.declared.Steps.{Steps}
use Rattle.std.specs.Prelude.{Some}
use Rattle.unify_enter.specs.Leaves.{Leaves}
use Rattle.unify.specs.Asked.{Asked, Unified}
use Rattle.unify_enter.specs.Enters.{AtRoots, Left}
use Rattle.unify_enter.proofs.Laws.{words_with, words_add, went, deep_enough}
use Rattle.unify_enter.proofs.walks.Kept.{pair_sound, run_sound}
use Rattle.unify_enter.proofs.walks.Laws.{by_words, below}
use Rattle.unify.proofs.Closing.{closes}

-- sound words stay so

module _ {x : Texts} {ws ks : List ℕ} {n : ℕ} (w : SoundWords x ws ks n) where
  -- a pair and a run, at any depth
  sound_at : (o : Texts → ℕ → Out) → SoundNodes w.env (o w.env.texts (length (decode ws ks n))).nodes → SoundNodes w.env (o x n).nodes
  sound_at o s = by_words w (λ y m. SoundNodes w.env (o y m).nodes) s

  leaves_words : {ws' : List ℕ} {o : Out} {q : UnifyResult} → Leaves ws ks ws' n o q → SoundNodes w.env o.nodes → SoundWords x ws' ks n
  leaves_words l s = words_with w l.clean (subst (λ (o : Out). SoundNodes w.env o.nodes) l.same s)

  pub words_pair : (d : ℕ) (p q : Ty) {ws' : List ℕ} {s : UnifyResult} → p.idx < n → q.idx < n
      → Leaves ws ks ws' n (unify_f x n d (decode ws ks n) p q) s → SoundWords x ws' ks n
  words_pair d p q hp hq l =
      leaves_words l (sound_at (λ y m. unify_f y m d (decode ws ks n) p q) (pair_sound w.env w.sound d p q (below w hp) (below w hq)))

  pub words_run : (d : ℕ) (b : answers.Answer) (ps : List (Ty × Ty)) {ws' : List ℕ} {s : UnifyResult} → Inside n ps
      → Leaves ws ks ws' n (run (unify_f x n d) (decode ws ks n) b ps) s → SoundWords x ws' ks n
  words_run d b ps h l =
      leaves_words l (sound_at (λ y m. run (unify_f y m d) (decode ws ks n) b ps)
      (run_sound w.env w.sound d b ps (λ p m. (below w (h p m).0, below w (h p m).1))))

  -- pairs that are left once others are unified
  pub words_enough : (d : ℕ) (b : answers.Answer) (ps qs : List (Ty × Ty)) {ws' : List ℕ} {s : UnifyResult} → Inside n (ps ++ qs) → Enough n (decode ws ks n) d (ps ++ qs)
      → Leaves ws ks ws' n (run (unify_f x n d) (decode ws ks n) b ps) s → Enough n (decode ws' ks n) d qs
  words_enough d b ps qs i e l =
      let ns : List Node = decode ws ks n in
      subst (λ (o : Out). Enough n o.nodes d qs) l.same
      (by_words w (λ y m. Inside m (ps ++ qs) → Enough m ns d (ps ++ qs) → Enough m (run (unify_f y m d) ns b ps).nodes d qs) (enough_run w.env w.sound d b ps qs) i e)

  -- two roots
  module _ (a b : Ty) (h : a.idx < n) (top : is_root (at (decode ws ks n) a.idx) ≡ true) {d : ℕ} (e : Enough n (decode ws ks n) d ((a, b) ∷ [])) (deep : d ≡ 0 → ⊥) where
    pub words_kids : (ps : List (Ty × Ty)) → ((p : Ty × Ty) → Memᴰ p ps → Memᴰ p.0 (kids_of (state_in (decode ws ks n) a))) → Enough n (decode ws ks n) (d - 1) ps
    words_kids ps f =
        let ns : List Node = decode ws ks n in
        by_words w (λ y m. a.idx < m → Enough m ns d ((a, b) ∷ []) → Enough m ns (d - 1) ps) (λ g u. enough_kids w.env w.sound a b g top u deep ps f) h e

  -- settling after the children
  pub words_closes : (f : ℕ) (a b : Ty) → a.idx < n → b.idx < n → is_root (at (decode ws ks n) a.idx) ≡ true → is_root (at (decode ws ks n) b.idx) ≡ true
      → (l : scope.Plan) → BothKnown x (decode ws ks n) a b l → Inside n l.pairs
      → let o : Out = does (unify_f x n f) (decode ws ks n) l in SelfsKept o.nodes (settle o.nodes a b o.answer).nodes
  words_closes f a b ha hb ra rb l k h =
      let ns : List Node = decode ws ks n in
      by_words w (λ y m. a.idx < m → b.idx < m → BothKnown y ns a b l → Inside m l.pairs
      → let o : Out = does (unify_f y m f) ns l in SelfsKept o.nodes (settle o.nodes a b o.answer).nodes)
      (λ ga gb. closes w.env w.sound f a b ga gb ra rb l) ha hb k h

-- the children that two roots ask for: what they ask, what settling asks after them, and the way out

module _ {x : Texts} {ws ks m ws₂ m₂ : List ℕ} {n d : ℕ} {p q : Ty} {l : Steps} {began a b : ℕ} (h : Left x ws ks m ws₂ m₂ n d p q l began a b) where
  abbrev c : AtRoots x ws ks m ws₂ m₂ n d p q a b (Some h.plan)
  c = h.roots

  abbrev words : SoundWords x ws₂ ks n
  words = c.up.tops.pair.words

  abbrev whole : Out
  whole = unify_f x n d (decode ws ks n) p q

  -- the children's plan
  planned : steps_mean ks x l ≡ plan_means ks x h.plan
  planned = h.stepped.same ks x

  -- what holds of the pairs that the meeting asks for holds of the steps'
  of_met : (P : List (Ty × Ty) → Type 0) → P (pairs_of x ks (Some h.plan)) → P (steps_mean ks x l).pairs
  of_met P g = subst (λ (o : scope.Plan). P o.pairs) (sym planned) g

  kids_inside : Inside n (steps_mean ks x l).pairs
  kids_inside = of_met (Inside n) c.met.inside

  kids_asked : Asked x ws₂ ks m₂ n (d - 1) (steps_mean ks x l).pairs
  kids_asked = record {
    pairs = record { words = words; inside = kids_inside };
    enough = words_kids words (ty_of a) (ty_of b) c.up.tops.pair.first c.up.tops.first c.up.enough c.up.deep (steps_mean ks x l).pairs
        (of_met (λ ps. (p : Ty × Ty) → Memᴰ p ps → Memᴰ p.0 (kids_of (state_in (decode ws₂ ks n) (ty_of a)))) c.met.left);
    recalls = c.up.recalls;
  }

  pub kids_asks : Asked x ws₂ ks m₂ n (d - 1) (steps_mean ks x l).pairs × StepsReady x ks l
  kids_asks = (kids_asked, h.stepped.ready ks x c.met.ready.1)

  module _ {ws₃ m₃ : List ℕ} {r : UnifyResult} (v : Unified x ws₂ ks m₂ ws₃ m₃ n (does (unify_f x n (d - 1)) (decode ws₂ ks n) (steps_mean ks x l)) r) where
    pub kids_settles : Settles ws₃ n m₃ (ty_of a) (ty_of b)
    kids_settles =
        let o = steps_mean ks x l in
        let t = c.up.tops.pair in
        record {
          adds = words_add (words_run words (d - 1) o.base o.pairs kids_inside v.leaves) (ty_of a) (ty_of b) t.first t.second;
          small = words.small;
          tidy = v.recalls.tidy;
        }

    module _ {ws₄ m₄ : List ℕ} {s : UnifyResult} (o : SettledTold ws₃ ws₄ n m₃ m₄ began a b r s) where
      ends : whole ≡ out (decode ws₄ ks n) (answer_of s)
      ends = went c refl
          ∙ (ap (λ (o : scope.Plan). let t : Out = does (unify_f x n (d - 1)) (decode ws₂ ks n) o in settle t.nodes (ty_of a) (ty_of b) t.answer) (sym planned)
          ∙ (ap (λ (t : Out). settle t.nodes (ty_of a) (ty_of b) t.answer) v.leaves.same
          ∙ o.settled.nodes ks words.children (v.leaves.clean words.children words.clean)))

      settled : SelfsKept (decode ws₃ ks n) (decode ws₄ ks n)
      settled =
          let ns : List Node = decode ws₂ ks n in
          let t = c.up.tops in
          let all : (o : Out) → Type 0 = λ o. SelfsKept o.nodes (settle o.nodes (ty_of a) (ty_of b) o.answer).nodes in
          let y : all (does (unify_f x n (d - 1)) ns (steps_mean ks x l)) =
          words_closes words (d - 1) (ty_of a) (ty_of b) t.pair.first t.pair.second t.first t.second (steps_mean ks x l)
          (subst (BothKnown x ns (ty_of a) (ty_of b)) (sym planned) c.met.kinds) kids_inside in
          subst (λ (z : Out). SelfsKept (decode ws₃ ks n) z.nodes) (o.settled.nodes ks words.children (v.leaves.clean words.children words.clean))
          (subst all v.leaves.same y)

      -- what is believed now was believed after the children, or it is this visit's answer and no node changed in it
      believed_now : (a' b' : ℕ) (q' : UnifyResult) → (Believed m₃ a' b' q' ⊎ New m₃ began a b s a' b' q') × (decode ws₄ ks n ≡ decode ws₃ ks n)
          → Meets x n (decode ws₄ ks n) a' b' q'
      believed_now a' b' q' (inl w, f) = subst (λ (l : List Node). Meets x n l a' b' q') (sym f) (v.recalls.true a' b' q' w)
      believed_now a' b' q' (inr w, f) =
          let g : decode ws₄ ks n ≡ decode ws₂ ks n = f ∙ v.since.still w.running (w.now ∙ h.began) in
          let y : meet (unify_f x n n) x n (decode ws₂ ks n) (ty_of a) (ty_of b) ≡ out (decode ws₂ ks n) (answer_of s) =
          sym (deep_enough c) ∙ (sym c.up.same ∙ (ends ∙ ap (λ (l : List Node). out l (answer_of s)) g)) in
          rw (w.first, w.second, w.answer) (subst (λ (l : List Node). Meets x n l a b s) (sym g) (record { same = y }))

      pub way_kids : Unified x ws ks m ws₄ m₄ n whole s
      way_kids = record {
        leaves = record {
          same = ends;
          clean = λ i cl. o.settled.clean ks i (v.leaves.clean i (c.up.clean i cl));
          tail = o.settled.tail ∙ (v.leaves.tail ∙ c.up.tail);
        };
        recalls = record {
          tidy = (o.told ks).tidy;
          true = λ a' b' q' w. believed_now a' b' q' ((o.told ks).believed a' b' q' w);
          marks = marks_kept settled o.marks v.recalls.marks;
        };
        since = since_then c.up.since (since_then v.since (o.told ks).since);
      }
