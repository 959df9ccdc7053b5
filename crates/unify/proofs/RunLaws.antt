-- Pairs in order: a step for each pair, what is left of a run and of an object. A loop's invariant is that what is left gives the whole; one law for each way out of
-- `unify_types` and `unify_objects`.
-- Assumes nothing.
use mathlib.Core.Path.{◌≡◌, refl, ap, sym, subst, ◌∙◌}
use mathlib.Core.List.Memᴰ
use mathlib.Core.List.{List, [], ◌∷◌, ◌++◌}
use mathlib.Core.Bool.{Bool}
use mathlib.Core.Option.{Option}
use Prim.Native.Nat.{ℕ, suc, ◌+◌, ◌-◌, ◌<◌, ◌≤◌}
use native.Mathlib.Omega.{arith}
use lib.Dec.{eqb}
use lib.ListN.{drop}
use borrow.Author.Tests.{eq-eqb, ne_eqb}
use Rattle.scope.specs.Names.{Texts, Name}
use Rattle.scope.specs.Types.{Ty, ty_of, flip}
use Rattle.scope.specs.Nodes.{Node}
use Rattle.scope.specs.Answers.{Answer, Success, Failure, Indeterminate, both, of_bool}
use Rattle.scope.specs.Unify.{Plan, Out, out, run, unify_f, answers, zipped, run_plan, shared, shared_names, object_plan, after}
use Rattle.scope.proofs.Laws.{both_assoc, both_comm}
use Rattle.types.specs.Answers.{answer_of}
use Rattle.types.specs.declared.«Type».{«Type»}
use Rattle.types.specs.declared.UnifyResult.{UnifyResult}
use Rattle.types.specs.declared.UnifyResult.TheVariants as code
use Rattle.layout.specs.Words.{node_words, slot_at, decode}
use Rattle.layout.specs.Meaning.{Clean}
use Rattle.scope.proofs.Enough.{enough_part}
use Rattle.recall.specs.Memory.{clock_of}
use Rattle.heed.specs.Recalls.{Since}
use Rattle.heed.proofs.Laws.{since_same, since_then}
use Rattle.plan.specs.Meaning.{kids_from, names_from, plan_means}
use Rattle.plan.specs.declared.Runs.{Runs}
use Rattle.plan.specs.declared.Plan.TheVariants as plans
use Rattle.meeting.specs.Meets.{does}
use Rattle.meeting.specs.Kids.{objects_of, slot_place, sought_means, sought_in}
use Rattle.meeting.specs.Kids.{Sought}
use Rattle.std.specs.declared.option.Option.TheVariants as found
use Rattle.meeting.proofs.KidLaws.{one_more, none_left, kid_length, kid_ty, slot_bytes}
use Rattle.unify.specs.Asked.{Asked, Unified}
use Rattle.unify.proofs.Laws.{words_pair, words_enough}

-- answers

both_turn : (a b c : Answer) → both (both a b) c ≡ both (both a c) b
both_turn a b c = both_assoc a b c ∙ (ap (both a) (both_comm b c) ∙ sym (both_assoc a c b))

pub both_success : (a : Answer) → a ≡ both a Success
both_success a = both_comm Success a

both_fails : (a b : Answer) → both a Failure ≡ both (both a Failure) b
both_fails Success b = refl
both_fails Failure b = refl
both_fails Indeterminate b = refl

-- runs of pairs

module _ (u : List Node → Ty → Ty → Out) where
  run_append : (ns : List Node) (r : Answer) (ps qs : List (Ty × Ty)) → run u ns r (ps ++ qs) ≡ run u (run u ns r ps).nodes (run u ns r ps).answer qs
  unfolding run
  run_append ns r [] qs = refl
  run_append ns r (p ∷ ps) qs = run_append (u ns p.0 p.1).nodes (both r (u ns p.0 p.1).answer) ps qs

  pub run_base : (ns : List Node) (b r : Answer) (ps : List (Ty × Ty)) → run u ns (both b r) ps ≡ out (run u ns r ps).nodes (both b (run u ns r ps).answer)
  unfolding run
  run_base ns b r [] = refl
  run_base ns b r (p ∷ ps) =
      ap (λ (t : Answer). run u (u ns p.0 p.1).nodes t ps) (both_assoc b r (u ns p.0 p.1).answer)
      ∙ run_base (u ns p.0 p.1).nodes b (both r (u ns p.0 p.1).answer) ps

  -- one plan after another
  abbrev next : Out → Plan → Out
  next o m = out (does u o.nodes m).nodes (both o.answer (does u o.nodes m).answer)

  pub does_after : (ns : List Node) (l m : Plan) {o : Out} → does u ns l ≡ o → does u ns (after l m) ≡ next o m
  does_after ns l m e =
      let o : Out = does u ns l in
      run_append ns (both l.base m.base) l.pairs m.pairs
      ∙ (ap (λ (v : Out). run u v.nodes v.answer m.pairs)
      (ap (λ (t : Answer). run u ns t l.pairs) (both_comm l.base m.base) ∙ run_base ns m.base l.base l.pairs)
      ∙ (ap (λ (t : Answer). run u o.nodes t m.pairs) (both_comm m.base o.answer)
      ∙ (run_base o.nodes o.answer m.base m.pairs ∙ ap (λ (v : Out). next v m) e)))

  run_one : (ns : List Node) (r : Answer) (p : Ty × Ty) (ps : List (Ty × Ty))
      → run u ns r (p ∷ ps) ≡ run u (u ns p.0 p.1).nodes (both r (u ns p.0 p.1).answer) ps
  unfolding run
  run_one ns r p ps = refl

  run_none : (ns : List Node) (r : Answer) → run u ns r [] ≡ out ns r
  unfolding run
  run_none ns r = refl

-- pairs that are left give the whole o
pub record Going (x : Texts) (ws₀ ks m₀ : List ℕ) (n d : ℕ) (o : Out) (ws m : List ℕ) (base : Answer) (ps : List (Ty × Ty)) : Type 0 where
  pub asked : Asked x ws ks m n d ps
  pub clean : (c : ℕ) → Clean ws₀ ks c n → Clean ws ks c n
  pub tail : drop (node_words n) ws ≡ drop (node_words n) ws₀
  pub rest : run (unify_f x n d) (decode ws ks n) base ps ≡ o
  pub since : Since (clock_of m₀) (clock_of m) (decode ws₀ ks n) (decode ws ks n)

pub going_start : {x : Texts} {ws ks m : List ℕ} {n d : ℕ} {o : Out} (l k : Plan) → o ≡ does (unify_f x n d) (decode ws ks n) l → l ≡ k
    → Asked x ws ks m n d l.pairs → Going x ws ks m n d o ws m k.base k.pairs
going_start {x} {ws} {ks} {m} {n} {d} l k f e p = record {
  asked = subst (λ (t : Plan). Asked x ws ks m n d t.pairs) e p;
  clean = λ c cl. cl;
  tail = refl;
  rest = ap (does (unify_f x n d) (decode ws ks n)) (sym e) ∙ sym f;
  since = since_same;
}

module _ {x : Texts} {ws₀ ks m₀ : List ℕ} {n d : ℕ} {o : Out} {ws m : List ℕ} {base : Answer} where
  -- the same pairs, said otherwise
  pub going_to : {base' : Answer} {ps qs : List (Ty × Ty)} → base ≡ base' → ps ≡ qs → Going x ws₀ ks m₀ n d o ws m base ps → Going x ws₀ ks m₀ n d o ws m base' qs
  going_to e f g = rw (← e, ← f) g

  pub going_pair : {p : Ty × Ty} {ps : List (Ty × Ty)} → Going x ws₀ ks m₀ n d o ws m base (p ∷ ps) → Asked x ws ks m n d (p ∷ [])
  going_pair {p} {ps} g = record {
    pairs = record { words = g.asked.pairs.words; inside = λ q w. g.asked.pairs.inside q (Memᴰ.append_left ps w) };
    enough = enough_part (λ q w. Memᴰ.append_left ps w) g.asked.enough;
    recalls = g.asked.recalls;
  }

  pub going_on : {p : Ty × Ty} {ps : List (Ty × Ty)} {ws' m' : List ℕ} {r : UnifyResult} → Going x ws₀ ks m₀ n d o ws m base (p ∷ ps)
      → Unified x ws ks m ws' m' n (unify_f x n d (decode ws ks n) p.0 p.1) r → Going x ws₀ ks m₀ n d o ws' m' (both base (answer_of r)) ps
  unfolding run
  going_on {p} {ps} {ws'} {m'} {r} g u =
      let l = u.leaves in
      let w = g.asked.pairs.words in
      let h = g.asked.pairs.inside p (Memᴰ.head refl) in
      record {
        asked = record {
          pairs = record { words = words_pair w d p.0 p.1 h.0 h.1 l; inside = λ q w. g.asked.pairs.inside q (Memᴰ.tail w) };
          enough = words_enough w d Success (p ∷ []) ps g.asked.pairs.inside g.asked.enough l;
          recalls = u.recalls;
        };
        clean = λ c cl. l.clean c (g.clean c cl);
        tail = l.tail ∙ g.tail;
        rest = sym (run_one (unify_f x n d) (decode ws ks n) base p ps ∙ ap (λ (t : Out). run (unify_f x n d) t.nodes (both base t.answer) ps) l.same) ∙ g.rest;
        since = since_then g.since u.since;
      }

  pub going_end : {r : UnifyResult} → base ≡ answer_of r → Going x ws₀ ks m₀ n d o ws m base [] → Unified x ws₀ ks m₀ ws m n o r
  going_end {r} e g = record {
    leaves = record {
      same = sym g.rest ∙ (run_none (unify_f x n d) (decode ws ks n) base ∙ ap (out (decode ws ks n)) e);
      clean = g.clean;
      tail = g.tail;
    };
    recalls = g.asked.recalls;
    since = g.since;
  }

-- the next pair's first type is in the word a, and its second, in the word b, is the one in the word t inverted if v
next_pair : {x : Texts} {ws₀ ks m₀ : List ℕ} {n d : ℕ} {o : Out} {ws m : List ℕ} {base : Answer} {a w : ℕ} {ps : List (Ty × Ty)} (v : Bool) (b t : ℕ)
    → Going x ws₀ ks m₀ n d o ws m base ((ty_of w, flip v (ty_of t)) ∷ ps) → a ≡ w → ty_of b ≡ flip v (ty_of t) → Going x ws₀ ks m₀ n d o ws m base ((ty_of a, ty_of b) ∷ ps)
next_pair {a = a} {ps = ps} v b t g ea eb =
    going_to refl (ap (λ (y : Ty). (y, flip v (ty_of t)) ∷ ps) (ap ty_of (sym ea)) ∙ ap (λ (y : Ty). (ty_of a, y) ∷ ps) (sym eb)) g

-- `unify_types`

-- the pairs of a run from the i-th on
abbrev run_rest : List ℕ → Runs → ℕ → List (Ty × Ty)
run_rest ks s i = zipped s.inv.0 (kids_from ks (s.a + i) (s.na - i)) (kids_from ks (s.b + i) (s.na - i))

-- what a run asks of ws₀ is left to be done from ws, once its first i pairs answered r
pub record RunLeft (x : Texts) (ws₀ ks m₀ : List ℕ) (n d : ℕ) (s : Runs) (ws m : List ℕ) (r : UnifyResult) (i : ℕ) : Type 0 where
  pub going : Going x ws₀ ks m₀ n d (does (unify_f x n d) (decode ws₀ ks n) (plan_means ks x (plans.Run s))) ws m (answer_of r) (run_rest ks s i)

-- the same, and the next pair's types are in the words a and b
pub record RunNext (x : Texts) (ws₀ ks m₀ : List ℕ) (n d : ℕ) (s : Runs) (ws m : List ℕ) (r : UnifyResult) (i a b : ℕ) : Type 0 where
  pub going : Going x ws₀ ks m₀ n d (does (unify_f x n d) (decode ws₀ ks n) (plan_means ks x (plans.Run s))) ws m (answer_of r)
      ((ty_of a, ty_of b) ∷ run_rest ks s (i + 1))

module _ (x : Texts) (ks : List ℕ) (s : Runs) where
  run_differ : (s.na ≡ s.nb → ⊥) → plan_means ks x (plans.Run s) ≡ answers Failure
  unfolding plan_means run_plan
  run_differ h = rw (kid_length ks s.a s.na, kid_length ks s.b s.nb, ne_eqb s.na s.nb h)

  run_whole : s.na ≡ s.nb → plan_means ks x (plans.Run s) ≡ record { base = Success; pairs = run_rest ks s 0 }
  unfolding plan_means run_plan
  run_whole e =
      let z : s.na - 0 ≡ s.na = omega arith in
      let p : s.a + 0 ≡ s.a = omega arith in
      let q : s.b + 0 ≡ s.b = omega arith in
      rw (kid_length ks s.a s.na, kid_length ks s.b s.nb, eq-eqb s.na s.nb e, ← e, z, p, q) refl

  run_more : (i : ℕ) → i < s.na → run_rest ks s i ≡ (kid_ty ks (s.a + i), flip s.inv.0 (kid_ty ks (s.b + i))) ∷ run_rest ks s (i + 1)
  unfolding zipped
  run_more i h =
      let p : s.a + (i + 1) ≡ suc (s.a + i) = omega arith in
      let q : s.b + (i + 1) ≡ suc (s.b + i) = omega arith in
      rw (one_more s.na i h, p, q) refl

  run_over : (i : ℕ) → s.na ≤ i → run_rest ks s i ≡ []
  unfolding zipped
  run_over i h = rw (none_left s.na i h) refl

pub run_fails : {x : Texts} {ws ks m : List ℕ} {n d : ℕ} (s : Runs) → Asked x ws ks m n d (plan_means ks x (plans.Run s)).pairs → (s.na ≡ s.nb → ⊥)
    → Unified x ws ks m ws m n (does (unify_f x n d) (decode ws ks n) (plan_means ks x (plans.Run s))) code.Failure
unfolding run
run_fails {x} {ws} {ks} {n = n} {d = d} s p h = record {
  leaves = record { same = ap (does (unify_f x n d) (decode ws ks n)) (run_differ x ks s h); clean = λ c cl. cl; tail = refl };
  recalls = p.recalls;
  since = since_same;
}

pub run_start : {x : Texts} {ws ks m : List ℕ} {n d : ℕ} {s : Runs} → Asked x ws ks m n d (plan_means ks x (plans.Run s)).pairs → s.na ≡ s.nb
    → RunLeft x ws ks m n d s ws m code.Success 0
run_start {x} {ws} {ks} {m} {n} {d} {s} p e = record {
  going = going_start (plan_means ks x (plans.Run s)) (record { base = Success; pairs = run_rest ks s 0 }) refl (run_whole x ks s e) p;
}

module _ {x : Texts} {ws₀ ks m₀ : List ℕ} {n d : ℕ} {s : Runs} {ws m : List ℕ} {r : UnifyResult} {i : ℕ} where
  pub run_pair : {a b t : ℕ} → RunLeft x ws₀ ks m₀ n d s ws m r i → i < s.na → a ≡ (slot_at ks (s.a + i)).type → t ≡ (slot_at ks (s.b + i)).type
      → ty_of b ≡ flip s.inv.0 (ty_of t) → RunNext x ws₀ ks m₀ n d s ws m r i a b
  run_pair {b = b} g h ea et eb = record {
    going = next_pair s.inv.0 b (slot_at ks (s.b + i)).type (going_to refl (run_more x ks s i h) g.going) ea (rw (← et) eb);
  }

  pub run_asks : {a b : ℕ} → RunNext x ws₀ ks m₀ n d s ws m r i a b → Asked x ws ks m n d ((ty_of a, ty_of b) ∷ [])
  run_asks p = going_pair p.going

  pub run_next : {a b : ℕ} {ws' m' : List ℕ} {q r' : UnifyResult} → RunNext x ws₀ ks m₀ n d s ws m r i a b
      → Unified x ws ks m ws' m' n (unify_f x n d (decode ws ks n) (ty_of a) (ty_of b)) q → answer_of r' ≡ both (answer_of r) (answer_of q) → RunLeft x ws₀ ks m₀ n d s ws' m' r' (i + 1)
  run_next p l e = record { going = going_to (sym e) refl (going_on p.going l) }

  pub run_ends : RunLeft x ws₀ ks m₀ n d s ws m r i → s.na ≤ i → Unified x ws₀ ks m₀ ws m n (does (unify_f x n d) (decode ws₀ ks n) (plan_means ks x (plans.Run s))) r
  run_ends g h = going_end refl (going_to refl (run_over x ks s i h) g.going)

-- `unify_objects`, and lent entries: the first object's children lie in xs, the second's in ys

-- what the names from the i-th on ask
abbrev object_rest : Texts → List ℕ → List ℕ → Runs → ℕ → Plan
object_rest x xs ys s i =
    shared_names x s.inv.0 (names_from xs (s.a + i) (s.na - i)) (kids_from xs (s.a + i) (s.na - i)) (names_from ys s.b s.nb) (kids_from ys s.b s.nb)

-- what two objects ask of ws₀ is left to be done from ws, once the first i names answered r
pub record ObjectLeft (x : Texts) (xs ys ws₀ ks m₀ : List ℕ) (n d : ℕ) (s : Runs) (ws m : List ℕ) (r : UnifyResult) (i : ℕ) : Type 0 where
  pub going : Going x ws₀ ks m₀ n d (does (unify_f x n d) (decode ws₀ ks n) (objects_of x xs ys s)) ws m
      (both (answer_of r) (object_rest x xs ys s i).base) (object_rest x xs ys s i).pairs

-- the same, and the next name's types are in the words a and b
pub record ObjectNext (x : Texts) (xs ys ws₀ ks m₀ : List ℕ) (n d : ℕ) (s : Runs) (ws m : List ℕ) (r : UnifyResult) (i a b : ℕ) : Type 0 where
  pub going : Going x ws₀ ks m₀ n d (does (unify_f x n d) (decode ws₀ ks n) (objects_of x xs ys s)) ws m
      (both (answer_of r) (object_rest x xs ys s (i + 1)).base) ((ty_of a, ty_of b) ∷ (object_rest x xs ys s (i + 1)).pairs)

module _ (x : Texts) (xs ys : List ℕ) (s : Runs) where
  object_whole : (r : UnifyResult) → answer_of r ≡ of_bool (eqb s.na s.nb)
      → objects_of x xs ys s ≡ record { base = both (answer_of r) (object_rest x xs ys s 0).base; pairs = (object_rest x xs ys s 0).pairs }
  unfolding object_plan
  object_whole r e =
      let z : s.na - 0 ≡ s.na = omega arith in
      let p : s.a + 0 ≡ s.a = omega arith in
      rw (kid_length xs s.a s.na, kid_length ys s.b s.nb, ← e, z, p) refl

  object_step : (i : ℕ) → i < s.na → object_rest x xs ys s i
      ≡ after (shared s.inv.0 (kid_ty xs (s.a + i)) (sought_in x ys (slot_place (slot_at xs (s.a + i))) s.b s.nb)) (object_rest x xs ys s (i + 1))
  unfolding shared_names
  object_step i h =
      let p : s.a + (i + 1) ≡ suc (s.a + i) = omega arith in
      rw (one_more s.na i h, p, ← slot_bytes x (slot_at xs (s.a + i))) refl

  object_over : (i : ℕ) → s.na ≤ i → object_rest x xs ys s i ≡ answers Success
  unfolding shared_names
  object_over i h = rw (none_left s.na i h) refl

pub object_start : {x : Texts} {xs ys ws ks m : List ℕ} {n d : ℕ} {s : Runs} {r : UnifyResult} → Asked x ws ks m n d (objects_of x xs ys s).pairs
    → answer_of r ≡ of_bool (eqb s.na s.nb) → ObjectLeft x xs ys ws ks m n d s ws m r 0
object_start {x} {xs} {ys} {s = s} {r = r} p e = record { going = going_start (objects_of x xs ys s) _ refl (object_whole x xs ys s r e) p }

module _ {x : Texts} {xs ys ws₀ ks m₀ : List ℕ} {n d : ℕ} {s : Runs} {ws m : List ℕ} {r : UnifyResult} {i : ℕ} (g : ObjectLeft x xs ys ws₀ ks m₀ n d s ws m r i) where
  abbrev rest : Plan
  rest = object_rest x xs ys s (i + 1)

  -- the i-th name's place v, and what was found beside it in the second object
  module _ (h : i < s.na) {v : Name} {f : Sought} (em : v ≡ slot_place (slot_at xs (s.a + i))) (ef : sought_means f ≡ sought_in x ys v s.b s.nb) where
    object_to : (k : Sought) → f ≡ k → object_rest x xs ys s i ≡ after (shared s.inv.0 (kid_ty xs (s.a + i)) (sought_means k)) rest
    object_to k e = object_step x xs ys s i h ∙ ap (λ (v : Option Ty). after (shared s.inv.0 (kid_ty xs (s.a + i)) v) rest)
        (ap (λ (w : Name). sought_in x ys w s.b s.nb) (sym em) ∙ (sym ef ∙ ap sought_means e))

    pub object_none : {r' : UnifyResult} → f ≡ found.None → answer_of r' ≡ both (answer_of r) Failure → ObjectLeft x xs ys ws₀ ks m₀ n d s ws m r' (i + 1)
    object_none e q =
        let l = object_to found.None e in
        record {
          going = going_to
              (ap (λ (t : Plan). both (answer_of r) t.base) l ∙ (both_fails (answer_of r) rest.base ∙ ap (λ (t : Answer). both t rest.base) (sym q)))
              (ap (λ (t : Plan). t.pairs) l) g.going;
        }

    -- the name is there: one pair, and the rest
    pub object_pair : {a b : ℕ} {t : «Type»} → f ≡ found.Some t → a ≡ (slot_at xs (s.a + i)).type → ty_of b ≡ flip s.inv.0 (ty_of t.0)
        → ObjectNext x xs ys ws₀ ks m₀ n d s ws m r i a b
    object_pair {b = b} {t = t} e ea eb =
        let l = object_to (found.Some t) e in
        record { going = next_pair s.inv.0 b t.0 (going_to (ap (λ (p : Plan). both (answer_of r) p.base) l) (ap (λ (p : Plan). p.pairs) l) g.going) ea eb }

  pub object_ends : s.na ≤ i → Unified x ws₀ ks m₀ ws m n (does (unify_f x n d) (decode ws₀ ks n) (objects_of x xs ys s)) r
  object_ends h =
      let e = object_over x xs ys s i h in
      going_end (both_comm (answer_of r) Success) (going_to (ap (λ (l : Plan). both (answer_of r) l.base) e) (ap (λ (l : Plan). l.pairs) e) g.going)

module _ {x : Texts} {xs ys ws₀ ks m₀ : List ℕ} {n d : ℕ} {s : Runs} {ws m : List ℕ} {r : UnifyResult} {i a b : ℕ} (p : ObjectNext x xs ys ws₀ ks m₀ n d s ws m r i a b) where
  pub object_asks : Asked x ws ks m n d ((ty_of a, ty_of b) ∷ [])
  object_asks = going_pair p.going

  pub object_next : {ws' m' : List ℕ} {q r' : UnifyResult} → Unified x ws ks m ws' m' n (unify_f x n d (decode ws ks n) (ty_of a) (ty_of b)) q
      → answer_of r' ≡ both (answer_of r) (answer_of q) → ObjectLeft x xs ys ws₀ ks m₀ n d s ws' m' r' (i + 1)
  object_next {q = q} l e =
      let rest : Plan = object_rest x xs ys s (i + 1) in
      record {
        going = going_to (both_turn (answer_of r) rest.base (answer_of q) ∙ ap (λ (v : Answer). both v rest.base) (sym e)) refl (going_on p.going l);
      }

-- two objects of one store

pub stored_start : {x : Texts} {ws ks m : List ℕ} {n d : ℕ} {s : Runs} {r : UnifyResult} → Asked x ws ks m n d (plan_means ks x (plans.Object s)).pairs
    → answer_of r ≡ of_bool (eqb s.na s.nb) → ObjectLeft x ks ks ws ks m n d s ws m r 0
unfolding plan_means
stored_start p e = object_start p e

pub stored_ends : {x : Texts} {ws₀ ks m₀ : List ℕ} {n d : ℕ} {s : Runs} {ws m : List ℕ} {r : UnifyResult} {i : ℕ} → ObjectLeft x ks ks ws₀ ks m₀ n d s ws m r i
    → s.na ≤ i → Unified x ws₀ ks m₀ ws m n (does (unify_f x n d) (decode ws₀ ks n) (plan_means ks x (plans.Object s))) r
unfolding plan_means
stored_ends g h = object_ends g h
