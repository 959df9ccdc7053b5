-- `unify`, `unify_types`, `unify_objects`, `unify_fn_sig` and `unify_impl_type` as scope has them: the depth is the node count, and it stays. What is left of two
-- lent lists gives the whole. One law for each way out.
-- Assumes nothing.
use mathlib.Core.Path.{◌≡◌, refl, ap, sym, subst, ◌∙◌}
use mathlib.Core.Bool.{Bool, false}
use mathlib.Core.List.Memᴰ
use mathlib.Core.List.{List, [], ◌∷◌}
use Prim.Native.Nat.{ℕ, ◌+◌, ◌<◌, ◌≤◌}
use native.Mathlib.Numerals.{add-one}
use native.Mathlib.Omega.{arith}
use lib.Dec.{eqb}
use lib.ListN.{length, get_or, drop, length-map, drop_of_length-le}
use lib.Seq.{drop-cons}
use Rattle.std.specs.Borrow.{Bor}
use borrow.Author.Tests.{eq-eqb, ne_eqb}
use Rattle.scope.specs.Names.{Texts}
use Rattle.scope.specs.Types.{Ty, ty_of, flip}
use Rattle.scope.specs.Answers.{Success, Failure, both, of_bool}
use Rattle.scope.specs.Unify.{Plan, Out, run, answers, zipped, run_plan, unify_f, unify, carry, unify_types, unify_objects, unify_fn_sig, impl_plan, unify_impl_type}
use Rattle.scope.proofs.Depth.{carry_depth}
use Rattle.scope.proofs.Enough.{enough_part}
use Rattle.types.specs.Answers.{answer_of}
use Rattle.types.specs.Impls.{impl_means}
use Rattle.types.specs.declared.Impl.{Impl}
use Rattle.types.specs.declared.Impl.TheVariants as impl
use Rattle.types.specs.declared.Inverted.{Inverted}
use Rattle.types.specs.declared.UnifyResult.{UnifyResult}
use Rattle.types.specs.declared.UnifyResult.TheVariants as code
use Rattle.layout.specs.Words.{decode}
use Rattle.layout.proofs.Laws.{length_decode}
use Rattle.store.specs.Entries.{entry_count, entry_names, entry_types, types_in}
use Rattle.heed.proofs.Laws.{since_same, since_then}
use Rattle.meeting.specs.Asks.{Pairs}
use Rattle.meeting.specs.Meets.{does}
use Rattle.meeting.specs.Kids.{objects_of}
use Rattle.unify_enter.specs.Leaves.{Leaves}
use Rattle.unify.specs.Asked.{Asked, Unified}
use Rattle.unify.proofs.Laws.{words_run, words_enough}
use Rattle.unify.proofs.RunLaws.{Going, going_start, going_to, going_pair, going_on, going_end, does_after, ObjectLeft, object_start, object_ends}
use Rattle.unify_lists.specs.Lent.{from_first, sig_plan, Lists, Objects, Signatures, Impls}

-- the node count is the depth

pub whole_depth : {x : Texts} {ws ks m ws' m' : List ℕ} {n : ℕ} {a b : Ty} {r : UnifyResult} → Asked x ws ks m n n ((a, b) ∷ [])
    → Unified x ws ks m ws' m' n (unify_f x n n (decode ws ks n) a b) r
    → Unified x ws ks m ws' m' n (unify x (decode ws ks n) a b) r
unfolding unify
whole_depth {x} {ws} {ks} {m} {ws'} {m'} {n} {a} {b} {r} p l =
    subst (λ (k : ℕ). Unified x ws ks m ws' m' n (unify_f x k k (decode ws ks n) a b) r) (sym (length_decode ws ks n)) l

carries : {x : Texts} {ws ks : List ℕ} {n : ℕ} (l : Plan) → Pairs x ws ks n l.pairs → carry x (decode ws ks n) l ≡ does (unify_f x n n) (decode ws ks n) l
carries {x} {ws} {ks} {n} l p =
    let w = p.words in
    subst (λ (y : Texts). run (unify y) (decode ws ks n) l.base l.pairs ≡ run (unify_f y n n) (decode ws ks n) l.base l.pairs) w.lent
    (carry_depth w.env w.sound n (length_decode ws ks n) l.base l.pairs p.inside)

-- a plan that only answers
says : {x : Texts} {ws ks m : List ℕ} {n : ℕ} (l : Plan) → Asked x ws ks m n n l.pairs → (r : UnifyResult) → l ≡ answers (answer_of r)
    → Unified x ws ks m ws m n (carry x (decode ws ks n) l) r
unfolding run
says {x} {ws} {ks} {n = n} l w r e = record {
  leaves = record { same = ap (carry x (decode ws ks n)) e; clean = λ c cl. cl; tail = refl };
  recalls = w.recalls;
  since = since_same;
}

-- two lists

-- the pairs of two lists from the i-th on
abbrev list_rest : Bool → List ℕ → List ℕ → ℕ → List (Ty × Ty)
list_rest v xs ys i = zipped v (types_in (drop i xs)) (types_in (drop i ys))

-- what two lists ask of ws₀ is left to be done from ws, once their first i pairs answered r
pub record ListLeft (x : Texts) (ws₀ ks m₀ : List ℕ) (n : ℕ) (xs ys : List ℕ) (v : Bool) (ws m : List ℕ) (r : UnifyResult) (i : ℕ) : Type 0 where
  pub going : Going x ws₀ ks m₀ n n (unify_types x (decode ws₀ ks n) (types_in xs) (types_in ys) v) ws m (answer_of r) (list_rest v xs ys i)

-- the same, and the next pair is of the types in the words a and b
pub record ListNext (x : Texts) (ws₀ ks m₀ : List ℕ) (n : ℕ) (xs ys : List ℕ) (v : Bool) (ws m : List ℕ) (r : UnifyResult) (i a b : ℕ) : Type 0 where
  pub going : Going x ws₀ ks m₀ n n (unify_types x (decode ws₀ ks n) (types_in xs) (types_in ys) v) ws m (answer_of r)
      ((ty_of a, ty_of b) ∷ list_rest v xs ys (i + 1))

lists_length : (xs : List ℕ) → length (types_in xs) ≡ length xs
lists_length xs = length-map xs ty_of

list_differ : (v : Bool) (xs ys : List ℕ) → (length xs ≡ length ys → ⊥) → run_plan v (types_in xs) (types_in ys) ≡ answers Failure
unfolding run_plan
list_differ v xs ys h = rw (lists_length xs, lists_length ys, ne_eqb (length xs) (length ys) h)

list_whole : (v : Bool) (xs ys : List ℕ) → length xs ≡ length ys → run_plan v (types_in xs) (types_in ys) ≡ record { base = Success; pairs = list_rest v xs ys 0 }
unfolding run_plan
list_whole v xs ys e = rw (lists_length xs, lists_length ys, eq-eqb (length xs) (length ys) e) refl

list_more : (v : Bool) (xs ys : List ℕ) (i : ℕ) → i < length xs → i < length ys
    → list_rest v xs ys i ≡ (ty_of (get_or xs i 0), flip v (ty_of (get_or ys i 0))) ∷ list_rest v xs ys (i + 1)
unfolding zipped
list_more v xs ys i h g = rw (add-one i, drop-cons xs i 0 h, drop-cons ys i 0 g) refl

list_over : (v : Bool) (xs ys : List ℕ) (i : ℕ) → length xs ≤ i → list_rest v xs ys i ≡ []
unfolding zipped
list_over v xs ys i h = rw (drop_of_length-le xs {i = i} h) refl

lists_carry : {x : Texts} {ws ks : List ℕ} {n : ℕ} (v : Bool) (xs ys : List ℕ) → Pairs x ws ks n (run_plan v (types_in xs) (types_in ys)).pairs
    → unify_types x (decode ws ks n) (types_in xs) (types_in ys) v ≡ does (unify_f x n n) (decode ws ks n) (run_plan v (types_in xs) (types_in ys))
unfolding unify_types
lists_carry v xs ys p = carries (run_plan v (types_in xs) (types_in ys)) p

module _ {x : Texts} {ws ks m : List ℕ} {n : ℕ} {xs ys : List ℕ} {inv : Inverted} (p : Lists x ws ks m n xs ys inv) where
  pub lists_differ : (length xs ≡ length ys → ⊥) → Unified x ws ks m ws m n (unify_types x (decode ws ks n) (types_in xs) (types_in ys) inv.0) code.Failure
  unfolding unify_types
  lists_differ h = says (run_plan inv.0 (types_in xs) (types_in ys)) p.asked code.Failure (list_differ inv.0 xs ys h)

  pub lists_start : length xs ≡ length ys → ListLeft x ws ks m n xs ys inv.0 ws m code.Success 0
  lists_start e = record {
    going = going_start (run_plan inv.0 (types_in xs) (types_in ys)) (record { base = Success; pairs = list_rest inv.0 xs ys 0 })
        (lists_carry inv.0 xs ys p.asked.pairs) (list_whole inv.0 xs ys e) p.asked;
  }

module _ {x : Texts} {ws₀ ks m₀ : List ℕ} {n : ℕ} {xs ys : List ℕ} {v : Bool} {ws m : List ℕ} {r : UnifyResult} {i : ℕ} where
  pub list_pair : {a b t : ℕ} → ListLeft x ws₀ ks m₀ n xs ys v ws m r i → length xs ≡ length ys → i < length xs → a ≡ get_or xs i 0 → t ≡ get_or ys i 0
      → ty_of b ≡ flip v (ty_of t) → ListNext x ws₀ ks m₀ n xs ys v ws m r i a b
  list_pair g e h ea et eb = record {
    going = going_to refl (list_more v xs ys i h (omega arith) ∙ (λ k. (ty_of (sym ea k), (ap (λ w. flip v (ty_of w)) (sym et) ∙ sym eb) k) ∷ list_rest v xs ys (i + 1))) g.going;
  }

  pub list_asks : {a b : ℕ} → ListNext x ws₀ ks m₀ n xs ys v ws m r i a b → Asked x ws ks m n n ((ty_of a, ty_of b) ∷ [])
  list_asks p = going_pair p.going

  pub list_next : {a b : ℕ} {ws' m' : List ℕ} {q r' : UnifyResult} → ListNext x ws₀ ks m₀ n xs ys v ws m r i a b
      → Unified x ws ks m ws' m' n (unify_f x n n (decode ws ks n) (ty_of a) (ty_of b)) q → answer_of r' ≡ both (answer_of r) (answer_of q)
      → ListLeft x ws₀ ks m₀ n xs ys v ws' m' r' (i + 1)
  list_next p l f = record { going = going_to (sym f) refl (going_on p.going l) }

  pub lists_end : ListLeft x ws₀ ks m₀ n xs ys v ws m r i → length xs ≤ i → Unified x ws₀ ks m₀ ws m n (unify_types x (decode ws₀ ks n) (types_in xs) (types_in ys) v) r
  lists_end g h = going_end refl (going_to refl (list_over v xs ys i h) g.going)

-- two lists of entries

module _ {x : Texts} {ws ks m : List ℕ} {n : ℕ} {xs ys : List ℕ} {inv : Inverted} (p : Objects x ws ks m n xs ys inv) {na nb : ℕ} (ea : na ≡ entry_count xs) (eb : nb ≡ entry_count ys) where
  as_runs : objects_of x xs ys (from_first (entry_count xs) (entry_count ys) inv) ≡ objects_of x xs ys (from_first na nb inv)
  as_runs = rw (ea, eb) refl

  pub entries_start : {r : UnifyResult} → answer_of r ≡ of_bool (eqb na nb) → ObjectLeft x xs ys ws ks m n n (from_first na nb inv) ws m r 0
  entries_start e = object_start (subst (λ (l : Plan). Asked x ws ks m n n l.pairs) as_runs p.asked) e

  pub entries_end : {ws' m' : List ℕ} {r : UnifyResult} {i : ℕ} → ObjectLeft x xs ys ws ks m n n (from_first na nb inv) ws' m' r i → na ≤ i
      → Unified x ws ks m ws' m' n (unify_objects x (decode ws ks n) (entry_names xs) (entry_types xs) (entry_names ys) (entry_types ys) inv.0) r
  unfolding unify_objects
  entries_end {ws'} {m'} {r} g h =
      subst (λ (o : Out). Unified x ws ks m ws' m' n o r) (sym (carries (objects_of x xs ys (from_first (entry_count xs) (entry_count ys) inv)) p.asked.pairs
      ∙ ap (does (unify_f x n n) (decode ws ks n)) as_runs)) (object_ends g h)

-- two signatures

module _ {x : Texts} {ws ks m : List ℕ} {n : ℕ} {xs ys : List ℕ} {a b : Ty} (p : Signatures x ws ks m n xs a ys b) where
  abbrev parameters : Plan
  parameters = run_plan false (types_in xs) (types_in ys)

  abbrev returns : Plan
  returns = run_plan false (a ∷ []) (b ∷ [])

  pub sig_parameters : Lists x ws ks m n xs ys (record { 0 = false })
  sig_parameters = record {
    asked = record {
      pairs = record { words = p.asked.pairs.words; inside = λ q w. p.asked.pairs.inside q (Memᴰ.append_left returns.pairs w) };
      enough = enough_part (λ q w. Memᴰ.append_left returns.pairs w) p.asked.enough;
      recalls = p.asked.recalls;
    };
  }

  module _ {ws₁ m₁ : List ℕ} {q : UnifyResult} (l : Unified x ws ks m ws₁ m₁ n (unify_types x (decode ws ks n) (types_in xs) (types_in ys) false) q) where
    as_run : Leaves ws ks ws₁ n (does (unify_f x n n) (decode ws ks n) parameters) q
    as_run = subst (λ (o : Out). Leaves ws ks ws₁ n o q) (lists_carry false xs ys sig_parameters.asked.pairs) l.leaves

    pub sig_returns : Asked x ws₁ ks m₁ n n ((a, b) ∷ [])
    unfolding run_plan zipped
    sig_returns =
        let w = p.asked.pairs.words in
        let i = p.asked.pairs.inside in
        record {
          pairs = record {
            words = words_run w n parameters.base parameters.pairs sig_parameters.asked.pairs.inside as_run;
            inside = λ q v. i q (Memᴰ.append_right parameters.pairs v);
          };
          enough = words_enough w n parameters.base parameters.pairs ((a, b) ∷ []) i p.asked.enough as_run;
          recalls = l.recalls;
        }

    pub sig_law : {ws₂ m₂ : List ℕ} {r t : UnifyResult} → Unified x ws₁ ks m₁ ws₂ m₂ n (unify_f x n n (decode ws₁ ks n) a b) r → answer_of t ≡ both (answer_of q) (answer_of r)
        → Unified x ws ks m ws₂ m₂ n (unify_fn_sig x (decode ws ks n) (types_in xs) a (types_in ys) b) t
    unfolding unify_fn_sig run_plan zipped run
    sig_law u f = record {
      leaves = record {
        same = carries (sig_plan (types_in xs) a (types_in ys) b) p.asked.pairs
            ∙ (does_after (unify_f x n n) (decode ws ks n) parameters returns as_run.same ∙ rw (u.leaves.same, f) refl);
        clean = λ c cl. u.leaves.clean c (l.leaves.clean c cl);
        tail = u.leaves.tail ∙ l.leaves.tail;
      };
      recalls = u.recalls;
      since = since_then l.since u.since;
    }

-- two traits

module _ {x : Texts} {ws ks m : List ℕ} {n : ℕ} {a b : Impl} (p : Impls x ws ks m n a b) where
  impl_says : (r : UnifyResult) → impl_plan (impl_means a) (impl_means b) ≡ answers (answer_of r)
      → Unified x ws ks m ws m n (unify_impl_type x (decode ws ks n) (impl_means a) (impl_means b)) r
  unfolding unify_impl_type
  impl_says r e = says (impl_plan (impl_means a) (impl_means b)) p.asked r e

  pub impl_error : a ≡ impl.Error → Unified x ws ks m ws m n (unify_impl_type x (decode ws ks n) (impl_means a) (impl_means b)) code.Indeterminate
  impl_error e = impl_says code.Indeterminate (rw e refl)

  module _ {i : ℕ} {xs : Bor (List ℕ)} (ea : a ≡ impl.Trait i xs) where
    pub impl_against : b ≡ impl.Error → Unified x ws ks m ws m n (unify_impl_type x (decode ws ks n) (impl_means a) (impl_means b)) code.Indeterminate
    impl_against e = impl_says code.Indeterminate (rw (ea, e) refl)

    module _ {j : ℕ} {ys : Bor (List ℕ)} (eb : b ≡ impl.Trait j ys) where
      pub impl_other : (i ≡ j → ⊥) → Unified x ws ks m ws m n (unify_impl_type x (decode ws ks n) (impl_means a) (impl_means b)) code.Failure
      impl_other h = impl_says code.Failure (rw (ea, eb, ne_eqb i j h) refl)

      module _ (h : i ≡ j) where
        impl_plan_lem : impl_plan (impl_means a) (impl_means b) ≡ run_plan false (types_in xs.now) (types_in ys.now)
        impl_plan_lem = rw (ea, eb, eq-eqb i j h) refl

        pub impl_lists : {ws' m' : List ℕ} {r : UnifyResult} → Unified x ws ks m ws' m' n (unify_types x (decode ws ks n) (types_in xs.now) (types_in ys.now) false) r
            → Unified x ws ks m ws' m' n (unify_impl_type x (decode ws ks n) (impl_means a) (impl_means b)) r
        unfolding unify_impl_type unify_types
        impl_lists {ws'} {m'} {r} l = subst (λ (p : Plan). Unified x ws ks m ws' m' n (carry x (decode ws ks n) p) r) (sym impl_plan_lem) l
