-- What callers need: where the types that a call was given are inside the store, the pairs that it asks for are. Every pair is of one given type and another, perhaps
-- inverted, and an inverted type has the same node. A memory that has just begun holds nothing, and the node count is a depth that is enough.
-- Assumes nothing.
use mathlib.Core.Path.{◌≡◌, refl, sym, subst}
use mathlib.Core.Bool.{Bool, true, false}
use mathlib.Core.List.Memᴰ
use mathlib.Core.List.{List, [], ◌∷◌, ◌++◌, Memᴰ}
use mathlib.Core.Logic.{◌⊎◌, inl, inr}
use Prim.Native.Nat.{ℕ, ◌<◌, ◌≤◌}
use native.Mathlib.Omega.{arith}
use lib.Dec.{eqb}
use lib.ListN.{length}
use borrow.Author.Tests.{ltb-true}
use Rattle.scope.specs.Base.{all}
use Rattle.scope.specs.Limits.{MAX_LIST}
use Rattle.scope.specs.Names.{Texts}
use Rattle.scope.specs.Types.{Ty}
use Rattle.scope.specs.Answers.{Failure}
use Rattle.scope.specs.Unify.{answers, run_plan, object_plan, ImplType, Trait, Error, impl_plan}
use Rattle.scope.specs.Sound.{in_store}
use Rattle.scope.specs.Calls.{impl_types}
use Rattle.scope.proofs.TestLaws.{of-all}
use Rattle.scope.proofs.Enough.{enough_start}
use Rattle.scope.proofs.PairLaws.{Betweens, between_nil, between_pick, run_between, shared_between}
use Rattle.types.specs.Impls.{impl_means}
use Rattle.types.specs.declared.Impl.{Impl}
use Rattle.types.specs.declared.Inverted.{Inverted}
use Rattle.layout.specs.Words.{decode}
use Rattle.layout.proofs.Laws.{length_decode}
use Rattle.store.specs.Entries.{entry_count, entry_names, entry_types, types_in}
use Rattle.recall.specs.Memory.{Begun}
use Rattle.heed.proofs.Laws.{recalls_begun}
use Rattle.meeting.specs.Asks.{SoundWords, Inside}
use Rattle.unify.specs.Asked.{Asked}
use Rattle.unify_lists.specs.Lent.{Lists, Objects, Signatures, Impls}

module _ {x : Texts} {ws ks m : List ℕ} {n : ℕ} (r : SoundWords x ws ks n) (begun : Begun m) where
  -- the types that a call was given
  abbrev pub Given : List Ty → Type 0
  Given ts = all (in_store (decode ws ks n)) ts ≡ true

  begins : (ps : List (Ty × Ty)) → Inside n ps → Asked x ws ks m n n ps
  begins ps i = record { pairs = record { words = r; inside = i }; enough = enough_start n (decode ws ks n) ps; recalls = recalls_begun begun }

  below : (ts : List Ty) → Given ts → (t : Ty) → Memᴰ t ts → t.idx < n
  below ts h t m =
      let l : t.idx < length (decode ws ks n) = ltb-true t.idx (length (decode ws ks n)) (of-all (in_store (decode ws ks n)) ts h m) in
      omega (arith, l, length_decode ws ks n)

  between_pairs : {v : Bool} {xs ys : List Ty} {ps : List (Ty × Ty)} → ((t : Ty) → Memᴰ t xs → t.idx < n) → ((t : Ty) → Memᴰ t ys → t.idx < n)
      → Betweens v xs ys ps → Asked x ws ks m n n ps
  between_pairs f g b = begins _ (λ p w. let z = b p w in (f p.0 z.left, rw z.turned (g z.other z.right)))

  pub inside_pair : (a b : Ty) → a.idx < n → b.idx < n → Asked x ws ks m n n ((a, b) ∷ [])
  inside_pair a b i j = begins ((a, b) ∷ [])
      (λ p w. subst (λ (v : Ty × Ty). (v.0.idx < n) × (v.1.idx < n)) (sym (Memᴰ.eq_of_singleton w)) (i, j))

  pub given_pair : (a b : Ty) → Given (a ∷ b ∷ []) → Asked x ws ks m n n ((a, b) ∷ [])
  given_pair a b h = inside_pair a b (below (a ∷ b ∷ []) h a (Memᴰ.head refl)) (below (a ∷ b ∷ []) h b (Memᴰ.tail (Memᴰ.head refl)))

  -- two lists that were given one after the other
  between_lists : {v : Bool} (xs ys : List Ty) {ps : List (Ty × Ty)} → Given (xs ++ ys) → Betweens v xs ys ps → Asked x ws ks m n n ps
  between_lists xs ys h b = between_pairs (λ t m. below (xs ++ ys) h t (Memᴰ.append_left ys m)) (λ t m. below (xs ++ ys) h t (Memᴰ.append_right xs m)) b

  pub given_lists : (xs ys : List ℕ) (inv : Inverted) → Given (types_in xs ++ types_in ys) → Lists x ws ks m n xs ys inv
  given_lists xs ys inv h = record { asked = between_lists (types_in xs) (types_in ys) h (run_between inv.0 (types_in xs) (types_in ys)) }

  pub given_objects : (xs ys : List ℕ) (inv : Inverted) → Given (entry_types xs ++ entry_types ys) → entry_count xs ≤ MAX_LIST → entry_count ys ≤ MAX_LIST
      → Objects x ws ks m n xs ys inv
  unfolding object_plan
  given_objects xs ys inv h wx wy = record {
    asked = between_lists (entry_types xs) (entry_types ys) h (shared_between x inv.0 (entry_names xs) (entry_types xs) (entry_names ys) (entry_types ys));
    first = wx;
    second = wy;
  }

  pub given_signatures : (xs : List ℕ) (a : Ty) (ys : List ℕ) (b : Ty) → Given (types_in xs ++ (a ∷ types_in ys ++ (b ∷ []))) → Signatures x ws ks m n xs a ys b
  given_signatures xs a ys b h = record { asked = begins _ (λ p w. go p (Memᴰ.append_cases (run_plan false ps qs).pairs w)) }
    where
      ps : List Ty
      ps = types_in xs

      qs : List Ty
      qs = types_in ys

      of_first : (t : Ty) → Memᴰ t ps → t.idx < n
      of_first t m = below (ps ++ (a ∷ qs ++ (b ∷ []))) h t (Memᴰ.append_left (a ∷ qs ++ (b ∷ [])) m)

      of_others : (t : Ty) → Memᴰ t (a ∷ qs ++ (b ∷ [])) → t.idx < n
      of_others t m = below (ps ++ (a ∷ qs ++ (b ∷ []))) h t (Memᴰ.append_right ps m)

      go : (p : Ty × Ty) → Memᴰ p (run_plan false ps qs).pairs ⊎ Memᴰ p (run_plan false (a ∷ []) (b ∷ [])).pairs → (p.0.idx < n) × (p.1.idx < n)
      go p (inl w) = (between_pairs of_first (λ t m. of_others t (Memᴰ.tail (Memᴰ.append_left (b ∷ []) m))) (run_between false ps qs)).pairs.inside p w
      go p (inr w) =
          (between_pairs (λ t m. of_others t (Memᴰ.head (Memᴰ.eq_of_singleton m))) (λ t m. of_others t (Memᴰ.tail (Memᴰ.append_right qs m)))
          (run_between false (a ∷ []) (b ∷ []))).pairs.inside p w

  impl_inside : (a b : ImplType) → all (λ t. all (in_store (decode ws ks n)) (impl_types t)) (a ∷ b ∷ []) ≡ true → Asked x ws ks m n n (impl_plan a b).pairs
  impl_inside Error b h = begins [] (λ p w. elim w [ ])
  impl_inside (Trait i xs) Error h = begins [] (λ p w. elim w [ ])
  impl_inside (Trait i xs) (Trait j ys) h =
      let f : ImplType → Bool = λ t. all (in_store (decode ws ks n)) (impl_types t) in
      let l : List ImplType = Trait i xs ∷ Trait j ys ∷ [] in
      between_pairs (λ t m. below xs (of-all f l h (Memᴰ.head refl)) t m) (λ t m. below ys (of-all f l h (Memᴰ.tail (Memᴰ.head refl))) t m)
      (between_pick (eqb i j) (run_plan false xs ys) (answers Failure) (run_between false xs ys) between_nil)

  pub given_impls : (a b : Impl)
      → all (λ t. all (in_store (decode ws ks n)) (impl_types t)) (impl_means a ∷ impl_means b ∷ []) ≡ true → Impls x ws ks m n a b
  given_impls a b h = record { asked = impl_inside (impl_means a) (impl_means b) h }
