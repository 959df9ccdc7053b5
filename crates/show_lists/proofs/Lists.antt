-- A lent list of types and a kind's children are written one after another, with commas between them.
-- Assumes nothing.
use mathlib.Core.Path.{◌≡◌, refl, ap, sym, ◌∙◌}
use mathlib.Core.Bool.{Bool, false}
use mathlib.Core.List.{List, [], ◌∷◌, ◌++◌, map, append-nil}
use Prim.Native.Nat.{ℕ, zero, suc, ◌≤◌}
use native.Mathlib.Nat.{zero-add}
use native.Mathlib.Omega.{arith}
use lib.Dec.{ltb}
use lib.ListN.{length, get_or}
use borrow.Author.Tests.{ne_eqb, lt-ltb}
use Rattle.scope.specs.Base.{from}
use Rattle.scope.specs.Names.{Texts}
use Rattle.scope.specs.Types.{Ty, flip, ty_of}
use Rattle.scope.specs.Show.{Piece, sub, render, commas}
use Rattle.layout.specs.Meaning.{kind_means}
use Rattle.layout.specs.declared.Kind.{Kind}
use Rattle.append.specs.declared.Out.{Out}
use Rattle.append.specs.Appended.{Puts}
use Rattle.append.proofs.Laws.{puts_none}
use Rattle.show.specs.Level.{children, kid_of}
use Rattle.show.proofs.Runs.{map-map, comma_suc, joined_run, commas_run}
use Rattle.show.proofs.Turns.{Turn, turn_end}
use Rattle.show_names.specs.Names.{comma, comma_if}

-- a comma, by whether one is due
pub comma_any : (j : ℕ) → comma_if (ltb 0 j) ≡ comma j
comma_any zero = refl
comma_any (suc j) = rw (lt-ltb 0 (suc j) (omega arith), ne_eqb (suc j) 0 (λ e. omega (arith, e))) refl

-- a list by its places

map_from : {A : Type 0} (f : ℕ → A) (a n : ℕ) → map f (from (suc a) n) ≡ map (λ m. f (suc m)) (from a n)
map_from f a zero = refl
map_from f a (suc n) = rw (map_from f (suc a) n)

list_from : {A : Type 0} (f : ℕ → A) (xs : List ℕ) → map f xs ≡ map (λ m. f (get_or xs m 0)) (from 0 (length xs))
list_from f [] = refl
list_from f (x ∷ xs) = ap (λ l. f x ∷ l) (list_from f xs ∙ sym (map_from (λ m. f (get_or (x ∷ xs) m 0)) 0 (length xs)))

module _ (g : Ty → List ℕ) where
  -- type j of a lent list
  abbrev pub item : List ℕ → ℕ → List ℕ
  item xs j = g (ty_of (get_or xs j 0))

  list_run : (xs : List ℕ) (close : List ℕ) → render g (commas false (map ty_of xs)) ++ close ≡ children comma (item xs) close (length xs) 0
  unfolding render
  list_run xs close =
      let F : ℕ → List Piece = λ m. sub (ty_of (get_or xs m 0)) ∷ [] in
      let e : map (λ t. sub (flip false t) ∷ []) (map ty_of xs) ≡ map F (from 0 (length xs)) =
      map-map (λ t. sub (flip false t) ∷ []) ty_of xs ∙ list_from (λ x. sub (ty_of x) ∷ []) xs in
      rw e (joined_run g F comma (item xs) close 0 (length xs) (λ m h. rw (append-nil, zero-add (suc m), comma_suc m)) (length xs) (omega arith) (λ h. rw (append-nil, zero-add 0)))

  pub list_end : (xs : List ℕ) {out₀ out : Out} {j : ℕ} → Turn comma (item xs) [] (length xs) out₀ out j → length xs ≤ j
      → Puts out₀ out (render g (commas false (map ty_of xs)))
  list_end xs {out₀} {out} {j} t h =
      rw (sym (append-nil (render g (commas false (map ty_of xs)))) ∙ list_run xs []) (turn_end comma (item xs) [] (length xs) t h (puts_none out))

  -- child j of a kind
  abbrev pub child : List ℕ → Kind → Bool → ℕ → List ℕ
  child ks k i j = g (kid_of ks k i j)

  pub params_end : (x : Texts) (ks : List ℕ) (k : Kind) (i : Bool) {out₀ out : Out} {j : ℕ} → Turn comma (child ks k i) [] k.count out₀ out j → k.count ≤ j
      → Puts out₀ out (render g (commas i (kind_means ks k).kids))
  unfolding kind_means
  params_end x ks k i {out₀} {out} {j} t h =
      rw (sym (append-nil (render g (commas i (kind_means ks k).kids))) ∙ commas_run g x i ks k.first comma (λ m. refl) [] k.count)
      (turn_end comma (child ks k i) [] k.count t h (puts_none out))
