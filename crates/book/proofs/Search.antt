-- A search over a book's places, one after the other. And a name's bytes, written one after the other.
-- Assumes nothing.
use mathlib.Core.Path.{◌≡◌, refl, ap, sym, ◌∙◌}
use mathlib.Core.Bool.{Bool, true, false}
use mathlib.Core.List.{List, [], ◌∷◌, ◌++◌, map, append_assoc}
use Prim.Native.Nat.{ℕ, zero, suc, ◌+◌, ◌-◌, ◌<◌, ◌≤◌}
use native.Mathlib.Omega.{arith}
use native.Mathlib.Numerals.{add-one}
use lib.Dec.{ltb}
use lib.ListN.{length, get_or, set, take, drop, replicate, length-append}
use lib.Seq.{drop-cons, set_at, length-take-le, take-suc-set, drop-drop, drop-append-le, drop-set-lt}
use borrow.Rule.Slice.PartMut.{put_mid}
use borrow.Author.Tests.{ltb-true, ltb-false, lt-ltb, le-ltb}
use Rattle.std.specs.Prelude.{Some, None, Option}
use Rattle.std.proofs.lemmas.List.{get_or_past, drop-replicate, length-replicate}
use Rattle.std.specs.List.{find, range_with_len}
use Rattle.scope.specs.Base.{pick, from}
use Rattle.scope.specs.Limits.{MAX_STATES, MAX_STATE_NAME}
use Rattle.scope.specs.States.{Place, place_where}
use Rattle.layout.proofs.Lists.{length_from, map_snoc}
use Rattle.book.specs.Words.{NAME_WORDS}
use Rattle.book.specs.Places.{put_name, if_place}

-- what is found among the n places from i on
abbrev some_of : ℕ → ℕ → ℕ → Option ℕ
some_of i n k = pick (ltb k n) (Some (i + k)) None

less_more : (k n : ℕ) → ltb (suc k) (suc n) ≡ ltb k n
less_more k n = go (ltb k n) refl
  where
    go : (b : Bool) → ltb k n ≡ b → ltb (suc k) (suc n) ≡ b
    go true e = let h = ltb-true k n e in lt-ltb (suc k) (suc n) (omega arith)
    go false e = let h = ltb-false k n e in le-ltb (suc k) (suc n) (omega arith)

find_step : (b : Bool) (i n k : ℕ) (o : Option ℕ) → o ≡ some_of (suc i) n k → pick b (Some i) o ≡ some_of i (suc n) (pick b 0 (suc k))
find_step true i n k o e = let z : i + 0 ≡ i = omega arith in rw (z, lt-ltb 0 (suc n) (omega arith)) refl
find_step false i n k o e =
    let z : i + suc k ≡ suc i + k = omega arith in
    e ∙ (ap (λ (b : Bool). pick b (Some (suc i + k)) None) (sym (less_more k n)) ∙ ap (λ j. pick (ltb (suc k) (suc n)) (Some j) None) (sym z))

find_first : (t : ℕ → Bool) (i : ℕ) (l : List ℕ) (b : Bool) → t i ≡ b → find t (i ∷ l) ≡ pick b (Some i) (find t l)
find_first t i l true e = rw e refl
find_first t i l false e = rw e refl

find_run : (p : Place → Bool) (f : ℕ → Place) (t : ℕ → Bool) (i n : ℕ) → ((j : ℕ) → i ≤ j → j < i + n → t j ≡ p (f j))
    → find t (range_with_len i n) ≡ some_of i n (place_where p (map f (from i n)))
unfolding place_where
find_run p f t i zero e = refl
find_run p f t i (suc n) e =
    find_first t i (range_with_len (i + 1) n) (p (f i)) (e i (omega arith) (omega arith))
    ∙ find_step (p (f i)) i n (place_where p (map f (from (suc i) n))) (find t (range_with_len (i + 1) n))
    (rw add-one (find_run p f t (suc i) n (λ j a b. e j (omega arith) (omega arith))))

pub find_places : (p : Place → Bool) (f : ℕ → Place) (t : ℕ → Bool) → ((j : ℕ) → j < MAX_STATES → t j ≡ p (f j))
    → find t (range_with_len 0 MAX_STATES) ≡ if_place (place_where p (map f (from 0 MAX_STATES)))
find_places p f t e = find_run p f t 0 MAX_STATES (λ j a b. e j (omega arith)) ∙ ap (λ k. pick (ltb (place_where p (map f (from 0 MAX_STATES))) MAX_STATES) (Some k) None) (omega arith)

-- what an answer says
pub found_is : {i k : ℕ} → if_place k ≡ Some i → (k ≡ i) × (i < MAX_STATES)
found_is {i} {k} e = go (ltb k MAX_STATES) refl e
  where
    go : (b : Bool) → ltb k MAX_STATES ≡ b → pick b (Some k) None ≡ Some i → (k ≡ i) × (i < MAX_STATES)
    go true t q = let z : k ≡ i = cc in let h = ltb-true k MAX_STATES t in (z, omega arith)
    go false t q = absurd cc

pub found_none : {k : ℕ} → if_place k ≡ None → MAX_STATES ≤ k
found_none {k} e = go (ltb k MAX_STATES) refl e
  where
    go : (b : Bool) → ltb k MAX_STATES ≡ b → pick b (Some k) None ≡ None → MAX_STATES ≤ k
    go true t q = absurd cc
    go false t q = ltb-false k MAX_STATES t

-- a name's first i bytes behind the first word
abbrev pub bytes_to : List ℕ → ℕ → List ℕ
bytes_to name i = map (λ j. get_or name j 0) (from 0 i)

abbrev pub bytes_put : List ℕ → List ℕ → ℕ → List ℕ
bytes_put ps name i = take 1 ps ++ (bytes_to name i ++ drop (suc i) ps)

module _ (ps name : List ℕ) (i : ℕ) where
  front : suc i ≤ length ps → length (take 1 ps ++ bytes_to name i) ≡ i + 1
  front h =
      let l : length (take 1 ps) ≡ 1 = length-take-le 1 ps (omega arith) in
      let m : length (bytes_to name i) ≡ i = length_from (λ j. get_or name j 0) 0 i in
      omega (arith, length-append (take 1 ps) (bytes_to name i))

  pub put_byte : suc i < length ps → set (bytes_put ps name i) (i + 1) (get_or name i 0) ≡ bytes_put ps name (i + 1)
  put_byte h =
      let b : ℕ = get_or name i 0 in
      let a : List ℕ = take 1 ps ++ bytes_to name i in
      let r : List ℕ = drop (suc (suc i)) ps in
      let s : bytes_put ps name i ≡ a ++ (get_or ps (suc i) 0 ∷ r) =
      sym (append_assoc (take 1 ps) (bytes_to name i) (drop (suc i) ps)) ∙ ap (λ (l : List ℕ). a ++ l) (drop-cons ps (suc i) 0 h) in
      let z : 0 + i ≡ i = omega arith in
      let m : bytes_to name (suc i) ≡ bytes_to name i ++ (b ∷ []) =
      map_snoc (λ j. get_or name j 0) 0 i ∙ ap (λ (j : ℕ). bytes_to name i ++ (get_or name j 0 ∷ [])) z in
      let t : bytes_put ps name (suc i) ≡ a ++ (b ∷ r) =
      ap (λ (l : List ℕ). take 1 ps ++ (l ++ r)) m
      ∙ (ap (λ (l : List ℕ). take 1 ps ++ l) (append_assoc (bytes_to name i) (b ∷ []) r)
      ∙ sym (append_assoc (take 1 ps) (bytes_to name i) (b ∷ r))) in
      ap (λ (l : List ℕ). set l (i + 1) b) s
      ∙ (set_at a (get_or ps (suc i) 0) r b (i + 1) (front (omega arith)) ∙ (sym t ∙ ap (bytes_put ps name) (sym (add-one i))))

-- bytes past a name's end are 0
bytes_cut : (name : List ℕ) (s i k : ℕ) → map (λ j. get_or name j 0) (from s (i + k)) ≡ map (λ j. get_or name j 0) (from s i) ++ map (λ j. get_or name j 0) (from (s + i) k)
bytes_cut name s zero k =
    let z : 0 + k ≡ k = omega arith in
    let y : s + 0 ≡ s = omega arith in
    rw (z, y) refl
bytes_cut name s (suc i) k =
    let z : suc i + k ≡ suc (i + k) = omega arith in
    let y : s + suc i ≡ suc s + i = omega arith in
    rw (z, y) (ap (λ (l : List ℕ). get_or name s 0 ∷ l) (bytes_cut name (suc s) i k))

bytes_past : (name : List ℕ) (i k : ℕ) → length name ≤ i → map (λ j. get_or name j 0) (from i k) ≡ replicate k 0
bytes_past name i zero h = refl
bytes_past name i (suc k) h = rw (get_or_past name i 0 h, bytes_past name (suc i) k (omega arith)) refl

-- once all are written, over zeros
pub put_bytes_end : (ps name : List ℕ) {zs : List ℕ} → NAME_WORDS ≤ length ps → length name ≤ MAX_STATE_NAME → zs ≡ replicate MAX_STATE_NAME 0
    → bytes_put (put_mid 1 MAX_STATE_NAME (set ps 0 (length name)) zs) name (length name) ≡ put_name ps name
unfolding put_name
put_bytes_end ps name {zs} h k q =
    let n : ℕ = length name in
    let f : take 1 (set ps 0 n) ≡ n ∷ [] = take-suc-set ps 0 n (omega arith) in
    let d : drop MAX_STATE_NAME (drop 1 (set ps 0 n)) ≡ drop NAME_WORDS ps = drop-drop MAX_STATE_NAME 1 (set ps 0 n) ∙ drop-set-lt NAME_WORDS ps 0 n (omega arith) in
    let l : length {A = ℕ} (replicate MAX_STATE_NAME 0) ≡ MAX_STATE_NAME = length-replicate {A = ℕ} MAX_STATE_NAME 0 in
    let r : List ℕ = replicate (MAX_STATE_NAME - n) 0 in
    let z : drop n (replicate MAX_STATE_NAME 0 ++ drop NAME_WORDS ps) ≡ r ++ drop NAME_WORDS ps =
    drop-append-le n (replicate MAX_STATE_NAME 0) (drop NAME_WORDS ps) (omega (arith, k, l)) ∙ ap (λ (v : List ℕ). v ++ drop NAME_WORDS ps) (drop-replicate n MAX_STATE_NAME 0) in
    let s : n + (MAX_STATE_NAME - n) ≡ MAX_STATE_NAME = omega (arith, k) in
    let b : bytes_to name MAX_STATE_NAME ≡ bytes_to name n ++ r =
    ap (bytes_to name) (sym s) ∙ (bytes_cut name 0 n (MAX_STATE_NAME - n) ∙ ap (λ (v : List ℕ). bytes_to name n ++ v) (bytes_past name (0 + n) (MAX_STATE_NAME - n) (omega arith))) in
    let x : bytes_put (put_mid 1 MAX_STATE_NAME (set ps 0 n) zs) name n ≡ n ∷ (bytes_to name n ++ (r ++ drop NAME_WORDS ps)) = rw (q, f, d, z) refl in
    x ∙ ap (λ (v : List ℕ). n ∷ v) (sym (append_assoc (bytes_to name n) r (drop NAME_WORDS ps)) ∙ ap (λ (v : List ℕ). v ++ drop NAME_WORDS ps) (sym b))
