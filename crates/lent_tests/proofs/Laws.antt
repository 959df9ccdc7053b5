-- One law for each way out of the tests of arguments. Two lists are tested one after the other where scope tests both at once; a test of either has the same
-- number, so the first that breaks is the same. Tests that a call lacks are passed.
-- Assumes nothing.
use mathlib.Core.Path.{◌≡◌, refl, ap, sym, ◌∙◌}
use mathlib.Core.Bool.{Bool, true, false, not, ◌&&◌, ◌||◌, and-true, and-false, and_assoc, or-true, or-false, false≢true}
use mathlib.Core.List.{List, [], ◌∷◌, ◌++◌}
use mathlib.Core.Option.{Option, none, some}
use Prim.Native.Nat.{ℕ, ◌%◌, ◌≤◌, ◌<◌}
use native.Mathlib.Decide.{dec_lt}
use native.Mathlib.Omega.{arith}
use lib.Dec.{eqb, ltb}
use lib.ListN.{length, length-append}
use borrow.Author.Tests.{eq-eqb, ne_eqb, eqb-true, lt-ltb, le-ltb}
use Rattle.scope.specs.Base.{all, pick}
use Rattle.scope.specs.Limits.{MAX_LIST}
use Rattle.scope.specs.Names.{Name}
use Rattle.scope.specs.Chart.{Env}
use Rattle.scope.specs.Types.{Ty}
use Rattle.scope.specs.Kinds.{CHILD_NAMES, rows, row_of, object_names_ok}
use Rattle.scope.specs.Nodes.{Node, Store}
use Rattle.scope.specs.Unify.{ImplType, Trait, Error}
use Rattle.scope.specs.Sound.{in_store}
use Rattle.scope.specs.Refusals.{OUTSIDE, UNMAKEABLE, UNDEFINED}
use Rattle.scope.specs.Calls.{first_broken, too_many, Entries, bad_entries, impl_types, impl_defined}
use Rattle.chart.specs.Env.{env_of, chart_alone}
use Rattle.chart.specs.declared.Beside.{Beside}
use Rattle.layout.specs.Words.{CHILD_WORDS}
use Rattle.layout.specs.declared.Kind.{Kind}
use Rattle.kind_sound.proofs.NameLaws.{length_names, names_test, child_names_lem}
use Rattle.store.specs.Entries.{entry_count, entry_names, entry_types}
use Rattle.store.proofs.EntryLaws.{entries_long}
use Rattle.refusals.proofs.Laws.{broken_first, broken_next}
use Rattle.lent_tests.specs.Given.{three_tests, pair_tests, among_tests, list_tests, sig_tests, object_tests, impls_tests, one_impl_tests, entries_in, object_of, FirstOf}

-- tests of two things each, in 01's order

abbrev row : Bool → Bool → Bool → Bool → Bool → Bool → Option ℕ
row a b v w p q = first_broken ((not (a && b), OUTSIDE) ∷ (v || w, UNMAKEABLE) ∷ (not (p && q), UNDEFINED) ∷ [])

-- the tests ts ask A and B of the nodes, and whether v or w, p or q is so
pub record Row (ts : Store → List (Bool × ℕ)) (A B : List Node → Bool) (v w p q : Bool) : Type 0 where
  pub is : (s : Store) → first_broken (ts s) ≡ row (A s.nodes) (B s.nodes) v w p q

-- o, m and d say whether 3, 4 and 5 stand, as the code has them
pub row_told : {n : ℕ} {ts : Store → List (Bool × ℕ)} {A B : List Node → Bool} {v w p q : Bool} → Row ts A B v w p q → {o m d : Bool} {r : Option ℕ}
    → ((ns : List Node) → length ns ≡ n → o ≡ not (A ns && B ns)) → m ≡ (v || w) → d ≡ not (p && q) → first_broken (three_tests o m d) ≡ r → FirstOf n ts r
row_told f eo em ed e = record { code = λ s l. f.is s ∙ rw (← eo s.nodes l, ← em, ← ed) e }

-- the tests of each call as such a row

all_append : {A : Type 0} (f : A → Bool) (xs ys : List A) → all f (xs ++ ys) ≡ (all f xs && all f ys)
all_append f [] ys = refl
all_append f (x ∷ xs) ys = ap (λ (z : Bool). f x && z) (all_append f xs ys) ∙ sym (and_assoc (f x) (all f xs) (all f ys))

pub pair_row : (a b : Ty) → Row (pair_tests a b) (λ ns. in_store ns a) (λ ns. in_store ns b) false false true true
unfolding pair_tests
pair_row a b = record { is = λ s. rw (and-true (in_store s.nodes b)) refl }

pub among_row : (o : Store) (xs ys : List Ty)
    → Row (among_tests o xs ys) (λ ns. all (in_store o.nodes) xs) (λ ns. all (in_store ns) ys) (too_many xs) (too_many ys) true true
unfolding among_tests
among_row o xs ys = record { is = λ s. refl }

-- both lists of one store
pub lists_told : (xs ys : List Ty) {n : ℕ} {r : Option ℕ} → ((o : Store) → length o.nodes ≡ n → FirstOf n (among_tests o xs ys) r) → FirstOf n (list_tests xs ys) r
unfolding list_tests among_tests
lists_told xs ys f = record { code = λ s l. rw (all_append (in_store s.nodes) xs ys) ((f s l).code s l) }

pub object_row : (e : Env) (a b : Entries) → Row (object_tests e a b) (λ ns. all (in_store ns) a.types) (λ ns. all (in_store ns) b.types) (bad_entries e a) (bad_entries e b) true true
unfolding object_tests
object_row e a b = record { is = λ s. rw (all_append (in_store s.nodes) a.types b.types) refl }

pub impl_row : (e : Env) (a b : ImplType)
    → Row (impls_tests e a b) (λ ns. all (in_store ns) (impl_types a)) (λ ns. all (in_store ns) (impl_types b))
    (too_many (impl_types a)) (too_many (impl_types b)) (impl_defined e a) (impl_defined e b)
unfolding impls_tests
impl_row e a b = record {
  is = λ s. rw (and-true (all (in_store s.nodes) (impl_types b)), or-false (too_many (impl_types b)), and-true (impl_defined e b)) refl;
}

-- a trait is asked of the chart's records alone
pub defined_alone : (chart : List ℕ) (b : Beside) (rule text : List ℕ) (a : ImplType) → impl_defined (env_of chart b rule text) a ≡ impl_defined (chart_alone chart) a
defined_alone chart b rule text (Trait n ts) = refl
defined_alone chart b rule text Error = refl

-- one impl type: an error beside it passes every test
pub one_row : (e : Env) (a : ImplType)
    → Row (one_impl_tests e a) (λ ns. all (in_store ns) (impl_types a)) (λ ns. true) (too_many (impl_types a)) false (impl_defined e a) true
unfolding impls_tests one_impl_tests
one_row e a = record { is = λ s. (impl_row e a Error).is s }

pub one_error : (e : Env) {n : ℕ} → FirstOf n (one_impl_tests e Error) none
unfolding one_impl_tests
one_error e = record { code = λ s m. refl }

-- of two refusals the one with the smaller number

abbrev sooner : Option ℕ → Option ℕ → Option ℕ
sooner none y = y
sooner (some m) none = some m
sooner (some m) (some n) = some (pick (ltb n m) n m)

sooner_row : (a b v w p q : Bool) → row a b v w p q ≡ sooner (row a true v false p true) (row b true w false q true)
sooner_row false false v w p q = refl
sooner_row false true v true p q = refl
sooner_row false true v false p false = refl
sooner_row false true v false p true = refl
sooner_row true false true w p q = refl
sooner_row true false false w false q = refl
sooner_row true false false w true q = refl
sooner_row true true true true p q = refl
sooner_row true true true false p false = refl
sooner_row true true true false p true = refl
sooner_row true true false true false q = refl
sooner_row true true false true true q = refl
sooner_row true true false false false false = refl
sooner_row true true false false false true = refl
sooner_row true true false false true false = refl
sooner_row true true false false true true = refl

module _ (e : Env) (a b : ImplType) {n : ℕ} where
  pub both : {x y : Option ℕ} → FirstOf n (one_impl_tests e a) x → FirstOf n (one_impl_tests e b) y → FirstOf n (impls_tests e a b) (sooner x y)
  both f g = record {
    code = λ s m.
        let i : Ty → Bool = in_store s.nodes in
        (impl_row e a b).is s
        ∙ (sooner_row (all i (impl_types a)) (all i (impl_types b)) (too_many (impl_types a)) (too_many (impl_types b)) (impl_defined e a) (impl_defined e b)
        ∙ (λ k. sooner ((sym ((one_row e a).is s) ∙ f.code s m) k) ((sym ((one_row e b).is s) ∙ g.code s m) k)));
  }

-- two signatures: returns first, then parameters

turn : (x r y q : Bool) → (x && (r && (y && (q && true)))) ≡ ((r && (q && true)) && (x && y))
turn true true y true = and-true y
turn true true y false = and-false y
turn true false y q = refl
turn false r y q = sym (and-false (r && (q && true)))

and_split : (a b : Bool) (n : ℕ) (ts : List (Bool × ℕ)) → first_broken ((not (a && b), n) ∷ ts) ≡ first_broken ((not a, n) ∷ (not b, n) ∷ ts)
and_split true b n ts = refl
and_split false b n ts = refl

module _ (xs : List Ty) (a : Ty) (ys : List Ty) (b : Ty) where
  sig_split : (s : Store) → first_broken (sig_tests xs a ys b s) ≡ first_broken (pair_tests a b s ++ list_tests xs ys s)
  unfolding sig_tests pair_tests list_tests
  sig_split s =
      let f : Ty → Bool = in_store s.nodes in
      let us : List (Bool × ℕ) = (too_many xs || too_many ys, UNMAKEABLE) ∷ [] in
      let e : all f (xs ++ (a ∷ ys ++ (b ∷ []))) ≡ (all f (a ∷ b ∷ []) && all f (xs ++ ys)) =
      all_append f xs (a ∷ ys ++ (b ∷ []))
      ∙ (ap (λ (z : Bool). all f xs && (f a && z)) (all_append f ys (b ∷ []))
      ∙ (turn (all f xs) (f a) (all f ys) (f b) ∙ ap (λ (z : Bool). all f (a ∷ b ∷ []) && z) (sym (all_append f xs ys)))) in
      ap (λ (z : Bool). first_broken ((not z, OUTSIDE) ∷ us)) e ∙ and_split (all f (a ∷ b ∷ [])) (all f (xs ++ ys)) OUTSIDE us

  pub sig_back : {n r : ℕ} → FirstOf n (pair_tests a b) (some r) → FirstOf n (sig_tests xs a ys b) (some r)
  sig_back {r = r} p = record { code = λ s m. sig_split s ∙ broken_first (pair_tests a b s) (list_tests xs ys s) r (p.code s m) }

  pub sig_on : {n : ℕ} {o : Option ℕ} → FirstOf n (pair_tests a b) none → FirstOf n (list_tests xs ys) o → FirstOf n (sig_tests xs a ys b) o
  sig_on p l = record { code = λ s m. sig_split s ∙ (broken_next (pair_tests a b s) (list_tests xs ys s) (p.code s m) ∙ l.code s m) }

-- lists and entries

module _ (xs : List ℕ) where
  names_whole : length xs % CHILD_WORDS ≡ 0 → (entries_in xs).names ≡ entry_names xs
  names_whole e = rw (eq-eqb (length xs % CHILD_WORDS) 0 e) refl

  names_torn : (length xs % CHILD_WORDS ≡ 0 → ⊥) → (entries_in xs).names ≡ entry_names xs ++ (none ∷ [])
  names_torn h = rw (ne_eqb (length xs % CHILD_WORDS) 0 h) refl

  torn_length : length (entry_names xs ++ (none ∷ [])) ≡ length (entry_types xs) → ⊥
  torn_length e = omega (arith, e, entries_long xs, length_names xs 0 (entry_count xs), length-append (entry_names xs) (none ∷ []))

  -- ways out of `bad_entries`
  module _ (e : Env) where
    pub entries_many : {m : ℕ} → m ≡ entry_count xs → MAX_LIST < m → true ≡ bad_entries e (entries_in xs)
    entries_many em h = rw (entries_long xs, ← em, lt-ltb MAX_LIST _ h) refl

    pub entries_torn : (length xs % CHILD_WORDS ≡ 0 → ⊥) → true ≡ bad_entries e (entries_in xs)
    entries_torn h =
        sym (ap (λ (ns : List (Option Name)). too_many (entry_types xs) || not (eqb (length ns) (length (entry_types xs)) && object_names_ok e.texts ns)) (names_torn h)
        ∙ rw (ne_eqb (length (entry_names xs ++ (none ∷ []))) (length (entry_types xs)) torn_length) (or-true (too_many (entry_types xs))))

    object_row_names : (n : ℕ) → (row_of (object_of n).code).names ≡ CHILD_NAMES
    unfolding row_of rows
    object_row_names n = refl

    pub entries_named : {m : ℕ} {k : Kind} {t : Bool} → m ≡ entry_count xs → m ≤ MAX_LIST → length xs % CHILD_WORDS ≡ 0 → k ≡ object_of m → t ≡ names_test e.texts xs k
        → not t ≡ bad_entries e (entries_in xs)
    entries_named {t = t} em h w eo et =
        let ek = eo ∙ ap object_of em in
        let ns : List (Option Name) = entry_names xs in
        let g : t ≡ object_names_ok e.texts ns =
        et ∙ (ap (names_test e.texts xs) ek ∙ child_names_lem e.texts xs (object_of (entry_count xs)) CHILD_NAMES (sym (object_row_names (entry_count xs))) refl) in
        let l : length ns ≡ length (entry_types xs) = length_names xs 0 (entry_count xs) ∙ sym (entries_long xs) in
        let z : too_many (entry_types xs) ≡ false = rw (entries_long xs, le-ltb MAX_LIST (entry_count xs) (omega (arith, em, h))) refl in
        ap not g
        ∙ sym (ap (λ (ms : List (Option Name)). too_many (entry_types xs) || not (eqb (length ms) (length (entry_types xs)) && object_names_ok e.texts ms)) (names_whole w)
        ∙ rw (z, eq-eqb (length ns) (length (entry_types xs)) l) refl)

    -- entries that are not turned back are whole, and not too many
    fine_by : (b : Bool) → eqb (length xs % CHILD_WORDS) 0 ≡ b → bad_entries e (entries_in xs) ≡ false → length xs % CHILD_WORDS ≡ 0
    fine_by true q h = eqb-true (length xs % CHILD_WORDS) 0 q
    fine_by false q h = absurd (false≢true (sym h ∙ sym (entries_torn (λ z. false≢true (sym q ∙ eq-eqb (length xs % CHILD_WORDS) 0 z)))))

    pub fine_names : bad_entries e (entries_in xs) ≡ false → (entries_in xs).names ≡ entry_names xs
    fine_names h = names_whole (fine_by (eqb (length xs % CHILD_WORDS) 0) refl h)

    pub fine_count : bad_entries e (entries_in xs) ≡ false → entry_count xs ≤ MAX_LIST
    fine_count h = go (dec_lt MAX_LIST (entry_count xs))
      where
        go : Dec (MAX_LIST < entry_count xs) → entry_count xs ≤ MAX_LIST
        go (yes l) = absurd (false≢true (sym h ∙ sym (entries_many refl l)))
        go (no l) = omega arith
