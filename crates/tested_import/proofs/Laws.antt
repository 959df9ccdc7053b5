-- An import's tests one part after another, and one law for each way out of the call: turned back, with a list that is too short for the answer, and
-- done. What is tested of the lent stores is tested of those that the slices hold, and once all is passed these are what the copying asks for.
-- Assumes nothing.
use mathlib.Core.Path.{◌≡◌, refl, ap, sym, ◌∙◌}
use mathlib.Core.Bool.{Bool, true, false, not}
use mathlib.Core.List.{List, [], ◌∷◌, ◌++◌}
use mathlib.Core.Option.{Option, none, some}
use Rattle.std.specs.Prelude.{Ok, Err}
use Prim.Native.Nat.{ℕ, ◌≤◌, ◌<◌}
use native.Mathlib.Omega.{arith}
use lib.ListN.{length, length-map}
use borrow.Author.Tests.{lt-ltb, le-ltb}
use Rattle.scope.specs.Base.{all}
use Rattle.scope.specs.Chart.{Env}
use Rattle.scope.specs.Types.{Ty, ty_of}
use Rattle.scope.specs.Nodes.{Node, Store}
use Rattle.scope.specs.Import.{MovedAll, import}
use Rattle.scope.specs.Needs.{Needs, needs}
use Rattle.scope.specs.Sound.{Lent, sound, in_store}
use Rattle.scope.specs.Refusals.{NO_ENTRY, SHORT, SOURCE_UNSOUND}
use Rattle.scope.specs.Calls.{Outcome, done, judged, first_broken, store_of, lent_tests, too_many, room_tests, short_for, import_list, import_call}
use Rattle.scope.proofs.NeedsTests.{import_tests_lem}
use Rattle.layout.specs.Words.{nodes_made, decode, store_in, lent_of}
use Rattle.layout.specs.Meaning.{header_in}
use Rattle.layout.specs.declared.Header.{Header}
use Rattle.store.specs.Holds.{Ready}
use Rattle.store.specs.Entries.{types_in}
use Rattle.store.proofs.Laws.{store_count, store_nodes}
use Rattle.refusals.specs.Codes.{number}
use Rattle.refusals.specs.declared.Refusal.{Refusal}
use Rattle.refusals.specs.declared.Refusal.TheVariants.{Short}
use Rattle.refusals.proofs.Laws.{broken_first, broken_next, test_stands, test_falls, tests_passed, passed_first, passed_next}
use Rattle.needs.specs.Sources.{Importable}
use Rattle.needs.proofs.SourceLaws.{sound_import}
use Rattle.promise.specs.Lists.{ListPromised}
use Rattle.promise.proofs.Laws.{lent_clean_words, lent_store, lent_facts}
use Rattle.promise.proofs.CallLaws.{call_back, call_done}
use Rattle.copy.specs.Whole.{ImportReady, ImportedIs}
use Rattle.promise.proofs.RoomLaws.{lent_ready}
use Rattle.tested_import.specs.Tests.{stores_tests, lists_tests, needs_tests, import_tests, StoresTested, ListsTested, NeedsTested, ImportTested}
use Rattle.tested_import.proofs.TestLaws.{dest_passed, source_passed, listed_inside, entries_few}

made : (h : List ℕ) {x : Header} → x ≡ header_in h → x.nodes ≡ nodes_made h
made h g = ap (λ (y : Header). y.nodes) g

-- both stores are sound, and x is the source's header
module _ (e : Env) (h ws ks sh sw sk : List ℕ) (q : first_broken (stores_tests e (lent_of h ws ks) (lent_of sh sw sk)) ≡ none) {x : Header} (g : x ≡ header_in sh) where
  dest_is : store_of (lent_of h ws ks) ≡ store_in h ws ks
  dest_is = lent_store e h ws ks (dest_passed e h ws ks sh sw sk q)

  source_is : store_of (lent_of sh sw sk) ≡ store_in sh sw sk
  source_is = lent_store e sh sw sk (source_passed e h ws ks sh sw sk q)

  source_nodes : (store_of (lent_of sh sw sk)).nodes ≡ decode sw sk x.nodes
  source_nodes = ap (λ (s : Store). s.nodes) source_is ∙ (store_nodes sh sw sk ∙ ap (decode sw sk) (sym (made sh g)))

  importable : (ts : List Ty) → all (in_store (store_of (lent_of sh sw sk)).nodes) ts ≡ true → Importable sw sk x.nodes ts
  importable ts i =
      let p = source_passed e h ws ks sh sw sk q in
      rw (made sh g)
      (sound_import e sh sw sk (lent_clean_words e sh sw sk p) (lent_facts e sh sw sk p) ts
      (ap (λ (s : Store). all (in_store s.nodes) ts) (sym source_is) ∙ i))

-- the tests of `refusal`

module _ {e : Env} {h ws ks sh sw sk : List ℕ} (ts : List ℕ) (ps : Option (List Ty)) (q : StoresTested e h ws ks sh sw sk none)
    {x y : Header} (gx : x ≡ header_in sh) (gy : y ≡ header_in h) where
  abbrev l : Lent
  l = lent_of h ws ks

  abbrev src : Lent
  src = lent_of sh sw sk

  abbrev stores : List (Bool × ℕ)
  stores = stores_tests e l src

  abbrev lists : List (Bool × ℕ)
  lists = lists_tests (store_of src) (types_in ts) ps (store_of l)

  abbrev rest : List (Bool × ℕ)
  rest = needs_tests (needs (store_of src).nodes ps (types_in ts)) (store_of l)

  lists_code : {m : Option ℕ} → ListsTested ts x.nodes ps y.nodes m → first_broken lists ≡ m
  lists_code t =
      let d : length (store_of l).nodes ≡ y.nodes =
      ap (λ (s : Store). length s.nodes) (dest_is e h ws ks sh sw sk q.first gx) ∙ (store_count h ws ks ∙ sym (made h gy)) in
      let s : length (store_of src).nodes ≡ x.nodes =
      ap (λ (s : Store). length s.nodes) (source_is e h ws ks sh sw sk q.first gx) ∙ (store_count sh sw sk ∙ sym (made sh gx)) in
      (t.first (store_of src) s).code (store_of l) d

  pub refused_lists : {m : ℕ} → ListsTested ts x.nodes ps y.nodes (some m) → ImportTested e h ws ks sh sw sk ts ps (some m)
  refused_lists {m} t = record { first = broken_next stores (lists ++ rest) q.first ∙ broken_first lists rest m (lists_code t) }

  module _ (t : ListsTested ts x.nodes ps y.nodes none) where
    pub needs_asks : Importable sw sk x.nodes (types_in ts) × (too_many (import_list ps) ≡ false)
    needs_asks = (
      importable e h ws ks sh sw sk q.first gx (types_in ts) (listed_inside (store_of src) (store_of l) (types_in ts) ps (lists_code t)),
      entries_few (store_of src) (store_of l) (types_in ts) ps (lists_code t),
    )

    pub refused_needs : {r : Option ℕ} → NeedsTested h sw sk x.nodes ps ts r → ImportTested e h ws ks sh sw sk ts ps r
    refused_needs k = record {
      first =
          broken_next stores (lists ++ rest) q.first
          ∙ (broken_next lists rest (lists_code t)
          ∙ (ap (λ (ns : List Node). first_broken (needs_tests (needs ns ps (types_in ts)) (store_of l))) (source_nodes e h ws ks sh sw sk q.first gx)
          ∙ (ap (λ (s : Store). first_broken (needs_tests (needs (decode sw sk x.nodes) ps (types_in ts)) s)) (dest_is e h ws ks sh sw sk q.first gx)
          ∙ k.first ws ks)));
    }

-- the ways out of `import`

module _ (env : Env) (h ws ks sh sw sk ts : List ℕ) (ps : Option (List Ty)) (out : List ℕ) where
  abbrev dest : Lent
  dest = lent_of h ws ks

  abbrev from : Lent
  from = lent_of sh sw sk

  abbrev most : List (Bool × ℕ)
  most = import_tests env dest from (types_in ts) ps

  abbrev short : Bool × ℕ
  short = short_for (length out) (length (types_in ts))

  abbrev wanted : Needs
  wanted = needs (store_of from).nodes ps (types_in ts)

  abbrev given_tests : List (Bool × ℕ)
  given_tests = lists_tests (store_of from) (types_in ts) ps (store_of dest)

  abbrev needed_tests : List (Bool × ℕ)
  needed_tests = needs_tests wanted (store_of dest)

  -- behind 2 and 8
  abbrev tests : Store → List (Bool × ℕ)
  tests s = (not (sound env from), SOURCE_UNSOUND) ∷ (lists_tests (store_of from) (types_in ts) ps s ++ (needs_tests wanted s ++ (short ∷ [])))

  abbrev work : Store → Outcome (List Ty)
  work s = let m : MovedAll = import (store_of from).nodes ps s (types_in ts) in done m.types m.work.dest

  call_is : import_call env dest from (types_in ts) ps (length out) ≡ judged (lent_tests env dest ++ tests (store_of dest)) (work (store_of dest))
  call_is = import_tests_lem env dest from (types_in ts) ps (length out)

  pub import_back : {r : Refusal} → ImportTested env h ws ks sh sw sk ts ps (some (number r))
      → ListPromised (import_call env dest from (types_in ts) ps (length out)) (Err r) (length ts) h ws ks h ws ks out out
  import_back {r} q = record {
    promised = rw call_is (call_back env h ws ks tests work (number r) (broken_first most (short ∷ []) (number r) q.first));
    rest = refl;
    kept = λ y. refl;
  }

  module _ (q : ImportTested env h ws ks sh sw sk ts ps none) where
    last_test : first_broken (lent_tests env dest ++ tests (store_of dest)) ≡ first_broken (short ∷ [])
    last_test = broken_next most (short ∷ []) q.first

    pub import_short : length out < length ts
        → ListPromised (import_call env dest from (types_in ts) ps (length out)) (Err Short) (length ts) h ws ks h ws ks out out
    import_short l = record {
      promised =
          rw call_is
          (call_back env h ws ks tests work SHORT
          (last_test ∙ test_stands SHORT [] (lt-ltb (length out) (length (types_in ts)) (rw (length-map ts ty_of) l))));
      rest = refl;
      kept = λ y. refl;
    }

    stores_passed : first_broken (stores_tests env dest from) ≡ none
    stores_passed = passed_first (stores_tests env dest from) (given_tests ++ needed_tests) q.first

    later_passed : first_broken (given_tests ++ needed_tests) ≡ none
    later_passed = passed_next (stores_tests env dest from) (given_tests ++ needed_tests) q.first

    room_passed : first_broken (room_tests (store_of dest) wanted.nodes wanted.children) ≡ none
    room_passed = tests_passed wanted.missing NO_ENTRY (room_tests (store_of dest) wanted.nodes wanted.children) (passed_next given_tests needed_tests later_passed)

    module _ (long : length ts ≤ length out) {x : Header} (g : x ≡ header_in sh) where
      nodes_are : (store_of from).nodes ≡ decode sw sk x.nodes
      nodes_are = source_nodes env h ws ks sh sw sk stores_passed g

      ready : Ready h ws ks wanted.nodes wanted.children
      ready = lent_ready env h ws ks (dest_passed env h ws ks sh sw sk stores_passed) wanted.nodes wanted.children room_passed

      pub import_ready : ImportReady sw sk x.nodes ps ts h ws ks out
      import_ready = record {
        source =
            importable env h ws ks sh sw sk stores_passed g (types_in ts)
            (listed_inside (store_of from) (store_of dest) (types_in ts) ps (passed_first given_tests needed_tests later_passed));
        clean = ready.clean;
        room = rw nodes_are at ready.room;
        long = long;
      }

      pub import_done : {h' ws' ks' out' : List ℕ}
          → ImportedIs (import (decode sw sk x.nodes) ps (store_in h ws ks) (types_in ts)) (length ts) h ws ks h' ws' ks' out out'
          → ListPromised (import_call env dest from (types_in ts) ps (length out)) (Ok tt) (length ts) h ws ks h' ws' ks' out out'
      import_done o =
          let m : MovedAll = import (decode sw sk x.nodes) ps (store_in h ws ks) (types_in ts) in
          record {
            promised =
                rw call_is
                (call_done env h ws ks tests work (last_test ∙ test_falls SHORT [] (le-ltb (length out) (length (types_in ts)) (rw (length-map ts ty_of) long)))
                (rw nodes_are (ap (λ (us : List Ty). done us m.work.dest) (sym o.types))) o.store);
            rest = o.rest;
            kept = λ y. let v : ◌≡◌ {A = ℕ} 0 1 = cc in absurd (omega arith);
          }
