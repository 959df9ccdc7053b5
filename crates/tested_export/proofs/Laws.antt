-- An export's tests one after another, and one law for each way out of the call: turned back, with a list that is too short for the answer, and done.
-- Once all is passed the source is sound with its types inside, and the destination's slices can hold what is copied, whatever they hold.
-- Assumes nothing.
use mathlib.Core.Path.{◌≡◌, refl, ap, sym, ◌∙◌}
use mathlib.Core.Bool.{Bool, not, or-false}
use mathlib.Core.List.{List, [], ◌∷◌, ◌++◌, append-nil}
use mathlib.Core.Option.{Option, none, some}
use Prim.Native.Nat.{ℕ, ◌+◌, ◌≤◌, ◌<◌}
use native.Mathlib.Omega.{arith}
use lib.Dec.{ltb}
use lib.ListN.{length, length-map}
use borrow.Author.Tests.{lt-ltb, le-ltb, ltb-false, not-false}
use Rattle.scope.specs.Base.{all}
use Rattle.scope.specs.Limits.{MAX_NODES, MAX_CHILDREN}
use Rattle.scope.specs.Chart.{Env}
use Rattle.scope.specs.Types.{Ty, ty_of}
use Rattle.scope.specs.Nodes.{Node, Store, opened}
use Rattle.scope.specs.Import.{MovedAll, export}
use Rattle.scope.specs.Needs.{Needs, needs, exported}
use Rattle.scope.specs.Sound.{Lent, in_store}
use Rattle.scope.specs.Refusals.{OUTSIDE, UNMAKEABLE, NODES_FULL, CHILDREN_FULL, SHORT}
use Rattle.scope.specs.Calls.{Outcome, done, judged, first_broken, store_of, open_test, lent_tests, too_many, room_tests, short_for, Exported, export_call}
use Rattle.scope.proofs.NeedsTests.{export_tests_lem}
use Rattle.layout.specs.Words.{nodes_made, store_in, lent_of}
use Rattle.layout.specs.Meaning.{header_in, store_means}
use Rattle.layout.specs.declared.Header.{Header}
use Rattle.store.specs.Holds.{Openable, Room}
use Rattle.store.specs.Entries.{types_in}
use Rattle.store.proofs.Laws.{store_count}
use Rattle.std.specs.Prelude.{Ok, Err}
use Rattle.refusals.specs.declared.Refusal.{Refusal}
use Rattle.refusals.specs.declared.Refusal.TheVariants.{Short}
use Rattle.refusals.specs.Codes.{number}
use Rattle.refusals.specs.Opening.{enough}
use Rattle.refusals.proofs.Laws.{broken_first, broken_next, test_stands, test_falls, test_passed, tests_passed, passed_first, passed_next, judged_refused, judged_done}
use Rattle.refusals.proofs.OpenLaws.{openable}
use Rattle.needs.specs.declared.Needs as counted
use Rattle.needs.specs.Sums.{sum_of}
use Rattle.needs.specs.Sources.{Importable, ExportNeeds}
use Rattle.needs.proofs.SourceLaws.{sound_export}
use Rattle.make.specs.Header as header
use Rattle.promise.specs.Exports.{ExportPromised}
use Rattle.promise.specs.Promise.{Tested}
use Rattle.promise.proofs.Laws.{lent_clean_words, lent_store, lent_facts}
use Rattle.copy.specs.Whole.{ExportReady, ImportedIs}
use Rattle.lent_tests.specs.Given.{FirstOf}
use Rattle.lent_tests.specs.Given as two
use Rattle.tested_export.specs.Tests.{list_tests, fresh_tests, export_tests, ExportTested}

-- a list alone is one beside which there is none

pub one_list : {n : ℕ} (ts : List Ty) {o : Option ℕ} → FirstOf n (two.list_tests ts []) o → FirstOf n (list_tests ts) o
unfolding two.list_tests
one_list ts t = record { code = λ s l. rw (append-nil, or-false) at t.code s l }

-- room in a fresh store

module _ (n c : ℕ) (k : Needs) where
  pub fresh_room : n ≤ MAX_NODES → c ≤ MAX_CHILDREN → first_broken (fresh_tests n c k) ≡ none → Room (opened n c) k.nodes k.children
  fresh_room a b q =
      let x : Bool = ltb n (0 + k.nodes) in
      let y : Bool = ltb c (0 + k.children) in
      record {
        node_limit = a;
        child_limit = b;
        nodes = ltb-false n (0 + k.nodes) (test_passed x NODES_FULL ((y, CHILDREN_FULL) ∷ []) q);
        children = ltb-false c (0 + k.children) (test_passed y CHILDREN_FULL [] (tests_passed x NODES_FULL ((y, CHILDREN_FULL) ∷ []) q));
      }

-- the header of a fresh store tells that
pub fresh_told : {n c : ℕ} (u : counted.Needs) {x : Header} {o : Option ℕ} → x ≡ header.fresh n c 0
    → ((ns : List Node) → length ns ≡ x.nodes → first_broken (room_tests (store_means x ns) u.nodes u.children) ≡ o) → first_broken (fresh_tests n c (sum_of u)) ≡ o
fresh_told u e t = (rw e at t) [] refl

-- a sound source with its types inside
module _ (e : Env) (sh sw sk : List ℕ) (ts : List Ty) (q : first_broken (lent_tests e (lent_of sh sw sk)) ≡ none)
    (i : first_broken (list_tests ts (store_of (lent_of sh sw sk))) ≡ none) where
  exportable : Importable sw sk (nodes_made sh) (exported (store_in sh sw sk) ts)
  exportable =
      let inside : Bool = all (in_store (store_of (lent_of sh sw sk)).nodes) ts in
      sound_export e sh sw sk (lent_clean_words e sh sw sk q) (lent_facts e sh sw sk q) ts
      (ap (λ (s : Store). all (in_store s.nodes) ts) (sym (lent_store e sh sw sk q))
      ∙ not-false inside (test_passed (not inside) OUTSIDE ((too_many ts, UNMAKEABLE) ∷ []) i))

-- the tests one after another

module _ (e : Env) (sh sw sk h ws ks : List ℕ) (n c : ℕ) (ts : List ℕ) where
  abbrev l : Lent
  l = lent_of sh sw sk

  abbrev lists : List (Bool × ℕ)
  lists = list_tests (types_in ts) (store_of l)

  abbrev fresh : List (Bool × ℕ)
  fresh = fresh_tests n c (needs (store_of l).nodes none (exported (store_of l) (types_in ts)))

  abbrev opening : List (Bool × ℕ)
  opening = open_test n c (enough n c h ws ks) ∷ []

  pub refused_opening : {r : ℕ} → first_broken opening ≡ some r → ExportTested e sh sw sk h ws ks n c ts (some r)
  refused_opening {r = r} q = record { first = broken_first opening (lent_tests e l ++ (lists ++ fresh)) r q }

  pub refused_source : {r : ℕ} → first_broken opening ≡ none → first_broken (lent_tests e l) ≡ some r → ExportTested e sh sw sk h ws ks n c ts (some r)
  refused_source {r = r} q p = record {
    first = broken_next opening (lent_tests e l ++ (lists ++ fresh)) q ∙ broken_first (lent_tests e l) (lists ++ fresh) r p;
  }

  module _ (q : first_broken opening ≡ none) (p : Tested e sh sw sk) {x : Header} (g : x ≡ header_in sh) {o : Option ℕ}
      (t : FirstOf x.nodes (list_tests (types_in ts)) o) where
    list_told : first_broken lists ≡ o
    list_told =
        t.code (store_of l)
        (ap (λ (s : Store). length s.nodes) (lent_store e sh sw sk p.passed) ∙ (store_count sh sw sk ∙ sym (ap (λ (y : Header). y.nodes) g)))

    after_source : first_broken (export_tests e l n c (enough n c h ws ks) (types_in ts)) ≡ first_broken (lists ++ fresh)
    after_source = broken_next opening (lent_tests e l ++ (lists ++ fresh)) q ∙ broken_next (lent_tests e l) (lists ++ fresh) p.passed

    pub refused_list : {r : ℕ} → o ≡ some r → ExportTested e sh sw sk h ws ks n c ts (some r)
    refused_list {r = r} v = record { first = after_source ∙ broken_first lists fresh r (list_told ∙ v) }

    module _ (v : o ≡ none) where
      pub needs_asks : Importable sw sk (nodes_made sh) (exported (store_in sh sw sk) (types_in ts))
      needs_asks = exportable e sh sw sk (types_in ts) p.passed (list_told ∙ v)

      pub told_room : {u : counted.Needs} {m : Option ℕ} → ExportNeeds sh sw sk ts u → first_broken (fresh_tests n c (sum_of u)) ≡ m
          → ExportTested e sh sw sk h ws ks n c ts m
      told_room f y = record {
        first =
            after_source
            ∙ (broken_next lists fresh (list_told ∙ v)
            ∙ (ap (λ (s : Store). first_broken (fresh_tests n c (needs s.nodes none (exported s (types_in ts))))) (lent_store e sh sw sk p.passed)
            ∙ (ap (λ (a : Needs). first_broken (fresh_tests n c a)) (sym f.is) ∙ y)));
      }

-- the ways out of `export`

module _ (e : Env) (sh sw sk h ws ks : List ℕ) (n c : ℕ) (ts out : List ℕ) where
  abbrev lent : Lent
  lent = lent_of sh sw sk

  abbrev call : Outcome Exported
  call = export_call e lent n c (enough n c h ws ks) (types_in ts) (length out)

  abbrev most : List (Bool × ℕ)
  most = export_tests e lent n c (enough n c h ws ks) (types_in ts)

  abbrev short : Bool × ℕ
  short = short_for (length out) (length (types_in ts))

  abbrev work : Store → Outcome Exported
  work s = let m : MovedAll = export s (opened n c) (types_in ts) in done (record { types = m.types; fresh = m.work.dest }) s

  call_is : call ≡ judged (most ++ (short ∷ [])) (work (store_of lent))
  call_is = export_tests_lem e lent n c (enough n c h ws ks) (types_in ts) (length out)

  back : (k : Refusal) → first_broken (most ++ (short ∷ [])) ≡ some (number k)
      → ExportPromised call (Err k) (length ts) (store_in sh sw sk) h ws ks h ws ks out out
  back k p = record {
    outcome = call_is ∙ judged_refused (most ++ (short ∷ [])) (work (store_of lent)) (number k) p;
    again = λ y. let v : ◌≡◌ {A = ℕ} 0 1 = cc in absurd (omega arith);
    kept = λ y. record { head = refl; nodes = refl; kids = refl };
    rest = refl;
    list = λ y. refl;
  }

  pub export_back : {k : Refusal} → ExportTested e sh sw sk h ws ks n c ts (some (number k))
      → ExportPromised call (Err k) (length ts) (store_in sh sw sk) h ws ks h ws ks out out
  export_back {k} q = back k (broken_first most (short ∷ []) (number k) q.first)

  module _ (q : ExportTested e sh sw sk h ws ks n c ts none) where
    last_test : first_broken (most ++ (short ∷ [])) ≡ first_broken (short ∷ [])
    last_test = broken_next most (short ∷ []) q.first

    pub export_short : length out < length ts → ExportPromised call (Err Short) (length ts) (store_in sh sw sk) h ws ks h ws ks out out
    export_short l = back Short (last_test ∙ test_stands SHORT [] (lt-ltb (length out) (length (types_in ts)) (rw (length-map ts ty_of) l)))

    abbrev first : List (Bool × ℕ)
    first = open_test n c (enough n c h ws ks) ∷ []

    abbrev list : List (Bool × ℕ)
    list = list_tests (types_in ts) (store_of lent)

    abbrev room : List (Bool × ℕ)
    room = fresh_tests n c (needs (store_of lent).nodes none (exported (store_of lent) (types_in ts)))

    later_passed : first_broken (lent_tests e lent ++ (list ++ room)) ≡ none
    later_passed = passed_next first (lent_tests e lent ++ (list ++ room)) q.first

    lent_passed : first_broken (lent_tests e lent) ≡ none
    lent_passed = passed_first (lent_tests e lent) (list ++ room) later_passed

    given_passed : first_broken (list ++ room) ≡ none
    given_passed = passed_next (lent_tests e lent) (list ++ room) later_passed

    store_is : store_of lent ≡ store_in sh sw sk
    store_is = lent_store e sh sw sk lent_passed

    module _ (long : length ts ≤ length out) where
      pub export_ready : ExportReady sh sw sk ts n c h ws ks out
      export_ready =
          let o : Openable n c h ws ks = openable n c h ws ks (passed_first first (lent_tests e lent ++ (list ++ room)) q.first) in
          let k : Needs = needs (store_of lent).nodes none (exported (store_of lent) (types_in ts)) in
          record {
            source = exportable e sh sw sk (types_in ts) lent_passed (passed_first list room given_passed);
            openable = o;
            room = rw store_is at (fresh_room n c k o.nodes o.children (passed_next list room given_passed));
            long = long;
          }

      pub export_done : {h' ws' ks' out' : List ℕ} → ImportedIs (export (store_in sh sw sk) (opened n c) (types_in ts)) (length ts) h ws ks h' ws' ks' out out'
          → ExportPromised call (Ok tt) (length ts) (store_in sh sw sk) h ws ks h' ws' ks' out out'
      export_done o = record {
        outcome =
            call_is
            ∙ (judged_done (most ++ (short ∷ [])) (work (store_of lent))
            (last_test ∙ test_falls SHORT [] (le-ltb (length out) (length (types_in ts)) (rw (length-map ts ty_of) long)))
            ∙ (ap work store_is ∙ rw (o.types, o.store.holds.is) refl));
        again = λ y. rw o.store.holds.is o.store;
        kept = λ y. let v : ◌≡◌ {A = ℕ} 0 1 = cc in absurd (omega arith);
        rest = o.rest;
        list = λ y. let v : ◌≡◌ {A = ℕ} 0 1 = cc in absurd (omega arith);
      }
