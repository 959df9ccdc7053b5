-- One law for each way out of a call that makes a kind. The core makes a kind that 4 and 5 do not turn back where 10 and 11 find room.
-- Assumes nothing.
use mathlib.Core.Path.{◌≡◌, refl, ap, sym, ◌∙◌}
use mathlib.Core.Bool.{Bool, true, false, not}
use mathlib.Core.List.{List, [], ◌∷◌, ◌++◌}
use mathlib.Core.Option.{Option, none, some}
use Prim.Native.Nat.{ℕ, ◌%◌, ◌<◌}
use lib.Dec.{eqb, ltb}
use lib.ListN.{length}
use borrow.Author.Tests.{ltb-true}
use Rattle.scope.specs.Base.{all}
use Rattle.scope.specs.Limits.{MAX_WIDTH}
use Rattle.scope.specs.Chart.{Env}
use Rattle.scope.specs.Types.{Ty, ty_of}
use Rattle.scope.specs.Kinds.{flag_of, makeable, defined}
use Rattle.scope.specs.Nodes.{Node, Store}
use Rattle.scope.specs.Sound.{Lent, in_store, names_clean}
use Rattle.scope.specs.Make.{new}
use Rattle.scope.specs.Refusals.{OUTSIDE, UNMAKEABLE}
use Rattle.scope.specs.Calls.{NewKind, Outcome, judged, first_broken, or_refused, store_of, lent_tests, outside, room_tests, kind_made, made_type, new_call}
use Rattle.chart.specs.declared.Beside.{Beside}
use Rattle.chart.specs.Env.{env_of, chart_in, chart_alone}
use Rattle.types.specs.declared.«Type».{«Type»}
use Rattle.layout.specs.Words.{CHILD_WORDS, store_in, lent_of}
use Rattle.layout.specs.Meaning.{kind_cell, header_in}
use Rattle.layout.specs.declared.Header.{Header}
use Rattle.layout.specs.declared.Kind.{Kind}
use Rattle.layout.proofs.Lists.{and_right}
use Rattle.store.specs.Holds.{Ready}
use Rattle.make.specs.Made.{MadeIs}
use Rattle.store.specs.Entries.{entry_count}
use Rattle.make.specs.Given.{kind_given, KindReady}
use Rattle.make.proofs.NewLaws.{kind_ready}
use Rattle.sound.specs.Tests.{env_in}
use Rattle.sound.proofs.Laws.{env_ok, env_whole}
use Rattle.promise.specs.Promise.{Promised, Reply, value, refusal}
use Rattle.refusals.proofs.Laws.{none_some, broken_first, broken_next, test_passed, judged_refused, judged_done}
use Rattle.promise.proofs.Laws.{lent_chart, lent_next, lent_store, lent_outside, promised_back, promised_done}
use Rattle.refusals.proofs.RoomLaws.{ready_more}
use Rattle.make.proofs.MakeLaws.{made_done}
use Rattle.lent_kind.specs.declared.KindArgs.{KindArgs}
use Rattle.lent_kind.specs.Lent.{with_flag, kind_lent, tidy, given, list_tests, kind_tests}
use Rattle.lent_kind.proofs.Laws.{wide_unmakeable, given_count, given_kind, untidy_test, flag_is}
use Rattle.tested_over.specs.Inside.{inside_call}

-- make_inside

module _ (cs rule text h ws ks : List ℕ) (k : KindArgs) (es : List ℕ) where
  abbrev a : NewKind
  a = given k es

  abbrev inner : Env
  inner = chart_in cs rule text

  abbrev s : Store
  s = store_in h ws ks

  abbrev rooms : List (Bool × ℕ)
  rooms = room_tests s 1 (length a.kids)

  -- what room tells
  abbrev Room : Option ℕ → Type 0
  Room o = (ws ks : List ℕ) → first_broken (room_tests (store_in h ws ks) 1 (entry_count es)) ≡ o

  pub inside_refused : {n : ℕ} → first_broken (kind_tests inner a) ≡ some n → Promised (inside_call inner s a) (refusal n) h ws ks h ws ks
  inside_refused {n} q = promised_back (judged_refused (kind_tests inner a ++ rooms) _ n (broken_first (kind_tests inner a) rooms n q))

  module _ (q : first_broken (kind_tests inner a) ≡ none) where
    all_tests : {o : Option ℕ} → Room o → first_broken (kind_tests inner a ++ rooms) ≡ o
    all_tests p = broken_next (kind_tests inner a) rooms q ∙ rw (given_count k es) (p ws ks)

    pub inside_full : {m : ℕ} → Room (some m) → Promised (inside_call inner s a) (refusal m) h ws ks h ws ks
    inside_full {m} p = promised_back (judged_refused (kind_tests inner a ++ rooms) _ m (all_tests p))

    module _ (p : Room none) where
      tidy_go : (t : Bool) → tidy k es ≡ t → tidy k es ≡ true
      tidy_go true r = r
      tidy_go false r = none_some UNMAKEABLE (sym (untidy_test k es inner rooms r) ∙ all_tests p)

      inside_tidy : tidy k es ≡ true
      inside_tidy = tidy_go (tidy k es) refl

      module _ {f : Kind} (g : f ≡ with_flag k (flag_of (chart_alone cs) k.code k.number)) where
        pub inside_ready : Ready h ws ks 0 0 → KindReady h ws ks f es
        inside_ready r = rw g (kind_ready (with_flag k (flag_of (chart_alone cs) k.code k.number)) es
            (ready_more 1 (entry_count es) r (p ws ks))
            (and_right (eqb (length es % CHILD_WORDS) 0) (names_clean (kind_cell es (kind_lent k false es))) inside_tidy))

        kind_made_lem : kind_made inner a ≡ kind_given f es
        kind_made_lem =
            given_kind k es inner (flag_of (chart_alone cs) k.code k.number) (flag_is cs rule text k es) inside_tidy
            ∙ sym (ap (λ (n : Kind). kind_given n es) g)

        pub inside_made : {h' ws' ks' : List ℕ} {t : «Type»} → MadeIs h ws ks h' ws' ks' t (new s (kind_given f es))
            → Promised (inside_call inner s a) (value (ty_of t.0)) h ws ks h' ws' ks'
        inside_made o =
            let j = judged_done (kind_tests inner a ++ rooms) (made_type (new s (kind_made inner a))) (all_tests p) in
            promised_done (j ∙ (ap (λ y. made_type (new s y)) kind_made_lem ∙ made_done o)) o.store

-- 2, 8 and 3

beside_unread : (cs : List ℕ) (b : Beside) (rule text : List ℕ) (s : Store) (a : NewKind)
    → inside_call (env_of cs b rule text) s a ≡ inside_call (chart_in cs rule text) s a
unfolding defined flag_of
beside_unread cs b rule text s a = refl

module _ (cs : List ℕ) (b : Beside) (rule text h ws ks : List ℕ) (a : NewKind) where
  abbrev outer : Env
  outer = env_in cs b rule text

  abbrev lent : Lent
  lent = lent_of h ws ks

  abbrev later : List (Bool × ℕ)
  later = kind_tests outer a ++ room_tests (store_of lent) 1 (length a.kids)

  abbrev tests : List (Bool × ℕ)
  tests = lent_tests outer lent ++ (outside (store_of lent) a.kids ∷ later)

  abbrev made : Outcome Ty
  made = made_type (new (store_of lent) (kind_made outer a))

  call_tests : new_call outer lent a ≡ judged tests made
  unfolding new_call
  call_tests = refl

  module _ (q : first_broken (lent_tests outer lent) ≡ none) {x : Header} (g : x ≡ header_in h) (ts : List Ty) (kids : a.kids ≡ ts) {w : ℕ}
      (many : length ts ≡ w) {i : Bool} (o : (ns : List Node) → length ns ≡ x.nodes → i ≡ all (in_store ns) ts) where
    inside_tests : first_broken tests ≡ first_broken ((not i, OUTSIDE) ∷ later)
    inside_tests =
        lent_next outer h ws ks (outside (store_of lent) a.kids ∷ later) q
        ∙ ap (λ t. first_broken (t ∷ later)) (ap (outside (store_of lent)) kids ∙ lent_outside outer h ws ks q x g ts i o)

    too_wide : MAX_WIDTH < w → makeable outer.texts (kind_made outer a).head (length a.kids) ≡ false
    too_wide l = wide_unmakeable outer.texts (kind_made outer a).head (length a.kids) (rw (kids, many) l)

    -- where 3 or the width turns the call back
    list_by : (b t : Bool) (m : ℕ) → i ≡ b → ltb MAX_WIDTH w ≡ t → first_broken (list_tests b w) ≡ some m → first_broken tests ≡ some m
    list_by false t m f e r = inside_tests ∙ rw f r
    list_by true true m f e r = inside_tests ∙ rw (f, too_wide (ltb-true MAX_WIDTH w e)) (rw e at r)
    list_by true false m f e r = none_some m (sym (rw e at r))

    pub new_listed : {m : ℕ} → first_broken (list_tests i w) ≡ some m → Promised (new_call outer lent a) (refusal m) h ws ks h ws ks
    new_listed {m} p = promised_back (call_tests ∙ judged_refused tests made m (list_by i (ltb MAX_WIDTH w) m refl refl p))

    module _ (p : first_broken (list_tests i w) ≡ none) where
      later_tests : first_broken tests ≡ first_broken later
      later_tests = inside_tests ∙ rw (test_passed (not i) OUTSIDE ((ltb MAX_WIDTH w, UNMAKEABLE) ∷ []) p)

      new_inside : new_call outer lent a ≡ inside_call (chart_in cs rule text) (store_in h ws ks) a
      new_inside =
          let whole = env_whole cs b rule text (sym (env_ok cs b rule text) ∙ lent_chart outer h ws ks q) in
          call_tests
          ∙ (ap (λ (y : Option ℕ). or_refused y made) later_tests
          ∙ (ap (λ (y : Store). inside_call outer y a) (lent_store outer h ws ks q)
          ∙ (ap (λ (y : Env). inside_call y (store_in h ws ks) a) whole ∙ beside_unread cs b rule text (store_in h ws ks) a)))

      pub new_promised : {a' : NewKind} {r : Reply Ty} {h' ws' ks' : List ℕ} → a' ≡ a
          → Promised (inside_call (chart_in cs rule text) (store_in h ws ks) a') r h ws ks h' ws' ks' → Promised (new_call outer lent a) r h ws ks h' ws' ks'
      new_promised e z = rw (new_inside ∙ ap (inside_call (chart_in cs rule text) (store_in h ws ks)) (sym e)) z
