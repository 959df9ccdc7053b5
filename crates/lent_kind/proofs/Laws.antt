-- What is given by a lent kind, and one law for each way out of `test_kind`. A kind that 4 does not turn back has whole entries and no name too many, so
-- it is the kind that the entries' words mean. What stands beside the chart is not looked at.
-- Assumes nothing.
use mathlib.Core.Path.{◌≡◌, refl, ap, sym, ◌∙◌}
use mathlib.Core.Bool.{Bool, true, false, not, and-false}
use mathlib.Core.List.{List, [], ◌∷◌, ◌++◌, append-nil}
use mathlib.Core.Option.{Option, none, some}
use Prim.Native.Nat.{ℕ, suc, ◌+◌, ◌-◌, ◌%◌, ◌<◌}
use native.Mathlib.Omega.{arith}
use lib.Dec.{eqb, ltb, leb}
use lib.ListN.{length, length-append}
use borrow.Author.Tests.{lt-leb, eq-eqb, ne_eqb}
use Rattle.scope.specs.Base.{pick}
use Rattle.scope.specs.Limits.{MAX_WIDTH, KINDS}
use Rattle.scope.specs.Names.{Texts, Name}
use Rattle.scope.specs.Chart.{Env}
use Rattle.scope.specs.Kinds.{Head, row_of, OWN_NAME, CHILD_NAMES, PARAMETER_NAMES, flag_of, shape_fits, names_ok, makeable, defined}
use Rattle.scope.specs.Nodes as nodes
use Rattle.scope.specs.Sound.{names_clean}
use Rattle.scope.specs.Refusals.{UNMAKEABLE, UNDEFINED}
use Rattle.scope.specs.Calls.{first_broken, kind_made}
use Rattle.names.specs.Place.{texts_by}
use Rattle.chart.specs.declared.Env as lent
use Rattle.chart.specs.Env.{chart_in, chart_alone, chart_lent}
use Rattle.layout.specs.Words.{CHILD_WORDS}
use Rattle.layout.specs.Meaning.{kind_cell, kind_means, named_of}
use Rattle.layout.specs.declared.Kind.{Kind}
use Rattle.layout.proofs.KindLaws.{names_count}
use Rattle.kind_sound.proofs.Laws.{flag_reads, defined_chart}
use Rattle.store.specs.Entries.{entry_count, entry_types}
use Rattle.make.specs.Given.{kind_at}
use Rattle.store.proofs.EntryLaws.{entries_long}
use Rattle.lent_kind.specs.declared.KindArgs.{KindArgs}
use Rattle.lent_kind.specs.Lent.{with_flag, kind_lent, tidy, given, kind_tests}

-- 4: too wide, or with a name too many

module _ (x : Texts) (h : Head) (n : ℕ) where
  pub wide_unmakeable : MAX_WIDTH < n → makeable x h n ≡ false
  unfolding makeable
  wide_unmakeable q = rw (lt-leb n MAX_WIDTH q) (and-false (ltb h.code KINDS))

  misnamed_unmakeable : names_ok x (row_of h.code).names h.names n ≡ false → makeable x h n ≡ false
  unfolding makeable
  misnamed_unmakeable q =
      rw (q, and-false (shape_fits (row_of h.code).shape n), and-false (leb n MAX_WIDTH)) (and-false (ltb h.code KINDS))

over_by : (a b c : Bool) (x : Texts) (d n : ℕ) (ns : List (Option Name)) → eqb d OWN_NAME ≡ a → eqb d CHILD_NAMES ≡ b → eqb d PARAMETER_NAMES ≡ c
    → length ns ≡ pick a 1 (pick b n (pick c (n - 1) 0)) + 1 → names_ok x d ns n ≡ false
unfolding names_ok
over_by true b c x d n ns e f g l = rw (e, ne_eqb (length ns) 1 (λ q. omega arith))
over_by false true c x d n ns e f g l = rw (e, f, ne_eqb (length ns) n (λ q. omega arith))
over_by false false true x d n ns e f g l = rw (e, f, g, ne_eqb (suc (length ns)) n (λ q. omega arith))
over_by false false false x d n ns e f g l = rw (e, f, g, ne_eqb (length ns) 0 (λ q. omega arith))

surplus_misnamed : (x : Texts) (es : List ℕ) (k : Kind)
    → names_ok x (row_of k.code).names ((kind_means es k).head.names ++ (none ∷ [])) k.count ≡ false
surplus_misnamed x es k =
    let d : ℕ = (row_of k.code).names in
    let ns : List (Option Name) = (kind_means es k).head.names in
    let l : length (ns ++ (none ∷ [])) ≡ pick (eqb d OWN_NAME) 1 (named_of d k.count) + 1 =
    length-append ns (none ∷ []) ∙ ap (λ (m : ℕ). m + 1) (names_count es k) in
    over_by (eqb d OWN_NAME) (eqb d CHILD_NAMES) (eqb d PARAMETER_NAMES) x d k.count (ns ++ (none ∷ [])) refl refl refl l

-- what is given

module _ (k : KindArgs) (es : List ℕ) where
  pub given_kids : (given k es).kids ≡ entry_types es
  unfolding given
  given_kids = refl

  pub given_count : length (given k es).kids ≡ entry_count es
  given_count = ap length given_kids ∙ entries_long es

  pub given_kind : (e : Env) (d : Bool) → d ≡ flag_of e k.code k.number → tidy k es ≡ true → kind_made e (given k es) ≡ kind_means es (kind_lent k d es)
  unfolding given kind_means
  given_kind e d f t = rw (t, ← f, append-nil)

  untidy_unmakeable : (e : Env) → tidy k es ≡ false → makeable e.texts (kind_made e (given k es)).head (length (given k es).kids) ≡ false
  unfolding given
  untidy_unmakeable e t =
      rw (given_count, t)
      (misnamed_unmakeable e.texts _ (entry_count es) (surplus_misnamed e.texts es (kind_lent k false es)))

  -- 4 turns back what is not tidy
  pub untidy_test : (e : Env) (ts : List (Bool × ℕ)) → tidy k es ≡ false → first_broken (kind_tests e (given k es) ++ ts) ≡ some UNMAKEABLE
  untidy_test e ts t = rw (untidy_unmakeable e t)

-- test_kind

-- the flag does not look at the texts
pub flag_is : (cs rule text : List ℕ) (k : KindArgs) (es : List ℕ) → flag_of (chart_alone cs) k.code k.number ≡ flag_of (chart_in cs rule text) k.code k.number
flag_is cs rule text k es = flag_reads (chart_alone cs) (chart_in cs rule text) refl k.code k.number

module _ (l : lent.Env) (k : KindArgs) (es : List ℕ) where
  abbrev env : Env
  env = chart_lent l

  abbrev flag : Bool
  flag = flag_of (chart_alone l.chart.now) k.code k.number

  pub torn_refused : (length es % CHILD_WORDS ≡ 0 → ⊥) → first_broken (kind_tests env (given k es)) ≡ some UNMAKEABLE
  torn_refused z = untidy_test k es env [] (rw (ne_eqb (length es % CHILD_WORDS) 0 z))

  module _ {n : Kind} {c : ℕ} (f : n ≡ with_flag k flag) (counted : c ≡ entry_count es) (whole : length es % CHILD_WORDS ≡ 0) where
    abbrev kind : Kind
    kind = kind_at n n.first c

    kind_is : kind ≡ kind_lent k flag es
    kind_is = ap (λ (m : Kind). kind_at m m.first c) f ∙ ap (kind_at (with_flag k flag) 0) counted

    tidy_by : {b : Bool} → b ≡ names_clean (kind_cell es kind) → tidy k es ≡ b
    tidy_by q = rw (eq-eqb (length es % CHILD_WORDS) 0 whole) (sym (q ∙ ap (λ (y : Kind). names_clean (kind_cell es y)) kind_is))

    pub unclean_refused : {b : Bool} → b ≡ names_clean (kind_cell es kind) → b ≡ false → first_broken (kind_tests env (given k es)) ≡ some UNMAKEABLE
    unclean_refused q z = untidy_test k es env [] (tidy_by q ∙ z)

    module _ {b : Bool} (q : b ≡ names_clean (kind_cell es kind)) (y : b ≡ true) where
      made_is : kind_made env (given k es) ≡ kind_means es kind
      made_is = given_kind k es env flag (flag_is _ _ _ k es) (tidy_by q ∙ y) ∙ sym (ap (kind_means es) kind_is)

      width_is : length (given k es).kids ≡ kind.count
      width_is = given_count k es ∙ sym (ap (λ (y : Kind). y.count) kind_is)

      module _ {m : Bool} (p : m ≡ makeable (texts_by l.texts) (kind_means es kind).head kind.count) where
        made_test : makeable (texts_by l.texts) (kind_made env (given k es)).head (length (given k es).kids) ≡ m
        made_test =
            ap (λ (y : nodes.Kind). makeable (texts_by l.texts) y.head (length (given k es).kids)) made_is ∙ rw width_is (sym p)

        pub unmade_refused : m ≡ false → first_broken (kind_tests env (given k es)) ≡ some UNMAKEABLE
        unmade_refused z = rw (made_test ∙ z)

        module _ {d : Bool} (r : d ≡ defined (chart_alone l.chart.now) (kind_means [] kind).head) (o : m ≡ true) where
          defined_test : first_broken (kind_tests env (given k es)) ≡ first_broken ((not d, UNDEFINED) ∷ [])
          defined_test =
              let v : defined env (kind_made env (given k es)).head ≡ d =
              ap (λ (y : nodes.Kind). defined env y.head) made_is ∙ (defined_chart env l.chart.now refl es kind ∙ sym r) in
              rw (made_test ∙ o, v)

          pub undefined_refused : d ≡ false → first_broken (kind_tests env (given k es)) ≡ some UNDEFINED
          undefined_refused z = defined_test ∙ rw z

          pub kind_passed : d ≡ true → first_broken (kind_tests env (given k es)) ≡ none
          kind_passed z = defined_test ∙ rw z
