-- Laws of the chart that no proof of a function needs. What a chart and texts that pass their test give: each field of each record, each sigil and the fn trait are
-- in their range. And only the numbers of records have a sort, so a number that the chart lacks is of no sort that a kind asks for. Assumes nothing.
use mathlib.Core.Path.{◌≡◌, ap}
use mathlib.Core.Bool.{true, ◌&&◌}
use mathlib.Core.List.{List}
use Prim.Native.Nat.{ℕ, ◌%◌, ◌≤◌, ◌<◌}
use native.Mathlib.Decide.{dec_lt}
use native.Mathlib.Omega.{arith}
use borrow.Author.Tests.{leb-true, eqb-true}
use lib.Dec.{eqb, leb}
use lib.ListN.{length, get_or-eq_default}
use Rattle.scope.specs.Base.{all}
use Rattle.scope.specs.Limits.{MAX_RECORDS, SIGILS}
use Rattle.scope.specs.Names.{name, name_ok, texts_ok}
use Rattle.scope.specs.Chart.{Env, Record, no_record, record_at, sort_at, sigil_at, is_trait, flag_ok}
use Rattle.scope.specs.Chart.{trait_ok, record_ok, sigil_ok, sigils_ok, fn_trait_ok, chart_ok, TRAIT_SORT, TRAIT_FN_SORT, NO_SORT}
use Rattle.names.proofs.Tests.{both, all_at}
use Rattle.chart.specs.declared.Beside.{Beside}
use Rattle.chart.specs.Words.{RECORD_WORDS}
use Rattle.chart.specs.Env.{env_of, chart_words_ok}

pub words_passed : (ws : List ℕ) (b : Beside) (rule text : List ℕ) → chart_words_ok ws b rule text ≡ true → (length ws % RECORD_WORDS ≡ 0) × (chart_ok (env_of ws b rule text) ≡ true)
unfolding chart_words_ok
words_passed ws b rule text h =
    let p = both (eqb (length ws % RECORD_WORDS) 0) (chart_ok (env_of ws b rule text)) h in
    (eqb-true (length ws % RECORD_WORDS) 0 p.0, p.1)

module _ (e : Env) (h : chart_ok e ≡ true) where
  pub chart_few : length e.records ≤ MAX_RECORDS
  unfolding chart_ok
  chart_few = leb-true (length e.records) MAX_RECORDS (both (leb (length e.records) MAX_RECORDS) _ h).0

  past_few : (texts_ok e.texts && (all (record_ok e) e.records && (fn_trait_ok e && sigils_ok e))) ≡ true
  unfolding chart_ok
  past_few = (both (leb (length e.records) MAX_RECORDS) _ h).1

  pub chart_texts : texts_ok e.texts ≡ true
  chart_texts = (both (texts_ok e.texts) _ past_few).0

  past_texts : (all (record_ok e) e.records && (fn_trait_ok e && sigils_ok e)) ≡ true
  past_texts = (both (texts_ok e.texts) _ past_few).1

  pub chart_record : (n : ℕ) → n < length e.records → record_ok e (record_at e n) ≡ true
  chart_record n l = all_at (record_ok e) e.records no_record n (both (all (record_ok e) e.records) _ past_texts).0 l

  past_records : (fn_trait_ok e && sigils_ok e) ≡ true
  past_records = (both (all (record_ok e) e.records) _ past_texts).1

  pub chart_fn_trait : fn_trait_ok e ≡ true
  chart_fn_trait = (both (fn_trait_ok e) _ past_records).0

  pub chart_sigil : (n : ℕ) → n < length e.sigils → sigil_ok e.texts (sigil_at e n) ≡ true
  chart_sigil n l = all_at (sigil_ok e.texts) e.sigils (name 0 0 0) n (both (eqb (length e.sigils) SIGILS) _ (both (fn_trait_ok e) _ past_records).1).1 l

module _ (e : Env) (r : Record) (h : record_ok e r ≡ true) where
  pub record_sort : r.sort ≤ TRAIT_FN_SORT
  unfolding record_ok
  record_sort = leb-true r.sort TRAIT_FN_SORT (both (leb r.sort TRAIT_FN_SORT) _ h).0

  past_sort : (name_ok e.texts r.name && (name_ok e.texts r.path && (flag_ok r && trait_ok e r))) ≡ true
  unfolding record_ok
  past_sort = (both (leb r.sort TRAIT_FN_SORT) _ h).1

  pub record_name : name_ok e.texts r.name ≡ true
  record_name = (both (name_ok e.texts r.name) _ past_sort).0

  past_name : (name_ok e.texts r.path && (flag_ok r && trait_ok e r)) ≡ true
  past_name = (both (name_ok e.texts r.name) _ past_sort).1

  pub record_path : name_ok e.texts r.path ≡ true
  record_path = (both (name_ok e.texts r.path) _ past_name).0

  past_path : (flag_ok r && trait_ok e r) ≡ true
  past_path = (both (name_ok e.texts r.path) _ past_name).1

  pub record_flag : flag_ok r ≡ true
  record_flag = (both (flag_ok r) (trait_ok e r) past_path).0

  pub record_trait : trait_ok e r ≡ true
  record_trait = (both (flag_ok r) (trait_ok e r) past_path).1

-- "A definition's number is its record's place": no other number has a sort
pub sort_there : (e : Env) (n : ℕ) → sort_at e n ≤ TRAIT_FN_SORT → n < length e.records
sort_there e n h = go (dec_lt n (length e.records))
  where
    go : Dec (n < length e.records) → n < length e.records
    go (yes l) = l
    go (no l) =
        let k : length e.records ≤ n = omega arith in
        let z : sort_at e n ≡ NO_SORT = ap (λ (r : Record). r.sort) (get_or-eq_default e.records no_record k) in
        absurd (omega (arith, z))

pub trait_there : (e : Env) (n : ℕ) → is_trait e n ≡ true → n < length e.records
trait_there e n h = sort_there e n (omega (arith, eqb-true (sort_at e n) TRAIT_SORT h))
