-- One law for each way out of `new_listed`, `make_over` and `new_over`: what the laws of `new` say of the entries that the list would be.
-- Assumes nothing.
use mathlib.Core.Path.{◌≡◌, refl, ap, sym, ◌∙◌}
use mathlib.Core.Bool.{Bool, false, not, false≢true}
use mathlib.Core.List.{List}
use mathlib.Core.Option.{Option, none, some}
use Prim.Native.Nat.{ℕ, ◌+◌, ◌≤◌}
use native.Mathlib.Omega.{arith}
use lib.ListN.{length, length-map}
use denote.Enum.Bare.{sameb}
use Rattle.scope.specs.Limits.{MAX_CHILDREN}
use Rattle.scope.specs.Types.{Ty, ty_of}
use Rattle.scope.specs.Kinds.{Row, NO_NAMES, row_of, flag_of}
use Rattle.scope.specs.Nodes.{Node}
use Rattle.scope.specs.Base.{all}
use Rattle.scope.specs.Sound.{in_store}
use Rattle.scope.specs.Make.{new}
use Rattle.scope.specs.Calls.{first_broken, room_tests, over}
use Rattle.chart.specs.Env.{chart_in, chart_alone}
use Rattle.types.specs.declared.«Type».{«Type»}
use Rattle.layout.specs.Words.{HEAD_WORDS, child_words, children_made, store_in}
use Rattle.layout.specs.Meaning.{header_in}
use Rattle.layout.specs.declared.Header.{Header}
use Rattle.layout.specs.declared.Kind.{Kind}
use Rattle.layout.specs.declared.TypeState.TheVariants.{Known}
use Rattle.kinds.specs.contracts.Names.{the_type}
use Rattle.kinds.specs.declared.Names.{Names}
use Rattle.kinds.specs.declared.Names.TheVariants.{No, Own, OfChildren, OfParameters}
use Rattle.kinds.specs.Rows.{names_number, as_row}
use Rattle.kinds.specs.declared.Row as kinds
use Rattle.store.specs.Holds.{Ready}
use Rattle.store.specs.Entries.{entry_count, types_in}
use Rattle.make.specs.Made.{MadeIs}
use Rattle.make.specs.Header.{Pushable, Pushed}
use Rattle.make.specs.Given.{kind_at, kind_given, KindReady, Put}
use Rattle.make.proofs.MakeLaws.{RoomIn, ready_room, pushable_in}
use Rattle.make.proofs.NewLaws.{kind_head, entries_ready, children_room, kind_made_lem}
use Rattle.promise.specs.Promise.{Reply, value, refusal, Promised}
use Rattle.lent_kind.specs.declared.KindArgs.{KindArgs}
use Rattle.lent_kind.specs.Lent.{with_flag, given, plain_args, kind_tests, list_tests}
use Rattle.promise.proofs.RoomLaws.{lent_within}
use Rattle.tested_over.specs.Inside.{inside_call}
use Rattle.tested_over.proofs.CallLaws.{inside_refused, inside_full, inside_ready, inside_made, new_listed, new_promised}
use Rattle.sound.specs.Tests.{env_in}
use Rattle.tested_over.specs.Over.{entries_of, PassedBy, OverPromised}
use Rattle.tested_over.proofs.EntryLaws.{entries_count, entries_given}

-- new_listed

module _ (ts : List ℕ) {h ws ks : List ℕ} {k : Kind} (r : KindReady h ws ks k (entries_of ts)) where
  pub list_ready : Ready h ws ks 1 (length ts)
  list_ready = entries_ready r (sym (entries_count ts))

  pub list_few : length ts ≤ MAX_CHILDREN
  list_few =
      let o : RoomIn h 1 (length ts) = ready_room list_ready in
      omega (arith, o.children, o.child_limit)

  pub list_head : HEAD_WORDS ≤ length h
  list_head = kind_head r

  pub list_room : {f : ℕ} → f ≡ children_made h → child_words (f + length ts) ≤ length ks
  list_room e = children_room list_ready e

  pub list_pushable : Pushable h ws (header_in h) (length ts)
  list_pushable = pushable_in list_ready

  pub list_made : {h' ws' ks' : List ℕ} {f : ℕ} {y : Kind} {t : «Type»} → f ≡ children_made h → Put (entries_of ts) f (length ts) ks ks' → length ks' ≡ length ks
      → y ≡ kind_at k f (length ts) → Pushed h ws h' ws' (header_in h) (length ts) (header_in h).error (header_in h).nil (Known (record { 0 = false }) y) t
      → MadeIs h ws ks h' ws' ks' t (new (store_in h ws ks) (kind_given k (entries_of ts)))
  list_made e o l q p = kind_made_lem r e (sym (entries_count ts)) o l q p

-- make_over

-- what a test of n types alone tells of each list of so many, and what room tells of each store with this header
abbrev pub PlainTold : List ℕ → ℕ → ℕ → ℕ → Option ℕ → Type 0
PlainTold cs c m n o = (rule text : List ℕ) (us : List Ty) → length us ≡ n → first_broken (kind_tests (chart_in cs rule text) (over c m us)) ≡ o

abbrev pub RoomTold : List ℕ → ℕ → Option ℕ → Type 0
RoomTold h n o = (ws ks : List ℕ) → first_broken (room_tests (store_in h ws ks) 1 n) ≡ o

module _ (cs h ws ks ts : List ℕ) (c m : ℕ) (row : (row_of c).names ≡ NO_NAMES) where
  abbrev args : KindArgs
  args = plain_args c m

  tests : {o : Option ℕ} → PlainTold cs c m (length ts) o → (rule text : List ℕ) → first_broken (kind_tests (chart_in cs rule text) (given args (entries_of ts))) ≡ o
  tests q rule text = rw (entries_given ts c m row) (q rule text (types_in ts) (length-map ts ty_of))

  rooms : {o : Option ℕ} → RoomTold h (length ts) o → RoomTold h (entry_count (entries_of ts)) o
  rooms room ws ks = rw (entries_count ts) (room ws ks)

  -- the kind that is tested has this code and number
  module _ {k : KindArgs} {f : Kind} (a : k ≡ args) (g : f ≡ with_flag k (flag_of (chart_alone cs) k.code k.number)) where
    pub over_row : (row_of f.code).names ≡ NO_NAMES
    over_row = rw (g, a) row

    pub over_told : {n : ℕ} {o : Option ℕ} → PlainTold cs f.code f.number n o → PlainTold cs c m n o
    over_told q = rw (g, a) at q

  pub over_refused : {v : ℕ} → PlainTold cs c m (length ts) (some v) → (rule text : List ℕ)
      → Promised (inside_call (chart_in cs rule text) (store_in h ws ks) (given args (entries_of ts))) (refusal v) h ws ks h ws ks
  over_refused q rule text = inside_refused cs rule text h ws ks args (entries_of ts) (tests q rule text)

  module _ (q : PlainTold cs c m (length ts) none) where
    pub over_full : {u : ℕ} → RoomTold h (length ts) (some u) → (rule text : List ℕ)
        → Promised (inside_call (chart_in cs rule text) (store_in h ws ks) (given args (entries_of ts))) (refusal u) h ws ks h ws ks
    over_full room rule text = inside_full cs rule text h ws ks args (entries_of ts) (tests q rule text) (rooms room)

    module _ (room : RoomTold h (length ts) none) {k : KindArgs} {f : Kind} (a : k ≡ args) (g : f ≡ with_flag k (flag_of (chart_alone cs) k.code k.number)) where
      flag_is : f ≡ with_flag args (flag_of (chart_alone cs) c m)
      flag_is = rw a at g

      pub over_ready : Ready h ws ks 0 0 → (rule text : List ℕ) → KindReady h ws ks f (entries_of ts)
      over_ready r rule text = inside_ready cs rule text h ws ks args (entries_of ts) (tests q rule text) (rooms room) flag_is r

      pub over_made : {h' ws' ks' : List ℕ} {t : «Type»} → MadeIs h ws ks h' ws' ks' t (new (store_in h ws ks) (kind_given f (entries_of ts)))
          → (rule text : List ℕ) → Promised (inside_call (chart_in cs rule text) (store_in h ws ks) (given args (entries_of ts))) (value (ty_of t.0)) h ws ks h' ws' ks'
      over_made o rule text = inside_made cs rule text h ws ks args (entries_of ts) (tests q rule text) (rooms room) flag_is o

-- new_over

pub row_names : (r : kinds.Row) (c : ℕ) → as_row r ≡ row_of c → (row_of c).names ≡ names_number r.names
row_names r c e = sym (ap (λ (x : Row). x.names) e)

-- what the test for no names says, b, of the row's names

pub unnamed : (d : Names) {b : Bool} → b ≡ not (sameb the_type d No) → b ≡ false → names_number d ≡ NO_NAMES
unnamed No e f = refl
unnamed Own e f = absurd (false≢true (sym f ∙ e))
unnamed OfChildren e f = absurd (false≢true (sym f ∙ e))
unnamed OfParameters e f = absurd (false≢true (sym f ∙ e))

module _ (cs h ws ks ts : List ℕ) (c m n : ℕ) (row : (row_of c).names ≡ n) where
  nameless : n ≡ NO_NAMES → (row_of c).names ≡ NO_NAMES
  nameless e = row ∙ e

  module _ (e : n ≡ NO_NAMES) {x : Header} (g : x ≡ header_in h) {i : Bool} (o : (ns : List Node) → length ns ≡ x.nodes → i ≡ all (in_store ns) (types_in ts)) where
    pub over_listed : {v : ℕ} → first_broken (list_tests i (length ts)) ≡ some v → OverPromised cs c m ts (refusal v) h ws ks h ws ks
    over_listed p = record {
      each = λ _ b rule text q. new_listed cs b rule text h ws ks (over c m (types_in ts)) q.passed g (types_in ts) refl (length-map ts ty_of) o p;
      named = λ f. absurd (f (nameless e));
    }

    pub over_done : first_broken (list_tests i (length ts)) ≡ none → {r : Reply Ty} {h' ws' ks' : List ℕ}
        → ((rule text : List ℕ) → Promised (inside_call (chart_in cs rule text) (store_in h ws ks) (given (plain_args c m) (entries_of ts))) r h ws ks h' ws' ks')
        → OverPromised cs c m ts r h ws ks h' ws' ks'
    over_done p w = record {
      each = λ _ b rule text q.
          new_promised cs b rule text h ws ks (over c m (types_in ts)) q.passed g (types_in ts) refl (length-map ts ty_of) o p
          (entries_given ts c m (nameless e)) (w rule text);
      named = λ f. absurd (f (nameless e));
    }

pub over_within : {cs h ws ks : List ℕ} → PassedBy cs h ws ks → Ready h ws ks 0 0
over_within {cs} {h} {ws} {ks} p = lent_within (env_in cs p.beside p.rule p.text) h ws ks p.tested.passed
