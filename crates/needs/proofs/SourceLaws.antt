-- The walk over lists: an export's is over the remembered types and then the list, and with a mark for each node and more it counts what `needs` says.
-- Beside it what a sound store is as a source. Assumes nothing.
use mathlib.Core.Path.{◌≡◌, refl, ap, sym, ◌∙◌}
use mathlib.Core.Bool.{Bool, true, false}
use mathlib.Core.Option.{Option, none}
use mathlib.Core.List.{List, ◌∷◌, ◌++◌, Memᴰ}
use Prim.Native.Nat.{ℕ, ◌+◌, ◌≤◌, ◌<◌}
use native.Mathlib.Omega.{arith}
use native.Mathlib.Numerals.{add-one}
use lib.ListN.{length, get_or, drop, replicate, length-replicate}
use lib.Seq.{drop-cons}
use borrow.Author.Tests.{ltb-true}
use Rattle.scope.specs.Base.{all}
use Rattle.scope.specs.Limits.{MAX_NODES, MAX_CHILDREN}
use Rattle.scope.specs.Types.{Ty, ty_of}
use Rattle.scope.specs.Chart.{Env}
use Rattle.scope.specs.Sound.{in_store}
use Rattle.scope.specs.Needs.{Counted, count_all, count_f, needs, listed, exported}
use Rattle.scope.proofs.NeedsWalk.{small_start}
use Rattle.scope.proofs.NeedsLaws.{count_append, needs_marks}
use Rattle.scope.proofs.NeedsTests.{exported_inside}
use Rattle.scope.proofs.TestLaws.{of-all}
use Rattle.scope.proofs.SoundLaws.{SoundFacts}
use Rattle.scope.proofs.ImportKept.{sound_source}
use Rattle.layout.specs.Words.{decode, nodes_made, children_made, store_in, clean}
use Rattle.layout.specs.Meaning.{header_in, remembered_means}
use Rattle.layout.specs.declared.Header.{Header}
use Rattle.std.specs.Prelude.{None}
use Rattle.layout.proofs.Laws.{length_decode}
use Rattle.layout.proofs.StoreLaws.{clean_nodes}
use Rattle.store.specs.Entries.{types_in}
use Rattle.store.proofs.EntryLaws.{listed_below, listed_at}
use Rattle.store.proofs.Laws.{store_count, store_nodes, store_children, error_is, nil_is}
use Rattle.needs.specs.declared.Needs.{Needs}
use Rattle.needs.specs.Roots.{Params}
use Rattle.std.specs.Prelude.{None}
use Rattle.needs.specs.Sums.{no_needs, walk_at, Readable, Countable, AllCounted}
use Rattle.needs.specs.Sources.{Importable, ImportNeeds, ExportNeeds}
use Rattle.needs.proofs.CountLaws.{all_small}

-- type i of a lent list, and those after it
pub listed_next : (ts : List ℕ) (i : ℕ) → i < length ts → drop i (types_in ts) ≡ ty_of (get_or ts i 0) ∷ drop (i + 1) (types_in ts)
listed_next ts i h = drop-cons (types_in ts) i (ty_of 0) (listed_below ts i h) ∙ rw (listed_at ts i, add-one i) refl

-- from the start

needs_are : {b : Bool} {n k : ℕ} → b ≡ false → n ≡ 0 → k ≡ 0 → ◌≡◌ {A = Needs} (record { missing = b; nodes = n; children = k }) no_needs
needs_are p q t = rw (p, q, t) refl

-- the default is what nothing needs
pub default_is : {r : Needs} → (r.missing ≡ false) × ((r.nodes ≡ 0) × (r.children ≡ 0)) → r ≡ no_needs
default_is e = needs_are e.0 e.1.0 e.1.1

pub start_countable : {ws ks : List ℕ} {n m : ℕ} {r : Needs} {us : List Ty} → Importable ws ks n us → m ≤ MAX_NODES → r ≡ no_needs
    → Countable ws ks n (replicate m 0) r
start_countable {m = m} s l e = rw e (record {
  source = s.readable;
  long = omega (arith, length-replicate {A = ℕ} m 0);
  small = small_start MAX_CHILDREN m;
})

pub all_countable : {ws ks ms ms' : List ℕ} {n : ℕ} {p : Params} {sum r : Needs} {us : List Ty} → Countable ws ks n ms sum → AllCounted ws ks n p ms sum us ms' r
    → length ms' ≡ length ms → Countable ws ks n ms' r
all_countable k o l = record { source = k.source; long = rw l k.long; small = all_small k.source o k.small }

-- with m marks, no fewer than the nodes, the sums are the needs
module _ {ws ks : List ℕ} {n : ℕ} {us : List Ty} (s : Importable ws ks n us) (m : ℕ) (h : n ≤ m) where
  whole_needs : (ps : Option (List Ty)) → (count_all (count_f n (decode ws ks n) ps) (walk_at (replicate m 0) no_needs) us).sum ≡ needs (decode ws ks n) ps us
  whole_needs ps =
      rw (length_decode ws ks n) at (needs_marks (decode ws ks n) ps us s.source s.given m (rw (length_decode ws ks n) h))

pub import_needs : {ws ks ts ms : List ℕ} {n : ℕ} {p : Params} {r₀ r : Needs} (m : ℕ) → Importable ws ks n (types_in ts) → n ≤ m → r₀ ≡ no_needs
    → AllCounted ws ks n p (replicate m 0) r₀ (types_in ts) ms r → ImportNeeds ws ks n p ts r
import_needs m s h e o = record { is = λ ps q. ap (λ (c : Counted). c.sum) (o.is ps q) ∙ rw e (whole_needs s m h ps) }

-- the remembered types, then the list: three walks, one after another
pub record Thrice (ws ks : List ℕ) (n : ℕ) (e z : Option Ty) (ts : List ℕ) (m : ℕ) (r₀ r₃ : Needs) : Type 0 where
  pub ms₁ : List ℕ
  pub ms₂ : List ℕ
  pub ms₃ : List ℕ
  pub r₁ : Needs
  pub r₂ : Needs
  pub first : AllCounted ws ks n None (replicate m 0) r₀ (listed e) ms₁ r₁
  pub next : AllCounted ws ks n None ms₁ r₁ (listed z) ms₂ r₂
  pub rest : AllCounted ws ks n None ms₂ r₂ (types_in ts) ms₃ r₃

thrice_is : {ws ks ts : List ℕ} {n m : ℕ} {e z : Option Ty} {r₀ r₃ : Needs} (o : Thrice ws ks n e z ts m r₀ r₃)
    → walk_at o.ms₃ r₃ ≡ count_all (count_f n (decode ws ks n) none) (walk_at (replicate m 0) r₀) (listed e ++ (listed z ++ types_in ts))
thrice_is {ws} {ks} {ts} {n} {m} {e} {z} {r₀} o =
    let g = count_f n (decode ws ks n) none in
    let c = walk_at (replicate m 0) r₀ in
    o.rest.is none refl
    ∙ (ap (λ (d : Counted). count_all g d (types_in ts)) (o.next.is none refl ∙ ap (λ (d : Counted). count_all g d (listed z)) (o.first.is none refl))
    ∙ sym (count_append g c (listed e) (listed z ++ types_in ts) ∙ count_append g (count_all g c (listed e)) (listed z) (types_in ts)))

module _ (h ws ks ts : List ℕ) {x : Header} (q : x ≡ header_in h) (s : Importable ws ks (nodes_made h) (exported (store_in h ws ks) (types_in ts))) where
  pub export_source : Importable ws ks x.nodes (exported (store_in h ws ks) (types_in ts))
  export_source = rw q s

  pub export_needs : (m : ℕ) {r₀ r₃ : Needs} → nodes_made h ≤ m → r₀ ≡ no_needs
      → Thrice ws ks x.nodes (remembered_means x.error) (remembered_means x.nil) ts m r₀ r₃ → ExportNeeds h ws ks ts r₃
  export_needs m l e o = record {
    is = ap (λ (c : Counted). c.sum) (thrice_is (rw (q, error_is h ws ks, nil_is h ws ks) at o)) ∙ rw (e, store_nodes h ws ks) (whole_needs s m l none);
  }

-- a sound store whose words are clean, with types inside it, is a source: for an import and for an export

module _ (e : Env) (h ws ks : List ℕ) (ok : clean h ws ks ≡ true) (facts : SoundFacts e (store_in h ws ks)) where
  sound_readable : Readable ws ks (nodes_made h)
  sound_readable = record {
    made = children_made h;
    clean = clean_nodes h ws ks ok;
    few = omega (arith, facts.child_room_lem, facts.child_limit, store_children h ws ks);
  }

  sound_given : (us : List Ty) → ((t : Ty) → Memᴰ t us → t.idx < length (store_in h ws ks).nodes) → Importable ws ks (nodes_made h) us
  sound_given us given = record {
    readable = sound_readable;
    few = omega (arith, facts.node_room_lem, facts.node_limit, store_count h ws ks);
    source = rw (store_nodes h ws ks) at (sound_source e facts.nodes);
    given = λ t m. rw (store_nodes h ws ks) at (given t m);
  }

  module _ (ts : List Ty) (inside : all (in_store (store_in h ws ks).nodes) ts ≡ true) where
    listed_inside : (t : Ty) → Memᴰ t ts → t.idx < length (store_in h ws ks).nodes
    listed_inside t m = ltb-true t.idx (length (store_in h ws ks).nodes) (of-all (in_store (store_in h ws ks).nodes) ts inside m)

    pub sound_import : Importable ws ks (nodes_made h) ts
    sound_import = sound_given ts listed_inside

    pub sound_export : Importable ws ks (nodes_made h) (exported (store_in h ws ks) ts)
    sound_export = sound_given (exported (store_in h ws ks) ts) (exported_inside e (store_in h ws ks) ts facts listed_inside)
