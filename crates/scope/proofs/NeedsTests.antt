-- The tests 6, 10 and 11 of `import`, and 10 and 11 of `export`, by what `needs` counts in the source: so a call can turn back before it copies. Where
-- an earlier test turns the call back these are not looked at, so this holds whatever is lent. Assumes nothing.
use mathlib.Core.Path.{◌≡◌, refl, sym, ap}
use mathlib.Core.List.Memᴰ
use mathlib.Core.List.{List, [], ◌∷◌, ◌++◌, Memᴰ}
use mathlib.Core.Bool.{Bool, true, false, not, ◌&&◌, ◌||◌}
use mathlib.Core.Option.{Option, none, some}
use mathlib.Core.Logic.{◌⊎◌, inl, inr}
use Prim.Native.Nat.{ℕ, ◌<◌}
use lib.Dec.{ltb}
use lib.ListN.{length}
use borrow.Author.Tests.{ltb-true, not-false}
use Rattle.scope.specs.Base.{pick, all}
use Rattle.scope.specs.Chart.{Env}
use Rattle.scope.specs.Types.{Ty}
use Rattle.scope.specs.Nodes.{Store, opened}
use Rattle.scope.specs.Import.{MovedAll, import, export}
use Rattle.scope.specs.Needs.{Needs, needs, listed, exported}
use Rattle.scope.specs.Sound.{Lent, stray, reads, in_store, sound_store, sound}
use Rattle.scope.specs.Calls.{Outcome, done, first_broken, or_refused, judged, store_of, lent_tests, outside, too_many, room_tests, short_for, open_test, import_list, import_call, export_call}
use Rattle.scope.proofs.TestLaws.{tf, and_left, of-all}
use Rattle.scope.proofs.SoundLaws.{SoundFacts, sound_facts}
use Rattle.scope.proofs.ImportKept.{sound_source}
use Rattle.scope.proofs.Steps.{Passed, all_inside}
use Rattle.scope.proofs.NeedsLaws.{needs_missing, needs_nodes, needs_children, needs_export_nodes, needs_export_children}

-- tests behind others are looked at only where these are passed
judged_after : {A : Type 0} (ts : List (Bool × ℕ)) {xs ys : List (Bool × ℕ)} (o : Outcome A) → (Passed ts → xs ≡ ys) → judged (ts ++ xs) o ≡ judged (ts ++ ys) o
judged_after [] o h = ap (λ (zs : List (Bool × ℕ)). judged zs o) (h tt)
judged_after (t ∷ ts) {xs} {ys} o h = go t.0 refl (judged_after ts o)
  where
    go : (b : Bool) → t.0 ≡ b → ((Passed ts → xs ≡ ys) → judged (ts ++ xs) o ≡ judged (ts ++ ys) o)
        → or_refused (pick b (some t.1) (first_broken (ts ++ xs))) o ≡ or_refused (pick b (some t.1) (first_broken (ts ++ ys))) o
    go true q ih = refl
    go false q ih = ih (λ p. h (q, p))

lent_facts : (e : Env) (l : Lent) → not (sound e l) ≡ false → SoundFacts e (store_of l)
lent_facts e stray q = tf q
lent_facts e (reads s) q = sound_facts e s (not-false (sound_store e s) q)

pub import_tests_lem : (e : Env) (l src : Lent) (ts : List Ty) (ps : Option (List Ty)) (have : ℕ)
    → import_call e l src ts ps have
    ≡ (let s : Store = store_of l in
    let o : Store = store_of src in
    let m : MovedAll = import o.nodes ps s ts in
    let n : Needs = needs o.nodes ps ts in
    judged
    (lent_tests e l
    ++ ((not (sound e src), 9)
    ∷ (not (all (in_store o.nodes) ts && all (in_store s.nodes) (import_list ps)), 3)
    ∷ (too_many ts || too_many (import_list ps), 4)
    ∷ (n.missing, 6)
    ∷ (room_tests s n.nodes n.children ++ (short_for have (length ts) ∷ []))))
    (done m.types m.work.dest))
unfolding import_call
import_tests_lem e l src ts ps have =
    judged_after
    (lent_tests e l
    ++ ((not (sound e src), 9)
    ∷ (not (all (in_store o.nodes) ts && all (in_store s.nodes) (import_list ps)), 3)
    ∷ (too_many ts || too_many (import_list ps), 4)
    ∷ []))
    (done m.types m.work.dest) (λ p. same (lent_facts e src p.1.1.0) p.1.1.1.0)
  where
    s : Store
    s = store_of l

    o : Store
    o = store_of src

    m : MovedAll
    m = import (store_of src).nodes ps (store_of l) ts

    n : Needs
    n = needs (store_of src).nodes ps ts

    same : SoundFacts e o → not (all (in_store o.nodes) ts && all (in_store s.nodes) (import_list ps)) ≡ false
        → ◌≡◌ {A = List (Bool × ℕ)}
        ((m.work.missing, 6) ∷ (ltb s.node_room (length m.work.dest.nodes), 10) ∷ (ltb s.child_room m.work.dest.children, 11) ∷ short_for have (length ts) ∷ [])
        ((n.missing, 6) ∷ (room_tests s n.nodes n.children ++ (short_for have (length ts) ∷ [])))
    same ok q =
        let a : (all (in_store o.nodes) ts && all (in_store s.nodes) (import_list ps)) ≡ true = not-false _ q in
        let given : (t : Ty) → Memᴰ t ts → t.idx < length o.nodes =
        λ t w. ltb-true t.idx (length o.nodes) (of-all (in_store o.nodes) ts (and_left (all (in_store o.nodes) ts) _ a) w) in
        let source = sound_source e ok.nodes in
        rw (needs_missing o.nodes ps s ts source given, needs_nodes o.nodes ps s ts source given, needs_children o.nodes ps s ts source given)

-- a remembered type of a sound store is in it
listed_inside : (n : ℕ) (o : Option Ty) → ((t : Ty) → o ≡ some t → t.idx < n) → (t : Ty) → Memᴰ t (listed o) → t.idx < n
listed_inside n none h t w = elim w [ ]
listed_inside n (some u) h t w = h t (ap some (sym (Memᴰ.eq_of_singleton w)))

pub exported_inside : (e : Env) (s : Store) (ts : List Ty) → SoundFacts e s → ((t : Ty) → Memᴰ t ts → t.idx < length s.nodes)
    → (t : Ty) → Memᴰ t (exported s ts) → t.idx < length s.nodes
exported_inside e s ts ok inside t w = go (Memᴰ.append_cases (listed s.error) w)
  where
    then : Memᴰ t (listed s.nil) ⊎ Memᴰ t ts → t.idx < length s.nodes
    then (inl w) = listed_inside (length s.nodes) s.nil ok.nil t w
    then (inr w) = inside t w

    go : Memᴰ t (listed s.error) ⊎ Memᴰ t (listed s.nil ++ ts) → t.idx < length s.nodes
    go (inl w) = listed_inside (length s.nodes) s.error ok.error t w
    go (inr w) = then (Memᴰ.append_cases (listed s.nil) w)

pub export_tests_lem : (e : Env) (l : Lent) (n c : ℕ) (enough : Bool) (ts : List Ty) (have : ℕ)
    → export_call e l n c enough ts have
    ≡ (let s : Store = store_of l in
    let m : MovedAll = export s (opened n c) ts in
    let k : Needs = needs s.nodes none (exported s ts) in
    judged
    (open_test n c enough
    ∷ (lent_tests e l
    ++ (outside s ts
    ∷ (too_many ts, 4)
    ∷ (room_tests (opened n c) k.nodes k.children ++ (short_for have (length ts) ∷ [])))))
    (done (record { types = m.types; fresh = m.work.dest }) s))
unfolding export_call
export_tests_lem e l n c enough ts have =
    judged_after (open_test n c enough ∷ (lent_tests e l ++ (outside s ts ∷ (too_many ts, 4) ∷ [])))
    (done (record { types = m.types; fresh = m.work.dest }) s)
    (λ p. same (lent_facts e l p.1.1.0) (all_inside s.nodes ts p.1.1.1.0))
  where
    s : Store
    s = store_of l

    m : MovedAll
    m = export (store_of l) (opened n c) ts

    k : Needs
    k = needs (store_of l).nodes none (exported (store_of l) ts)

    same : SoundFacts e s → ((t : Ty) → Memᴰ t ts → t.idx < length s.nodes)
        → ◌≡◌ {A = List (Bool × ℕ)}
        ((ltb n (length m.work.dest.nodes), 10) ∷ (ltb c m.work.dest.children, 11) ∷ short_for have (length ts) ∷ [])
        (room_tests (opened n c) k.nodes k.children ++ (short_for have (length ts) ∷ []))
    same ok inside =
        let given = exported_inside e s ts ok inside in
        let source = sound_source e ok.nodes in
        rw (needs_export_nodes s (opened n c) ts source given, needs_export_children s (opened n c) ts source given)
