-- Each call on a sound store: refused, with the store as found, or taken, every test passed. Assumes nothing.
use mathlib.Core.Path.{◌≡◌, refl}
use mathlib.Core.List.{List, [], ◌∷◌, ◌++◌, Memᴰ}
use mathlib.Core.Bool.{Bool, true, false, not, ◌&&◌, ◌||◌}
use mathlib.Core.Option.{Option, none, some}
use Prim.Native.Nat.{ℕ, zero, suc, ◌+◌, ◌<◌}
use native.Mathlib.Omega.{arith}
use lib.Dec.{ltb}
use lib.ListN.{length, replicate}
use borrow.Author.Tests.{ltb-true, ltb-false, not-false}
use Rattle.scope.specs.Base.{pick, all}
use Rattle.scope.specs.Chart.{Env}
use Rattle.scope.specs.Types.{Ty}
use Rattle.scope.specs.Kinds.{makeable, defined, flag_of, flag_is, STRUCT, UNION, TUPLE, ERROR}
use Rattle.scope.specs.Nodes.{State, Known, Unknown, Node, Store, opened, with_nodes, at, find, find_mut}
use Rattle.scope.specs.Answers.{Answer}
use Rattle.scope.specs.Make.{push, new, new_var, new_vars, bare, make_error, make_nil, again, remember_error, remember_nil}
use Rattle.scope.specs.Force.{force_kind}
use Rattle.scope.specs.Import.{MovedAll, import, export}
use Rattle.scope.specs.Unify.{unify}
use Rattle.scope.specs.Sound.{Lent, stray, reads, sound, sound_store, in_store}
use Rattle.scope.specs.Refusals.{OUTSIDE, UNMAKEABLE, UNDEFINED, NO_ENTRY, SOURCE_UNSOUND, NODES_FULL, CHILDREN_FULL}
use Rattle.scope.specs.Calls.{Outcome, refused, done, first_broken, or_refused, judged, store_of, outside, too_many, lent_tests, room_tests, short_for, read_call, NewKind, kind_made}
use Rattle.scope.specs.Calls.{over, new_call, new_struct_call, new_union_call, new_var_call, new_vars_call, nodes_for, error_call, nil_call, unified, unify_call, force_kind_call, import_list}
use Rattle.scope.specs.Calls.{import_call, find_call, find_mut_call, node_call, child_at, child_call, child_name_at, name_call, figures_call, open_test, export_call}
use Rattle.scope.specs.Demand.{Maker, new_struct, new_union, Read, Step, step, step_maker, step_read, unless_there, states_made}
use Rattle.scope.specs.Demand as Demand
use Rattle.scope.proofs.TestLaws.{and_left, and_right, of-all, eq_bool_same}
use Rattle.scope.proofs.SoundLaws.{SoundNodes, SoundFacts, sound_facts}
use Rattle.scope.proofs.SoundKept.{Kept}
use Rattle.scope.proofs.MakeKept.{new_kept, new_var_kept, new_vars_kept, error_kept, nil_kept}
use Rattle.scope.proofs.Imports.{Imported}
use Rattle.scope.proofs.ImportKept.{import_leaves, import_kept}

-- every test is passed
abbrev pub Passed : List (Bool × ℕ) → Type 0
Passed [] = Unit {0}
Passed (t ∷ ts) = (t.0 ≡ false) × Passed ts

-- a judged outcome is a refusal, or every test passed and it is the outcome
pub judged_cases : {A : Type 0} (P : Outcome A → Type 0) (ts : List (Bool × ℕ)) (o : Outcome A) → ((n : ℕ) → P (refused n)) → (Passed ts → P o)
    → P (judged ts o)
judged_cases P [] o z f = f tt
judged_cases P (t ∷ ts) o z f = go t.0 refl (judged_cases P ts o z)
  where
    go : (b : Bool) → t.0 ≡ b → ((Passed ts → P o) → P (judged ts o)) → P (or_refused (pick b (some t.1) (first_broken ts)) o)
    go true q ih = z t.1
    go false q ih = ih (λ p. f (q, p))

-- the step of a refused call, and of one that is taken
abbrev pub still : Store → Step
still s = record { taken = false; store = s }

abbrev pub went : Store → Step
went s = record { taken = true; store = s }

pub all_inside : (ns : List Node) (ts : List Ty) → not (all (in_store ns) ts) ≡ false → (t : Ty) → Memᴰ t ts → t.idx < length ns
all_inside ns ts q t m = ltb-true t.idx (length ns) (of-all (in_store ns) ts (not-false (all (in_store ns) ts) q) m)

-- the chart's flag is the chart's
flag_made : (e : Env) (a : NewKind) → flag_is e (kind_made e a).head ≡ true
unfolding flag_is
flag_made e a = eq_bool_same (flag_of e a.code a.number)

-- states as roots behind the others, each of size 1
unfoldable pub pushes : List Node → List State → List Node
pushes ns [] = ns
pushes ns (st ∷ sts) = pushes (push ns st) sts

vars_pushed : (s : Store) (p n : ℕ) → (new_vars s p n).store.nodes ≡ pushes s.nodes (replicate n (Unknown p))
unfolding new_vars new_var pushes
vars_pushed s p zero = refl
vars_pushed s p (suc n) = vars_pushed (new_var s p).store p n

module _ (e : Env) (s : Store) (ok : SoundFacts e s) where
  -- what a maker that is taken leaves
  pub record Makes (m : Maker) (s' : Store) : Type 0 where
    pub kept : Kept e s s'
    pub nodes : s'.nodes ≡ pushes s.nodes (states_made e s m)

  -- what a call tests after 2 and 8
  pub step_cases : {A : Type 0} (P : Step → Type 0) (ts : List (Bool × ℕ)) (o : Outcome A) → P (still s) → (Passed ts → P (step s o))
      → P (step s (judged (lent_tests e (reads s) ++ ts) o))
  step_cases P ts o z f = judged_cases (λ o. P (step s o)) (lent_tests e (reads s) ++ ts) o (λ n. z) (λ t. f t.1.1)

  new_cases : (P : Step → Type 0) (a : NewKind) → P (still s)
      → (Kept e s (new s (kind_made e a)).store → P (went (new s (kind_made e a)).store))
      → P (step s (new_call e (reads s) a))
  unfolding new_call
  new_cases P a z f = step_cases P
      (outside s a.kids
      ∷ (not (makeable e.texts (kind_made e a).head (length a.kids)), UNMAKEABLE)
      ∷ (not (defined e (kind_made e a).head), UNDEFINED)
      ∷ room_tests s 1 (length a.kids))
      _ z (λ t. f (new_kept e s (kind_made e a) ok
      (record {
        made = record {
          made = not-false (makeable e.texts (kind_made e a).head (length a.kids)) t.1.0;
          def = not-false (defined e (kind_made e a).head) t.1.1.0;
          flag = flag_made e a;
        };
        kids = all_inside s.nodes a.kids t.0;
      })
      (ltb-false s.node_room (length s.nodes + 1) t.1.1.1.0) (ltb-false s.child_room (s.children + length a.kids) t.1.1.1.1.0)))

  pub maker_cases : (P : Step → Type 0) (m : Maker) → P (still s) → ((s' : Store) → Makes m s' → P (went s')) → P (step_maker e s m)
  unfolding new_struct_call new_union_call new_var_call new_vars_call error_call nil_call states_made pushes new new_var make_error make_nil
  maker_cases P (Demand.new a) z f = new_cases P a z (λ k. f _ (record { kept = k; nodes = refl }))
  maker_cases P (Demand.new_var p) z f =
      step_cases P (room_tests s 1 0) _ z (λ t. f _ (record { kept = new_var_kept e s p ok (ltb-false _ _ t.0); nodes = refl }))
  maker_cases P (new_struct n ts) z f = new_cases P (over STRUCT n ts) z (λ k. f _ (record { kept = k; nodes = refl }))
  maker_cases P (new_union n ts) z f = new_cases P (over UNION n ts) z (λ k. f _ (record { kept = k; nodes = refl }))
  maker_cases P (Demand.new_vars p n h) z f =
      step_cases P (room_tests s n 0 ++ (short_for h n ∷ [])) _ z
      (λ t. f _ (record { kept = new_vars_kept e s p n ok (ltb-false _ _ t.0); nodes = vars_pushed s p n }))
  maker_cases P Demand.error z f =
      step_cases P (room_tests s (nodes_for s.error) 0) _ z (λ t. f _ (record { kept = error_kept e s ok (ltb-false _ _ t.0); nodes = go s.error }))
    where
      go : (o : Option Ty) → (again s o (remember_error (new s (bare ERROR)))).store.nodes ≡ pushes s.nodes (unless_there o (Known false (bare ERROR)))
      go none = refl
      go (some t) = refl
  maker_cases P Demand.nil z f =
      step_cases P (room_tests s (nodes_for s.nil) 0) _ z (λ t. f _ (record { kept = nil_kept e s ok (ltb-false _ _ t.0); nodes = go s.nil }))
    where
      go : (o : Option Ty) → (again s o (remember_nil (new s (bare TUPLE)))).store.nodes ≡ pushes s.nodes (unless_there o (Known false (bare TUPLE)))
      go none = refl
      go (some t) = refl

  -- what an import that is taken leaves
  pub record Imports (l : Lent) (ts : List Ty) (ps : Option (List Ty)) : Type 0 where
    pub leaves : Imported (store_of l).nodes ps s ts (import (store_of l).nodes ps s ts)
    pub kept : Kept e s (import (store_of l).nodes ps s ts).work.dest

  source_facts : (l : Lent) → not (sound e l) ≡ false → SoundNodes e (store_of l).nodes
  source_facts stray q = let z : ◌≡◌ {A = ℕ} 0 1 = cc in absurd (omega arith)
  source_facts (reads o) q = (sound_facts e o (not-false (sound_store e o) q)).nodes

  pub import_cases : (P : Step → Type 0) (l : Lent) (ts : List Ty) (ps : Option (List Ty)) (h : ℕ) → P (still s)
      → (Imports l ts ps → P (went (import (store_of l).nodes ps s ts).work.dest)) → P (step s (import_call e (reads s) l ts ps h))
  unfolding import_call
  import_cases P l ts ps h z f = step_cases P
      ((not (sound e l), SOURCE_UNSOUND)
      ∷ (not (all (in_store ns) ts && all (in_store s.nodes) (import_list ps)), OUTSIDE)
      ∷ (too_many ts || too_many (import_list ps), UNMAKEABLE)
      ∷ (m.work.missing, NO_ENTRY)
      ∷ (ltb s.node_room (length m.work.dest.nodes), NODES_FULL)
      ∷ (ltb s.child_room m.work.dest.children, CHILDREN_FULL)
      ∷ short_for h (length ts)
      ∷ []) _ z (λ t. f (facts (source_facts l t.0) t.1.0 t.1.1.1.0 t.1.1.1.1.0 t.1.1.1.1.1.0))
    where
      ns : List Node
      ns = (store_of l).nodes

      m : MovedAll
      m = import (store_of l).nodes ps s ts

      facts : SoundNodes e ns → not (all (in_store ns) ts && all (in_store s.nodes) (import_list ps)) ≡ false → m.work.missing ≡ false
          → ltb s.node_room (length m.work.dest.nodes) ≡ false → ltb s.child_room m.work.dest.children ≡ false → Imports l ts ps
      facts src q miss hn hc =
          let a : (all (in_store ns) ts && all (in_store s.nodes) (import_list ps)) ≡ true = not-false _ q in
          let i : (t : Ty) → Memᴰ t ts → t.idx < length ns =
          λ t w. ltb-true t.idx (length ns) (of-all (in_store ns) ts (and_left (all (in_store ns) ts) _ a) w) in
          let d : (t : Ty) → Memᴰ t (import_list ps) → t.idx < length s.nodes =
          λ t w. ltb-true t.idx (length s.nodes) (of-all (in_store s.nodes) (import_list ps) (and_right (all (in_store ns) ts) _ a) w) in
          record {
            leaves = import_leaves e ns ps s ts src ok i d miss;
            kept = import_kept e ns ps s ts src ok i d miss (ltb-false _ _ hn) (ltb-false _ _ hc);
          }

  pub force_cases : (P : Step → Type 0) (t : Ty) → P (still s) → (t.idx < length s.nodes → P (went (force_kind s t).1))
      → P (step s (force_kind_call e (reads s) t))
  unfolding force_kind_call
  force_cases P t z f = step_cases P (outside s (t ∷ []) ∷ []) _ z (λ p. f (all_inside s.nodes (t ∷ []) p.0 t (Memᴰ.head refl)))

  -- `unify`, with its answer
  pub unify_cases : (P : Outcome Answer → Type 0) (a b : Ty) → ((n : ℕ) → P (refused n))
      → (a.idx < length s.nodes → b.idx < length s.nodes → P (unified s (unify e.texts s.nodes a b))) → P (unify_call e (reads s) a b)
  unfolding unify_call
  unify_cases P a b z f = judged_cases P (lent_tests e (reads s) ++ (outside s (a ∷ b ∷ []) ∷ [])) _ z (λ p.
      let h = all_inside s.nodes (a ∷ b ∷ []) p.1.1.0 in
      f (h a (Memᴰ.head refl)) (h b (Memᴰ.tail (Memᴰ.head refl))))

  -- a call that only reads
  pub still_cases : {A : Type 0} (P : Step → Type 0) (ts : List (Bool × ℕ)) (a : A) → P (still s) → P (went s) → P (step s (judged ts (done a s)))
  still_cases P ts a z f = judged_cases (λ o. P (step s o)) ts (done a s) (λ n. z) (λ p. f)

  pub read_call_cases : {A : Type 0} (P : Step → Type 0) (ts : List Ty) (a : A) → P (still s) → P (went s) → P (step s (read_call e (reads s) ts a))
  read_call_cases P ts a z f = still_cases P (lent_tests e (reads s) ++ (outside s ts ∷ [])) a z f

  pub read_cases : (P : Step → Type 0) (r : Read) → P (still s) → P (went s) → ((t : Ty) → P (went (with_nodes s (find_mut s.nodes t)))) → P (step_read e s r)
  unfolding find_call find_mut_call export_call node_call child_call name_call figures_call
  read_cases P (Demand.find t) z f g = read_call_cases P (t ∷ []) (find s.nodes t) z f
  read_cases P (Demand.find_mut t) z f g = step_cases P (outside s (t ∷ []) ∷ []) (done (find s.nodes t) (with_nodes s (find_mut s.nodes t))) z (λ p. g t)
  read_cases P (Demand.export n c b ts h) z f g =
      let m : MovedAll = export s (opened n c) ts in
      still_cases P
      (open_test n c b
      ∷ (lent_tests e (reads s)
      ++ (outside s ts
      ∷ (too_many ts, UNMAKEABLE)
      ∷ (ltb n (length m.work.dest.nodes), NODES_FULL)
      ∷ (ltb c m.work.dest.children, CHILDREN_FULL)
      ∷ short_for h (length ts)
      ∷ []))) (record { types = m.types; fresh = m.work.dest }) z f
  read_cases P (Demand.node t) z f g = read_call_cases P (t ∷ []) (at s.nodes t.idx) z f
  read_cases P (Demand.child t j) z f g = read_call_cases P (t ∷ []) (child_at (at s.nodes t.idx) j) z f
  read_cases P (Demand.name t j) z f g = read_call_cases P (t ∷ []) (child_name_at (at s.nodes t.idx) j) z f
  read_cases P Demand.figures z f g = read_call_cases P [] s z f
