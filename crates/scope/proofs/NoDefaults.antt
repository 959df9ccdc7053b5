-- No known kind is a Default, if none was made or imported: `unify` adds no kind, and reads and forcing change none. Assumes nothing.
use mathlib.Core.Path.{◌≡◌, refl, sym, ap, subst, ◌∙◌}
use mathlib.Core.List.{List, [], ◌∷◌}
use mathlib.Core.Bool.{Bool, true, false}
use mathlib.Core.Logic.{◌≢◌, ◌⊎◌, inl, inr}
use Prim.Native.Nat.{ℕ, ◌≤◌, ◌<◌}
use native.Mathlib.Omega.{arith}
use native.Mathlib.Decide.{dec_lt}
use lib.ListN.{length}
use borrow.Author.Tests.{eqb-false}
use Rattle.scope.specs.Base.{any}
use Rattle.scope.specs.Chart.{Env}
use Rattle.scope.specs.Kinds.{DEFAULT}
use Rattle.scope.specs.Nodes.{Kind, State, Node, Store, at, state_of}
use Rattle.scope.specs.Make.{push}
use Rattle.scope.specs.Demand.{Call, make, import, force_kind, unify, read, later, step, next, after, in_first_half, Each, states_made, is_default, MakesNoDefault, NoDefault}
use Rattle.scope.proofs.View.{View, known, seen, view}
use Rattle.scope.proofs.ViewLaws.{same?}
use Rattle.scope.proofs.TestLaws.{or_no}
use Rattle.scope.proofs.Paths.{find_mut_tidied, tidied_view}
use Rattle.scope.proofs.Falls.{seen_known}
use Rattle.scope.proofs.Extend.{Extends}
use Rattle.scope.proofs.Stay.{NoNew}
use Rattle.scope.proofs.Meet.{unify_spec}
use Rattle.scope.proofs.Push.{push_new, push_old}
use Rattle.scope.proofs.UnifyKept.{nodes_stable, stable_kinds, unify_seen}
use Rattle.scope.proofs.SoundKept.{force_view}
use Rattle.scope.proofs.Steps.{pushes, maker_cases, import_cases, force_cases, unify_cases, read_cases}
use Rattle.scope.proofs.Reached.{Reached, next_reached}

abbrev pub Defaultless : View → Type 0
Defaultless g = (a : ℕ) (i : Bool) (k : Kind) → g.st a ≡ known i k → k.head.code ≢ DEFAULT

state_less : (st : State) → is_default st ≡ false → (i : Bool) (k : Kind) → seen st ≡ known i k → k.head.code ≢ DEFAULT
state_less st d i k q = eqb-false k.head.code DEFAULT (ap is_default (sym (seen_known st q)) ∙ d)

-- makers
push_less : (ns : List Node) (st : State) → is_default st ≡ false → Defaultless (view ns) → Defaultless (view (push ns st))
unfolding view
push_less ns st d h a i k q = go (same? a (length ns))
  where
    go : (a ≡ length ns) ⊎ (a ≢ length ns) → k.head.code ≢ DEFAULT
    go (inl w) = state_less st d i k (sym (ap (λ (x : Node). seen (state_of x)) (ap (at (push ns st)) w ∙ push_new ns st)) ∙ q)
    go (inr w) = h a i k (sym (ap (λ (x : Node). seen (state_of x)) (push_old ns st a w)) ∙ q)

pushes_less : (ns : List Node) (sts : List State) → any is_default sts ≡ false → Defaultless (view ns) → Defaultless (view (pushes ns sts))
unfolding pushes
pushes_less ns [] d h = h
pushes_less ns (st ∷ sts) d h = let z = or_no (is_default st) (any is_default sts) d in pushes_less (push ns st) sts z.1 (push_less ns st z.0 h)

-- an import
added_less : (ns ns' : List Node) → Extends ns ns' → ((n : ℕ) → length ns ≤ n → is_default (state_of (at ns' n)) ≡ false) → Defaultless (view ns)
    → Defaultless (view ns')
unfolding view
added_less ns ns' x d h a i k q = go (dec_lt a (length ns))
  where
    go : Dec (a < length ns) → k.head.code ≢ DEFAULT
    go (yes w) = h a i k (sym (ap (λ (y : Node). seen (state_of y)) (x.old a w)) ∙ q)
    go (no w) = state_less (state_of (at ns' a)) (d a (omega arith)) i k q

module _ (e : Env) (s : Store) (r : Reached e s) (h : Defaultless (view s.nodes)) where
  same_less : {g : View} → g ≡ view s.nodes → Defaultless g
  same_less q = subst Defaultless (sym q) h

  next_less : (c : Call) → in_first_half c ≡ true → MakesNoDefault e s c → Defaultless (view (next e s c).nodes)
  next_less (make m) q d = maker_cases e s r.facts (λ t. (t.taken ≡ true → any is_default (states_made e s m) ≡ false) → Defaultless (view t.store.nodes)) m
      (λ d. h) (λ s' k d. subst (λ (ns : List Node). Defaultless (view ns)) (sym k.nodes) (pushes_less s.nodes (states_made e s m) (d refl) h)) d
  next_less (import l ts ps n) q d = import_cases e s r.facts
      (λ t. ((n : ℕ) → length s.nodes ≤ n → is_default (state_of (at t.store.nodes n)) ≡ false) → Defaultless (view t.store.nodes)) l ts ps n
      (λ d. h) (λ k d. added_less s.nodes _ k.leaves.ext d h) d
  next_less (force_kind t) q d = force_cases e s r.facts (λ u. Defaultless (view u.store.nodes)) t h
      (λ w. same_less (force_view e s t r.facts.nodes.forest w))
  next_less (unify a b) q d = unify_cases e s r.facts (λ o. Defaultless (view (step s o).store.nodes)) a b (λ n. h) (λ ha hb.
      let m = unify_seen e r.facts.nodes a b ha hb in
      let w : NoNew (view s.nodes) _ =
      (unify_spec e _ (length s.nodes) (view s.nodes) a b r.facts.nodes.good (stable_kinds (nodes_stable e r.facts.nodes))).no_new in
      subst Defaultless (sym m.views) (λ c i k q. let z = w.was c i k q in h z.0 z.1 k z.2))
  next_less (read x) q d = read_cases e s r.facts (λ u. Defaultless (view u.store.nodes)) x h h
      (λ t. same_less (tidied_view (find_mut_tidied r.facts.nodes.forest t) r.facts.nodes.forest))
  next_less (later x) q d = let z : ◌≡◌ {A = ℕ} 0 1 = cc in absurd (omega arith)

pub after_less : (e : Env) (s : Store) (cs : List Call) → Reached e s → Each in_first_half cs → NoDefault e s cs → Defaultless (view s.nodes)
    → Defaultless (view (after e s cs).nodes)
unfolding after Each NoDefault
after_less e s [] r p d h = h
after_less e s (c ∷ cs) r p d h = after_less e (next e s c) cs (next_reached e s c r) p.1 d.1 (next_less e s r h c p.0 d.0)
