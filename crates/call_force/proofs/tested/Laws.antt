-- What each call does to a store, and the two ways out of `force_kind`: it is turned back, or what the core answers and leaves is force_kind's. Forcing makes no
-- child, so a kind that fitted the store before fits it afterwards.
-- Assumes nothing.
use mathlib.Core.Path.{◌≡◌, refl, ap, sym, ◌∙◌}
use mathlib.Core.Bool.{true}
use mathlib.Core.List.{List, [], ◌∷◌}
use mathlib.Core.Option.{none, some}
use Rattle.std.specs.Prelude.{Ok, Err}
use Prim.Native.Nat.{ℕ}
use Rattle.scope.specs.Chart.{Env}
use Rattle.scope.specs.Types.{Ty, ty_of}
use Rattle.scope.specs.Nodes.{Store, State, with_nodes, state_at, find, find_mut}
use Rattle.scope.specs.Nodes as nodes
use Rattle.scope.specs.Force.{fail, force_kind, finish_inference, finish_where}
use Rattle.scope.specs.Force as scope
use Rattle.scope.specs.Calls.{Outcome, done, outside, force_kind_call}
use Rattle.types.specs.declared.«Type».{«Type»}
use Rattle.layout.specs.Words.{children_made, store_in, lent_of, clean}
use Rattle.layout.specs.Meaning.{state_fits}
use Rattle.layout.specs.declared.TypeState.{TypeState}
use Rattle.force.specs.Forcing.{ForcedIs}
use Rattle.refusals.specs.Codes.{number}
use Rattle.refusals.specs.declared.Refusal.{Refusal}
use Rattle.promise.specs.Promise.{TypesTested}
use Rattle.promise.proofs.Laws.{lent_clean_words}
use Rattle.promise.proofs.CallLaws.{call_back, call_done}
use Rattle.promise.proofs.ReadLaws.{read_passed}
use Rattle.call_force.specs.Replies.{ForcePromised}

-- what a call does to a store

abbrev pub forcing : Ty → Store → Outcome scope.Forced
forcing t s = done (force_kind s t).0 (force_kind s t).1

abbrev pub finishing : Store → Outcome (Unit {0})
finishing s = done tt (with_nodes s (finish_inference s.nodes))

abbrev pub finishing_where : List ℕ → Store → Outcome (Unit {0})
finishing_where bs s = done tt (with_nodes s (finish_where bs s.nodes))

-- forcing makes no child

fail_children : (s : Store) (r : Ty) (st : State) → (fail s r st).children ≡ s.children
fail_children s r (nodes.Known i k) = refl
fail_children s r (nodes.Unknown p) = refl
fail_children s r nodes.InferenceFailed = refl

force_children : (s : Store) (t : Ty) → (force_kind s t).1.children ≡ s.children
unfolding force_kind
force_children s t = fail_children (with_nodes s (find_mut s.nodes t)) (find s.nodes t) (state_at s.nodes t)

forced_children : {h ws ks h' ws' : List ℕ} {t : «Type»} {r : TypeState} → ForcedIs h ws ks h' ws' t r → children_made h' ≡ children_made h
unfolding store_in
forced_children {h} {ws} {ks} {t = t} o =
    ap (λ (s : Store). s.children) o.store.holds.is ∙ force_children (store_in h ws ks) (ty_of t.0)

-- the ways out

module _ {e : Env} {h ws ks : List ℕ} (t : «Type») where
  pub forced_back : {r : Refusal} → TypesTested e h ws ks (ty_of t.0 ∷ []) (some (number r))
      → ForcePromised (force_kind_call e (lent_of h ws ks) (ty_of t.0)) (Err r) h ws ks h ws
  unfolding force_kind_call
  forced_back {r} q = record {
    fits = refl;
    promised = call_back e h ws ks (λ s. outside s (ty_of t.0 ∷ []) ∷ []) (forcing (ty_of t.0)) (number r) q.first;
  }

  module _ (q : TypesTested e h ws ks (ty_of t.0 ∷ []) none) where
    pub forced_clean : clean h ws ks ≡ true
    forced_clean = lent_clean_words e h ws ks (read_passed q)

    pub forced_done : {h' ws' : List ℕ} {f : TypeState} → ForcedIs h ws ks h' ws' t f
        → ForcePromised (force_kind_call e (lent_of h ws ks) (ty_of t.0)) (Ok f) h ws ks h' ws'
    unfolding force_kind_call
    forced_done {f = f} o =
        let T : Ty = ty_of t.0 in
        record {
          fits = ap (λ (m : ℕ). state_fits ks m f) (forced_children o) ∙ o.fits;
          promised =
              call_done e h ws ks (λ s. outside s (T ∷ []) ∷ []) (forcing T) q.first
              (ap (λ (y : scope.Forced). done y (force_kind (store_in h ws ks) T).1) (sym o.answer)) o.store;
        }
