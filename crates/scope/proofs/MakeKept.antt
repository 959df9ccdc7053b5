-- Sound stays sound under the makers. Assumes nothing.
use mathlib.Core.Path.{◌≡◌, refl, sym, ap, subst, ◌∙◌}
use mathlib.Core.List.{List}
use mathlib.Core.Bool.{Bool, false}
use mathlib.Core.Option.{Option, none, some}
use mathlib.Core.Logic.{◌≢◌, ◌⊎◌, inl, inr}
use Prim.Native.Nat.{ℕ, zero, suc, ◌+◌, ◌≤◌, ◌<◌}
use native.Mathlib.Omega.{arith}
use lib.ListN.{length}
use Rattle.scope.specs.Chart.{Env}
use Rattle.scope.specs.Types.{Ty}
use Rattle.scope.specs.Kinds.{TUPLE, ERROR}
use Rattle.scope.specs.Nodes.{Kind, State, Known, Unknown, Node, Store, at, state_of, remembering}
use Rattle.scope.specs.Make.{push, pushed, next_type, new, new_var, new_vars, bare, make_error, make_nil, again, remember_error, remember_nil}
use Rattle.scope.specs.Calls.{nodes_for}
use Rattle.scope.proofs.PlanLaws.{Makeable}
use Rattle.scope.proofs.View.{known, seen, view}
use Rattle.scope.proofs.ViewLaws.{same?, not_known, Fine}
use Rattle.scope.proofs.Extend.{ext_forest, ext_shallow, ext_sized}
use Rattle.scope.proofs.Push.{push_len, push_new, push_old, push_extends, push_good}
use Rattle.scope.proofs.SoundLaws.{Remembers, SoundNodes, nodes_held, SoundFacts}
use Rattle.scope.proofs.SoundKept.{Kept, kept_same, error_fine, nil_fine, fine_more, remembers_more}

module _ (e : Env) where
  -- a state whose kind, if any, may be made over n nodes
  abbrev pub StateFine : ℕ → State → Type 0
  StateFine n st = (i : Bool) (k : Kind) → seen st ≡ known i k → Fine n (Makeable e) k

  known_fine : {n : ℕ} {i : Bool} {k : Kind} → Fine n (Makeable e) k → StateFine n (Known i k)
  known_fine {n} {i} {k} f j m q = subst (Fine n (Makeable e)) (same q) f
    where
      same : known i k ≡ known j m → k ≡ m
      same q = cc

  unknown_fine : (n p : ℕ) → StateFine n (Unknown p)
  unknown_fine n p i k q = absurd (not_known q)

  push_nodes : (ns : List Node) (st : State) → StateFine (length ns) st → SoundNodes e ns → SoundNodes e (push ns st)
  unfolding view
  push_nodes ns st f ok = record {
    forest = ext_forest ns (push ns st) (push_extends ns st) ok.forest;
    kinds = λ a i k q. kinds a i k q (same? a (length ns));
    sized = ext_sized ns (push ns st) (push_extends ns st) ok.forest ok.sized;
    good = push_good ns st ok.forest (nodes_held ok) (λ i k q. (f i k q).kids) ok.good;
  }
    where
      kinds : (a : ℕ) (i : Bool) (k : Kind) → seen (state_of (at (push ns st) a)) ≡ known i k → (a ≡ length ns) ⊎ (a ≢ length ns) → Fine (length (push ns st)) (Makeable e) k
      kinds a i k q (inl w) =
          fine_more e (omega (arith, push_len ns st)) (f i k (ap (λ (x : Node). seen (state_of x)) (sym (push_new ns st) ∙ ap (at (push ns st)) (sym w)) ∙ q))
      kinds a i k q (inr w) = fine_more e (omega (arith, push_len ns st)) (ok.kinds a i k (ap (λ (x : Node). seen (state_of x)) (sym (push_old ns st a w)) ∙ q))

  -- one node more, and c children
  pub pushed_kept : (s : Store) (st : State) (c : ℕ) → SoundFacts e s → StateFine (length s.nodes) st → length s.nodes + 1 ≤ s.node_room
      → s.children + c ≤ s.child_room → Kept e s (pushed s st c)
  pushed_kept s st c ok f hn hc = record {
    facts = record {
      nodes = push_nodes s.nodes st f ok.nodes;
      error = remembers_more e (omega (arith, push_len s.nodes st)) ok.error;
      nil = remembers_more e (omega (arith, push_len s.nodes st)) ok.nil;
      node_limit = ok.node_limit;
      child_limit = ok.child_limit;
      node_room_lem = omega (arith, push_len s.nodes st);
      child_room_lem = hc;
    };
    shallow = ext_shallow s.nodes (push s.nodes st) (push_extends s.nodes st) ok.nodes.forest;
    room = record { nodes = refl; children = refl };
  }

  -- `new`
  pub new_kept : (s : Store) (k : Kind) → SoundFacts e s → Fine (length s.nodes) (Makeable e) k → length s.nodes + 1 ≤ s.node_room
      → s.children + length k.kids ≤ s.child_room → Kept e s (new s k).store
  unfolding new
  new_kept s k ok f hn hc = pushed_kept s (Known false k) (length k.kids) ok (known_fine f) hn hc

  -- `new_var`
  pub new_var_kept : (s : Store) (p : ℕ) → SoundFacts e s → length s.nodes + 1 ≤ s.node_room → Kept e s (new_var s p).store
  unfolding new_var
  new_var_kept s p ok hn = pushed_kept s (Unknown p) 0 ok (unknown_fine (length s.nodes) p) hn (omega (arith, ok.child_room_lem))

  -- `new_vars`
  pub new_vars_kept : (s : Store) (p n : ℕ) → SoundFacts e s → length s.nodes + n ≤ s.node_room → Kept e s (new_vars s p n).store
  unfolding new_vars new_var
  new_vars_kept s p zero ok h = kept_same ok
  new_vars_kept s p (suc n) ok h =
      let k = pushed_kept s (Unknown p) 0 ok (unknown_fine (length s.nodes) p) (omega arith) (omega (arith, ok.child_room_lem)) in
      let m = new_vars_kept (pushed s (Unknown p) 0) p n k.facts (omega (arith, push_len s.nodes (Unknown p))) in
      record { facts = m.facts; shallow = λ w. m.shallow (k.shallow w); room = record { nodes = m.room.nodes; children = m.room.children } }

  -- `error` and `nil`
  new_remembered : (ns : List Node) (st : State) (n : ℕ) → n ≡ length ns → (t u : Ty) → t.idx ≡ n → some t ≡ some u → u.idx < length (push ns st)
  new_remembered ns st n q t u w r = let z : t ≡ u = cc in omega (arith, push_len ns st, ap (λ (x : Ty). x.idx) z)

  remembering_kept : {s s' : Store} {x y : Option Ty} → Kept e s s' → Remembers (length s'.nodes) x → Remembers (length s'.nodes) y → Kept e s (remembering s' x y)
  remembering_kept k hx hy = record {
    facts = record {
      nodes = k.facts.nodes;
      error = hx;
      nil = hy;
      node_limit = k.facts.node_limit;
      child_limit = k.facts.child_limit;
      node_room_lem = k.facts.node_room_lem;
      child_room_lem = k.facts.child_room_lem;
    };
    shallow = k.shallow;
    room = record { nodes = k.room.nodes; children = k.room.children };
  }

  pub error_kept : (s : Store) → SoundFacts e s → length s.nodes + nodes_for s.error ≤ s.node_room → Kept e s (make_error s).store
  unfolding make_error new
  error_kept s ok h = go s.error h
    where
      go : (o : Option Ty) → length s.nodes + nodes_for o ≤ s.node_room → Kept e s (again s o (remember_error (new s (bare ERROR)))).store
      go (some t) h = kept_same ok
      go none h =
          let k = new_kept s (bare ERROR) ok (error_fine e) h (omega (arith, ok.child_room_lem)) in
          remembering_kept k (λ t q. new_remembered s.nodes (Known false (bare ERROR)) (length s.nodes) refl (next_type s) t refl q) k.facts.nil

  pub nil_kept : (s : Store) → SoundFacts e s → length s.nodes + nodes_for s.nil ≤ s.node_room → Kept e s (make_nil s).store
  unfolding make_nil new
  nil_kept s ok h = go s.nil h
    where
      go : (o : Option Ty) → length s.nodes + nodes_for o ≤ s.node_room → Kept e s (again s o (remember_nil (new s (bare TUPLE)))).store
      go (some t) h = kept_same ok
      go none h =
          let k = new_kept s (bare TUPLE) ok (nil_fine e) h (omega (arith, ok.child_room_lem)) in
          remembering_kept k k.facts.error (λ t q. new_remembered s.nodes (Known false (bare TUPLE)) (length s.nodes) refl (next_type s) t refl q)
