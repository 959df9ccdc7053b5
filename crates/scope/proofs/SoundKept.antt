-- Sound stays sound: what each definition leaves of a sound store is sound, and no node gets deep under a small root. Assumes nothing.
use mathlib.Core.Path.{◌≡◌, refl, sym, ap, subst, ◌∙◌}
use mathlib.Core.List.{List}
use mathlib.Core.Bool.{Bool}
use mathlib.Core.Option.{Option}
use mathlib.Core.Logic.{◌⊎◌, inl, inr}
use Prim.Native.Nat.{ℕ, ◌≤◌, ◌<◌}
use native.Mathlib.Omega.{arith}
use lib.ListN.{length, set}
use Rattle.scope.specs.Limits.{MAX_NODES, MAX_CHILDREN}
use Rattle.scope.specs.Chart.{Env}
use Rattle.scope.specs.Types.{Ty}
use Rattle.scope.specs.Kinds.{rows, row_of, flag_of, names_ok, makeable, defined, flag_is, TUPLE, DEFAULT, ERROR}
use Rattle.scope.specs.Nodes.{Kind, State, Known, Unknown, InferenceFailed, Node, Root, Store, opened, with_nodes, at, state_of, size_of, state_at, climb, find, find_mut}
use Rattle.scope.specs.Unify.{Plan, carry, unify}
use Rattle.scope.specs.Make.{bare}
use Rattle.scope.specs.Force.{with_reports, fail, force_kind, finish_where, finish_inference, reset}
use Rattle.scope.proofs.PlanLaws.{Makeable}
use Rattle.scope.proofs.View.{View, known, fin, view}
use Rattle.scope.proofs.ViewLaws.{not_known, Fine}
use Rattle.scope.proofs.Paths.{not_child, Forest, Tidied, find_idx, rep_root, find_inside, find_mut_tidied, tidied_forest, tidied_view}
use Rattle.scope.proofs.Merge.{Shallow, tidied_shallow}
use Rattle.scope.proofs.Restate.{Restates, restates_kind, restates_shallow, restates_forest, restates_sized, restates_good, failed_restates, failed_view, finish_where_restates, finish_restates}
use Rattle.scope.proofs.SoundLaws.{SoundNodes, Remembers, SoundFacts}
use Rattle.scope.proofs.Sim.{Inside}
use Rattle.scope.proofs.UnifyKept.{unify_seen, unify_nodes, carry_seen, carry_nodes}

-- the same capacities
pub record Roomed (s s' : Store) : Type 0 where
  pub nodes : s'.node_room ≡ s.node_room
  pub children : s'.child_room ≡ s.child_room

-- what a definition leaves of a sound store s
pub record Kept (e : Env) (s s' : Store) : Type 0 where
  pub facts : SoundFacts e s'
  pub shallow : Shallow s.nodes → Shallow s'.nodes
  pub room : Roomed s s'

pub kept_same : {e : Env} {s : Store} → SoundFacts e s → Kept e s s
kept_same ok = record { facts = ok; shallow = λ w. w; room = record { nodes = refl; children = refl } }

module _ (e : Env) where
  -- the kinds that are made of nothing
  default_fine : {n : ℕ} → Fine n (Makeable e) (bare DEFAULT)
  unfolding makeable defined flag_is flag_of names_ok row_of rows
  default_fine = record { made = record { made = refl; def = refl; flag = refl }; kids = λ t w. elim w [ ] }

  pub error_fine : {n : ℕ} → Fine n (Makeable e) (bare ERROR)
  unfolding makeable defined flag_is flag_of names_ok row_of rows
  error_fine = record { made = record { made = refl; def = refl; flag = refl }; kids = λ t w. elim w [ ] }

  pub nil_fine : {n : ℕ} → Fine n (Makeable e) (bare TUPLE)
  unfolding makeable defined flag_is flag_of names_ok row_of rows
  nil_fine = record { made = record { made = refl; def = refl; flag = refl }; kids = λ t w. elim w [ ] }

  pub fine_more : {n m : ℕ} {k : Kind} → n ≤ m → Fine n (Makeable e) k → Fine m (Makeable e) k
  fine_more h f = record { made = f.made; kids = λ t w. omega (arith, f.kids t w) }

  pub remembers_more : {n m : ℕ} {o : Option Ty} → n ≤ m → Remembers n o → Remembers m o
  remembers_more h r t q = omega (arith, r t q)

  -- an opened store
  pub opened_facts : (n c : ℕ) → n ≤ MAX_NODES → c ≤ MAX_CHILDREN → SoundFacts e (opened n c)
  unfolding view find climb
  opened_facts n c hn hc = record {
    nodes = record {
      forest = record { lead = λ i h. absurd (omega arith); par = λ i t q. absurd (not_child q) };
      kinds = λ a i k q. absurd (not_known q);
      sized = λ i h. absurd (omega arith);
      good = record { idem = λ i. refl; wf = λ a. fin (λ x k. absurd (not_known k.state)) };
    };
    error = λ t q. let z : ◌≡◌ {A = ℕ} 0 1 = cc in absurd (omega arith);
    nil = λ t q. let z : ◌≡◌ {A = ℕ} 0 1 = cc in absurd (omega arith);
    node_limit = hn;
    child_limit = hc;
    node_room_lem = omega arith;
    child_room_lem = omega arith;
  }

  pub opened_shallow : (n c : ℕ) → Shallow (opened n c).nodes
  opened_shallow n c i h = absurd (omega arith)

  -- other nodes, as many
  module _ (s : Store) (ns : List Node) (ok : SoundFacts e s) (len : length ns ≡ length s.nodes) where
    pub nodes_facts : SoundNodes e ns → SoundFacts e (with_nodes s ns)
    nodes_facts x = record {
      nodes = x;
      error = subst (λ (n : ℕ). Remembers n s.error) (sym len) ok.error;
      nil = subst (λ (n : ℕ). Remembers n s.nil) (sym len) ok.nil;
      node_limit = ok.node_limit;
      child_limit = ok.child_limit;
      node_room_lem = omega (arith, len, ok.node_room_lem);
      child_room_lem = ok.child_room_lem;
    }

  -- another report count
  pub reports_facts : {s : Store} {n : ℕ} → SoundFacts e s → SoundFacts e (with_reports s n)
  reports_facts ok = record {
    nodes = ok.nodes;
    error = ok.error;
    nil = ok.nil;
    node_limit = ok.node_limit;
    child_limit = ok.child_limit;
    node_room_lem = ok.node_room_lem;
    child_room_lem = ok.child_room_lem;
  }

  pub tidied_nodes : {ns ns' : List Node} → Tidied ns ns' → SoundNodes e ns → SoundNodes e ns'
  tidied_nodes {ns} {ns'} t ok = record {
    forest = tidied_forest t ok.forest;
    kinds = rw (t.len, tidied_view t ok.forest) ok.kinds;
    sized = rw (t.len, tidied_view t ok.forest) ok.sized;
    good = rw (tidied_view t ok.forest) ok.good;
  }

  pub restates_nodes : {ns ns' : List Node} → Restates ns ns' → SoundNodes e ns → SoundNodes e ns'
  restates_nodes {ns} {ns'} x ok = record {
    forest = restates_forest ns ns' x ok.forest;
    kinds = λ a i k q. kinds a i k (restates_kind ns ns' x a i k q);
    sized = restates_sized ns ns' x ok.forest ok.sized;
    good = restates_good ns ns' x ok.forest ok.good;
  }
    where
      kinds : (a : ℕ) (i : Bool) (k : Kind) → ((view ns).st a ≡ known i k) ⊎ (k ≡ bare DEFAULT) → Fine (length ns') (Makeable e) k
      kinds a i k (inl q) = rw x.len (ok.kinds a i k q)
      kinds a i k (inr q) = rw q default_fine

  -- `find_mut`
  pub find_mut_kept : (s : Store) (t : Ty) → SoundFacts e s → Kept e s (with_nodes s (find_mut s.nodes t))
  find_mut_kept s t ok =
      let d = find_mut_tidied ok.nodes.forest t in
      record { facts = nodes_facts s (find_mut s.nodes t) ok d.len (tidied_nodes d ok.nodes); shallow = tidied_shallow d; room = record { nodes = refl; children = refl } }

  -- `unify`, and what runs it over a plan's pairs
  pub unify_kept : (s : Store) (a b : Ty) → SoundFacts e s → a.idx < length s.nodes → b.idx < length s.nodes
      → Kept e s (with_nodes s (unify e.texts s.nodes a b).nodes)
  unify_kept s a b ok ha hb =
      let m = unify_seen e ok.nodes a b ha hb in
      record { facts = nodes_facts s (unify e.texts s.nodes a b).nodes ok m.len (unify_nodes e ok.nodes a b ha hb); shallow = m.shallow; room = record { nodes = refl; children = refl } }

  pub carry_kept : (s : Store) (l : Plan) → SoundFacts e s → Inside (length s.nodes) l.pairs
      → Kept e s (with_nodes s (carry e.texts s.nodes l).nodes)
  carry_kept s l ok h =
      let m = carry_seen e ok.nodes l h in
      record { facts = nodes_facts s (carry e.texts s.nodes l).nodes ok m.len (carry_nodes e ok.nodes l h); shallow = m.shallow; room = record { nodes = refl; children = refl } }

  -- finishing
  pub restates_kept : (s : Store) (ns : List Node) → Restates s.nodes ns → SoundFacts e s → Kept e s (with_nodes s ns)
  restates_kept s ns x ok = record {
    facts = nodes_facts s ns ok x.len (restates_nodes x ok.nodes);
    shallow = restates_shallow s.nodes ns x;
    room = record { nodes = refl; children = refl };
  }

  pub finish_kept : (s : Store) → SoundFacts e s → Kept e s (with_nodes s (finish_inference s.nodes))
  finish_kept s ok = restates_kept s (finish_inference s.nodes) (finish_restates s.nodes) ok

  pub finish_where_kept : (s : Store) (bs : List ℕ) → SoundFacts e s → Kept e s (with_nodes s (finish_where bs s.nodes))
  finish_where_kept s bs ok = restates_kept s (finish_where bs s.nodes) (finish_where_restates bs s.nodes) ok

  -- a type's root, after its path is compressed
  module _ (ns : List Node) (t : Ty) (ok : Forest ns) where
    abbrev top : Node
    top = at (find_mut ns t) (find ns t).idx

    root_after : top ≡ Root (state_at ns t) (size_of top)
    root_after =
        let d = find_mut_tidied ok t in
        let r = rep_root (tidied_forest d ok) t.idx in
        let w : ((view (find_mut ns t)).rep t.idx).idx ≡ (find ns t).idx =
        ap (λ (g : View). (g.rep t.idx).idx) (tidied_view d ok) ∙ sym (find_idx ns t) in
        let q : top ≡ Root r.0 r.1 = ap (at (find_mut ns t)) (sym w) ∙ r.2 in
        q ∙ ap (λ (z : ℕ). Root r.0 z) (sym (ap size_of q)) ∙ ap (λ (st : State). Root st (size_of top)) (sym (ap state_of q) ∙ d.sts (find ns t).idx)

    module _ (h : t.idx < length ns) (p : ℕ) (q : state_at ns t ≡ Unknown p) where
      root_inside : (find ns t).idx < length (find_mut ns t)
      root_inside = omega (arith, (find_mut_tidied ok t).len, find_inside ok t h)

      unknown_after : top ≡ Root (Unknown p) (size_of top)
      unknown_after = root_after ∙ ap (λ (st : State). Root st (size_of top)) q

      marked : Restates (find_mut ns t) (set (find_mut ns t) (find ns t).idx (Root InferenceFailed (size_of top)))
      marked = failed_restates (find_mut ns t) (find ns t).idx p (size_of top) root_inside unknown_after

      marked_view : view (set (find_mut ns t) (find ns t).idx (Root InferenceFailed (size_of top))) ≡ view ns
      marked_view = failed_view (find_mut ns t) (find ns t).idx p (size_of top) root_inside unknown_after (tidied_forest (find_mut_tidied ok t) ok)
          ∙ tidied_view (find_mut_tidied ok t) ok

  -- `force_kind`
  pub force_kept : (s : Store) (t : Ty) → SoundFacts e s → t.idx < length s.nodes → Kept e s (force_kind s t).1
  unfolding force_kind
  force_kept s t ok h = go (state_at s.nodes t) refl
    where
      s₁ : Store
      s₁ = with_nodes s (find_mut s.nodes t)

      k₁ : Kept e s s₁
      k₁ = find_mut_kept s t ok

      go : (st : State) → state_at s.nodes t ≡ st → Kept e s (fail s₁ (find s.nodes t) st)
      go (Known i k) q = k₁
      go InferenceFailed q = k₁
      go (Unknown p) q =
          let k = restates_kept s₁ _ (marked s.nodes t ok.nodes.forest h p q) k₁.facts in
          record { facts = reports_facts k.facts; shallow = λ w. k.shallow (k₁.shallow w); room = record { nodes = refl; children = refl } }

  pub force_view : (s : Store) (t : Ty) → Forest s.nodes → t.idx < length s.nodes → view (force_kind s t).1.nodes ≡ view s.nodes
  unfolding force_kind
  force_view s t ok h = go (state_at s.nodes t) refl
    where
      go : (st : State) → state_at s.nodes t ≡ st → view (fail (with_nodes s (find_mut s.nodes t)) (find s.nodes t) st).nodes ≡ view s.nodes
      go (Known i k) q = tidied_view (find_mut_tidied ok t) ok
      go InferenceFailed q = tidied_view (find_mut_tidied ok t) ok
      go (Unknown p) q = marked_view s.nodes t ok h p q

  pub force_len : (s : Store) (t : Ty) → Forest s.nodes → t.idx < length s.nodes → length (force_kind s t).1.nodes ≡ length s.nodes
  unfolding force_kind
  force_len s t ok h = go (state_at s.nodes t) refl
    where
      go : (st : State) → state_at s.nodes t ≡ st → length (fail (with_nodes s (find_mut s.nodes t)) (find s.nodes t) st).nodes ≡ length s.nodes
      go (Known i k) q = (find_mut_tidied ok t).len
      go InferenceFailed q = (find_mut_tidied ok t).len
      go (Unknown p) q = (marked s.nodes t ok h p q).len ∙ (find_mut_tidied ok t).len

  -- `reset`
  pub reset_kept : (s : Store) → SoundFacts e s → Kept e s (reset s)
  unfolding reset
  reset_kept s ok = record {
    facts = reports_facts (opened_facts s.node_room s.child_room ok.node_limit ok.child_limit);
    shallow = λ w i h. absurd (omega arith);
    room = record { nodes = refl; children = refl };
  }
