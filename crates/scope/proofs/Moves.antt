-- What each definition does to the nodes of a sound store: roots only merge, what is known stays known, and so many nodes are new. Assumes nothing.
use mathlib.Core.Path.{◌≡◌, refl, sym, ap, subst, ◌∙◌}
use mathlib.Core.List.{List, [], ◌∷◌}
use mathlib.Core.Bool.{Bool}
use mathlib.Core.Option.{Option}
use Prim.Native.Nat.{ℕ, ◌+◌, ◌≤◌, ◌<◌}
use native.Mathlib.Omega.{arith}
use native.Mathlib.Decide.{dec_lt}
use lib.ListN.{length, get_or-eq_default}
use Rattle.scope.specs.Names.{Texts}
use Rattle.scope.specs.Chart.{Env}
use Rattle.scope.specs.Types.{Ty, flip}
use Rattle.scope.specs.Nodes.{Kind, State, Node, Root, Store, at, state_of, find_mut}
use Rattle.scope.specs.Unify.{Plan, Out, unify, carry}
use Rattle.scope.specs.Make.{push}
use Rattle.scope.specs.Force.{force_kind}
use Rattle.scope.specs.Import.{import, copies}
use Rattle.scope.proofs.View.{View, known, Good, seen, view}
use Rattle.scope.proofs.View as Seen
use Rattle.scope.proofs.ViewLaws.{not_known}
use Rattle.scope.proofs.Grow.{alike_refl, heads_refl, Grow, grow_refl}
use Rattle.scope.proofs.Stay.{run_spec}
use Rattle.scope.proofs.Meet.{unify_spec}
use Rattle.scope.proofs.Paths.{beyond, Forest, find_mut_tidied, tidied_view}
use Rattle.scope.proofs.Extend.{ext_rep, ext_st, Extends}
use Rattle.scope.proofs.Push.{push_len, push_extends}
use Rattle.scope.proofs.Restate.{Restates, restates_rep, restates_known, restates_good}
use Rattle.scope.proofs.Imports.{Imported}
use Rattle.scope.proofs.Sim.{Sim, Inside}
use Rattle.scope.proofs.SoundLaws.{SoundNodes, SoundFacts}
use Rattle.scope.proofs.UnifyKept.{stable_kinds, nodes_stable, unify_seen, carry_seen}
use Rattle.scope.proofs.SoundKept.{force_view, force_len}
use Rattle.scope.proofs.Steps.{pushes}

-- the same roots, and every kind kept
grow_same : {X : Texts} {g h : View} → Good g → Good h → ((n : ℕ) → h.rep n ≡ g.rep n)
    → ((n : ℕ) (i : Bool) (k : Kind) → g.st n ≡ known i k → h.st n ≡ known i k) → Grow X g h
grow_same {X} {g} {h} good hg reps sts = record {
  good = hg;
  mono = λ n. reps n ∙ (grow_refl {X = X} good).mono n ∙ ap (flip (g.rep n).inv) (sym (reps (g.rep n).idx));
  knows = λ a i k t s. record {
    inv = i;
    kind = k;
    state = ap (λ (x : Ty). h.st x.idx) (reps a ∙ t) ∙ sts a i k s;
    heads = heads_refl k.head;
    alike = alike_refl k.kids;
  };
}

-- from nodes to nodes, m of them new
pub record Moves (X : Texts) (ns ns' : List Node) (m : ℕ) : Type 0 where
  pub grow : Grow X (view ns) (view ns')
  pub len : length ns' ≡ length ns + m

module _ {X : Texts} {ns : List Node} (good : Good (view ns)) where
  pub moves_none : Moves X ns ns 0
  moves_none = record { grow = grow_refl good; len = omega arith }

  moves_view : {ns' : List Node} → view ns' ≡ view ns → length ns' ≡ length ns → Moves X ns ns' 0
  moves_view e len = record { grow = subst (Grow X (view ns)) (sym e) (grow_refl good); len = omega (arith, len) }

  module _ {ns' : List Node} (ok : Forest ns) where
    moves_extends : {m : ℕ} → Extends ns ns' → length ns' ≡ length ns + m → Good (view ns') → Moves X ns ns' m
    unfolding view
    moves_extends x len after =
        record { grow = grow_same good after (ext_rep ns ns' x ok) (λ n i k e. kept n i k e (dec_lt n (length ns))); len = len }
      where
        kept : (n : ℕ) (i : Bool) (k : Kind) → (view ns).st n ≡ known i k → Dec (n < length ns) → (view ns').st n ≡ known i k
        kept n i k e (yes h) = ext_st ns ns' x ok n h ∙ e
        kept n i k e (no h) = absurd (not_known (sym (ap (λ (y : Node). seen (state_of y)) (get_or-eq_default ns beyond (omega arith))) ∙ e))

-- new roots, one behind the other
extends_trans : {ns ms ns' : List Node} → Extends ns ms → Extends ms ns' → Extends ns ns'
extends_trans {ns} {ms} {ns'} x y = record {
  len = omega (arith, x.len, y.len);
  old = λ m h. y.old m (omega (arith, x.len)) ∙ x.old m h;
  new = λ m a b. new m a b (dec_lt m (length ms));
}
  where
    new : (m : ℕ) → length ns ≤ m → m < length ns' → Dec (m < length ms) → (st : State) × (at ns' m ≡ Root st 1)
    new m a b (yes h) = let r = x.new m a h in (r.0, y.old m h ∙ r.1)
    new m a b (no h) = y.new m (omega arith) b

pushes_extends : (ns : List Node) (sts : List State) → Extends ns (pushes ns sts)
unfolding pushes
pushes_extends ns [] = record { len = omega arith; old = λ n h. refl; new = λ n a b. absurd (omega arith) }
pushes_extends ns (st ∷ sts) = extends_trans (push_extends ns st) (pushes_extends (push ns st) sts)

pushes_length : (ns : List Node) (sts : List State) → length (pushes ns sts) ≡ length ns + length sts
unfolding pushes
pushes_length ns [] = omega arith
pushes_length ns (st ∷ sts) = omega (arith, pushes_length (push ns st) sts, push_len ns st)

-- a sound store
module _ (e : Env) (s : Store) (facts : SoundFacts e s) where
  ok : SoundNodes e s.nodes
  ok = facts.nodes

  -- where no type of the nodes left contains itself
  abbrev pub Leaves : List Node → ℕ → Type 0
  Leaves ns m = Good (view ns) → Moves e.texts s.nodes ns m

  -- makers and `import`
  pub pushes_moves : (sts : List State) → Leaves (pushes s.nodes sts) (length sts)
  pushes_moves sts = moves_extends ok.good ok.forest (pushes_extends s.nodes sts) (pushes_length s.nodes sts)

  pub import_moves : (ns : List Node) (ps : Option (List Ty)) (ts : List Ty) → Imported ns ps s ts (import ns ps s ts)
      → Leaves (import ns ps s ts).work.dest.nodes (copies ns ps ts)
  import_moves ns ps ts m = moves_extends ok.good ok.forest m.ext m.made

  -- `find_mut` and `force_kind`
  pub find_mut_moves : (t : Ty) → Moves e.texts s.nodes (find_mut s.nodes t) 0
  find_mut_moves t = let d = find_mut_tidied ok.forest t in moves_view ok.good (tidied_view d ok.forest) d.len

  pub force_moves : (t : Ty) → t.idx < length s.nodes → Moves e.texts s.nodes (force_kind s t).1.nodes 0
  force_moves t h = moves_view ok.good (force_view e s t ok.forest h) (force_len e s t ok.forest h)

  -- finishing
  pub restates_moves : (ns : List Node) → Restates s.nodes ns → Moves e.texts s.nodes ns 0
  restates_moves ns x = record {
    grow = grow_same ok.good (restates_good s.nodes ns x ok.forest ok.good) (restates_rep s.nodes ns x ok.forest) (restates_known s.nodes ns x);
    len = omega (arith, x.len);
  }

  -- `unify`, and what runs it over a plan's pairs
  sim_moves : {o : Out} {v : Seen.Out} → Sim s.nodes o v → Grow e.texts (view s.nodes) v.view → Moves e.texts s.nodes o.nodes 0
  sim_moves m w = record { grow = subst (Grow e.texts (view s.nodes)) (sym m.views) w; len = omega (arith, m.len) }

  pub unify_moves : (a b : Ty) → a.idx < length s.nodes → b.idx < length s.nodes → Moves e.texts s.nodes (unify e.texts s.nodes a b).nodes 0
  unify_moves a b ha hb = sim_moves (unify_seen e ok a b ha hb)
      (unify_spec e (length s.nodes) (length s.nodes) (view s.nodes) a b ok.good (stable_kinds (nodes_stable e ok))).grow

  pub carry_moves : (l : Plan) → Inside (length s.nodes) l.pairs → Moves e.texts s.nodes (carry e.texts s.nodes l).nodes 0
  carry_moves l h = sim_moves (carry_seen e ok l h)
      (run_spec e (Seen.unify e.texts (length s.nodes) (length s.nodes)) (unify_spec e (length s.nodes) (length s.nodes))
      (view s.nodes) l.base l.pairs ok.good (stable_kinds (nodes_stable e ok))).grow
