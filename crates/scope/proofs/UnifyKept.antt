-- `unify` on a sound store's nodes: it is `unify` on their view, and leaves sound nodes; a run of pairs likewise. Assumes nothing.
use mathlib.Core.Path.{refl, sym, subst, ◌∙◌}
use mathlib.Core.List.{List}
use mathlib.Core.Bool.{Bool}
use Prim.Native.Nat.{ℕ, ◌<◌}
use lib.ListN.{length}
use Rattle.scope.specs.Base.{xor}
use Rattle.scope.specs.Chart.{Env}
use Rattle.scope.specs.Types.{Ty}
use Rattle.scope.specs.Nodes.{Node}
use Rattle.scope.specs.Unify.{Plan, plan, Out, run, unify, carry}
use Rattle.scope.proofs.View.{View, Good, view}
use Rattle.scope.proofs.View as Seen
use Rattle.scope.proofs.PlanLaws.{Makeable}
use Rattle.scope.proofs.Paths.{rep_inside}
use Rattle.scope.proofs.Sizes.{Sized}
use Rattle.scope.proofs.Meet.{PlanSpec, plan_spec, a_stays, b_stays, unify_spec}
use Rattle.scope.proofs.ViewLaws.{Kinds, Fine}
use Rattle.scope.proofs.Inside as In
use Rattle.scope.proofs.Inside.{inside_kinds, unify_inside}
use Rattle.scope.proofs.Sim.{Keeps, Sim, Inside, run_keeps, run_sim, unify_call}
use Rattle.scope.proofs.SoundLaws.{SoundNodes}

-- what `unify` keeps of a view of n nodes
pub record Stable (e : Env) (n : ℕ) (g : View) : Type 0 where
  pub good : Good g
  pub inside : In.Inside n (Makeable e) g

pub stable_kinds : {e : Env} {n : ℕ} {g : View} → Stable e n g → Kinds (Makeable e) g
stable_kinds s = inside_kinds (λ k m. m) s.inside

module _ (e : Env) where
  pub keeps : (n : ℕ) → Keeps e.texts n (Stable e n)
  keeps n = record {
    kids = λ g s a i k q. (s.inside.kinds a i k q).kids;
    step = λ f g p q s hp hq. record {
      good = (unify_spec e n f g p q s.good (stable_kinds s)).grow.good;
      inside = unify_inside e n (Makeable e) (λ k m. m) f g p q s.good s.inside hp hq;
    };
    tops = λ f g a b i j k m s ha hb ne ta tb sa sb.
        let c : Bool = xor (xor i a.inv) (xor j b.inv) in
        let l : Plan = plan e.texts k m c in
        let ps : PlanSpec e.texts k m l = plan_spec e k m c (stable_kinds s a.idx i k sa) (stable_kinds s b.idx j m sb) in (
          (a_stays e (Seen.unify e.texts n f) (unify_spec e n f) n g a b s.good (stable_kinds s) ta tb ne i j k m sa sb l ps).rep ∙ ta,
          (b_stays e (Seen.unify e.texts n f) (unify_spec e n f) n g a b s.good (stable_kinds s) ta tb ne i j k m sa sb l ps).rep ∙ tb,
        );
  }

  module _ {ns : List Node} (ok : SoundNodes e ns) where
    pub nodes_stable : Stable e (length ns) (view ns)
    nodes_stable = record {
      good = ok.good;
      inside = record {
        inside = rep_inside ok.forest;
        kinds = ok.kinds;
      };
    }

    pub sim_sound : {o : Out} {v : Seen.Out} → Sim ns o v → Stable e (length ns) v.view → SoundNodes e o.nodes
    sim_sound {o} {v} m s = record {
      forest = m.forest;
      kinds = subst (λ (n : ℕ). Kinds (Fine n (Makeable e)) (view o.nodes)) (sym m.len)
          (subst (Kinds (Fine (length ns) (Makeable e))) (sym m.views) s.inside.kinds);
      sized = subst (λ (n : ℕ). Sized n (view o.nodes)) (sym m.len) (subst (Sized (length ns)) (sym m.views) (m.sized ok.sized));
      good = subst Good (sym m.views) s.good;
    }

    module _ (p q : Ty) (hp : p.idx < length ns) (hq : q.idx < length ns) where
      pub unify_seen : Sim ns (unify e.texts ns p q) (Seen.unify e.texts (length ns) (length ns) (view ns) p q)
      unify_seen = unify_call e.texts (length ns) (Stable e (length ns)) (keeps (length ns)) ns p q ok.forest refl nodes_stable hp hq

      pub unify_nodes : SoundNodes e (unify e.texts ns p q).nodes
      unify_nodes = sim_sound unify_seen ((keeps (length ns)).step (length ns) (view ns) p q nodes_stable hp hq)

    module _ (l : Plan) (h : Inside (length ns) l.pairs) where
      pub carry_seen : Sim ns (carry e.texts ns l) (Seen.run (Seen.unify e.texts (length ns) (length ns)) (view ns) l.base l.pairs)
      carry_seen = run_sim (length ns) (Stable e (length ns)) (unify e.texts) (Seen.unify e.texts (length ns) (length ns))
          ((keeps (length ns)).step (length ns)) (unify_call e.texts (length ns) (Stable e (length ns)) (keeps (length ns))) ns l.base l.pairs ok.forest refl nodes_stable h

      pub carry_nodes : SoundNodes e (carry e.texts ns l).nodes
      carry_nodes = sim_sound carry_seen
          (run_keeps (length ns) (Stable e (length ns)) (unify e.texts) (Seen.unify e.texts (length ns) (length ns)) ((keeps (length ns)).step (length ns))
          (unify_call e.texts (length ns) (Stable e (length ns)) (keeps (length ns))) (view ns) l.base l.pairs nodes_stable h)
