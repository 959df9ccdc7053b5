-- `unify` at any depth leaves a sound store's nodes sound, and so does a run of pairs; sizes stay small, and roots that are their own inverses stay so. What holds of
-- the view at every depth holds of the nodes.
-- Assumes nothing.
use mathlib.Core.Path.{refl, sym, subst}
use mathlib.Core.List.{List}
use Prim.Native.Nat.{ℕ, ◌<◌}
use lib.ListN.{length}
use Rattle.scope.specs.Chart.{Env}
use Rattle.scope.specs.Types.{Ty}
use Rattle.scope.specs.Answers.{Answer}
use Rattle.scope.specs.Nodes.{Node}
use Rattle.scope.specs.Unify.{Out, run, unify_f}
use Rattle.scope.proofs.View as Seen
use Rattle.scope.proofs.View.{view}
use Rattle.scope.proofs.Grow.{Grow}
use Rattle.scope.proofs.Meet.{unify_spec}
use Rattle.scope.proofs.Sim.{Inside, SimStep, run_keeps, run_sim, unify_sim}
use Rattle.scope.proofs.SoundLaws.{SoundNodes}
use Rattle.scope.proofs.UnifyKept.{Stable, stable_kinds, keeps, nodes_stable, sim_sound}
use Rattle.heed.proofs.Laws.{SelfsKept, selfs_grow}

module _ (e : Env) {ns : List Node} (ok : SoundNodes e ns) (f : ℕ) where
  abbrev pub deep : List Node → Ty → Ty → Out
  deep = unify_f e.texts (length ns) f

  pub deep_sim : SimStep (length ns) (Stable e (length ns)) deep (Seen.unify e.texts (length ns) f)
  deep_sim = unify_sim e.texts (length ns) (Stable e (length ns)) (keeps e (length ns)) f

  pub pair_sound : (p q : Ty) → p.idx < length ns → q.idx < length ns → SoundNodes e (deep ns p q).nodes
  pair_sound p q hp hq =
      sim_sound e ok (deep_sim ns p q ok.forest refl (nodes_stable e ok) hp hq) ((keeps e (length ns)).step f (view ns) p q (nodes_stable e ok) hp hq)

  pub pair_selfs : (p q : Ty) → p.idx < length ns → q.idx < length ns → SelfsKept ns (deep ns p q).nodes
  pair_selfs p q hp hq =
      let st = nodes_stable e ok in
      selfs_grow ns (deep ns p q).nodes ok.good
      (subst (Grow e.texts (view ns)) (sym (deep_sim ns p q ok.forest refl st hp hq).views) (unify_spec e (length ns) f (view ns) p q ok.good (stable_kinds st)).grow)

  pub run_sound : (r : Answer) (ps : List (Ty × Ty)) → Inside (length ns) ps → SoundNodes e (run deep ns r ps).nodes
  run_sound r ps h =
      let n : ℕ = length ns in
      sim_sound e ok (run_sim n (Stable e n) deep (Seen.unify e.texts n f) ((keeps e n).step f) deep_sim ns r ps ok.forest refl (nodes_stable e ok) h)
      (run_keeps n (Stable e n) deep (Seen.unify e.texts n f) ((keeps e n).step f) deep_sim (view ns) r ps (nodes_stable e ok) h)
