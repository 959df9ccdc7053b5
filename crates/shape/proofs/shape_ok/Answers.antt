-- `shape::shape_ok` meets its contract: what the three functions find is what the three parts of `shape_sound` say. Without a root for every node the
-- first part fails; with them the other two are about those roots.
-- Assumes nothing.
use mathlib.Core.Path.{sym, ◌∙◌}
use mathlib.Core.Bool.{false≢true}
use Rattle.shape.proofs.Meets as meets
use Rattle.shape.proofs.shape_ok.Goals as goal
use Rattle.shape.proofs.shape_ok.Goals.{then-find_roots, else-find_roots}

pub find_roots-requires : goal.find_roots-requires
find_roots-requires c = meets.climbs_all c.requires

pub sizes_ok-requires : goal.sizes_ok-requires
sizes_ok-requires c = meets.rooted_roots c.requires c.find_roots.ensures c.if-find_roots.true

pub falls_ok-requires : goal.falls_ok-requires
falls_ok-requires c = elim c.if-find_roots.branch [
  | then-find_roots w ↦ meets.falling c.requires c.find_roots.ensures w.if-find_roots.true
  | else-find_roots w ↦ absurd (false≢true (sym (w.value-is ∙ w.if-find_roots.false) ∙ c.if-sizes_ok.true))
]

pub returns-then-sizes_ok : goal.returns-then-sizes_ok
returns-then-sizes_ok c = elim c.if-find_roots.branch [
  | then-find_roots w ↦
      meets.sized c.requires c.find_roots.ensures w.if-find_roots.true w.sizes_ok.ensures (sym w.value-is ∙ c.if-sizes_ok.true) c.falls_ok.ensures
  | else-find_roots w ↦ absurd (false≢true (sym (w.value-is ∙ w.if-find_roots.false) ∙ c.if-sizes_ok.true))
]

pub returns-else-sizes_ok : goal.returns-else-sizes_ok
returns-else-sizes_ok c = elim c.if-find_roots.branch [
  | then-find_roots w ↦
      c.if-sizes_ok.false ∙ meets.not_sized c.requires c.find_roots.ensures w.if-find_roots.true w.sizes_ok.ensures (sym w.value-is ∙ c.if-sizes_ok.false)
  | else-find_roots w ↦ (w.value-is ∙ w.if-find_roots.false) ∙ meets.not_rooted c.requires c.find_roots.ensures w.if-find_roots.false
]
