-- `meeting::without_kind` meets its contract: Failure where either root occurs in the other, else they are to be merged; in one without a kind nothing else occurs.
-- Assumes nothing.
use mathlib.Core.Path.{◌≡◌, refl, sym, subst, ◌∙◌}
use mathlib.Core.Bool.{false, false≢true}
use Rattle.std.specs.Prelude.{Some, None}
use Rattle.std.specs.Option.{is_some}
use Rattle.layout.specs.Meaning.{Held}
use Rattle.meeting.proofs.MeetLaws.{words_walk, bare_first, bare_back, bare_alone}
use Prim.Native.Nat.{ℕ, ◌<◌}
use Rattle.meeting.proofs.without_kind.Goals as goal
use Rattle.meeting.proofs.without_kind.Goals.{then-occurs, else-occurs+then-is_some, else-occurs+else-is_some}

absent : (h : Held) → is_some h ≡ false → h ≡ None
absent (Some p) e = absurd (false≢true (sym e))
absent None e = refl

pub occurs-requires : goal.occurs-requires
occurs-requires c = let t = c.requires.tops in
    let n = c.args.nodes.now.made in
    record {
      walks = words_walk t.pair.words;
      node = subst (λ (i : ℕ). i < n) (sym c.idx-ia.ensures) t.pair.first;
      inside = t.pair.second;
      root = t.second;
    }

pub occurs-requires-then-is_some : goal.occurs-requires-then-is_some
occurs-requires-then-is_some c = let t = c.requires.tops in
    let n = c.args.nodes.now.made in
    record {
      walks = words_walk t.pair.words;
      node = subst (λ (i : ℕ). i < n) (sym c.idx.ensures) t.pair.second;
      inside = t.pair.first;
      root = t.first;
    }

pub returns : goal.returns
returns c = elim c.if-occurs.branch [
  | then-occurs w ↦ rw (c.then_some.ensures, w.occurs-is, w.if-occurs.true) (bare_first c.idx-ia.ensures c.occurs.ensures w.if-occurs.true)
  | else-occurs+then-is_some w ↦
      rw (c.then_some.ensures, w.occurs-is)
      (bare_back c.idx-ia.ensures c.occurs.ensures w.if-occurs.false w.idx.ensures w.occurs-then-is_some.ensures w.occurs-then-is_some.result refl)
  | else-occurs+else-is_some w ↦
      let none = absent w.held.result (sym w.is_some.ensures ∙ w.if-is_some.false) in
      rw (c.then_some.ensures, w.occurs-is, w.if-is_some.false)
      (bare_alone c.requires.tops.pair c.idx-ia.ensures c.occurs.ensures w.if-occurs.false w.held.ensures none)
]
