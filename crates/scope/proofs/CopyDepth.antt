-- An import's depth never runs out: from a root of a sound source fewer steps than there are nodes lead to one without children, so one level more
-- changes nothing. `transfer_rule` is the rule without its depth. Assumes nothing.
use mathlib.Core.Path.{◌≡◌, refl, sym, ap, ◌∙◌}
use mathlib.Core.List.{List, [], ◌∷◌, Memᴰ}
use mathlib.Core.Bool.{true, false≢true}
use mathlib.Core.Option.{Option, none, some}
use Prim.Native.Nat.{ℕ, zero, suc, ◌<◌}
use lib.ListN.{length}
use Rattle.scope.specs.Types.{Ty, ty}
use Rattle.scope.specs.Nodes.{State, Known, Unknown, InferenceFailed, Node, state_at, find, kids_of}
use Rattle.scope.specs.Sound.{falls}
use Rattle.scope.specs.Import.{Work, Moved, MovedAll, copy_of, Replaced, keep, missing_entry, entry, replaced, begun, ended, many, place, transfer}
use Rattle.scope.proofs.TestLaws.{of-all}
use Rattle.scope.proofs.Mapping.{Source}

-- the same at each type, the same over the list
many_same : (g h : Work → Ty → Moved) (ts : List Ty) → ((w : Work) (t : Ty) → Memᴰ t ts → g w t ≡ h w t) → (w : Work) → many g w ts ≡ many h w ts
unfolding many
many_same g h [] same w = refl
many_same g h (t ∷ ts) same w =
    let a = same w t (Memᴰ.head refl) in
    let b = many_same g h ts (λ v u m. same v u (Memᴰ.tail m)) (g w t).work ∙ ap (λ (x : Moved). many h x.work ts) a in
    λ i. record { work = (b i).work; types = (a i).type ∷ (b i).types }

module _ (g h : Work → Ty → Moved) (w : Work) (r : Ty) where
  place_same : (st : State) → ((v : Work) (t : Ty) → Memᴰ t (kids_of st) → g v t ≡ h v t) → (u : Replaced) (o : Option ℕ)
      → place g w r st u o ≡ place h w r st u o
  place_same st same u (some n) = refl
  place_same st same missing_entry none = refl
  place_same st same (entry x) none = refl
  place_same (Unknown p) same keep none = refl
  place_same InferenceFailed same keep none = refl
  place_same (Known i k) same keep none =
      ap
      (λ (b : MovedAll). record {
        work = ended b.work (length w.dest.nodes) (Known i (record { head = k.head; kids = b.types }));
        type = ty r.inv (length w.dest.nodes);
      })
      (many_same g h k.kids same (begun w r.idx (Known i k)))

module _ (ns : List Node) (ps : Option (List Ty)) where
  -- one level more, where f are enough
  transfer_deeper : (f : ℕ) (w : Work) (t : Ty) → falls f ns (find ns t).idx ≡ true → transfer (suc f) ns ps w t ≡ transfer f ns ps w t
  unfolding transfer falls
  transfer_deeper zero w t e = absurd (false≢true e)
  transfer_deeper (suc f) w t e = place_same (transfer (suc f) ns ps) (transfer f ns ps) w (find ns t) (state_at ns t)
      (λ v c m. transfer_deeper f v c (of-all (λ (c : Ty). falls f ns (find ns c).idx) (kids_of (state_at ns t)) e m))
      (replaced ps (state_at ns t)) (copy_of w.mapping (find ns t).idx)

  -- a type of the source
  pub transfer_rule : Source ns → (w : Work) (t : Ty) → t.idx < length ns
      → transfer (length ns) ns ps w t
      ≡ place (transfer (length ns) ns ps) w (find ns t) (state_at ns t) (replaced ps (state_at ns t)) (copy_of w.mapping (find ns t).idx)
  unfolding transfer
  transfer_rule src w t h = sym (transfer_deeper (length ns) w t (src.falling (find ns t).idx (src.inside t h)))
