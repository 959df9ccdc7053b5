-- The laws of `unify` that a reader expects, on sound nodes: a Success merges; path compression before the call changes neither the answer nor where a
-- type leads afterwards; `occurs` tests containment; a self-inverse type's tree is its own inverse. Assumes nothing.
use mathlib.Core.Path.{◌≡◌, refl, sym, ap, subst, ◌∙◌}
use mathlib.Core.List.{List, []}
use mathlib.Core.Bool.{Bool, true, false}
use mathlib.Core.Logic.{◌≢◌, ◌⊎◌, inl, inr}
use Prim.Native.Nat.{ℕ, ◌<◌}
use lib.ListN.{length}
use Rattle.scope.specs.Chart.{Env}
use Rattle.scope.specs.Types.{Ty}
use Rattle.scope.specs.Nodes.{State, Node, Root, at, find, find_mut}
use Rattle.scope.specs.Answers.{Success}
use Rattle.scope.specs.Unify.{unify, occurs, self_inverse_of}
use Rattle.scope.specs.Trees.{Val, invert, val, Fits}
use Rattle.scope.specs.Demand.{Contains}
use Rattle.scope.proofs.View.{View, Below, root_of, view}
use Rattle.scope.proofs.View as Seen
use Rattle.scope.proofs.Free.{free_nil}
use Rattle.scope.proofs.Paths.{root_rep, find_root, find_idx, find_mut_tidied, tidied_view}
use Rattle.scope.proofs.Grow.{ri, Self, Joined, agree, selfly}
use Rattle.scope.proofs.Meet.{unify_spec}
use Rattle.scope.proofs.Chain.{cnil}
use Rattle.scope.proofs.Occurs.{occurs_no, self_sound}
use Rattle.scope.proofs.Self.{occurs_yes, self_complete}
use Rattle.scope.proofs.Falls.{contains_below, below_contains}
use Rattle.scope.proofs.ViewFits.{invert_if_self, val_root, self_val}
use Rattle.scope.proofs.NodesFit.{fits_seen}
use Rattle.scope.proofs.Sim.{Sim, occurs_view, self_inverse_view}
use Rattle.scope.proofs.SoundLaws.{SoundNodes}
use Rattle.scope.proofs.SoundKept.{tidied_nodes}
use Rattle.scope.proofs.UnifyKept.{Stable, nodes_stable, stable_kinds, unify_seen, unify_nodes}

-- two types lead to one root, with inversions that agree, or the root is self-inverse
pub data Merged (ns : List Node) (p q : Ty) : Type 0 where
  one_type : find ns p ≡ find ns q → Merged ns p q
  one_root : (find ns p).idx ≡ (find ns q).idx → self_inverse_of ns p false ≡ true → Merged ns p q

joined_merged : (e : Env) {ns : List Node} → SoundNodes e ns → (p q : Ty) → p.idx < length ns → Joined (view ns) p q → Merged ns p q
unfolding self_inverse_of
joined_merged e {ns} ok p q hp (agree w) = one_type (find_root ns p ∙ w ∙ sym (find_root ns q))
joined_merged e {ns} ok p q hp (selfly w s) = one_root (find_idx ns p ∙ w ∙ sym (find_idx ns q))
    (self_inverse_view false (length ns) ns (find ns p).idx ∙ ap (Seen.self_inverse false (length ns) (view ns)) (find_idx ns p)
    ∙ self_complete (length ns) (view ns) ok.good st.inside (length ns) (ri (view ns) p) [] (ok.good.idem p.idx) (st.inside.inside p.idx hp) cnil
    (free_nil (length ns)) s)
  where
    st : Stable e (length ns) (view ns)
    st = nodes_stable e ok

module _ (e : Env) {ns : List Node} (ok : SoundNodes e ns) (p q : Ty) (hp : p.idx < length ns) (hq : q.idx < length ns) where
  -- a Success merges
  pub success_merges : (unify e.texts ns p q).answer ≡ Success → Merged (unify e.texts ns p q).nodes p q
  success_merges a =
      let m = unify_seen e ok p q hp hq in
      let j = (unify_spec e (length ns) (length ns) (view ns) p q ok.good (stable_kinds (nodes_stable e ok))).joined (sym m.answers ∙ a) in
      joined_merged e (unify_nodes e ok p q hp hq) p q (subst (λ (n : ℕ). p.idx < n) (sym m.len) hp) (subst (λ (g : View). Joined g p q) (sym m.views) j)

  -- compressed paths
  module _ (t : Ty) where
    same_view : Seen.unify e.texts (length (find_mut ns t)) (length (find_mut ns t)) (view (find_mut ns t)) p q
        ≡ Seen.unify e.texts (length ns) (length ns) (view ns) p q
    same_view = let d = find_mut_tidied ok.forest t in rw (d.len, tidied_view d ok.forest) refl

    tidied_seen : Sim (find_mut ns t) (unify e.texts (find_mut ns t) p q) (Seen.unify e.texts (length ns) (length ns) (view ns) p q)
    tidied_seen =
        let d = find_mut_tidied ok.forest t in
        subst (Sim (find_mut ns t) (unify e.texts (find_mut ns t) p q)) same_view
        (unify_seen e (tidied_nodes e d ok) p q (subst (λ (n : ℕ). p.idx < n) (sym d.len) hp) (subst (λ (n : ℕ). q.idx < n) (sym d.len) hq))

    pub compressed_answer : (unify e.texts (find_mut ns t) p q).answer ≡ (unify e.texts ns p q).answer
    compressed_answer = tidied_seen.answers ∙ sym (unify_seen e ok p q hp hq).answers

    pub compressed_find : (u : Ty) → find (unify e.texts (find_mut ns t) p q).nodes u ≡ find (unify e.texts ns p q).nodes u
    compressed_find u =
        find_root (unify e.texts (find_mut ns t) p q).nodes u ∙ ap (λ (g : View). root_of g u) (tidied_seen.views ∙ sym (unify_seen e ok p q hp hq).views)
        ∙ sym (find_root (unify e.texts ns p q).nodes u)

module _ (e : Env) {ns : List Node} (ok : SoundNodes e ns) where
  -- `occurs`, of two roots: the one is the other, or is contained in it
  pub occurs_contains : (x y : ℕ) {s : State} {z : ℕ} → at ns y ≡ Root s z → y < length ns → occurs (length ns) ns x y ≡ true → (y ≡ x) ⊎ Contains ns y x
  occurs_contains x y r h o = go (occurs_yes (length ns) (view ns) ok.good (nodes_stable e ok).inside (length ns) x y [] (root_rep ok.forest r) h cnil
      (free_nil (length ns)) (sym (occurs_view (length ns) ns x y) ∙ o))
    where
      go : (y ≡ x) ⊎ Below (view ns) y x → (y ≡ x) ⊎ Contains ns y x
      go (inl q) = inl q
      go (inr b) = inr (below_contains ns ok.forest ok.good b)

  pub contains_occurs : (x y : ℕ) → (y ≡ x) ⊎ Contains ns y x → occurs (length ns) ns x y ≡ true
  contains_occurs x y c = go (occurs (length ns) ns x y) refl
    where
      no_both : (y ≢ x) × (Below (view ns) y x → ⊥) → (y ≡ x) ⊎ Contains ns y x → ⊥
      no_both n (inl q) = n.0 q
      no_both n (inr d) = n.1 (contains_below ns ok.forest ok.good d)

      go : (b : Bool) → occurs (length ns) ns x y ≡ b → b ≡ true
      go true q = refl
      go false q = absurd (no_both (occurs_no (length ns) (view ns) x y (sym (occurs_view (length ns) ns x y) ∙ q)) c)

  -- `self_inverse`
  pub self_inverse_tree : (v : Val) → Fits e v ns → (t : Ty) → self_inverse_of ns t false ≡ true → invert e (val e v t) ≡ val e v t
  unfolding self_inverse_of
  self_inverse_tree v f t q =
      let g = fits_seen e v ok.forest f in
      let s : Self (view ns) (ri (view ns) t) = self_sound (length ns) (view ns) (ri (view ns) t)
      (ap (Seen.self_inverse false (length ns) (view ns)) (sym (find_idx ns t)) ∙ sym (self_inverse_view false (length ns) ns (find ns t).idx) ∙ q) in
      let i : invert e (v (ri (view ns) t)) ≡ v (ri (view ns) t) = self_val (stable_kinds (nodes_stable e ok)) g s in
      let r : val e v t ≡ v (ri (view ns) t) = val_root g t ∙ invert_if_self e (root_of (view ns) t).inv (v (ri (view ns) t)) i in
      ap (invert e) r ∙ i ∙ sym r
