-- What it is for a store to be sound, as plain facts, and that these say just what the test says. Assumes nothing.
use mathlib.Core.Path.{◌≡◌, refl, sym, ap, subst, ◌∙◌}
use mathlib.Core.List.{List, [], ◌∷◌}
use mathlib.Core.Bool.{Bool, true, ◌&&◌}
use mathlib.Core.Option.{Option, none, some}
use Prim.Native.Nat.{ℕ, zero, suc, ◌≤◌, ◌<◌}
use native.Mathlib.Omega.{arith}
use native.Mathlib.Decide.{dec_lt}
use lib.Dec.{eqb, leb}
use lib.ListN.{length, get_or, get_or-eq_default}
use borrow.Author.Tests.{eq-eqb, ne_eqb, eqb-true, lt-ltb, ltb-true, le-leb, leb-true}
use Rattle.scope.specs.Base.{all, from}
use Rattle.scope.specs.Limits.{MAX_NODES, MAX_CHILDREN}
use Rattle.scope.specs.Chart.{Env}
use Rattle.scope.specs.Types.{Ty}
use Rattle.scope.specs.Kinds.{makeable, defined, flag_is}
use Rattle.scope.specs.Nodes.{Kind, Known, Unknown, InferenceFailed, Node, Root, Child, Store, at, state_of, size_of}
use Rattle.scope.specs.Sound.{in_store, rooted, falls, tree_size, size_is, kind_sound, node_sound, remembered, room_sound, shape_sound, sound_store}
use Rattle.scope.proofs.View.{known, Fin, fin, Good, seen, view}
use Rattle.scope.proofs.TestLaws.{and_left, and_right, and_both, all_of, of-all}
use Rattle.scope.proofs.PlanLaws.{Makeable}
use Rattle.scope.proofs.ViewLaws.{not_known, Kinds, Held, Fine}
use Rattle.scope.proofs.Paths.{beyond, not_child, Forest, leads_short, rep_idem, rep_root}
use Rattle.scope.proofs.Sizes.{all_from, from_all, count_none, Sized, sized_tree, leads_rooted, rooted_leads}
use Rattle.scope.proofs.Falls.{falls_fin, good_falls}

-- the nodes: every node leads to a root inside, kinds are as they are made, sizes are node counts, nothing contains itself
pub record SoundNodes (e : Env) (ns : List Node) : Type 0 where
  pub forest : Forest ns
  pub kinds : Kinds (Fine (length ns) (Makeable e)) (view ns)
  pub sized : Sized (length ns) (view ns)
  pub good : Good (view ns)

pub nodes_held : {e : Env} {ns : List Node} → SoundNodes e ns → Held (length ns) (view ns)
nodes_held ok a i k s = (ok.kinds a i k s).kids

-- a remembered type is in the store
abbrev pub Remembers : ℕ → Option Ty → Type 0
Remembers n o = (t : Ty) → o ≡ some t → t.idx < n

pub record SoundFacts (e : Env) (s : Store) : Type 0 where
  pub nodes : SoundNodes e s.nodes
  pub error : Remembers (length s.nodes) s.error
  pub nil : Remembers (length s.nodes) s.nil
  pub node_limit : s.node_room ≤ MAX_NODES
  pub child_limit : s.child_room ≤ MAX_CHILDREN
  pub node_room_lem : length s.nodes ≤ s.node_room
  pub child_room_lem : s.children ≤ s.child_room

at_all : {A : Type 0} (p : A → Bool) (xs : List A) (d : A) → all p xs ≡ true → (n : ℕ) → n < length xs → p (get_or xs n d) ≡ true
at_all p [] d e n h = absurd (omega arith)
at_all p (x ∷ xs) d e zero h = and_left (p x) (all p xs) e
at_all p (x ∷ xs) d e (suc n) h = at_all p xs d (and_right (p x) (all p xs) e) n (omega arith)

all_at : {A : Type 0} (p : A → Bool) (xs : List A) (d : A) → ((n : ℕ) → n < length xs → p (get_or xs n d) ≡ true) → all p xs ≡ true
all_at p [] d h = refl
all_at p (x ∷ xs) d h = and_both (p x) (all p xs) (h 0 (omega arith)) (all_at p xs d (λ n q. h (suc n) (omega arith)))

-- a kind, by its test and by its facts
kind_fine : (e : Env) (ns : List Node) (k : Kind) → kind_sound e ns k ≡ true → Fine (length ns) (Makeable e) k
unfolding kind_sound
kind_fine e ns k h =
    let m : Bool = makeable e.texts k.head (length k.kids) in
    let d : Bool = defined e k.head in
    let f : Bool = flag_is e k.head in
    let i : Bool = all (in_store ns) k.kids in
    let h₁ = and_right m (d && (f && i)) h in
    let h₂ = and_right d (f && i) h₁ in
    record {
      made = record { made = and_left m (d && (f && i)) h; def = and_left d (f && i) h₁; flag = and_left f i h₂ };
      kids = λ t w. ltb-true t.idx (length ns) (of-all (in_store ns) k.kids (and_right f i h₂) w);
    }

fine_kind : (e : Env) (ns : List Node) (k : Kind) → Fine (length ns) (Makeable e) k → kind_sound e ns k ≡ true
unfolding kind_sound
fine_kind e ns k o =
    and_both _ _ o.made.made (and_both _ _ o.made.def (and_both _ _ o.made.flag
    (all_of (in_store ns) k.kids (λ t w. lt-ltb t.idx (length ns) (o.kids t w)))))

-- a node that is no root has no tree
child_tree : {ns : List Node} → Forest ns → (i : ℕ) {t : Ty} → at ns i ≡ Child t → tree_size ns i ≡ 0
unfolding tree_size view
child_tree {ns} ok i e = count_none (λ j. eqb ((view ns).rep j).idx i) 0 (length ns)
    (λ j a b. ne_eqb ((view ns).rep j).idx i (λ q. not_child (sym (rep_root ok j).2 ∙ ap (at ns) q ∙ e)))

module _ (e : Env) (ns : List Node) (each : (n : ℕ) → n < length ns → node_sound e ns (at ns n) ≡ true)
    (roots : (n : ℕ) → n < length ns → rooted (length ns) ns n ≡ true) (sizes : (n : ℕ) → n < length ns → size_is ns n (at ns n) ≡ true)
    (fall : (n : ℕ) → n < length ns → falls (length ns) ns n ≡ true) where
  each_all : (n : ℕ) → node_sound e ns (at ns n) ≡ true
  each_all n = go (dec_lt n (length ns))
    where
      go : Dec (n < length ns) → node_sound e ns (at ns n) ≡ true
      go (yes h) = each n h
      go (no h) = ap (node_sound e ns) (get_or-eq_default ns beyond (omega arith))

  the_forest : Forest ns
  the_forest = record {
    lead = λ n h. rooted_leads (length ns) ns n (roots n h);
    par = λ n t q. ltb-true t.idx (length ns) (ap (node_sound e ns) (sym q) ∙ each_all n);
  }

  the_kinds : Kinds (Fine (length ns) (Makeable e)) (view ns)
  unfolding view
  the_kinds a i k q = go (at ns a) (each_all a) q
    where
      go : (x : Node) → node_sound e ns x ≡ true → seen (state_of x) ≡ known i k → Fine (length ns) (Makeable e) k
      go (Root (Known j m) z) h p = kind_fine e ns k (subst (λ (w : Kind). kind_sound e ns w ≡ true) (same p) h)
        where
          same : known j m ≡ known i k → m ≡ k
          same p = cc
      go (Root (Unknown s) z) h p = let z : ◌≡◌ {A = ℕ} 0 1 = cc in absurd (omega arith)
      go (Root InferenceFailed z) h p = let z : ◌≡◌ {A = ℕ} 0 1 = cc in absurd (omega arith)
      go (Child t) h p = let z : ◌≡◌ {A = ℕ} 0 1 = cc in absurd (omega arith)

  the_sizes : Sized (length ns) (view ns)
  unfolding view tree_size
  the_sizes i h = go (at ns i) refl (sizes i h)
    where
      go : (x : Node) → at ns i ≡ x → size_is ns i x ≡ true → size_of (at ns i) ≡ tree_size ns i
      go (Root st z) q p = ap size_of q ∙ eqb-true z (tree_size ns i) p
      go (Child t) q p = ap size_of q ∙ sym (child_tree the_forest i q)

  the_good : Good (view ns)
  unfolding view
  the_good = record { idem = rep_idem the_forest; wf = λ a. go a (dec_lt a (length ns)) }
    where
      go : (a : ℕ) → Dec (a < length ns) → Fin (view ns) a
      go a (yes h) = falls_fin (length ns) ns a (fall a h)
      go a (no h) = fin {a = a} (λ x c. absurd (not_known (sym (ap (λ (y : Node). seen (state_of y)) (get_or-eq_default ns beyond (omega arith))) ∙ c.state)))

  nodes_sound : SoundNodes e ns
  nodes_sound = record { forest = the_forest; kinds = the_kinds; sized = the_sizes; good = the_good }

-- each node, by its facts
sound_node : (e : Env) (ns : List Node) → SoundNodes e ns → (n : ℕ) → node_sound e ns (at ns n) ≡ true
unfolding view
sound_node e ns ok n = go (at ns n) refl
  where
    go : (x : Node) → at ns n ≡ x → node_sound e ns x ≡ true
    go (Root (Known i k) z) q = fine_kind e ns k (ok.kinds n i k (ap (λ (y : Node). seen (state_of y)) q))
    go (Root (Unknown p) z) q = refl
    go (Root InferenceFailed z) q = refl
    go (Child t) q = lt-ltb t.idx (length ns) (ok.forest.par n t q)

sound_size : (e : Env) (ns : List Node) → SoundNodes e ns → (n : ℕ) → n < length ns → size_is ns n (at ns n) ≡ true
sound_size e ns ok n h = go (at ns n) refl
  where
    go : (x : Node) → at ns n ≡ x → size_is ns n x ≡ true
    go (Root st z) q = eq-eqb z (tree_size ns n) (sym (ap size_of q) ∙ sized_tree ns ok.sized n h)
    go (Child t) q = refl

sound_shape : (e : Env) (ns : List Node) → SoundNodes e ns → shape_sound ns ≡ true
unfolding shape_sound
sound_shape e ns ok = and_both _ _
    (all_from (rooted (length ns) ns) 0 (length ns) (λ i a b. let l = ok.forest.lead i (omega arith) in leads_rooted (length ns) l.path (leads_short l.path)))
    (and_both _ _
    (all_from (λ i. size_is ns i (at ns i)) 0 (length ns) (λ i a b. sound_size e ns ok i (omega arith)))
    (all_from (falls (length ns) ns) 0 (length ns)
    (λ i a b. good_falls ns ok.forest ok.good (nodes_held ok) i (omega arith))))

remembered_in : (ns : List Node) (o : Option Ty) → remembered ns o ≡ true → Remembers (length ns) o
remembered_in ns none h t e = let z : ◌≡◌ {A = ℕ} 0 1 = cc in absurd (omega arith)
remembered_in ns (some u) h t e = let q : u ≡ t = cc in subst (λ (x : Ty). x.idx < length ns) q (ltb-true u.idx (length ns) h)

in_remembered : (ns : List Node) (o : Option Ty) → Remembers (length ns) o → remembered ns o ≡ true
in_remembered ns none h = refl
in_remembered ns (some u) h = lt-ltb u.idx (length ns) (h u refl)

-- the test's facts
pub sound_facts : (e : Env) (s : Store) → sound_store e s ≡ true → SoundFacts e s
unfolding sound_store room_sound shape_sound
sound_facts e s h = record {
  nodes = nodes_sound e ns (λ n q. at_all (node_sound e ns) ns beyond (and_left N _ h₁) n q)
      (λ n q. from_all (rooted (length ns) ns) 0 (length ns) (and_left S₁ _ h₄) n (omega arith) (omega arith))
      (λ n q. from_all (λ i. size_is ns i (at ns i)) 0 (length ns) (and_left S₂ S₃ h₅) n (omega arith) (omega arith))
      (λ n q. from_all (falls (length ns) ns) 0 (length ns) (and_right S₂ S₃ h₅) n (omega arith) (omega arith));
  error = remembered_in ns s.error (and_left (remembered ns s.error) _ h₂);
  nil = remembered_in ns s.nil (and_left (remembered ns s.nil) _ h₃);
  node_limit = leb-true s.node_room MAX_NODES (and_left R₁ _ h₀);
  child_limit = leb-true s.child_room MAX_CHILDREN (and_left R₂ _ (and_right R₁ _ h₀));
  node_room_lem = leb-true (length ns) s.node_room (and_left R₃ R₄ (and_right R₂ _ (and_right R₁ _ h₀)));
  child_room_lem = leb-true s.children s.child_room (and_right R₃ R₄ (and_right R₂ _ (and_right R₁ _ h₀)));
}
  where
    ns : List Node
    ns = s.nodes

    R₁ : Bool
    R₁ = leb s.node_room MAX_NODES

    R₂ : Bool
    R₂ = leb s.child_room MAX_CHILDREN

    R₃ : Bool
    R₃ = leb (length ns) s.node_room

    R₄ : Bool
    R₄ = leb s.children s.child_room

    N : Bool
    N = all (node_sound e ns) ns

    S₁ : Bool
    S₁ = all (rooted (length ns) ns) (from 0 (length ns))

    S₂ : Bool
    S₂ = all (λ i. size_is ns i (at ns i)) (from 0 (length ns))

    S₃ : Bool
    S₃ = all (falls (length ns) ns) (from 0 (length ns))

    S : Bool
    S = S₁ && (S₂ && S₃)

    h₀ : (R₁ && (R₂ && (R₃ && R₄))) ≡ true
    h₀ = and_left (R₁ && (R₂ && (R₃ && R₄))) _ h

    h₁ : (N && (remembered ns s.error && (remembered ns s.nil && S))) ≡ true
    h₁ = and_right (R₁ && (R₂ && (R₃ && R₄))) _ h

    h₂ : (remembered ns s.error && (remembered ns s.nil && S)) ≡ true
    h₂ = and_right N _ h₁

    h₃ : (remembered ns s.nil && S) ≡ true
    h₃ = and_right (remembered ns s.error) _ h₂

    h₄ : S ≡ true
    h₄ = and_right (remembered ns s.nil) _ h₃

    h₅ : (S₂ && S₃) ≡ true
    h₅ = and_right S₁ _ h₄

-- and back
pub facts_sound : (e : Env) (s : Store) → SoundFacts e s → sound_store e s ≡ true
unfolding sound_store room_sound
facts_sound e s ok = and_both _ _
    (and_both _ _ (le-leb s.node_room MAX_NODES ok.node_limit) (and_both _ _ (le-leb s.child_room MAX_CHILDREN ok.child_limit)
    (and_both _ _ (le-leb (length s.nodes) s.node_room ok.node_room_lem) (le-leb s.children s.child_room ok.child_room_lem))))
    (and_both _ _ (all_at (node_sound e s.nodes) s.nodes beyond (λ n h. sound_node e s.nodes ok.nodes n))
    (and_both _ _ (in_remembered s.nodes s.error ok.error) (and_both _ _ (in_remembered s.nodes s.nil ok.nil) (sound_shape e s.nodes ok.nodes))))
