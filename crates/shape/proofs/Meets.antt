-- What the code finds is what scope's definitions say. A node's step up is read off the node that its words mean, so the walks up are the steps that
-- `rooted` and `find` count, and the walks to children's roots those that `falls` counts.
-- Assumes nothing.
use mathlib.Core.Path.{◌≡◌, refl, sym, ap, ◌∙◌}
use mathlib.Core.Bool.{Bool, true, false, ◌&&◌, false≢true}
use mathlib.Core.List.{List, map}
use Prim.Native.Nat.{ℕ, zero, suc, ◌<◌}
use native.Mathlib.Omega.{arith}
use borrow.Author.Tests.{ltb-true}
use lib.Dec.{eqb}
use lib.ListN.{length, replicate}
use Rattle.scope.specs.Base.{all, from}
use Rattle.scope.specs.Limits.{MAX_NODES}
use Rattle.scope.specs.Types.{Ty, ty, flip, ty_of}
use Rattle.scope.specs.Nodes.{Node, at, climb, find, state_of, kids_of}
use Rattle.scope.specs.Nodes as nodes
use Rattle.scope.proofs.Laws as scope
use Rattle.scope.specs.Sound.{rooted, falls, tree_size, size_is, in_store, shape_sound}
use Rattle.layout.specs.Words.{slot_at, decode}
use Rattle.layout.proofs.Lists.{all_map}
use Rattle.layout.proofs.Laws.{length_decode, read_node}
use Rattle.layout.proofs.HeldLaws.{held_kids_lem}
use Rattle.layout.specs.Meaning.{read_at, held_in, held_kids, node_means, kind_means}
use Rattle.layout.specs.Meaning.{Held}
use Rattle.std.specs.Prelude.{Some, None}
use Rattle.layout.specs.declared.TypeNode.{TypeNode}
use Rattle.layout.specs.declared.TypeNode.TheVariants as read
use Rattle.shape.specs.Walks.{ends, InRun, Up, Root, Parent, upward, to_by, Leads, here, more}
use Rattle.shape.specs.Read.{up_in, first_of, count_of, kid_at, ups, root_of, kids, tallied, size_by, size_fits}
use Rattle.shape.specs.Asks.{node_inside, Shaped, Complete, ClimbsAll, ClimbedAll, Rooted, Falls}
use Rattle.shape.proofs.Lists.{all_same}
use Rattle.shape.proofs.Walks.{ends_none, ends_more, ends_root, ends_up, up_within, leads_ends, leads_below}
use Rattle.shape.proofs.Laws.{right_none}
use Rattle.scope.proofs.Sizes.{count_same, from_all}
use Rattle.scope.proofs.TestLaws.{same_bool}

-- one step up from scope's node
abbrev up_node : Node → Up
up_node (nodes.Root st z) = Root z
up_node (nodes.Child t) = Parent t.idx

up_means : (ks : List ℕ) (x : TypeNode) → up_node (node_means ks x) ≡ up_in x
up_means ks (read.Root st z) = refl
up_means ks (read.Child t) = refl

module _ (ns : List Node) (p : ℕ → Up) (step : (v : ℕ) → p v ≡ up_node (at ns v)) where
  -- a step up, by the node
  rooted_by : (x : Node) (d v : ℕ) → at ns v ≡ x → ((u : ℕ) → rooted d ns u ≡ ends (upward p) (suc d) u) → rooted (suc d) ns v ≡ ends (upward p) (suc (suc d)) v
  unfolding rooted
  rooted_by (nodes.Root st z) d v e h = rw e (sym (ends_root p (suc d) v z (step v ∙ ap up_node e)))
  rooted_by (nodes.Child t) d v e h = rw e (h t.idx ∙ sym (ends_up p (suc d) v t.idx (step v ∙ ap up_node e)))

  rooted_none : (x : Node) (v : ℕ) → at ns v ≡ x → rooted 0 ns v ≡ ends (upward p) 1 v
  unfolding rooted
  rooted_none (nodes.Root st z) v e = rw e (sym (ends_root p 0 v z (step v ∙ ap up_node e)))
  rooted_none (nodes.Child t) v e = rw e (sym (ends_up p 0 v t.idx (step v ∙ ap up_node e) ∙ ends_none (upward p) t.idx))

  -- at most d steps, and so at most d + 1 nodes
  rooted_ends : (d v : ℕ) → rooted d ns v ≡ ends (upward p) (suc d) v
  rooted_ends zero v = rooted_none (at ns v) v refl
  rooted_ends (suc d) v = rooted_by (at ns v) d v refl (rooted_ends d)

  -- `find`, by the node
  climb_root : (x : Node) (d z : ℕ) (t : Ty) → at ns t.idx ≡ x → up_node x ≡ Root z → climb d ns t ≡ t
  unfolding climb
  climb_root x zero z t e u = refl
  climb_root (nodes.Root st y) (suc d) z t e u = scope.climb_root (suc d) ns t e
  climb_root (nodes.Child c) (suc d) z t e u = absurd (let f : ◌≡◌ {A = ℕ} 0 1 = cc in omega arith)

  -- a climb goes on from a type with the parent's node
  climb_up : (x : Node) (d : ℕ) (u : ℕ) (t : Ty) → at ns t.idx ≡ x → up_node x ≡ Parent u → (c : Ty) × (c.idx ≡ u) × (climb (suc d) ns t ≡ climb d ns c)
  climb_up (nodes.Root st y) d u t e f = absurd (let z : ◌≡◌ {A = ℕ} 0 1 = cc in omega arith)
  climb_up (nodes.Child c) d u t e f = (flip t.inv c, cc, scope.climb_child d ns t c e)

  climb_leads : (d : ℕ) {v r : ℕ} (t : Ty) → t.idx ≡ v → Leads p v r → ends (upward p) (suc d) v ≡ true → (climb d ns t).idx ≡ r
  climb_leads d t q (here {v = v} {z = z} e) m =
      ap (λ (x : Ty). x.idx) (climb_root (at ns t.idx) d z t refl (sym (step t.idx) ∙ ap p q ∙ e)) ∙ q
  climb_leads zero t q (more {v = v} {u = u} e k) m = absurd (false≢true (sym (ends_up p 0 v u e ∙ ends_none (upward p) u) ∙ m))
  climb_leads (suc d) t q (more {v = v} {u = u} e k) m =
      let w = climb_up (at ns t.idx) d u t refl (sym (step t.idx) ∙ ap p q ∙ e) in
      ap (λ (x : Ty). x.idx) w.2 ∙ climb_leads d w.0 w.1 k (sym (ends_up p (suc d) v u e) ∙ m)

  module _ (n : ℕ) (size : length ns ≡ n) (inside : (v : ℕ) → v < n → to_by (p v) < n) where
    pub rooted_same : (v : ℕ) → v < n → rooted n ns v ≡ ends (upward p) n v
    rooted_same v l = rooted_ends n v ∙ same_bool (ends (upward p) (suc n) v) (ends (upward p) n v) (up_within p n inside v l) (ends_more (upward p) n v)

    module _ (roots : List ℕ) (complete : Complete p n roots) where
      pub find_same : (t : Ty) → t.idx < n → (find ns t).idx ≡ root_of roots t.idx
      unfolding find
      find_same t l =
          let k = complete.leads t.idx l in
          rw size (climb_leads n t refl k (ends_more (upward p) n t.idx (leads_ends p n inside k l)))

      tree_same : (v : ℕ) → tree_size ns v ≡ tallied roots n v
      unfolding tree_size
      tree_same v = rw size (count_same (λ i. eqb (find ns (ty false i)).idx v) (λ i. eqb (root_of roots i) v) 0 n (λ j a b. ap (λ (x : ℕ). eqb x v) (find_same (ty false j) (omega arith))))

      size_by_lem : (x : Node) (v : ℕ) → size_is ns v x ≡ size_by (tallied roots n v) (up_node x)
      size_by_lem (nodes.Root st z) v = ap (eqb z) (tree_same v)
      size_by_lem (nodes.Child t) v = refl

      pub size_same : (v : ℕ) → size_is ns v (at ns v) ≡ size_by (tallied roots n v) (p v)
      size_same v = size_by_lem (at ns v) v ∙ ap (size_by (tallied roots n v)) (sym (step v))

-- a test of a node's children, by their places
kids_all : (ks : List ℕ) (q : Ty → Bool) (h : Held) → all q (held_kids ks h) ≡ all (λ i. q (ty_of (slot_at ks i).type)) (from (first_of h) (count_of h))
unfolding kind_means
kids_all ks q (Some (i, k)) =
    all_map q (λ s. ty_of s.type) (map (slot_at ks) (from k.first k.count))
    ∙ all_map (λ s. q (ty_of s.type)) (slot_at ks) (from k.first k.count)
kids_all ks q None = refl

-- what lies inside the store
inside_kids : (ns : List Node) (x : Node) → node_inside ns x ≡ true → all (in_store ns) (kids_of (state_of x)) ≡ true
inside_kids ns (nodes.Root st z) e = e
inside_kids ns (nodes.Child t) e = refl

inside_up : (ns : List Node) (x : Node) → 0 < length ns → node_inside ns x ≡ true → to_by (up_node x) < length ns
inside_up ns (nodes.Root st z) l e = l
inside_up ns (nodes.Child t) l e = ltb-true t.idx (length ns) e

-- a store of n nodes, of which the code reads the steps up and what they hold
module _ (ws ks : List ℕ) (n : ℕ) (ns : List Node) (size : length ns ≡ n) (step : (v : ℕ) → ups ws n v ≡ up_node (at ns v))
    (held : (v : ℕ) → kids_of (state_of (at ns v)) ≡ held_kids ks (held_in (read_at ws n v)))
    (inside : (v : ℕ) → v < n → node_inside ns (at ns v) ≡ true) where
  pub ups_inside : (v : ℕ) → v < n → to_by (ups ws n v) < n
  ups_inside v l = rw (step v, ← size) (inside_up ns (at ns v) (omega arith) (inside v l))

  pub kids_inside : (roots : List ℕ) (v i : ℕ) → v < n → InRun (kids ws ks n roots) v i → kid_at ks i < n
  kids_inside roots v i l r =
      let h = held_in (read_at ws n v) in
      let e = sym (kids_all ks (in_store ns) h) ∙ ap (all (in_store ns)) (sym (held v)) ∙ inside_kids ns (at ns v) (inside v l) in
      rw (← size) (ltb-true (kid_at ks i) (length ns) (from_all (λ j. in_store ns (ty_of (slot_at ks j).type)) (first_of h) (count_of h) e i r.from r.below))

  -- no parent cycle
  rooted_all : all (λ i. rooted (length ns) ns i) (from 0 (length ns)) ≡ all (ends (upward (ups ws n)) n) (from 0 n)
  rooted_all = rw size (all_same (rooted n ns) (ends (upward (ups ws n)) n) 0 n (λ v a b. rooted_same ns (ups ws n) step n size ups_inside v (omega arith)))

  pub shape_lost : all (ends (upward (ups ws n)) n) (from 0 n) ≡ false → shape_sound ns ≡ false
  unfolding shape_sound
  shape_lost e = rw (rooted_all, e)

  module _ (roots : List ℕ) (complete : Complete (ups ws n) n roots) where
    found : (t : Ty) → t.idx < n → (find ns t).idx ≡ root_of roots t.idx
    found = find_same ns (ups ws n) step n size ups_inside roots complete

    pub roots_below : (v : ℕ) → v < n → root_of roots v < n
    roots_below v l = leads_below (ups ws n) n ups_inside (complete.leads v l) l

    sizes_all : all (λ i. size_is ns i (at ns i)) (from 0 (length ns)) ≡ all (size_fits ws n roots) (from 0 n)
    sizes_all = rw size (all_same (λ i. size_is ns i (at ns i)) (size_fits ws n roots) 0 n (λ v a b. size_same ns (ups ws n) step n size ups_inside roots complete v))

    -- no child cycle
    falls_node : (d v : ℕ) → falls (suc d) ns v
        ≡ all (λ i. falls d ns (find ns (ty_of (slot_at ks i).type)).idx) (from (first_of (held_in (read_at ws n v))) (count_of (held_in (read_at ws n v))))
    unfolding falls
    falls_node d v = rw (held v) (kids_all ks (λ c. falls d ns (find ns c).idx) (held_in (read_at ws n v)))

    falls_same : (d v : ℕ) → v < n → falls d ns v ≡ ends (kids ws ks n roots) d v
    unfolding falls ends
    falls_same zero v l = refl
    falls_same (suc d) v l =
        let h : (u : ℕ) → u < n → falls d ns u ≡ ends (kids ws ks n roots) d u = falls_same d in
        falls_node d v
        ∙ all_same (λ i. falls d ns (find ns (ty_of (slot_at ks i).type)).idx) (λ i. ends (kids ws ks n roots) d (root_of roots (kid_at ks i)))
        (first_of (held_in (read_at ws n v))) (count_of (held_in (read_at ws n v)))
        (λ i a b. let k = kids_inside roots v i l (record { from = a; below = b }) in
        ap (falls d ns) (found (ty_of (slot_at ks i).type) k) ∙ h (root_of roots (kid_at ks i)) (roots_below (kid_at ks i) k))

    falls_all : all (λ i. falls (length ns) ns i) (from 0 (length ns)) ≡ all (ends (kids ws ks n roots) n) (from 0 n)
    falls_all = rw size (all_same (falls n ns) (ends (kids ws ks n roots) n) 0 n (λ v a b. falls_same n v (omega arith)))

    pub shape_found : all (ends (upward (ups ws n)) n) (from 0 n) ≡ true
        → shape_sound ns ≡ (all (size_fits ws n roots) (from 0 n) && all (ends (kids ws ks n roots) n) (from 0 n))
    unfolding shape_sound
    shape_found e = rw (rooted_all, e, sizes_all, falls_all)

-- for words that `shape_ok` is handed

module _ {ws ks : List ℕ} {n : ℕ} (s : Shaped ws ks n) where
  step : (v : ℕ) → ups ws n v ≡ up_node (at (decode ws ks n) v)
  step v = sym (ap up_node (sym (read_node ws ks s.made n s.clean v)) ∙ up_means ks (read_at ws n v))

  held : (v : ℕ) → kids_of (state_of (at (decode ws ks n) v)) ≡ held_kids ks (held_in (read_at ws n v))
  held v = held_kids_lem ws ks s.made n s.clean v refl refl

  pub climbs_all : ClimbsAll ws (replicate MAX_NODES 0) n
  climbs_all = record {
    parents = record { few = s.few; inside = ups_inside ws ks n (decode ws ks n) (length_decode ws ks n) step held s.inside };
    right = right_none (ups ws n);
  }

  pub not_rooted : {roots : List ℕ} {r : Bool} → ClimbedAll (ups ws n) n roots r → r ≡ false → false ≡ shape_sound (decode ws ks n)
  not_rooted f e = sym (shape_lost ws ks n (decode ws ks n) (length_decode ws ks n) step held s.inside (sym f.answer ∙ e))

  module _ {roots : List ℕ} {r : Bool} (f : ClimbedAll (ups ws n) n roots r) (e : r ≡ true) where
    pub rooted_roots : Rooted roots n
    rooted_roots = record {
      few = s.few;
      known = (f.complete e).known;
      below = roots_below ws ks n (decode ws ks n) (length_decode ws ks n) step held s.inside roots (f.complete e);
    }

    pub falling : Falls ws ks n roots
    falling = record {
      rooted = rooted_roots;
      below = kids_inside ws ks n (decode ws ks n) (length_decode ws ks n) step held s.inside roots;
    }

    rest : shape_sound (decode ws ks n) ≡ (all (size_fits ws n roots) (from 0 n) && all (ends (kids ws ks n roots) n) (from 0 n))
    rest = shape_found ws ks n (decode ws ks n) (length_decode ws ks n) step held s.inside roots (f.complete e) (sym f.answer ∙ e)

    pub not_sized : {z : Bool} → z ≡ all (size_fits ws n roots) (from 0 n) → z ≡ false → false ≡ shape_sound (decode ws ks n)
    not_sized p q = sym (rest ∙ rw (← p, q))

    pub sized : {z d : Bool} → z ≡ all (size_fits ws n roots) (from 0 n) → z ≡ true → d ≡ all (ends (kids ws ks n roots) n) (from 0 n) → d ≡ shape_sound (decode ws ks n)
    sized p q t = t ∙ sym (rest ∙ rw (← p, q))
