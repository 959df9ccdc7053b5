-- Finishing goes node by node, and each node is finished by itself. So the words after i turns hold a store whose first i nodes are finished and
-- whose others are as they were.
-- Assumes nothing.
use mathlib.Core.Path.{◌≡◌, refl, ap, sym, ◌∙◌}
use mathlib.Core.Bool.{Bool, true, false}
use mathlib.Core.List.{List, [], ◌∷◌, map}
use Prim.Native.Nat.{ℕ, zero, suc, ◌+◌, ◌<◌, ◌≤◌}
use native.Mathlib.Omega.{arith}
use lib.ListN.{length, length-map}
use Rattle.scope.specs.Kinds.{row_of, rows, NO_NAMES, DEFAULT}
use Rattle.scope.specs.Base.{pick}
use Rattle.scope.specs.Nodes as nodes
use Rattle.scope.specs.Nodes.{Node, Store, at, with_nodes}
use Rattle.scope.specs.Make.{bare}
use Rattle.scope.specs.Force.{finish_node, finish_inference, finish_where}
use Rattle.layout.specs.Words.{node_words, nodes_made, children_made, node_room, child_room, store_in, clean}
use Rattle.layout.specs.Meaning.{Clean, read_at, put_at, node_size, node_means, node_fits}
use Rattle.types.specs.declared.TypeIdx.{TypeIdx}
use Rattle.layout.specs.declared.TypeState.TheVariants.{Known, Unknown, InferenceFailed}
use Rattle.layout.specs.declared.TypeNode.{TypeNode}
use Rattle.layout.specs.declared.TypeNode.TheVariants.{Root, Child}
use Rattle.layout.proofs.Laws.{length_put}
use Rattle.store.specs.Holds.{Holds, Beyond, Became}
use Rattle.store.proofs.Laws.{store_count, holds_clean, holds_read, holds_put, beyond_put, beyond_refl, beyond_trans, bare_means, bare_fits}
use Rattle.force.specs.Finish.{default_root, lacks_kind, finish_words, chosen, Finished, Finishes}
use Rattle.force.proofs.Laws.{Going, going_start, going_skip, going_put, going_end}
use Rattle.scope.proofs.Restate.{where_len}

-- the definitions, node by node

map_at : (f : Node → Node) (l : List Node) (j : ℕ) → j < length l → at (map f l) j ≡ f (at l j)
map_at f [] j h = absurd (omega arith)
map_at f (v ∷ l) zero h = refl
map_at f (v ∷ l) (suc j) h = map_at f l j (omega arith)

module _ (ns : List Node) where
  pub inference_at : (j : ℕ) → j < length ns → at (finish_inference ns) j ≡ finish_node true (at ns j)
  unfolding finish_inference
  inference_at j h = map_at (finish_node true) ns j h

  pub inference_long : length (finish_inference ns) ≡ length ns
  unfolding finish_inference
  inference_long = length-map ns (finish_node true)

pub unchosen : (v : Node) → finish_node false v ≡ v
unchosen (nodes.Root st z) = refl
unchosen (nodes.Child t) = refl

pub where_at : (bs : List ℕ) (ns : List Node) (j : ℕ) → j < length ns → at (finish_where bs ns) j ≡ finish_node (chosen bs j) (at ns j)
unfolding finish_where
where_at bs [] j h = absurd (omega arith)
where_at [] (v ∷ ns) j h = sym (unchosen (at (v ∷ ns) j))
where_at (b ∷ bs) (v ∷ ns) zero h = refl
where_at (b ∷ bs) (v ∷ ns) (suc j) h = where_at bs ns j (omega arith)

-- a root whose kind is Default

default_row : (row_of DEFAULT).names ≡ NO_NAMES
unfolding row_of rows
default_row = refl

default_means : (ks : List ℕ) (z : ℕ) → node_means ks (default_root z) ≡ nodes.Root (nodes.Known false (bare DEFAULT)) z
default_means ks z = ap (λ k. nodes.Root (nodes.Known false k) z) (bare_means ks DEFAULT default_row)

default_fits : (ks : List ℕ) (c z : ℕ) → node_fits ks c (default_root z) ≡ true
default_fits ks c z = bare_fits ks c DEFAULT default_row

-- i turns

-- as many words as at first, enough for n nodes
pub record Roomy (n : ℕ) (ws₀ ws : List ℕ) : Type 0 where
  pub room : node_words n ≤ length ws
  pub long : length ws ≡ length ws₀

start_held : (h ws ks : List ℕ) → clean h ws ks ≡ true → Clean ws ks (children_made h) (nodes_made h)
start_held h ws ks ok = holds_clean {s = store_in h ws ks} (record { clean = ok; is = refl })

pub roomy_start : (h ws ks : List ℕ) {n : ℕ} → clean h ws ks ≡ true → n ≡ nodes_made h → Roomy n ws ws
roomy_start h ws ks ok e = record { room = rw e (start_held h ws ks ok).room; long = refl }

pub roomy_put : {n : ℕ} (i : ℕ) {ws₀ ws ws' : List ℕ} (v : TypeNode) → Roomy n ws₀ ws → ws' ≡ finish_words ws n i v → Roomy n ws₀ ws'
roomy_put {n} i {ws₀} {ws} {ws'} v o e = record { room = rw same o.room; long = same ∙ o.long }
  where
    pick_long : (b : Bool) → length (pick b (put_at ws n i (default_root (node_size v))) ws) ≡ length ws
    pick_long true = length_put ws n o.room i (default_root (node_size v))
    pick_long false = refl

    same : length ws' ≡ length ws
    same = rw e (pick_long (lacks_kind v))

pub record Turned (h ws₀ ks : List ℕ) (to : List Node) (i : ℕ) (ws : List ℕ) : Type 0 where
  pub clean : clean h ws ks ≡ true
  pub long : length ws ≡ length ws₀
  pub beyond : Beyond (node_room h) (child_room h) h ws₀ ks h ws ks
  pub going : Going (store_in h ws₀ ks).nodes to i (store_in h ws ks).nodes

pub turned_start : (h ws ks : List ℕ) (to : List Node) → clean h ws ks ≡ true → Turned h ws ks to 0 ws
turned_start h ws ks to ok = record { clean = ok; long = refl; beyond = beyond_refl; going = going_start (store_in h ws ks).nodes to }

module _ {h ws₀ ks ws : List ℕ} {to : List Node} {i : ℕ} (o : Turned h ws₀ ks to i ws) where
  abbrev from : List Node
  from = (store_in h ws₀ ks).nodes

  held : Holds h ws ks (store_in h ws ks)
  held = record { clean = o.clean; is = refl }

  pub turned_skip : at to i ≡ at from i → Turned h ws₀ ks to (i + 1) ws
  turned_skip e = record { clean = o.clean; long = o.long; beyond = o.beyond; going = going_skip o.going e }

  module _ (below : i < nodes_made h) where
    put_default : (z : ℕ) → at to i ≡ nodes.Root (nodes.Known false (bare DEFAULT)) z → Turned h ws₀ ks to (i + 1) (put_at ws (nodes_made h) i (default_root z))
    put_default z e =
        let p : Holds h (put_at ws (nodes_made h) i (default_root z)) ks (with_nodes (store_in h ws ks) _) = holds_put held i (default_root z) (default_fits ks (children_made h) z) in
        record {
          clean = p.clean;
          long = length_put ws (nodes_made h) (holds_clean held).room i (default_root z) ∙ o.long;
          beyond = beyond_trans o.beyond (beyond_put held i (default_root z) (default_fits ks (children_made h) z));
          going =
              rw (ap (λ (s : Store). s.nodes) p.is)
              (going_put o.going (node_means ks (default_root z)) (omega (arith, store_count h ws₀ ks)) (e ∙ sym (default_means ks z)));
        }

    turn_by : (v : TypeNode) → at from i ≡ node_means ks v → at to i ≡ finish_node true (at from i) → Turned h ws₀ ks to (i + 1) (finish_words ws (nodes_made h) i v)
    turn_by (Root (Known j k) z) q e = turned_skip (e ∙ (ap (finish_node true) q ∙ sym q))
    turn_by (Root (Unknown p) z) q e = put_default z (e ∙ ap (finish_node true) q)
    turn_by (Root InferenceFailed z) q e = put_default z (e ∙ ap (finish_node true) q)
    turn_by (Child t) q e = turned_skip (e ∙ (ap (finish_node true) q ∙ sym q))

    -- node i is read and finished
    pub turned_finish : {ws' : List ℕ} {n : ℕ} → at to i ≡ finish_node true (at from i) → n ≡ nodes_made h → ws' ≡ finish_words ws n i (read_at ws n i)
        → Turned h ws₀ ks to (i + 1) ws'
    turned_finish e m q =
        rw (q, m)
        (turn_by (read_at ws (nodes_made h) i) (sym (o.going.above i (omega arith)) ∙ holds_read held i refl) e)

pub turned_end : {h ws₀ ks ws : List ℕ} {to : List Node} {i : ℕ} → Turned h ws₀ ks to i ws → nodes_made h ≤ i
    → length to ≡ length (store_in h ws₀ ks).nodes → Became h ws₀ ks h ws ks (with_nodes (store_in h ws₀ ks) to)
unfolding store_in
turned_end {h} {ws₀} {ks} {ws} {to} o l e = record {
  holds = record { clean = o.clean; is = ap (with_nodes (store_in h ws ks)) (going_end o.going (rw (store_count h ws₀ ks) l) e) };
  beyond = o.beyond;
}

-- the loop

module _ (h ws₀ ks : List ℕ) {n i : ℕ} (m : n ≡ nodes_made h) (l : i < n) {P : TypeIdx → Bool → Type 0} {f : List Node → List Node} (g : Finishes P f) {b : Bool} (c : P (record { 0 = i }) b) where
  abbrev start : List Node
  start = (store_in h ws₀ ks).nodes

  byte_at : i < 4294967296 → at (f start) i ≡ finish_node b (at start i)
  byte_at s = g.each start i b (omega (arith, store_count h ws₀ ks)) s c

  pub chosen_turn : i < 4294967296 → {ws ws' : List ℕ} → Turned h ws₀ ks (f start) i ws → b ≡ true → ws' ≡ finish_words ws n i (read_at ws n i)
      → Turned h ws₀ ks (f start) (i + 1) ws'
  chosen_turn s o t q = turned_finish o (omega arith) (rw t at byte_at s) m q

  pub chosen_skip : i < 4294967296 → {ws : List ℕ} → Turned h ws₀ ks (f start) i ws → b ≡ false → Turned h ws₀ ks (f start) (i + 1) ws
  chosen_skip s o t = turned_skip o ((rw t at byte_at s) ∙ unchosen (at start i))

pub chosen_end : {h ws₀ ks ws : List ℕ} {n i : ℕ} {P : TypeIdx → Bool → Type 0} {f : List Node → List Node} → n ≡ nodes_made h → n ≤ i → Finishes P f
    → Turned h ws₀ ks (f (store_in h ws₀ ks).nodes) i ws → Finished h ws₀ ks ws f
chosen_end {h} {ws₀} {ks} m l g o = turned_end o (omega arith) (g.long (store_in h ws₀ ks).nodes)

-- the two that finish

pub finishes_all : {P : TypeIdx → Bool → Type 0} → ((i : TypeIdx) (b : Bool) → P i b → b ≡ true) → Finishes P finish_inference
finishes_all h = record {
  long = inference_long;
  each = λ ns j b below small p. inference_at ns j below ∙ ap (λ (t : Bool). finish_node t (at ns j)) (sym (h (record { 0 = j }) b p));
}

pub finishes_where : {P : TypeIdx → Bool → Type 0} (bs : List ℕ) → ((i : TypeIdx) (b : Bool) → i.0 < 4294967296 → P i b → b ≡ chosen bs i.0) → Finishes P (finish_where bs)
finishes_where bs h = record {
  long = where_len bs;
  each = λ ns j b below small p. where_at bs ns j below ∙ ap (λ (t : Bool). finish_node t (at ns j)) (sym (h (record { 0 = j }) b small p));
}
