-- What each public call adds to the shared laws of calls that only read: its type is refused, or the node that was read is the store's and fits it, and so are
-- a child and a name read of it.
-- Assumes nothing.
use mathlib.Core.Path.{◌≡◌, refl, ap, sym, ◌∙◌}
use mathlib.Core.List.{List, [], ◌∷◌}
use mathlib.Core.Option.{none, some}
use Prim.Native.Nat.{ℕ, ◌≤◌}
use lib.ListN.{length}
use Rattle.std.specs.Prelude.{Ok}
use Rattle.scope.specs.Chart.{Env}
use Rattle.scope.specs.Types.{Ty}
use Rattle.scope.specs.Nodes.{Node, Store, at}
use Rattle.scope.specs.Calls.{done, refused, store_of, read_call, node_call}
use Rattle.layout.specs.Words.{node_words, children_made, decode, store_in, lent_of}
use Rattle.layout.specs.Meaning.{read_at, node_means, store_means, header_in}
use Rattle.layout.specs.declared.Header.{Header}
use Rattle.layout.specs.declared.TypeNode.{TypeNode}
use Rattle.layout.proofs.Laws.{read_is, read_is_fit}
use Rattle.layout.proofs.StoreLaws.{store_header}
use Rattle.promise.specs.Promise.{Tested, TypesInside}
use Rattle.promise.proofs.Laws.{inside_tested}
use Rattle.promise.proofs.ReadLaws.{read_refused, read_clean, read_nodes}
use Rattle.call_read.specs.Replies.{NodePromised}

module _ {e : Env} {h ws ks : List ℕ} {t : Ty} (q : Tested e h ws ks) where
  -- where the type is refused
  pub node_refused : {n : ℕ} → TypesInside h (t ∷ []) (some n) → {A : Type 0} (a : A) → read_call e (lent_of h ws ks) (t ∷ []) a ≡ refused n
  node_refused p a = read_refused (inside_tested q p) a

  module _ (p : TypesInside h (t ∷ []) none) {x : Header} (g : x ≡ header_in h) where
    pub node_room : node_words x.nodes ≤ length ws
    node_room = (read_clean (inside_tested q p) g).room

    -- the type's node was read
    module _ {i : ℕ} (o : i ≡ t.idx) {v : TypeNode} (r : v ≡ read_at ws x.nodes i) where
      -- what is told of it
      pub node_told : {A : Type 0} {a : A} (f : Node → A) → f (node_means ks v) ≡ a
          → read_call e (lent_of h ws ks) (t ∷ []) (f (at (store_of (lent_of h ws ks)).nodes t.idx)) ≡ done a (store_in h ws ks)
      node_told f w =
          let d = inside_tested q p in
          let m : at (decode ws ks x.nodes) t.idx ≡ node_means ks v = rw o at (read_is ws ks (children_made h) x.nodes (read_clean d g) i r) in
          read_nodes d g (λ (ns : List Node). f (at ns t.idx)) (sym (ap f m ∙ w))

      pub node_found : NodePromised (node_call e (lent_of h ws ks) t) (Ok v) h ws ks
      unfolding node_call
      node_found = record {
        fits = read_is_fit ws ks (children_made h) x.nodes (read_clean (inside_tested q p) g) i r;
        outcome = node_told (λ (y : Node). y) refl;
      }

-- `figures`: the store that the slices hold is its header and its nodes
pub figures_read : (h ws ks : List ℕ) {x : Header} → x ≡ header_in h
    → done (store_in h ws ks) (store_in h ws ks) ≡ done (store_means x (decode ws ks x.nodes)) (store_in h ws ks)
figures_read h ws ks g =
    ap (λ (s : Store). done s (store_in h ws ks)) (store_header h ws ks ∙ ap (λ (y : Header). store_means y (decode ws ks y.nodes)) (sym g))
