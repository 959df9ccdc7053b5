-- What each step of the copying spares: the blank, a child moved into a run that no node has, and the kind taken. Steps follow one another.
-- Assumes nothing.
use mathlib.Core.Path.{◌≡◌, refl, ap, sym, ◌∙◌}
use mathlib.Core.Bool.{true}
use mathlib.Core.Logic.{◌⊎◌, inl, inr}
use mathlib.Core.List.{List, [], ◌∷◌}
use Prim.Native.Nat.{ℕ, ◌+◌, ◌*◌, ◌≤◌, ◌<◌}
use native.Mathlib.Omega.{arith}
use lib.ListN.{length, set, length-append}
use Rattle.scope.specs.Nodes as nodes
use Rattle.types.specs.declared.«Type».{«Type»}
use Rattle.types.specs.declared.Inverted.{Inverted}
use Rattle.layout.specs.Words.{nodes_made, children_made, child_room, slot_at, store_in, clean}
use Rattle.layout.specs.Meaning.{put_at, put_slot, kind_means, kind_fits, Lies}
use Rattle.layout.specs.declared.Kind.{Kind}
use Rattle.layout.specs.declared.Slot.{Slot}
use Rattle.layout.specs.declared.TypeState.TheVariants.{Known, Unknown}
use Rattle.layout.specs.declared.TypeNode.TheVariants.{Root}
use Rattle.layout.proofs.ChildLaws.{slot_there, length_put_child, tail_put_child, kept_put, kept_refl, kept_trans, kept_less}
use Rattle.layout.proofs.StoreLaws.{clean_lies, clean_nodes}
use Rattle.store.specs.Holds.{Holds, Ready}
use Rattle.store.proofs.Laws.{store_count, beyond_refl, beyond_trans, holds_put, beyond_put}
use Rattle.make.specs.Made.{BlankMade}
use Rattle.make.proofs.MakeLaws.{RoomIn, ready_room}
use Rattle.copy_type.specs.Words.{Apart, Spared}
use Rattle.copy_type.proofs.ApartLaws.{apart_put, apart_made, store_apart, words_apart}

pub spared_refl : {b : ℕ} (h ws ks : List ℕ) → clean h ws ks ≡ true → Spared b h ws ks h ws ks
spared_refl {b} h ws ks ok = record {
  clean = ok;
  node_rooms = refl;
  child_rooms = refl;
  children = omega arith;
  beyond = beyond_refl;
  kept = kept_refl b ks;
  apart = λ a e l p. p;
}

pub spared_trans : {b : ℕ} {h ws ks h' ws' ks' h'' ws'' ks'' : List ℕ} → Spared b h ws ks h' ws' ks' → Spared b h' ws' ks' h'' ws'' ks''
    → Spared b h ws ks h'' ws'' ks''
spared_trans p q = record {
  clean = q.clean;
  node_rooms = q.node_rooms ∙ p.node_rooms;
  child_rooms = q.child_rooms ∙ p.child_rooms;
  children = omega (arith, p.children, q.children);
  beyond = beyond_trans p.beyond (rw (p.node_rooms, p.child_rooms) at q.beyond);
  kept = kept_trans p.kept q.kept;
  apart = λ a e l z. q.apart a e l (p.apart a e l z);
}

pub spared_less : {b c : ℕ} {h ws ks h' ws' ks' : List ℕ} → b ≤ c → Spared c h ws ks h' ws' ks' → Spared b h ws ks h' ws' ks'
spared_less l p = record {
  clean = p.clean;
  node_rooms = p.node_rooms;
  child_rooms = p.child_rooms;
  children = p.children;
  beyond = p.beyond;
  kept = kept_less l p.kept;
  apart = λ a e s z. p.apart a e (omega arith) z;
}

-- the blank

module _ {h ws ks h' ws' : List ℕ} {p c : ℕ} {t : «Type»} (r : Ready h ws ks 1 c) (o : BlankMade h ws ks h' ws' p c t) where
  pub blank_nodes : nodes_made h' ≡ nodes_made h + 1
  blank_nodes =
      sym (store_count h' ws' ks)
      ∙ (ap (λ (s : nodes.Store). length s.nodes) o.made.store.holds.is
      ∙ (length-append (store_in h ws ks).nodes (nodes.Root (nodes.Unknown p) 1 ∷ []) ∙ ap (λ (m : ℕ). m + 1) (store_count h ws ks)))

  pub blank_children : children_made h' ≡ children_made h + c
  unfolding store_in
  blank_children = ap (λ (s : nodes.Store). s.children) o.made.store.holds.is

  -- it has no children
  pub blank_apart : (a e : ℕ) → Apart a e ws (nodes_made h) → Apart a e ws' (nodes_made h')
  blank_apart a e z =
      let q : RoomIn h 1 c = ready_room r in
      let l : Lies h ws ks = clean_lies h ws ks r.clean in
      rw (blank_nodes, o.nodes)
      (apart_put a e ws (nodes_made h + 1) (omega (arith, q.nodes, l.node_slots)) (nodes_made h) (Root (Unknown p) 1) (inl (omega arith))
      (λ j m n. z.each j (omega arith)))

  pub blank_spared : (b : ℕ) → Spared b h ws ks h' ws' ks
  unfolding store_in
  blank_spared b = record {
    clean = o.made.store.holds.clean;
    node_rooms = ap (λ (s : nodes.Store). s.node_room) o.made.store.holds.is;
    child_rooms = ap (λ (s : nodes.Store). s.child_room) o.made.store.holds.is;
    children = omega (arith, blank_children);
    beyond = o.made.store.beyond;
    kept = kept_refl b ks;
    apart = λ a e l. blank_apart a e;
  }

  -- the children reserved are no node's
  pub blank_reserves : (e : ℕ) → Apart (children_made h) e ws' (nodes_made h')
  blank_reserves e = blank_apart (children_made h) e (apart_made e (clean_nodes h ws ks r.clean))

-- a child moved to i, in the run from a up to e

module _ {a e : ℕ} (h ws ks : List ℕ) (ok : clean h ws ks ≡ true) (z : Apart a e ws (nodes_made h)) (made : e ≤ children_made h) (i : ℕ) (low : a ≤ i) (high : i < e) where
  pub child_room_lem : i * 4 + 4 ≤ length ks
  child_room_lem = let l : Lies h ws ks = clean_lies h ws ks ok in omega (arith, l.children, l.child_slots)

  module _ (s : Slot) where
    others : (j : ℕ) → (j < a) ⊎ (e ≤ j) → slot_at (put_slot ks i s) j ≡ slot_at ks j
    others j (inl q) = slot_there ks i s child_room_lem j (λ p. omega arith)
    others j (inr q) = slot_there ks i s child_room_lem j (λ p. omega arith)

    pub child_store : store_in h ws (put_slot ks i s) ≡ store_in h ws ks
    child_store =
        store_apart h ws ks ok z (put_slot ks i s) others (length_put_child ks i s child_room_lem) (tail_put_child ks i s child_room_lem (children_made h) (omega arith))

    pub child_spared : (b : ℕ) → b ≤ a → Spared b h ws ks h ws (put_slot ks i s)
    child_spared b l =
        let lies : Lies h ws ks = clean_lies h ws ks ok in
        record {
          clean = words_apart h ws ks ok z (put_slot ks i s) others (length_put_child ks i s child_room_lem)
              (tail_put_child ks i s child_room_lem (children_made h) (omega arith));
          node_rooms = refl;
          child_rooms = refl;
          children = omega arith;
          beyond = record { head = refl; nodes = refl; kids = tail_put_child ks i s child_room_lem (child_room h) (omega (arith, lies.children)) };
          kept = kept_put ks i s child_room_lem b (omega arith);
          apart = λ x y w v. v;
        }

-- node i takes a kind whose children lie from b on

module _ (h ws ks : List ℕ) (ok : clean h ws ks ≡ true) (i : ℕ) (inv : Inverted) (k : Kind) (fits : kind_fits ks (children_made h) k ≡ true) where
  abbrev taken : List ℕ
  taken = put_at ws (nodes_made h) i (Root (Known inv k) 1)

  held : Holds h ws ks (store_in h ws ks)
  held = record { clean = ok; is = refl }

  kind_holds : Holds h taken ks (nodes.with_nodes (store_in h ws ks) (set (store_in h ws ks).nodes i (nodes.Root (nodes.Known inv.0 (kind_means ks k)) 1)))
  kind_holds = holds_put held i (Root (Known inv k) 1) fits

  pub kind_store : store_in h taken ks ≡ nodes.with_nodes (store_in h ws ks) (set (store_in h ws ks).nodes i (nodes.Root (nodes.Known inv.0 (kind_means ks k)) 1))
  kind_store = kind_holds.is

  pub kind_spared : (b : ℕ) → b ≤ k.first → Spared b h ws ks h taken ks
  kind_spared b l = record {
    clean = kind_holds.clean;
    node_rooms = refl;
    child_rooms = refl;
    children = omega arith;
    beyond = beyond_put held i (Root (Known inv k) 1) fits;
    kept = kept_refl b ks;
    apart = λ a e q z.
        apart_put a e ws (nodes_made h) (clean_nodes h ws ks ok).room i (Root (Known inv k) 1) (inr (omega arith)) (λ j m n. z.each j m);
  }
