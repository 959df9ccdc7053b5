-- A root's children, copied one by one into the run that is reserved for them: what is left of them gives what all of them give, and those done stand in
-- the run with their names. Assumes nothing.
use mathlib.Core.Path.{◌≡◌, ap, sym, ◌∙◌, subst}
use mathlib.Core.Option.{Option}
use mathlib.Core.List.{List, [], ◌∷◌, ◌++◌, map, map-append}
use Prim.Native.Nat.{ℕ, ◌+◌, ◌*◌, ◌≤◌, ◌<◌}
use native.Mathlib.Omega.{arith}
use native.Mathlib.Decide.{ℕ_discrete}
use lib.ListN.{length, drop, drop_of_length-le}
use Rattle.scope.specs.Types.{Ty, ty_of}
use Rattle.scope.specs.Nodes.{Store}
use Rattle.scope.specs.Sound as sound
use Rattle.scope.proofs.CopyTable.{Copying, Copied, copy_all, copy_f}
use Rattle.scope.proofs.CopyTableLaws.{Left, left_next, left_end, left_grows, Grows, Placed, copy_placed}
use Rattle.types.specs.declared.«Type».{«Type»}
use Rattle.layout.specs.Words.{nodes_made, children_made, slot_at, slots, decode}
use Rattle.layout.specs.Meaning.{Clean}
use Rattle.layout.proofs.Lists.{same_from}
use Rattle.layout.proofs.ChildLaws.{slots_push, slot_here, slot_there}
use Rattle.store.specs.Holds.{Room}
use Rattle.needs.proofs.RootLaws.{kids_in, length_run}
use Rattle.copy_parts.specs.Steps.{retyped, ChildMoved}
use Rattle.copy_type.specs.Words.{copying_at, Apart, Spared, Copyable, CopiedIs}
use Rattle.copy_type.proofs.MovedLaws.{untyped}
use Rattle.copy_type.proofs.SparedLaws.{spared_trans, spared_less, child_room_lem, child_store, child_spared}

-- less than what has room has room
pub room_less : {c d : Copying} → Grows c d → Room d.dest 0 0 → Room c.dest 0 0
room_less g r = record {
  node_limit = omega (arith, r.node_limit, g.rest.node_room);
  child_limit = omega (arith, r.child_limit, g.rest.child_room);
  nodes = omega (arith, r.nodes, g.nodes, g.rest.node_room);
  children = omega (arith, r.children, g.children, g.rest.child_room);
}

-- slices as long as they were
pub record Long (table h ws ks table' h' ws' ks' : List ℕ) : Type 0 where
  pub tables : length table' ≡ length table
  pub heads : length h' ≡ length h
  pub nodes : length ws' ≡ length ws
  pub kids : length ks' ≡ length ks

-- of `count` children, which lie from `first` on in the source, j are copied into the run from `to` on
pub record Filling (sw sk : List ℕ) (n : ℕ) (ps : Option (List Ty)) (depth first count to : ℕ) (table₀ h₀ ws₀ ks₀ table h ws ks : List ℕ) (j : ℕ) : Type 0 where
  pub left : Left (copy_f depth (decode sw sk n) ps) (copying_at h₀ ws₀ ks₀ table₀) (kids_in sk first count) (copying_at h ws ks table) (kids_in ks to j)
      (drop j (kids_in sk first count))
  pub room : Room (copy_all (copy_f depth (decode sw sk n) ps) (copying_at h₀ ws₀ ks₀ table₀) (kids_in sk first count)).to.dest 0 0
  pub placed : Placed (copying_at h ws ks table)
  pub spared : Spared to h₀ ws₀ ks₀ h ws ks
  pub apart : Apart to (to + count) ws (nodes_made h)
  pub made : to + count ≤ children_made h
  pub named : (i : ℕ) → i < j → untyped (slot_at ks (to + i)) ≡ untyped (slot_at sk (first + i))
  pub few : j ≤ count
  pub long : Long table₀ h₀ ws₀ ks₀ table h ws ks

module _ {sw sk : List ℕ} {n : ℕ} {ps : Option (List Ty)} {depth first count to : ℕ} {table₀ h₀ ws₀ ks₀ table h ws ks : List ℕ} {j : ℕ}
    (o : Filling sw sk n ps depth first count to table₀ h₀ ws₀ ks₀ table h ws ks j) where
  abbrev g : Copying → Ty → Copied
  g = copy_f depth (decode sw sk n) ps

  abbrev c : Copying
  c = copying_at h ws ks table

  abbrev kids : List Ty
  kids = kids_in sk first count

  -- all are copied
  module _ (done : count ≤ j) where
    whole : j ≡ count
    whole = omega (arith, done, o.few)

    ended : Left g (copying_at h₀ ws₀ ks₀ table₀) kids c (kids_in ks to count) []
    ended =
        subst (λ (l : List Ty). Left g (copying_at h₀ ws₀ ks₀ table₀) kids c (kids_in ks to count) l)
        (drop_of_length-le kids {i = count} (omega (arith, length_run sk first count))) (rw whole at o.left)

    pub filled_to : c ≡ (copy_all g (copying_at h₀ ws₀ ks₀ table₀) kids).to
    filled_to = (left_end ended).0

    pub filled_types : kids_in ks to count ≡ (copy_all g (copying_at h₀ ws₀ ks₀ table₀) kids).types
    filled_types = (left_end ended).1

    pub filled_names : (i : ℕ) → i < count → untyped (slot_at ks (to + i)) ≡ untyped (slot_at sk (first + i))
    filled_names i l = o.named i (omega (arith, done))

  -- the next child
  module _ (more : j < count) (kid : «Type») (here : drop j kids ≡ ty_of kid.0 ∷ drop (j + 1) kids) where
    next : Left g (copying_at h₀ ws₀ ks₀ table₀) kids (g c (ty_of kid.0)).to (kids_in ks to j ++ ((g c (ty_of kid.0)).type ∷ [])) (drop (j + 1) kids)
    next = left_next (subst (λ (l : List Ty). Left g (copying_at h₀ ws₀ ks₀ table₀) kids c (kids_in ks to j) l) here o.left)

    pub kid_copyable : {m : ℕ} → Clean sw sk m n → Copyable sw sk n ps depth h ws ks table kid
    kid_copyable {m} cl = record {
      made = m;
      source = cl;
      clean = o.spared.clean;
      placed = o.placed;
      room = room_less (left_grows (decode sw sk n) ps depth next) o.room;
    }

    -- it is copied
    module _ {table' h' ws' ks' : List ℕ} {r : «Type»} (d : CopiedIs (g c (ty_of kid.0)) h ws ks h' ws' ks' table' r) where
      open_run : Apart to (to + count) ws' (nodes_made h')
      open_run = d.spared.apart to (to + count) o.made o.apart

      still_made : to + count ≤ children_made h'
      still_made = omega (arith, o.made, d.spared.children)

      pub kid_room : (to + j) * 4 + 4 ≤ length ks'
      kid_room = child_room_lem h' ws' ks' d.spared.clean open_run still_made (to + j) (omega arith) (omega (arith, more))

      -- it is moved into the run
      module _ {ks'' : List ℕ} (m : ChildMoved sk first ks' to j r.0 ks'') where
        old : (i : ℕ) → i < to + j → slot_at ks'' i ≡ slot_at ks i
        old i l =
            rw m.put (slot_there ks' (to + j) m.slot kid_room i (λ e. omega arith) ∙ d.spared.kept.same i (omega (arith, o.made, more)))

        new : slot_at ks'' (to + j) ≡ retyped (slot_at sk (first + j)) r.0
        new = rw m.put (slot_here ks' (to + j) m.slot kid_room) ∙ m.means

        now : copying_at h' ws' ks'' table' ≡ (g c (ty_of kid.0)).to
        now =
            ap (λ (s : Store). record { dest = s; table = table' })
            (rw m.put (child_store h' ws' ks' d.spared.clean open_run still_made (to + j) (omega arith) (omega (arith, more)) m.slot))
            ∙ d.to

        types : kids_in ks'' to (j + 1) ≡ kids_in ks to j ++ ((g c (ty_of kid.0)).type ∷ [])
        types =
            let f : sound.Slot → Ty = λ s. ty_of s.type in
            ap (map f) (slots_push ks'' to j)
            ∙ (map-append f (slots ks'' to j) (slot_at ks'' (to + j) ∷ [])
            ∙ (λ i. map f (same_from (slot_at ks'') (slot_at ks) to j (λ x a b. old x b) i) ++ ((ap f new ∙ d.type) i ∷ [])))

        named_next : (i : ℕ) → i < j + 1 → Dec (i ≡ j) → untyped (slot_at ks'' (to + i)) ≡ untyped (slot_at sk (first + i))
        named_next i l (yes e) = rw e (ap untyped new)
        named_next i l (no e) = ap untyped (old (to + i) (omega arith)) ∙ o.named i (omega arith)

        pub filling_next : Long table h ws ks table' h' ws' ks'' → Filling sw sk n ps depth first count to table₀ h₀ ws₀ ks₀ table' h' ws' ks'' (j + 1)
        filling_next len = record {
          left = rw (now, types) next;
          room = o.room;
          placed = subst Placed (sym now) (copy_placed (decode sw sk n) ps depth c (ty_of kid.0) o.placed);
          spared =
              spared_trans o.spared
              (spared_trans (spared_less (omega (arith, o.made)) d.spared)
              (rw m.put
              (child_spared h' ws' ks' d.spared.clean open_run still_made (to + j) (omega arith) (omega (arith, more)) m.slot to (omega arith))));
          apart = open_run;
          made = still_made;
          named = λ i l. named_next i l (ℕ_discrete i j);
          few = omega (arith, more);
          long = record {
            tables = len.tables ∙ o.long.tables;
            heads = len.heads ∙ o.long.heads;
            nodes = len.nodes ∙ o.long.nodes;
            kids = len.kids ∙ o.long.kids;
          };
        }
