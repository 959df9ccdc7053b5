-- One type copied: no depth is left, its root has a copy or is replaced, or it becomes a new node, which is begun, gets its children, and takes its kind.
-- Assumes nothing.
use mathlib.Core.Path.{◌≡◌, refl, ap, sym, ◌∙◌, subst}
use mathlib.Core.Bool.{Bool, true, false, true≢false}
use mathlib.Core.Option.{Option}
use mathlib.Core.List.{List, [], ◌∷◌}
use Prim.Native.Nat.{ℕ, suc, ◌+◌, ◌-◌, ◌≤◌, ◌<◌}
use native.Mathlib.Omega.{arith}
use lib.ListN.{length, get_or, set, length-append, length-set}
use Rattle.scope.specs.Limits.{MAX_NODES}
use Rattle.scope.specs.Types.{Ty, ty, flip, INV_BIT, ty_of}
use Rattle.scope.specs.Nodes as nodes
use Rattle.scope.specs.Nodes.{Node, Store, at, state_of, state_at, find, kids_of, is_known}
use Rattle.scope.specs.Make.{pushed}
use Rattle.scope.specs.Import.{keep, replaced, span_of}
use Rattle.scope.proofs.CopyTable.{Copying, Copied, CopiedAll, noted, filled, copy_all, copy_new, copy_at, copy_f}
use Rattle.scope.proofs.CopyTableLaws.{copy_end, left_start, grows_all, copy_grows, Placed, placed_noted}
use Rattle.types.specs.declared.«Type».{«Type»}
use Rattle.types.specs.declared.Inverted.{Inverted}
use Rattle.types.proofs.Laws.{ty_plain, ty_new}
use Rattle.layout.specs.Words as words
use Rattle.layout.specs.Words.{nodes_made, children_made, slot_at, decode, store_in}
use Rattle.layout.specs.Meaning.{read_at, held_in, held_kids, kind_means, kind_fits, put_at}
use Rattle.layout.specs.declared.Kind.{Kind}
use Rattle.layout.specs.Meaning.{Held}
use Rattle.std.specs.Prelude.{Some, None}
use Rattle.layout.specs.declared.TypeState.TheVariants.{Known}
use Rattle.layout.specs.declared.TypeNode.TheVariants.{Root}
use Rattle.layout.proofs.KindLaws.{kind_kids, moved_to}
use Rattle.layout.proofs.HeldLaws.{held_by_lem, held_kids_lem, held_known_lem, held_fits}
use Rattle.store.specs.Holds.{Room, Ready}
use Rattle.store.proofs.Laws.{store_count}
use Rattle.roots.specs.Found.{Found}
use Rattle.make.proofs.MakeLaws.{RoomIn, ready_room}
use Rattle.needs.proofs.RootLaws.{kids_in, length_run}
use Rattle.copy_parts.specs.declared.Place.{Place}
use Rattle.copy_parts.specs.declared.Place.TheVariants as place
use Rattle.copy_parts.specs.Places.{held_first, held_count, Runs, Goes, RootPlace}
use Rattle.copy_parts.specs.Steps.{Begun, ended}
use Rattle.copy_type.specs.Words.{copying_at, Spared, Copyable, CopiedIs}
use Rattle.copy_type.proofs.MovedLaws.{untyped, moved_kind, moved_fits}
use Rattle.copy_type.proofs.SparedLaws.{spared_refl, spared_trans, spared_less, blank_children, blank_spared, blank_reserves, kind_store, kind_spared}
use Rattle.copy_type.proofs.FillLaws.{room_less, Filling, filled_to, filled_types, filled_names}

-- the store as it was
pub copied_same : {m : Copied} {h ws ks table : List ℕ} {r : «Type»} → words.clean h ws ks ≡ true → m ≡ record { to = copying_at h ws ks table; type = ty_of r.0 }
    → CopiedIs m h ws ks h ws ks table r
copied_same {m} {h} {ws} {ks} ok e = record { type = ap (λ (d : Copied). d.type) (sym e); to = ap (λ (d : Copied). d.to) (sym e); spared = spared_refl h ws ks ok }

-- the same depth, one more than the next
deeper : {depth : ℕ} → (depth ≡ 0 → ⊥) → depth ≡ suc (depth - 1)
deeper h = omega arith

-- no depth is left
pub copied_shallow : {sw sk h ws ks table : List ℕ} {n depth : ℕ} {ps : Option (List Ty)} {t : «Type»} → Copyable sw sk n ps depth h ws ks table t → depth ≡ 0
    → CopiedIs (copy_f depth (decode sw sk n) ps (copying_at h ws ks table) (ty_of t.0)) h ws ks h ws ks table t
copied_shallow p e = copied_same p.clean (rw e (copy_end _ _ _ _))

-- a run of children, by what is held
held_run : (sk : List ℕ) (first count : ℕ) (v : Held) → held_first v ≡ first → held_count v ≡ count → held_kids sk v ≡ kids_in sk first count
held_run sk first count (Some (i, k)) p q = kind_kids sk k ∙ (λ j. kids_in sk (p j) (q j))
held_run sk first count None p q = λ j. kids_in sk (p j) (q j)

abbrev held_known : Held → Bool
held_known (Some (i, k)) = true
held_known None = false

module _ (g : Copying → Ty → Copied) (c : Copying) (r : Ty) where
  -- one with no kind has no children
  new_plain : (st : nodes.State) → is_known st ≡ false → (copy_new g c r st).to ≡ (copy_all g (noted c r.idx st) (kids_of st)).to
  unfolding copy_all
  new_plain (nodes.Known i k) e = let z : ◌≡◌ {A = Bool} true false = e in absurd (true≢false z)
  new_plain (nodes.Unknown p) e = refl
  new_plain nodes.InferenceFailed e = refl

  new_type : (st : nodes.State) → (copy_new g c r st).type ≡ ty r.inv (length c.dest.nodes)
  new_type (nodes.Known i k) = refl
  new_type (nodes.Unknown p) = refl
  new_type nodes.InferenceFailed = refl

  new_room : (st : nodes.State) → Room (copy_new g c r st).to.dest 0 0 → Room (copy_all g (noted c r.idx st) (kids_of st)).to.dest 0 0
  unfolding copy_all
  new_room (nodes.Known i k) m =
      let b : CopiedAll = copy_all g (noted c r.idx (nodes.Known i k)) k.kids in
      let l = length-set b.to.dest.nodes (length c.dest.nodes) (nodes.Root (nodes.Known i (record { head = k.head; kids = b.types })) 1) in
      record { node_limit = m.node_limit; child_limit = m.child_limit; nodes = omega (arith, l, m.nodes); children = m.children }
  new_room (nodes.Unknown p) m = m
  new_room nodes.InferenceFailed m = m

-- the table's numbers are small
pub place_few : {sw sk h ws ks table : List ℕ} {n depth : ℕ} {ps : Option (List Ty)} {t : «Type»} → Copyable sw sk n ps depth h ws ks table t → (i : ℕ)
    → get_or table i 0 ≤ MAX_NODES
place_few {sw} {sk} {h} {ws} {ks} {table} {n} {depth} {ps} {t} p i =
    let m = room_less (copy_grows (decode sw sk n) ps depth (copying_at h ws ks table) (ty_of t.0)) p.room in
    omega (arith, p.placed i, m.nodes, m.node_limit)

module _ (sw sk : List ℕ) (n : ℕ) (ps : Option (List Ty)) (depth : ℕ) (table h ws ks : List ℕ) (t root : «Type») {v : Place}
    (pre : Copyable sw sk n ps depth h ws ks table t) (deep : depth ≡ 0 → ⊥) (found : Found sw n t.0 root.0)
    (placed : RootPlace sw n ps table root v) where
  abbrev ns : List Node
  ns = decode sw sk n

  abbrev g : Copying → Ty → Copied
  g = copy_f (depth - 1) ns ps

  abbrev c : Copying
  c = copying_at h ws ks table

  abbrev r : Ty
  r = find ns (ty_of t.0)

  abbrev st : nodes.State
  st = state_at ns (ty_of t.0)

  one_level : copy_f depth ns ps c (ty_of t.0) ≡ copy_at g c r st (replaced ps st) (get_or table r.idx 0)
  unfolding copy_f
  one_level = ap (λ (f : ℕ). copy_f f ns ps c (ty_of t.0)) (deeper deep)

  goes : {w : Place} → v ≡ w → Goes ps st r (get_or table r.idx 0) w
  goes {w} e =
      subst (λ (u : Ty). Goes ps (state_of (at ns u.idx)) u (get_or table u.idx 0) w) (found.root sk)
      (subst (Goes ps (state_of (at ns (ty_of root.0).idx)) (ty_of root.0) (get_or table (ty_of root.0).idx 0)) e
      (placed.goes sk pre.made pre.source))

  -- a type stands for the root
  pub copied_is : {u : «Type»} → v ≡ place.Is u → CopiedIs (copy_f depth ns ps c (ty_of t.0)) h ws ks h ws ks table u
  copied_is e = copied_same pre.clean (one_level ∙ goes e g c)

  -- a new node
  module _ {span first count : ℕ} (node : v ≡ place.Node span first count) where
    told : (get_or table r.idx 0 ≡ 0) × ((replaced ps st ≡ keep) × (span_of st ≡ span))
    told = goes node

    run : (held_first (held_in (read_at sw n r.idx)) ≡ first) × (held_count (held_in (read_at sw n r.idx)) ≡ count)
    run =
        subst (λ (u : Ty). Runs (held_in (read_at sw n u.idx)) (place.Node span first count)) (found.root sk)
        (subst (Runs (held_in (read_at sw n (ty_of root.0).idx))) node placed.run)

    kids_are : kids_of st ≡ kids_in sk first count
    kids_are =
        held_kids_lem sw sk pre.made n pre.source r.idx refl refl ∙ held_run sk first count (held_in (read_at sw n r.idx)) run.0 run.1

    kids_count : length (kids_of st) ≡ count
    kids_count = ap length kids_are ∙ length_run sk first count

    whole : copy_f depth ns ps c (ty_of t.0) ≡ copy_new g c r st
    whole = one_level ∙ (λ i. copy_at g c r st (told.1.0 i) (told.0 i))

    abbrev all : CopiedAll
    all = copy_all g (noted c r.idx st) (kids_of st)

    all_room : Room all.to.dest 0 0
    all_room = new_room g c r st (subst (λ (d : Copied). Room d.to.dest 0 0) whole pre.room)

    pub node_ready : Ready h ws ks 1 count
    node_ready =
        let m = room_less (grows_all g (copy_grows ns ps (depth - 1)) (noted c r.idx st) (kids_of st)) all_room in
        let l = length-append (store_in h ws ks).nodes (nodes.Root (nodes.Unknown (span_of st)) 1 ∷ []) in
        record {
          clean = pre.clean;
          room = record {
            node_limit = m.node_limit;
            child_limit = m.child_limit;
            nodes = omega (arith, m.nodes, l);
            children = omega (arith, m.children, kids_count);
          };
        }

    -- it is begun
    module _ {i to : ℕ} {table₀ h₀ ws₀ : List ℕ} {new : «Type»} (here : i ≡ (ty_of root.0).idx) (counted : to ≡ children_made h)
        (b : Begun table h ws ks i span count table₀ h₀ ws₀ new) where
      root_here : i ≡ r.idx
      root_here = here ∙ ap (λ (u : Ty). u.idx) (found.root sk)

      noted_is : copying_at h₀ ws₀ ks table₀ ≡ noted c r.idx st
      noted_is =
          let p = b.blank.made.store.holds.is ∙ (λ k. pushed (store_in h ws ks) (nodes.Unknown (sym told.1.1 k)) (sym kids_count k)) in
          let q = b.noted ∙ (λ k. set table (root_here k) (sym (store_count h ws ks) k + 1)) in
          λ k. record { dest = p k; table = q k }

      pub filling_start : Filling sw sk n ps (depth - 1) first count to table₀ h₀ ws₀ ks table₀ h₀ ws₀ ks 0
      filling_start = record {
        left = left_start g (copying_at h₀ ws₀ ks table₀) (kids_in sk first count);
        room = subst (λ (a : CopiedAll). Room a.to.dest 0 0) (λ k. copy_all g (sym noted_is k) (kids_are k)) all_room;
        placed = subst Placed (sym noted_is) (placed_noted c r.idx st pre.placed);
        spared = spared_refl h₀ ws₀ ks b.blank.made.store.holds.clean;
        apart = rw counted (blank_reserves node_ready b.blank (children_made h + count));
        made = omega (arith, counted, blank_children node_ready b.blank);
        named = λ x l. absurd (omega arith);
        few = omega arith;
        long = record { tables = refl; heads = refl; nodes = refl; kids = refl };
      }

      -- all its children are copied
      module _ {table' h' ws' ks' : List ℕ} {j : ℕ} (o : Filling sw sk n ps (depth - 1) first count to table₀ h₀ ws₀ ks table' h' ws' ks' j)
          (done : count ≤ j) where
        all_to : copying_at h' ws' ks' table' ≡ all.to
        all_to = filled_to o done ∙ (λ k. (copy_all g (noted_is k) (sym kids_are k)).to)

        all_types : kids_in ks' to count ≡ all.types
        all_types = filled_types o done ∙ (λ k. (copy_all g (noted_is k) (sym kids_are k)).types)

        -- it takes its kind
        module _ (inv : Inverted) (k : Kind) (is : held_in (read_at sw n r.idx) ≡ Some (inv, k)) where
          first_is : k.first ≡ first
          first_is = ap held_first (sym is) ∙ run.0

          count_is : k.count ≡ count
          count_is = ap held_count (sym is) ∙ run.1

          known : st ≡ nodes.Known inv.0 (kind_means sk k)
          known = held_known_lem sw sk pre.made n pre.source r.idx refl is

          names : (x : ℕ) → x < k.count → untyped (slot_at ks' (to + x)) ≡ untyped (slot_at sk (k.first + x))
          names x l = rw first_is (filled_names o done x (omega (arith, count_is)))

          fits : kind_fits ks' (children_made h') (moved_to k to) ≡ true
          fits =
              moved_fits sk ks' k to names pre.made (children_made h') (omega (arith, o.made, count_is))
              (held_fits sw sk pre.made n pre.source r.idx refl is)

          abbrev kind_all : nodes.State → CopiedAll
          kind_all z = copy_all g (noted c r.idx z) (kids_of z)

          -- the same of that kind
          kind_to : copying_at h' ws' ks' table' ≡ (kind_all (nodes.Known inv.0 (kind_means sk k))).to
          kind_to = all_to ∙ (λ z. (kind_all (known z)).to)

          kind_means_lem : kind_means ks' (moved_to k to) ≡ record { head = (kind_means sk k).head; kids = (kind_all (nodes.Known inv.0 (kind_means sk k))).types }
          kind_means_lem =
              moved_kind sk ks' k to names
              ∙ ap (λ (l : List Ty). record { head = (kind_means sk k).head; kids = l })
              (ap (kids_in ks' to) count_is ∙ (all_types ∙ (λ z. (kind_all (known z)).types)))

          kind_new : (x : ℕ) → x ≡ length c.dest.nodes
              → filled (copying_at h' ws' ks' table') x (nodes.Known inv.0 (kind_means ks' (moved_to k to))) ≡ (copy_new g c r (nodes.Known inv.0 (kind_means sk k))).to
          kind_new x e = λ z. filled (kind_to z) (e z) (nodes.Known inv.0 (kind_means_lem z))

          taken_is : (x : ℕ) → x ≡ length c.dest.nodes
              → copying_at h' (put_at ws' (nodes_made h') x (Root (Known inv (moved_to k to)) 1)) ks' table' ≡ (copy_new g c r st).to
          taken_is x e =
              ap (λ (s : Store). record { dest = s; table = table' }) (kind_store h' ws' ks' o.spared.clean x inv (moved_to k to) fits)
              ∙ (kind_new x e ∙ ap (λ (z : nodes.State). (copy_new g c r z).to) (sym known))

        taken : (w : Held) → held_in (read_at sw n r.idx) ≡ w → (x : ℕ) → x ≡ length c.dest.nodes
            → (copying_at h' (ended ws' (nodes_made h') x to w) ks' table' ≡ (copy_new g c r st).to) × Spared to h' ws' ks' h' (ended ws' (nodes_made h') x to w) ks'
        taken (Some (inv, k)) q x e = (
          taken_is inv k q x e,
          kind_spared h' ws' ks' o.spared.clean x inv (moved_to k to) (fits inv k q) to (omega arith),
        )
        taken None q x e = (
          all_to ∙ sym (new_plain g c r st (held_by_lem sw sk pre.made n pre.source r.idx refl q is_known held_known (λ j k. refl) (λ p. refl) refl)),
          spared_refl h' ws' ks' o.spared.clean,
        )

        -- the node's number
        small : nodes_made h < INV_BIT
        small = let q : RoomIn h 1 count = ready_room node_ready in omega (arith, q.nodes, q.node_limit)

        pub copied_node : {ws'' : List ℕ} {x : ℕ} {u : «Type»} (turn : Inverted) → x ≡ (ty_of new.0).idx
            → ws'' ≡ ended ws' (nodes_made h') x to (held_in (read_at sw n i)) → turn.0 ≡ (ty_of root.0).inv → ty_of u.0 ≡ flip turn.0 (ty_of new.0)
            → CopiedIs (copy_f depth ns ps c (ty_of t.0)) h ws ks h' ws'' ks' table' u
        copied_node {x = x} {u = u} turn number w side type =
            let y : x ≡ length c.dest.nodes =
            number
            ∙ (ap (λ (m : ℕ). (ty_of m).idx) b.blank.node ∙ (ap (λ (z : Ty). z.idx) (ty_plain (nodes_made h) small) ∙ sym (store_count h ws ks))) in
            let z = taken (held_in (read_at sw n r.idx)) refl x y in
            rw (w, root_here) (record {
              type = type
                  ∙ (ap (λ (m : ℕ). flip turn.0 (ty_of m)) b.blank.node
                  ∙ (ty_new turn.0 (nodes_made h) small
                  ∙ ((λ k. ty ((side ∙ ap (λ (q : Ty). q.inv) (found.root sk)) k) (sym (store_count h ws ks) k))
                  ∙ (sym (new_type g c r st) ∙ ap (λ (d : Copied). d.type) (sym whole)))));
              to = z.0 ∙ ap (λ (d : Copied). d.to) (sym whole);
              spared = spared_less (omega (arith, counted)) (spared_trans (blank_spared node_ready b.blank to) (spared_trans o.spared z.1));
            })
