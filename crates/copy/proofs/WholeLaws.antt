-- From the table's run to scope's: an import is one list from an empty table on, an export three, one after another, into a store just opened. What is
-- needed, and no more, is what the copies make. Assumes nothing.
use mathlib.Core.Path.{◌≡◌, ap, sym, ◌∙◌, subst}
use mathlib.Core.Bool.{true}
use mathlib.Core.Option.{Option, none}
use mathlib.Core.List.Memᴰ
use mathlib.Core.List.{List, Memᴰ}
use Prim.Native.Nat.{ℕ, ◌≤◌, ◌<◌}
use native.Mathlib.Omega.{arith}
use lib.ListN.{length, replicate}
use Rattle.scope.specs.Types.{Ty}
use Rattle.scope.specs.Nodes.{Node, Store, opened, remembering}
use Rattle.scope.specs.Import.{import, export, first_of}
use Rattle.scope.specs.Needs.{listed, exported}
use Rattle.scope.proofs.Mapping.{Source}
use Rattle.scope.proofs.CopyTable.{Copying, Copied, CopiedAll, copy_all, copy_f, uncopied, copy_types, copy_dest, copy_nodes, copy_children}
use Rattle.scope.proofs.CopyTable.{copy_export, copy_export_types, copy_export_dest, copy_export_nodes, copy_export_children}
use Rattle.scope.proofs.CopyTableLaws.{Grows, grows_all, grows_trans, copy_grows, Placed, placed_start, placed_all, copy_placed}
use Rattle.layout.specs.Words.{HEAD_WORDS, nodes_made, node_room, child_room, decode, store_in}
use Rattle.layout.specs.Words as words
use Rattle.layout.specs.Meaning.{header_in, put_header, remembered_means}
use Rattle.layout.specs.declared.Header.{Header}
use Rattle.layout.specs.Meaning.{Remembered}
use Rattle.layout.proofs.Laws.{length_decode}
use Rattle.store.specs.Holds.{Became, Beyond, Room}
use Rattle.store.specs.Entries.{types_in}
use Rattle.store.proofs.Laws.{store_nodes, store_count, beyond_trans}
use Rattle.make.specs.Made.{Rememberable}
use Rattle.make.specs.Header.{with_remembered}
use Rattle.make.proofs.MakeLaws.{head_error, head_nil, header_long, remembered_became}
use Rattle.copy_type.specs.Words.{copying_at, Spared}
use Rattle.copy_type.proofs.SparedLaws.{spared_trans}
use Rattle.copy_type.proofs.FillLaws.{room_less}
use Rattle.copy_lists.specs.Lists.{AllCopyable, AllCopied, RememberedCopied}
use Rattle.copy.specs.Whole.{ImportReady, ExportReady, ImportedIs}

-- slices that were spared hold the store
became_spared : {h ws ks h' ws' ks' : List ℕ} {s : Store} → store_in h' ws' ks' ≡ s → Spared 0 h ws ks h' ws' ks' → Became h ws ks h' ws' ks' s
unfolding store_in
became_spared {h} {ws} {ks} {h'} {ws'} {ks'} e p = record {
  holds = record { clean = p.clean; is = e };
  beyond = subst (λ (s : Store). Beyond s.node_room s.child_room h ws ks h' ws' ks') e (rw (p.node_rooms, p.child_rooms) p.beyond);
}

-- an import, by a table of m numbers

module _ {sw sk ts h ws ks out : List ℕ} {n : ℕ} {ps : Option (List Ty)} (m : ℕ) (p : ImportReady sw sk n ps ts h ws ks out) (long : n ≤ m) where
  abbrev all : CopiedAll
  all = copy_all (copy_f n (decode sw sk n) ps) (copying_at h ws ks (replicate m 0)) (types_in ts)

  enough : length (decode sw sk n) ≤ m
  enough = omega (arith, length_decode sw sk n)

  pub import_copyable : AllCopyable sw sk n ps h ws ks (replicate m 0) (types_in ts)
  import_copyable =
      let s : Store = store_in h ws ks in
      let a = rw (length_decode sw sk n) at (copy_nodes (decode sw sk n) ps s (types_in ts) p.source.source p.source.given m enough) in
      let b = rw (length_decode sw sk n) at (copy_children (decode sw sk n) ps s (types_in ts) p.source.source p.source.given m enough) in
      let g = grows_all (copy_f n (decode sw sk n) ps) (copy_grows (decode sw sk n) ps n) (uncopied s m) (types_in ts) in
      record {
        made = p.source.readable.made;
        source = p.source.readable.clean;
        given = λ t w. rw (length_decode sw sk n) at (p.source.given t w);
        clean = p.clean;
        placed = placed_start s m;
        room = record {
          node_limit = omega (arith, g.rest.node_room, p.room.node_limit);
          child_limit = omega (arith, g.rest.child_room, p.room.child_limit);
          nodes = omega (arith, a, g.rest.node_room, p.room.nodes);
          children = omega (arith, b, g.rest.child_room, p.room.children);
        };
      }

  pub import_is : {h' ws' ks' table' out' : List ℕ} → AllCopied all (length ts) h ws ks h' ws' ks' table' out out'
      → ImportedIs (import (decode sw sk n) ps (store_in h ws ks) (types_in ts)) (length ts) h ws ks h' ws' ks' out out'
  import_is o = record {
    types = o.types ∙ (rw (length_decode sw sk n) at (copy_types (decode sw sk n) ps (store_in h ws ks) (types_in ts) p.source.source p.source.given m enough));
    rest = o.rest;
    store =
        became_spared
        (ap (λ (c : Copying). c.dest) o.to
        ∙ (rw (length_decode sw sk n) at (copy_dest (decode sw sk n) ps (store_in h ws ks) (types_in ts) p.source.source p.source.given m enough)))
        o.spared;
  }

-- an export, by a table of m numbers: out of the store in sh sw sk, whose header x was read

module _ (sh sw sk ts : List ℕ) {nodes children : ℕ} {h ws ks out : List ℕ} (m : ℕ) (p : ExportReady sh sw sk ts nodes children h ws ks out) {x : Header}
    (q : x ≡ header_in sh) (long : nodes_made sh ≤ m) where
  abbrev source : Store
  source = store_in sh sw sk

  abbrev ns : List Node
  ns = decode sw sk x.nodes

  abbrev g : Copying → Ty → Copied
  g = copy_f x.nodes ns none

  abbrev error : Option Ty
  error = remembered_means x.error

  abbrev nil : Option Ty
  nil = remembered_means x.nil

  abbrev start : Copying
  start = uncopied (opened nodes children) m

  abbrev first : CopiedAll
  first = copy_all g start (listed error)

  abbrev second : CopiedAll
  second = copy_all g first.to (listed nil)

  abbrev third : CopiedAll
  third = copy_all g second.to (types_in ts)

  -- what was read is the store's

  counted : x.nodes ≡ nodes_made sh
  counted = ap (λ (y : Header). y.nodes) q

  number : length source.nodes ≡ x.nodes
  number = store_count sh sw sk ∙ sym counted

  nodes_are : source.nodes ≡ ns
  nodes_are = store_nodes sh sw sk ∙ ap (decode sw sk) (sym counted)

  by : copy_f (length source.nodes) source.nodes none ≡ g
  by = λ i. copy_f (number i) (nodes_are i) none

  error_is : source.error ≡ error
  error_is = sym (head_error sh sw sk q)

  nil_is : source.nil ≡ nil
  nil_is = sym (head_nil sh sw sk q)

  src : Source source.nodes
  src = rw (store_nodes sh sw sk) p.source.source

  given : (t : Ty) → Memᴰ t (exported source (types_in ts)) → t.idx < length source.nodes
  given t w = rw (store_nodes sh sw sk) (p.source.given t w)

  wide : length source.nodes ≤ m
  wide = omega (arith, store_count sh sw sk)

  abbrev whole : CopiedAll
  whole = copy_export source (opened nodes children) m (types_in ts)

  whole_types : third.types ≡ whole.types
  unfolding copy_export
  whole_types = sym (λ i. (copy_all (by i) (copy_all (by i) (copy_all (by i) start (listed (error_is i))).to (listed (nil_is i))).to (types_in ts)).types)

  whole_dest : remembering third.to.dest (first_of first.types) (first_of second.types) ≡ whole.to.dest
  unfolding copy_export
  whole_dest =
      sym (λ i.
      let a : CopiedAll = copy_all (by i) start (listed (error_is i)) in
      let b : CopiedAll = copy_all (by i) a.to (listed (nil_is i)) in
      let c : CopiedAll = copy_all (by i) b.to (types_in ts) in
      remembering c.to.dest (first_of a.types) (first_of b.types))

  -- room

  grows : (c : Copying) (us : List Ty) → Grows c (copy_all g c us).to
  grows c us = grows_all g (copy_grows ns none x.nodes) c us

  third_room : Room third.to.dest 0 0
  third_room =
      let a = ap (λ (s : Store). length s.nodes) whole_dest ∙ copy_export_nodes source (opened nodes children) (types_in ts) src given m wide in
      let b = ap (λ (s : Store). s.children) whole_dest ∙ copy_export_children source (opened nodes children) (types_in ts) src given m wide in
      let z = grows_trans (grows start (listed error)) (grows_trans (grows first.to (listed nil)) (grows second.to (types_in ts))) in
      record {
        node_limit = omega (arith, z.rest.node_room, p.room.node_limit);
        child_limit = omega (arith, z.rest.child_room, p.room.child_limit);
        nodes = omega (arith, a, z.rest.node_room, p.room.nodes);
        children = omega (arith, b, z.rest.child_room, p.room.children);
      }

  second_room : Room second.to.dest 0 0
  second_room = room_less (grows second.to (types_in ts)) third_room

  first_room : Room first.to.dest 0 0
  first_room = room_less (grows first.to (listed nil)) second_room

  kept : (c : Copying) (us : List Ty) → Placed c → Placed (copy_all g c us).to
  kept c us z = placed_all g (copy_placed ns none x.nodes) c us z

  -- slices at which the copying stands at c
  copyable_at : {h' ws' ks' table' : List ℕ} (c : Copying) (us : List Ty) → copying_at h' ws' ks' table' ≡ c → words.clean h' ws' ks' ≡ true → Placed c
      → Room (copy_all g c us).to.dest 0 0 → ((t : Ty) → Memᴰ t us → Memᴰ t (exported source (types_in ts)))
      → AllCopyable sw sk x.nodes none h' ws' ks' table' us
  copyable_at c us e ok z r inside = record {
    made = p.source.readable.made;
    source = rw counted p.source.readable.clean;
    given = λ t w. rw number at (given t (inside t w));
    clean = ok;
    placed = subst Placed (sym e) z;
    room = subst (λ (d : Copying). Room (copy_all g d us).to.dest 0 0) (sym e) r;
  }

  error_inside : (t : Ty) → Memᴰ t (listed error) → Memᴰ t (exported source (types_in ts))
  error_inside t w = Memᴰ.append_left _ (rw (← error_is) at w)

  nil_inside : (t : Ty) → Memᴰ t (listed nil) → Memᴰ t (exported source (types_in ts))
  nil_inside t w = Memᴰ.append_right (listed source.error) (Memᴰ.append_left _ (rw (← nil_is) at w))

  list_inside : (t : Ty) → Memᴰ t (types_in ts) → Memᴰ t (exported source (types_in ts))
  list_inside t w = Memᴰ.append_right (listed source.error) (Memᴰ.append_right (listed source.nil) w)

  -- the destination is opened
  module _ {h₁ ws₁ ks₁ : List ℕ} (o : Became h ws ks h₁ ws₁ ks₁ (opened nodes children)) where
    at_start : copying_at h₁ ws₁ ks₁ (replicate m 0) ≡ start
    at_start = ap (λ (s : Store). record { dest = s; table = replicate m 0 }) o.holds.is

    pub error_copyable : AllCopyable sw sk x.nodes none h₁ ws₁ ks₁ (replicate m 0) (listed error)
    error_copyable = copyable_at start (listed error) at_start o.holds.clean (placed_start (opened nodes children) m) first_room error_inside

    -- the error type is copied
    module _ {h₂ ws₂ ks₂ table₂ : List ℕ} {r₁ : Remembered}
        (a : RememberedCopied (copy_all g (copying_at h₁ ws₁ ks₁ (replicate m 0)) (listed error)) h₁ ws₁ ks₁ h₂ ws₂ ks₂ table₂ r₁) where
      at_first : copying_at h₂ ws₂ ks₂ table₂ ≡ first.to
      at_first = a.to ∙ ap (λ (c : Copying). (copy_all g c (listed error)).to) at_start

      pub nil_copyable : AllCopyable sw sk x.nodes none h₂ ws₂ ks₂ table₂ (listed nil)
      nil_copyable =
          copyable_at first.to (listed nil) at_first a.spared.clean (kept start (listed error) (placed_start (opened nodes children) m)) second_room nil_inside

      -- so is nil
      module _ {h₃ ws₃ ks₃ table₃ : List ℕ} {r₂ : Remembered}
          (b : RememberedCopied (copy_all g (copying_at h₂ ws₂ ks₂ table₂) (listed nil)) h₂ ws₂ ks₂ h₃ ws₃ ks₃ table₃ r₂) where
        at_second : copying_at h₃ ws₃ ks₃ table₃ ≡ second.to
        at_second = b.to ∙ ap (λ (c : Copying). (copy_all g c (listed nil)).to) at_first

        pub list_copyable : AllCopyable sw sk x.nodes none h₃ ws₃ ks₃ table₃ (types_in ts)
        list_copyable =
            copyable_at second.to (types_in ts) at_second b.spared.clean
            (kept first.to (listed nil) (kept start (listed error) (placed_start (opened nodes children) m))) third_room list_inside

        -- and the list
        module _ {h₄ ws₄ ks₄ table₄ out' : List ℕ}
            (c : AllCopied (copy_all g (copying_at h₃ ws₃ ks₃ table₃) (types_in ts)) (length ts) h₃ ws₃ ks₃ h₄ ws₄ ks₄ table₄ out out') where
          at_third : copying_at h₄ ws₄ ks₄ table₄ ≡ third.to
          at_third = c.to ∙ ap (λ (d : Copying). (copy_all g d (types_in ts)).to) at_second

          spared : Spared 0 h₁ ws₁ ks₁ h₄ ws₄ ks₄
          spared = spared_trans a.spared (spared_trans b.spared c.spared)

          -- what is copied may be remembered
          rememberable : Rememberable h₄ ws₄ ks₄ r₁ r₂
          rememberable = record { clean = c.spared.clean; error = a.fits; nil = b.fits }

          pub remember_long : HEAD_WORDS ≤ length h₄
          remember_long = header_long rememberable

          module _ {h₅ : List ℕ} (head : h₅ ≡ put_header h₄ (with_remembered (header_in h₄) r₁ r₂)) where
            d : Became h₄ ws₄ ks₄ h₅ ws₄ ks₄ (remembering (store_in h₄ ws₄ ks₄) (remembered_means r₁) (remembered_means r₂))
            d = remembered_became rememberable head

            -- all that is remembered is what was copied
            dest_is : remembering (store_in h₄ ws₄ ks₄) (remembered_means r₁) (remembered_means r₂) ≡ (export source (opened nodes children) (types_in ts)).work.dest
            dest_is =
                (λ i. remembering (at_third i).dest ((a.type ∙ ap (λ (k : Copying). first_of (copy_all g k (listed error)).types) at_start) i)
                ((b.type ∙ ap (λ (k : Copying). first_of (copy_all g k (listed nil)).types) at_first) i))
                ∙ (whole_dest ∙ copy_export_dest source (opened nodes children) (types_in ts) src given m wide)

            beyond : Beyond nodes children h ws ks h₅ ws₄ ks₄
            unfolding store_in
            beyond =
                let n₁ : node_room h₁ ≡ nodes = ap (λ (s : Store). s.node_room) o.holds.is in
                let c₁ : child_room h₁ ≡ children = ap (λ (s : Store). s.child_room) o.holds.is in
                beyond_trans o.beyond
                (beyond_trans (rw (n₁, c₁) at spared.beyond) (rw (spared.node_rooms ∙ n₁, spared.child_rooms ∙ c₁) at d.beyond))

            rooms : ((export source (opened nodes children) (types_in ts)).work.dest.node_room ≡ nodes)
                × ((export source (opened nodes children) (types_in ts)).work.dest.child_room ≡ children)
            unfolding store_in
            rooms = (
              ap (λ (s : Store). s.node_room) (sym dest_is) ∙ (spared.node_rooms ∙ ap (λ (s : Store). s.node_room) o.holds.is),
              ap (λ (s : Store). s.child_room) (sym dest_is) ∙ (spared.child_rooms ∙ ap (λ (s : Store). s.child_room) o.holds.is),
            )

            pub export_is : ImportedIs (export source (opened nodes children) (types_in ts)) (length ts) h ws ks h₅ ws₄ ks₄ out out'
            export_is = record {
              types = c.types
                  ∙ (ap (λ (k : Copying). (copy_all g k (types_in ts)).types) at_second
                  ∙ (whole_types ∙ copy_export_types source (opened nodes children) (types_in ts) src given m wide));
              rest = c.rest;
              store = record { holds = record { clean = d.holds.clean; is = d.holds.is ∙ dest_is }; beyond = rw (rooms.0, rooms.1) beyond };
            }
