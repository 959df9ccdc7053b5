-- `transfer` over a table with a number for each node of the source, in place of the mapping: what copying code follows. Number by number the table says
-- what the mapping says, so both make the same nodes and types in the same order. Assumes nothing.
use mathlib.Core.Path.{◌≡◌, refl, sym, ap, ◌∙◌}
use mathlib.Core.List.Memᴰ
use mathlib.Core.List.{List, [], ◌∷◌, Memᴰ}
use mathlib.Core.Option.{Option, none, some}
use Prim.Native.Nat.{ℕ, zero, suc, ◌+◌, ◌≤◌, ◌<◌}
use native.Mathlib.Omega.{arith}
use native.Mathlib.Decide.{ℕ_discrete}
use native.Mathlib.Numerals.{add-one}
use lib.Dec.{eqb}
use lib.ListN.{length, get_or, set, replicate, length-set, length-replicate, get_or-replicate}
use lib.Seq.{get_or-set_same, get_or-set_other}
use borrow.Author.Tests.{eq-eqb, ne_eqb}
use Rattle.scope.specs.Base.{pick}
use Rattle.scope.specs.Types.{Ty, ty, flip}
use Rattle.scope.specs.Nodes.{State, Known, Unknown, InferenceFailed, Node, Root, Store, with_nodes, remembering, state_at, find, kids_of}
use Rattle.scope.specs.Make.{pushed}
use Rattle.scope.specs.Import.{Work, Moved, MovedAll, copy_of, Replaced, keep, missing_entry, entry, replaced, span_of, begun, ended, many, copied, place, transfer}
use Rattle.scope.specs.Import.{start, import, carried, first_of, export}
use Rattle.scope.specs.Needs.{needs, listed, exported}
use Rattle.scope.proofs.Mapping.{Source}
use Rattle.scope.proofs.NeedsLaws.{needs_nodes, needs_children, needs_export_nodes, needs_export_children}

-- the copying so far: the destination, and the table: 0 where a root has no copy, else its copy's number and 1
pub record Copying : Type 0 where
  pub dest : Store
  pub table : List ℕ

pub record Copied : Type 0 where
  pub to : Copying
  pub type : Ty

pub record CopiedAll : Type 0 where
  pub to : Copying
  pub types : List Ty

-- a new Unknown for the root r, and the table says so
abbrev pub noted : Copying → ℕ → State → Copying
noted c r st = record {
  dest = pushed c.dest (Unknown (span_of st)) (length (kids_of st));
  table = set c.table r (length c.dest.nodes + 1);
}

-- the node n takes its kind
abbrev pub filled : Copying → ℕ → State → Copying
filled c n st = record { dest = with_nodes c.dest (set c.dest.nodes n (Root st 1)); table = c.table }

-- types in order, each by g
unfoldable pub copy_all : (Copying → Ty → Copied) → Copying → List Ty → CopiedAll
copy_all g c [] = record { to = c; types = [] }
copy_all g c (t ∷ ts) =
    let a : Copied = g c t in
    let b : CopiedAll = copy_all g a.to ts in
    record { to = b.to; types = a.type ∷ b.types }

-- a root seen for the first time
abbrev pub copy_new : (Copying → Ty → Copied) → Copying → Ty → State → Copied
copy_new g c r (Known i k) =
    let n : ℕ = length c.dest.nodes in
    let b : CopiedAll = copy_all g (noted c r.idx (Known i k)) k.kids in
    record { to = filled b.to n (Known i (record { head = k.head; kids = b.types })); type = ty r.inv n }
copy_new g c r (Unknown p) = record { to = noted c r.idx (Unknown p); type = ty r.inv (length c.dest.nodes) }
copy_new g c r InferenceFailed = record { to = noted c r.idx InferenceFailed; type = ty r.inv (length c.dest.nodes) }

abbrev pub copy_root : (Copying → Ty → Copied) → Copying → Ty → State → Replaced → Copied
copy_root g c r st keep = copy_new g c r st
copy_root g c r st missing_entry = record { to = c; type = r }
copy_root g c r st (entry t) = record { to = c; type = flip r.inv t }

-- by the table's number
abbrev pub copy_at : (Copying → Ty → Copied) → Copying → Ty → State → Replaced → ℕ → Copied
copy_at g c r st u zero = copy_root g c r st u
copy_at g c r st u (suc n) = record { to = c; type = ty r.inv n }

-- at most f deep
unfoldable pub copy_f : ℕ → List Node → Option (List Ty) → Copying → Ty → Copied
copy_f zero ns ps c t = record { to = c; type = t }
copy_f (suc f) ns ps c t =
    let r : Ty = find ns t in
    copy_at (copy_f f ns ps) c r (state_at ns t) (replaced ps (state_at ns t)) (get_or c.table r.idx 0)

-- nothing is copied yet; a table of m numbers
abbrev pub uncopied : Store → ℕ → Copying
uncopied s m = record { dest = s; table = replicate m 0 }

-- the table says what the mapping says
abbrev pub placed : Option ℕ → ℕ
placed none = 0
placed (some n) = suc n

abbrev pub Tabled : List (ℕ × ℕ) → List ℕ → Type 0
Tabled l xs = (r : ℕ) → r < length xs → get_or xs r 0 ≡ placed (copy_of l r)

pub tabled_start : (m : ℕ) → Tabled [] (replicate m 0)
unfolding copy_of
tabled_start m r h = get_or-replicate {A = ℕ} m r 0 0 (omega (arith, length-replicate {A = ℕ} m 0))

pub tabled_step : (l : List (ℕ × ℕ)) (xs : List ℕ) (r n : ℕ) → Tabled l xs → Tabled ((r, n) ∷ l) (set xs r (n + 1))
unfolding copy_of
tabled_step l xs r n h q b = go (ℕ_discrete q r)
  where
    lt : q < length xs
    lt = omega (arith, length-set xs r (n + 1))

    go : Dec (q ≡ r) → get_or (set xs r (n + 1)) q 0 ≡ placed (pick (eqb r q) (some n) (copy_of l q))
    go (yes e) = rw (e, get_or-set_same xs r (n + 1) 0 (omega (arith, lt)), eq-eqb r r refl, add-one n)
    go (no e) = rw (get_or-set_other xs r q (n + 1) 0 e, ne_eqb r q (λ z. e (sym z)), h q lt)

module _ (l : List (ℕ × ℕ)) (xs : List ℕ) (r : ℕ) (lt : r < length xs) (h : Tabled l xs) where
  pub tabled_none : get_or xs r 0 ≡ 0 → copy_of l r ≡ none
  tabled_none e = go (copy_of l r) (sym (h r lt) ∙ e)
    where
      go : (o : Option ℕ) → placed o ≡ 0 → o ≡ none
      go none e = refl
      go (some n) e = absurd (omega arith)

  pub tabled_some : (n : ℕ) → get_or xs r 0 ≡ n + 1 → copy_of l r ≡ some n
  tabled_some n e = go (copy_of l r) (sym (h r lt) ∙ e)
    where
      go : (o : Option ℕ) → placed o ≡ n + 1 → o ≡ some n
      go none e = absurd (omega arith)
      go (some m) e = ap some (omega arith)

module _ (ns : List Node) where
  -- c is where w is
  pub record Follows (w : Work) (c : Copying) : Type 0 where
    pub dest : c.dest ≡ w.dest
    pub tabled : Tabled w.mapping c.table
    pub room : length ns ≤ length c.table

  pub record Ends (m : Moved) (d : Copied) : Type 0 where
    pub work : Follows m.work d.to
    pub type : d.type ≡ m.type

  record EndsAll (m : MovedAll) (d : CopiedAll) : Type 0 where
    work : Follows m.work d.to
    types : d.types ≡ m.types

  noted_follows : {w : Work} {c : Copying} (r : ℕ) (st : State) → Follows w c → Follows (begun w r st) (noted c r st)
  noted_follows {w} {c} r st z = record {
    dest = ap (λ (s : Store). pushed s (Unknown (span_of st)) (length (kids_of st))) z.dest;
    tabled = rw (← z.dest) (tabled_step w.mapping c.table r (length c.dest.nodes) z.tabled);
    room = omega (arith, length-set c.table r (length c.dest.nodes + 1), z.room);
  }

  filled_follows : {w : Work} {c : Copying} {n n' : ℕ} {st st' : State} → n ≡ n' → st ≡ st' → Follows w c → Follows (ended w n' st') (filled c n st)
  filled_follows p q z = record { dest = λ i. with_nodes (z.dest i) (set (z.dest i).nodes (p i) (Root (q i) 1)); tabled = z.tabled; room = z.room }

  -- at a type of the source both make the same
  abbrev pub Step : (Work → Ty → Moved) → (Copying → Ty → Copied) → Type 0
  Step g h = (w : Work) (c : Copying) (t : Ty) → t.idx < length ns → Follows w c → Ends (g w t) (h c t)

  many_follows : (g : Work → Ty → Moved) (h : Copying → Ty → Copied) → Step g h → (w : Work) (c : Copying) (ts : List Ty)
      → ((t : Ty) → Memᴰ t ts → t.idx < length ns) → Follows w c → EndsAll (many g w ts) (copy_all h c ts)
  unfolding many copy_all
  many_follows g h step w c [] inside z = record { work = z; types = refl }
  many_follows g h step w c (t ∷ ts) inside z =
      let a = step w c t (inside t (Memᴰ.head refl)) z in
      let b = many_follows g h step (g w t).work (h c t).to ts (λ u m. inside u (Memᴰ.tail m)) a.work in
      record { work = b.work; types = λ i. a.type i ∷ b.types i }

  module _ (ps : Option (List Ty)) (src : Source ns) where
    root_follows : (g : Work → Ty → Moved) (h : Copying → Ty → Copied) → Step g h → (w : Work) (c : Copying) (t : Ty) → t.idx < length ns → Follows w c
        → Ends (place g w (find ns t) (state_at ns t) (replaced ps (state_at ns t)) (copy_of w.mapping (find ns t).idx))
        (copy_at h c (find ns t) (state_at ns t) (replaced ps (state_at ns t)) (get_or c.table (find ns t).idx 0))
    root_follows g h step w c t lt z =
        rw (z.tabled (find ns t).idx (omega (arith, z.room, src.inside t lt))) (go (copy_of w.mapping (find ns t).idx) (replaced ps (state_at ns t)))
      where
        type : ty (find ns t).inv (length c.dest.nodes) ≡ ty (find ns t).inv (length w.dest.nodes)
        type = ap (λ (s : Store). ty (find ns t).inv (length s.nodes)) z.dest

        kind : (st : State) → ((u : Ty) → Memᴰ u (kids_of st) → u.idx < length ns) → Ends (copied g w (find ns t) st) (copy_new h c (find ns t) st)
        kind (Unknown p) kids = record { work = noted_follows (find ns t).idx (Unknown p) z; type = type }
        kind InferenceFailed kids = record { work = noted_follows (find ns t).idx InferenceFailed z; type = type }
        kind (Known i k) kids = made (many_follows g h step (begun w r (Known i k)) (noted c r (Known i k)) k.kids kids (noted_follows r (Known i k) z))
          where
            r : ℕ
            r = (find ns t).idx

            made : EndsAll (many g (begun w (find ns t).idx (Known i k)) k.kids) (copy_all h (noted c (find ns t).idx (Known i k)) k.kids)
                → Ends (copied g w (find ns t) (Known i k)) (copy_new h c (find ns t) (Known i k))
            made e = record {
              work = filled_follows (ap (λ (s : Store). length s.nodes) z.dest) (ap (λ (us : List Ty). Known i (record { head = k.head; kids = us })) e.types) e.work;
              type = type;
            }

        go : (o : Option ℕ) (u : Replaced) → Ends (place g w (find ns t) (state_at ns t) u o) (copy_at h c (find ns t) (state_at ns t) u (placed o))
        go (some n) u = record { work = z; type = refl }
        go none keep = kind (state_at ns t) (src.kids (find ns t).idx)
        go none missing_entry = record { work = record { dest = z.dest; tabled = z.tabled; room = z.room }; type = refl }
        go none (entry u) = record { work = z; type = refl }

    pub transfer_follows : (f : ℕ) → Step (transfer f ns ps) (copy_f f ns ps)
    unfolding transfer copy_f
    transfer_follows zero w c t lt z = record { work = z; type = refl }
    transfer_follows (suc f) w c t lt z = root_follows (transfer f ns ps) (copy_f f ns ps) (transfer_follows f) w c t lt z

  start_follows : (s : Store) (m : ℕ) → length ns ≤ m → Follows (start s) (uncopied s m)
  start_follows s m h = record { dest = refl; tabled = tabled_start m; room = omega (arith, length-replicate {A = ℕ} m 0) }

-- an import by the table
module _ (ns : List Node) (ps : Option (List Ty)) (s : Store) (ts : List Ty) (src : Source ns) (given : (t : Ty) → Memᴰ t ts → t.idx < length ns)
    (m : ℕ) (h : length ns ≤ m) where
  import_follows : EndsAll ns (import ns ps s ts) (copy_all (copy_f (length ns) ns ps) (uncopied s m) ts)
  unfolding import
  import_follows =
      many_follows ns (transfer (length ns) ns ps) (copy_f (length ns) ns ps) (transfer_follows ns ps src (length ns)) (start s) (uncopied s m) ts given (start_follows ns s m h)

  pub copy_types : (copy_all (copy_f (length ns) ns ps) (uncopied s m) ts).types ≡ (import ns ps s ts).types
  copy_types = import_follows.types

  pub copy_dest : (copy_all (copy_f (length ns) ns ps) (uncopied s m) ts).to.dest ≡ (import ns ps s ts).work.dest
  copy_dest = import_follows.work.dest

  -- what it needs of room
  pub copy_nodes : length (copy_all (copy_f (length ns) ns ps) (uncopied s m) ts).to.dest.nodes ≡ length s.nodes + (needs ns ps ts).nodes
  copy_nodes = ap (λ (d : Store). length d.nodes) copy_dest ∙ needs_nodes ns ps s ts src given

  pub copy_children : (copy_all (copy_f (length ns) ns ps) (uncopied s m) ts).to.dest.children ≡ s.children + (needs ns ps ts).children
  copy_children = ap (λ (d : Store). d.children) copy_dest ∙ needs_children ns ps s ts src given

-- an export by the table: "error type first, nil next", then the list
unfoldable pub copy_export : Store → Store → ℕ → List Ty → CopiedAll
copy_export s d m ts =
    let g : Copying → Ty → Copied = copy_f (length s.nodes) s.nodes none in
    let a : CopiedAll = copy_all g (uncopied d m) (listed s.error) in
    let b : CopiedAll = copy_all g a.to (listed s.nil) in
    let c : CopiedAll = copy_all g b.to ts in
    record { to = record { dest = remembering c.to.dest (first_of a.types) (first_of b.types); table = c.to.table }; types = c.types }

module _ (s d : Store) (ts : List Ty) (src : Source s.nodes) (given : (t : Ty) → Memᴰ t (exported s ts) → t.idx < length s.nodes) (m : ℕ)
    (long : length s.nodes ≤ m) where
  abbrev g : Work → Ty → Moved
  g = transfer (length s.nodes) s.nodes none

  abbrev h : Copying → Ty → Copied
  h = copy_f (length s.nodes) s.nodes none

  abbrev a : MovedAll
  a = carried g (start d) s.error

  abbrev b : MovedAll
  b = carried g a.work s.nil

  abbrev a' : CopiedAll
  a' = copy_all h (uncopied d m) (listed s.error)

  abbrev b' : CopiedAll
  b' = copy_all h a'.to (listed s.nil)

  list_follows : (w : Work) (c : Copying) (us : List Ty) → ((t : Ty) → Memᴰ t us → t.idx < length s.nodes) → Follows s.nodes w c
      → EndsAll s.nodes (many g w us) (copy_all h c us)
  list_follows = many_follows s.nodes g h (transfer_follows s.nodes none src (length s.nodes))

  carried_follows : (w : Work) (c : Copying) (o : Option Ty) → ((t : Ty) → Memᴰ t (listed o) → t.idx < length s.nodes) → Follows s.nodes w c
      → EndsAll s.nodes (carried g w o) (copy_all h c (listed o))
  unfolding copy_all
  carried_follows w c none inside z = record { work = z; types = refl }
  carried_follows w c (some t) inside z = list_follows w c (t ∷ []) inside z

  first : EndsAll s.nodes a a'
  first = carried_follows (start d) (uncopied d m) s.error (λ t w. given t (Memᴰ.append_left _ w)) (start_follows s.nodes d m long)

  second : EndsAll s.nodes b b'
  second = carried_follows a.work a'.to s.nil (λ t w. given t (Memᴰ.append_right (listed s.error) (Memᴰ.append_left _ w))) first.work

  third : EndsAll s.nodes (many g b.work ts) (copy_all h b'.to ts)
  third = list_follows b.work b'.to ts (λ t w. given t (Memᴰ.append_right (listed s.error) (Memᴰ.append_right (listed s.nil) w))) second.work

  pub copy_export_types : (copy_export s d m ts).types ≡ (export s d ts).types
  unfolding copy_export export
  copy_export_types = third.types

  pub copy_export_dest : (copy_export s d m ts).to.dest ≡ (export s d ts).work.dest
  unfolding copy_export export
  copy_export_dest = λ i. remembering (third.work.dest i) (first_of (first.types i)) (first_of (second.types i))

  -- what it needs of room
  pub copy_export_nodes : length (copy_export s d m ts).to.dest.nodes ≡ length d.nodes + (needs s.nodes none (exported s ts)).nodes
  copy_export_nodes = ap (λ (d : Store). length d.nodes) copy_export_dest ∙ needs_export_nodes s d ts src given

  pub copy_export_children : (copy_export s d m ts).to.dest.children ≡ d.children + (needs s.nodes none (exported s ts)).children
  copy_export_children = ap (λ (d : Store). d.children) copy_export_dest ∙ needs_export_children s d ts src given
