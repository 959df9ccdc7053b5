-- `needs` says what `import` makes: both walks go through the same types in the same order, and a root is marked just where the mapping has it. So it
-- holds of a missing entry too, and of any depth; of the source it uses only that its types stay inside. Assumes nothing.
use mathlib.Core.Path.{◌≡◌, refl, sym, ◌∙◌}
use mathlib.Core.List.Memᴰ
use mathlib.Core.List.{List, [], ◌∷◌, ◌++◌, Memᴰ}
use mathlib.Core.Bool.{Bool, true, false, not}
use mathlib.Core.Option.{Option, none, some}
use Prim.Native.Nat.{ℕ, zero, suc, ◌+◌, ◌≤◌, ◌<◌}
use native.Mathlib.Omega.{arith}
use native.Mathlib.Decide.{ℕ_discrete}
use lib.Dec.{eqb}
use lib.ListN.{length, get_or, set, replicate, length-append, length-set, length-replicate, get_or-replicate}
use lib.Seq.{get_or-set_same, get_or-set_other}
use borrow.Author.Tests.{eq-eqb, ne_eqb}
use Rattle.scope.specs.Base.{pick, is_some}
use Rattle.scope.specs.Types.{Ty}
use Rattle.scope.specs.Nodes.{State, Known, Unknown, InferenceFailed, Node, Root, Store, opened, state_at, find, kids_of}
use Rattle.scope.specs.Import.{Work, Moved, copy_of, Replaced, keep, missing_entry, entry, replaced, span_of, begun, ended, many, copied, lacking, place, transfer}
use Rattle.scope.specs.Import.{start, import, carried, export, copies}
use Rattle.scope.specs.Needs.{Needs, Counted, counted, missed, count_all, count_root, count_f, uncounted, needs, listed, exported}
use Rattle.scope.proofs.TestLaws.{tf}
use Rattle.scope.proofs.Mapping.{Source}
use Rattle.scope.proofs.CopyCount.{import_nodes}

module _ (ns : List Node) (s : Store) where
  -- c counts what w has made of s
  record Counts (w : Work) (c : Counted) : Type 0 where
    room : length ns ≤ length c.marks
    marks : (r : ℕ) → r < length ns → eqb (get_or c.marks r 1) 0 ≡ not (is_some (copy_of w.mapping r))
    missing : w.missing ≡ c.sum.missing
    nodes : length w.dest.nodes ≡ length s.nodes + c.sum.nodes
    children : w.dest.children ≡ s.children + c.sum.children

  -- a root just begun is counted
  begun_counts : {w : Work} {c : Counted} (r : ℕ) (st : State) → r < length ns → Counts w c → Counts (begun w r st) (counted c r st)
  unfolding copy_of
  begun_counts {w} {c} r st h cs = record {
    room = omega (arith, length-set c.marks r 1, cs.room);
    marks = λ q b. marks q b (ℕ_discrete q r);
    missing = cs.missing;
    nodes = omega (arith, length-append w.dest.nodes (Root (Unknown (span_of st)) 1 ∷ []), cs.nodes);
    children = omega (arith, cs.children);
  }
    where
      marks : (q : ℕ) → q < length ns → Dec (q ≡ r) → eqb (get_or (set c.marks r 1) q 1) 0 ≡ not (is_some (pick (eqb r q) (some (length w.dest.nodes)) (copy_of w.mapping q)))
      marks q b (yes e) = rw (e, get_or-set_same c.marks r 1 1 (omega (arith, cs.room)), eq-eqb r r refl)
      marks q b (no e) = rw (get_or-set_other c.marks r q 1 1 e, ne_eqb r q (λ z. e (sym z)), cs.marks q b)

  ended_counts : {w : Work} {c : Counted} (n : ℕ) (st : State) → Counts w c → Counts (ended w n st) c
  ended_counts {w} n st cs = record {
    room = cs.room;
    marks = cs.marks;
    missing = cs.missing;
    nodes = length-set w.dest.nodes n (Root st 1) ∙ cs.nodes;
    children = cs.children;
  }

  missed_counts : {w : Work} {c : Counted} → Counts w c → Counts (lacking w) (missed c)
  missed_counts cs = record { room = cs.room; marks = cs.marks; missing = refl; nodes = cs.nodes; children = cs.children }

  -- both walks step by step: over types of the source, and at one
  abbrev Step : (Work → Ty → Moved) → (Counted → Ty → Counted) → Type 0
  Step g h = (w : Work) (c : Counted) (t : Ty) → t.idx < length ns → Counts w c → Counts (g w t).work (h c t)

  many_counts : (g : Work → Ty → Moved) (h : Counted → Ty → Counted) → Step g h → {w : Work} {c : Counted} (ts : List Ty)
      → ((t : Ty) → Memᴰ t ts → t.idx < length ns) → Counts w c → Counts (many g w ts).work (count_all h c ts)
  unfolding many
  many_counts g h step [] inside cs = cs
  many_counts g h step {w} {c} (t ∷ ts) inside cs =
      many_counts g h step ts (λ u m. inside u (Memᴰ.tail m)) (step w c t (inside t (Memᴰ.head refl)) cs)

  module _ (ps : Option (List Ty)) (src : Source ns) where
    root_counts : (g : Work → Ty → Moved) (h : Counted → Ty → Counted) → Step g h → (w : Work) (c : Counted) (t : Ty) → t.idx < length ns → Counts w c
        → Counts (place g w (find ns t) (state_at ns t) (replaced ps (state_at ns t)) (copy_of w.mapping (find ns t).idx)).work
        (count_root h (eqb (get_or c.marks (find ns t).idx 1) 0) c (find ns t).idx (state_at ns t) (replaced ps (state_at ns t)))
    root_counts g h step w c t lt cs =
        go (copy_of w.mapping r) (eqb (get_or c.marks r 1) 0) (replaced ps (state_at ns t)) (cs.marks r inside)
      where
        r : ℕ
        r = (find ns t).idx

        inside : (find ns t).idx < length ns
        inside = src.inside t lt

        kind : (st : State) → ((u : Ty) → Memᴰ u (kids_of st) → u.idx < length ns)
            → Counts (copied g w (find ns t) st).work (count_all h (counted c (find ns t).idx st) (kids_of st))
        kind (Known i k) kids = ended_counts (length w.dest.nodes) _ (many_counts g h step k.kids kids (begun_counts (find ns t).idx (Known i k) inside cs))
        kind (Unknown p) kids = begun_counts (find ns t).idx (Unknown p) inside cs
        kind InferenceFailed kids = begun_counts (find ns t).idx InferenceFailed inside cs

        go : (o : Option ℕ) (b : Bool) (u : Replaced) → b ≡ not (is_some o)
            → Counts (place g w (find ns t) (state_at ns t) u o).work (count_root h b c (find ns t).idx (state_at ns t) u)
        go (some n) true u e = tf e
        go (some n) false u e = cs
        go none false u e = tf (sym e)
        go none true keep e = kind (state_at ns t) (src.kids (find ns t).idx)
        go none true missing_entry e = missed_counts cs
        go none true (entry u) e = cs

    transfer_counts : (f : ℕ) → Step (transfer f ns ps) (count_f f ns ps)
    unfolding transfer count_f
    transfer_counts zero w c t lt cs = cs
    transfer_counts (suc f) w c t lt cs = root_counts (transfer f ns ps) (count_f f ns ps) (transfer_counts f) w c t lt cs

  -- nothing is made, and nothing counted; there may be more marks than nodes
  start_counts : (m : ℕ) → length ns ≤ m → Counts (start s) (uncounted (replicate m 0))
  unfolding copy_of
  start_counts m h = record {
    room = omega (arith, length-replicate {A = ℕ} m 0);
    marks = λ r q. rw (get_or-replicate {A = ℕ} m r 0 1 (omega arith));
    missing = refl;
    nodes = omega arith;
    children = omega arith;
  }

-- the walk over one list after another
pub count_append : (g : Counted → Ty → Counted) (c : Counted) (xs ys : List Ty) → count_all g c (xs ++ ys) ≡ count_all g (count_all g c xs) ys
count_append g c [] ys = refl
count_append g c (x ∷ xs) ys = count_append g (g c x) xs ys

-- what an import of types of the source makes
module _ (ns : List Node) (ps : Option (List Ty)) (s : Store) (ts : List Ty) (src : Source ns) (given : (t : Ty) → Memᴰ t ts → t.idx < length ns) where
  import_counts : (m : ℕ) → length ns ≤ m
      → Counts ns s (import ns ps s ts).work (count_all (count_f (length ns) ns ps) (uncounted (replicate m 0)) ts)
  unfolding import
  import_counts m h =
      many_counts ns s (transfer (length ns) ns ps) (count_f (length ns) ns ps) (transfer_counts ns s ps src (length ns)) ts given (start_counts ns s m h)

  pub needs_missing : (import ns ps s ts).work.missing ≡ (needs ns ps ts).missing
  unfolding needs
  needs_missing = (import_counts (length ns) (omega arith)).missing

  pub needs_nodes : length (import ns ps s ts).work.dest.nodes ≡ length s.nodes + (needs ns ps ts).nodes
  unfolding needs
  needs_nodes = (import_counts (length ns) (omega arith)).nodes

  pub needs_children : (import ns ps s ts).work.dest.children ≡ s.children + (needs ns ps ts).children
  unfolding needs
  needs_children = (import_counts (length ns) (omega arith)).children

same_needs : (a b : Needs) → a.missing ≡ b.missing → a.nodes ≡ b.nodes → a.children ≡ b.children → a ≡ b
same_needs a b p q r = λ i. record { missing = p i; nodes = q i; children = r i }

module _ (ns : List Node) (ps : Option (List Ty)) (ts : List Ty) (src : Source ns) (given : (t : Ty) → Memᴰ t ts → t.idx < length ns) where
  -- any number of marks will do that is no less than the nodes
  pub needs_marks : (m : ℕ) → length ns ≤ m → (count_all (count_f (length ns) ns ps) (uncounted (replicate m 0)) ts).sum ≡ needs ns ps ts
  unfolding needs
  needs_marks m h =
      let a = import_counts ns ps (opened 0 0) ts src given m h in
      let b = import_counts ns ps (opened 0 0) ts src given (length ns) (omega arith) in
      same_needs (count_all (count_f (length ns) ns ps) (uncounted (replicate m 0)) ts).sum (needs ns ps ts) (sym a.missing ∙ b.missing)
      (omega (arith, a.nodes, b.nodes)) (omega (arith, a.children, b.children))

  -- "one for each source root that `import` copies"
  pub needs_copies : (needs ns ps ts).missing ≡ false → (needs ns ps ts).nodes ≡ copies ns ps ts
  needs_copies e =
      let s : Store = opened 0 0 in
      omega (arith, needs_nodes ns ps s ts src given, import_nodes ns ps s ts src given (needs_missing ns ps s ts src given ∙ e))

-- what an export makes: the remembered types are walked first
module _ (s d : Store) (ts : List Ty) (src : Source s.nodes) (given : (t : Ty) → Memᴰ t (exported s ts) → t.idx < length s.nodes) where
  abbrev g : Work → Ty → Moved
  g = transfer (length s.nodes) s.nodes none

  abbrev h : Counted → Ty → Counted
  h = count_f (length s.nodes) s.nodes none

  carried_counts : {w : Work} {c : Counted} (o : Option Ty) → ((t : Ty) → Memᴰ t (listed o) → t.idx < length s.nodes)
      → Counts s.nodes d w c → Counts s.nodes d (carried g w o).work (count_all h c (listed o))
  carried_counts none inside cs = cs
  carried_counts (some t) inside cs = many_counts s.nodes d g h (transfer_counts s.nodes d none src (length s.nodes)) (t ∷ []) inside cs

  export_counts : Counts s.nodes d (export s d ts).work (count_all h (uncounted (replicate (length s.nodes) 0)) (exported s ts))
  unfolding export
  export_counts = rw (count_append h c (listed s.error) (listed s.nil ++ ts), count_append h (count_all h c (listed s.error)) (listed s.nil) ts)
      (record { room = z.room; marks = z.marks; missing = z.missing; nodes = z.nodes; children = z.children })
    where
      c : Counted
      c = uncounted (replicate (length s.nodes) 0)

      w : Work
      w = (carried g (carried g (start d) s.error).work s.nil).work

      z : Counts s.nodes d (many g w ts).work (count_all h (count_all h (count_all h c (listed s.error)) (listed s.nil)) ts)
      z = many_counts s.nodes d g h (transfer_counts s.nodes d none src (length s.nodes)) ts
          (λ t m. given t (Memᴰ.append_right (listed s.error) (Memᴰ.append_right (listed s.nil) m)))
          (carried_counts s.nil (λ t m. given t (Memᴰ.append_right (listed s.error) (Memᴰ.append_left _ m)))
          (carried_counts s.error (λ t m. given t (Memᴰ.append_left _ m)) (start_counts s.nodes d (length s.nodes) (omega arith))))

  pub needs_export_nodes : length (export s d ts).work.dest.nodes ≡ length d.nodes + (needs s.nodes none (exported s ts)).nodes
  unfolding needs
  needs_export_nodes = export_counts.nodes

  pub needs_export_children : (export s d ts).work.dest.children ≡ d.children + (needs s.nodes none (exported s ts)).children
  unfolding needs
  needs_export_children = export_counts.children
