-- Copying by the table one level at a time; what is left of a list gives what the whole list gives; and what copying never lessens: nodes and children
-- made, so that where the end has room every step has. Holds of any source. Assumes nothing.
use mathlib.Core.Path.{◌≡◌, refl, sym, ap, subst, ◌∙◌}
use mathlib.Core.List.{List, [], ◌∷◌, ◌++◌, append_assoc, append-nil}
use mathlib.Core.Bool.{Bool, false, true≢false}
use mathlib.Core.Option.{Option, none}
use Prim.Native.Nat.{ℕ, zero, suc, ◌+◌, ◌≤◌, ◌<◌}
use native.Mathlib.Omega.{arith}
use native.Mathlib.Numerals.{add-one}
use lib.ListN.{length, get_or, set, replicate, length-append, length-set, get_or-append}
use lib.Seq.{get_or-set_other}
use Rattle.scope.specs.Limits.{NONE}
use Rattle.scope.specs.Types.{Ty, ty, flip}
use Rattle.scope.specs.Nodes.{Kind, State, Known, Unknown, InferenceFailed, Node, Root, Store, at, is_known, state_at, find}
use Rattle.scope.specs.Import.{Replaced, keep, missing_entry, entry, replaced, span_of}
use Rattle.scope.proofs.Mapping.{Rest}
use Rattle.scope.proofs.ReplacedLaws.{replaced_none}
use Rattle.scope.proofs.CopyTable.{Copying, Copied, CopiedAll, noted, filled, copy_all, copy_new, copy_root, copy_at, copy_f, uncopied}

module _ (ns : List Node) (ps : Option (List Ty)) where
  -- no depth is left
  pub copy_end : (c : Copying) (t : Ty) → copy_f zero ns ps c t ≡ record { to = c; type = t }
  unfolding copy_f
  copy_end c t = refl

  module _ (f : ℕ) (c : Copying) (t : Ty) where
    -- a root that has a copy, the node n
    pub copy_found : (n : ℕ) → get_or c.table (find ns t).idx 0 ≡ n + 1 → copy_f (suc f) ns ps c t ≡ record { to = c; type = ty (find ns t).inv n }
    unfolding copy_f
    copy_found n e = rw (e, add-one n)

    module _ (new : get_or c.table (find ns t).idx 0 ≡ 0) where
      copy_root_lem : copy_f (suc f) ns ps c t ≡ copy_root (copy_f f ns ps) c (find ns t) (state_at ns t) (replaced ps (state_at ns t))
      unfolding copy_f
      copy_root_lem = rw new

      pub copy_entry : (u : Ty) → replaced ps (state_at ns t) ≡ entry u → copy_f (suc f) ns ps c t ≡ record { to = c; type = flip (find ns t).inv u }
      copy_entry u e = copy_root_lem ∙ ap (copy_root (copy_f f ns ps) c (find ns t) (state_at ns t)) e

      pub copy_missing : replaced ps (state_at ns t) ≡ missing_entry → copy_f (suc f) ns ps c t ≡ record { to = c; type = find ns t }
      copy_missing e = copy_root_lem ∙ ap (copy_root (copy_f f ns ps) c (find ns t) (state_at ns t)) e

      pub copy_new_lem : replaced ps (state_at ns t) ≡ keep → copy_f (suc f) ns ps c t ≡ copy_new (copy_f f ns ps) c (find ns t) (state_at ns t)
      copy_new_lem e = copy_root_lem ∙ ap (copy_root (copy_f f ns ps) c (find ns t) (state_at ns t)) e

      -- with no kind
      pub copy_plain : replaced ps (state_at ns t) ≡ keep → is_known (state_at ns t) ≡ false
          → copy_f (suc f) ns ps c t ≡ record { to = noted c (find ns t).idx (state_at ns t); type = ty (find ns t).inv (length c.dest.nodes) }
      copy_plain e k = copy_new_lem e ∙ go (state_at ns t) k
        where
          go : (st : State) → is_known st ≡ false
              → copy_new (copy_f f ns ps) c (find ns t) st ≡ record { to = noted c (find ns t).idx st; type = ty (find ns t).inv (length c.dest.nodes) }
          go (Known i m) k = absurd (true≢false k)
          go (Unknown p) k = refl
          go InferenceFailed k = refl

      -- with a kind
      pub copy_kind : (i : Bool) (k : Kind) → replaced ps (state_at ns t) ≡ keep → state_at ns t ≡ Known i k
          → copy_f (suc f) ns ps c t
          ≡ (let n : ℕ = length c.dest.nodes in
          let b : CopiedAll = copy_all (copy_f f ns ps) (noted c (find ns t).idx (Known i k)) k.kids in
          record { to = filled b.to n (Known i (record { head = k.head; kids = b.types })); type = ty (find ns t).inv n })
      copy_kind i k e q = copy_new_lem e ∙ ap (copy_new (copy_f f ns ps) c (find ns t)) q

-- of the list ts, from c₀ on, `rest` is left at c, and `done` is what the types before it became
pub record Left (g : Copying → Ty → Copied) (c₀ : Copying) (ts : List Ty) (c : Copying) (done rest : List Ty) : Type 0 where
  pub to : (copy_all g c rest).to ≡ (copy_all g c₀ ts).to
  pub types : done ++ (copy_all g c rest).types ≡ (copy_all g c₀ ts).types

pub left_start : (g : Copying → Ty → Copied) (c : Copying) (ts : List Ty) → Left g c ts c [] ts
left_start g c ts = record { to = refl; types = refl }

module _ {g : Copying → Ty → Copied} {c₀ : Copying} {ts : List Ty} {c : Copying} {done : List Ty} where
  pub left_next : {t : Ty} {rest : List Ty} → Left g c₀ ts c done (t ∷ rest) → Left g c₀ ts (g c t).to (done ++ ((g c t).type ∷ [])) rest
  unfolding copy_all
  left_next {t} {rest} l = record { to = l.to; types = append_assoc done ((g c t).type ∷ []) (copy_all g (g c t).to rest).types ∙ l.types }

  pub left_end : Left g c₀ ts c done [] → (c ≡ (copy_all g c₀ ts).to) × (done ≡ (copy_all g c₀ ts).types)
  unfolding copy_all
  left_end l = (l.to, sym (append-nil done) ∙ l.types)

-- more nodes and children, the ones before as they were, and nothing else of the store changed
pub record Grows (c d : Copying) : Type 0 where
  pub nodes : length c.dest.nodes ≤ length d.dest.nodes
  pub children : c.dest.children ≤ d.dest.children
  pub old : (n : ℕ) → n < length c.dest.nodes → at d.dest.nodes n ≡ at c.dest.nodes n
  pub table : length d.table ≡ length c.table
  pub rest : Rest c.dest d.dest

pub grows_refl : (c : Copying) → Grows c c
grows_refl c = record {
  nodes = omega arith;
  children = omega arith;
  old = λ n h. refl;
  table = refl;
  rest = record { node_room = refl; child_room = refl; error = refl; nil = refl; reports = refl };
}

pub grows_trans : {b c d : Copying} → Grows b c → Grows c d → Grows b d
grows_trans p q = record {
  nodes = omega (arith, p.nodes, q.nodes);
  children = omega (arith, p.children, q.children);
  old = λ n h. q.old n (omega (arith, p.nodes)) ∙ p.old n h;
  table = q.table ∙ p.table;
  rest = record {
    node_room = q.rest.node_room ∙ p.rest.node_room;
    child_room = q.rest.child_room ∙ p.rest.child_room;
    error = q.rest.error ∙ p.rest.error;
    nil = q.rest.nil ∙ p.rest.nil;
    reports = q.rest.reports ∙ p.rest.reports;
  };
}

pub grows_noted : (c : Copying) (r : ℕ) (st : State) → Grows c (noted c r st)
grows_noted c r st = record {
  nodes = omega (arith, length-append c.dest.nodes (Root (Unknown (span_of st)) 1 ∷ []));
  children = omega arith;
  old = λ n h. get_or-append c.dest.nodes (Root (Unknown (span_of st)) 1 ∷ []) (Root (Unknown NONE) 0) n h;
  table = length-set c.table r (length c.dest.nodes + 1);
  rest = record { node_room = refl; child_room = refl; error = refl; nil = refl; reports = refl };
}

-- one that was not there at first takes its kind
grows_filled : {c d : Copying} (n : ℕ) (st : State) → length c.dest.nodes ≤ n → Grows c d → Grows c (filled d n st)
grows_filled {c} {d} n st h g = record {
  nodes = omega (arith, g.nodes, length-set d.dest.nodes n (Root st 1));
  children = g.children;
  old = λ m q. get_or-set_other d.dest.nodes n m (Root st 1) (Root (Unknown NONE) 0) (λ e. absurd (omega arith)) ∙ g.old m q;
  table = g.table;
  rest = record { node_room = g.rest.node_room; child_room = g.rest.child_room; error = g.rest.error; nil = g.rest.nil; reports = g.rest.reports };
}

pub grows_all : (g : Copying → Ty → Copied) → ((c : Copying) (t : Ty) → Grows c (g c t).to) → (c : Copying) (ts : List Ty) → Grows c (copy_all g c ts).to
unfolding copy_all
grows_all g step c [] = grows_refl c
grows_all g step c (t ∷ ts) = grows_trans (step c t) (grows_all g step (g c t).to ts)

-- no number in the table is past the nodes made
abbrev pub Placed : Copying → Type 0
Placed c = (r : ℕ) → get_or c.table r 0 ≤ length c.dest.nodes

set_most : (xs : List ℕ) (r v b : ℕ) → v ≤ b → ((q : ℕ) → get_or xs q 0 ≤ b) → (q : ℕ) → get_or (set xs r v) q 0 ≤ b
set_most [] r v b h each q = each q
set_most (x ∷ xs) zero v b h each zero = h
set_most (x ∷ xs) zero v b h each (suc q) = each (suc q)
set_most (x ∷ xs) (suc r) v b h each zero = each zero
set_most (x ∷ xs) (suc r) v b h each (suc q) = set_most xs r v b h (λ p. each (suc p)) q

pub placed_start : (s : Store) (m : ℕ) → Placed (uncopied s m)
placed_start s m r = go m r
  where
    go : (m r : ℕ) → get_or (replicate m 0) r 0 ≤ length s.nodes
    go zero r = omega arith
    go (suc m) zero = omega arith
    go (suc m) (suc r) = go m r

pub placed_noted : (c : Copying) (r : ℕ) (st : State) → Placed c → Placed (noted c r st)
placed_noted c r st p =
    let n : length (noted c r st).dest.nodes ≡ length c.dest.nodes + 1 = length-append c.dest.nodes (Root (Unknown (span_of st)) 1 ∷ []) in
    set_most c.table r (length c.dest.nodes + 1) (length (noted c r st).dest.nodes) (omega (arith, n)) (λ q. omega (arith, n, p q))

pub placed_filled : (c : Copying) (n : ℕ) (st : State) → Placed c → Placed (filled c n st)
placed_filled c n st p r = omega (arith, p r, length-set c.dest.nodes n (Root st 1))

pub placed_all : (g : Copying → Ty → Copied) → ((c : Copying) (t : Ty) → Placed c → Placed (g c t).to) → (c : Copying) (ts : List Ty) → Placed c
    → Placed (copy_all g c ts).to
unfolding copy_all
placed_all g step c [] p = p
placed_all g step c (t ∷ ts) p = placed_all g step (g c t).to ts (step c t p)

module _ (ns : List Node) (ps : Option (List Ty)) where
  pub copy_grows : (f : ℕ) (c : Copying) (t : Ty) → Grows c (copy_f f ns ps c t).to
  unfolding copy_f
  copy_grows zero c t = grows_refl c
  copy_grows (suc f) c t = go (get_or c.table (find ns t).idx 0) (replaced ps (state_at ns t)) (grows_all (copy_f f ns ps) (copy_grows f))
    where
      new : (st : State) → ((d : Copying) (ts : List Ty) → Grows d (copy_all (copy_f f ns ps) d ts).to) → Grows c (copy_new (copy_f f ns ps) c (find ns t) st).to
      new (Known i k) all = grows_filled (length c.dest.nodes) _ (omega arith)
          (grows_trans (grows_noted c (find ns t).idx (Known i k)) (all (noted c (find ns t).idx (Known i k)) k.kids))
      new (Unknown p) all = grows_noted c (find ns t).idx (Unknown p)
      new InferenceFailed all = grows_noted c (find ns t).idx InferenceFailed

      go : (n : ℕ) (u : Replaced) → ((d : Copying) (ts : List Ty) → Grows d (copy_all (copy_f f ns ps) d ts).to)
          → Grows c (copy_at (copy_f f ns ps) c (find ns t) (state_at ns t) u n).to
      go (suc n) u all = grows_refl c
      go zero keep all = new (state_at ns t) all
      go zero missing_entry all = grows_refl c
      go zero (entry x) all = grows_refl c

  pub copy_placed : (f : ℕ) (c : Copying) (t : Ty) → Placed c → Placed (copy_f f ns ps c t).to
  unfolding copy_f
  copy_placed zero c t p = p
  copy_placed (suc f) c t p = go (get_or c.table (find ns t).idx 0) (replaced ps (state_at ns t)) (placed_all (copy_f f ns ps) (copy_placed f))
    where
      new : (st : State) → ((d : Copying) (ts : List Ty) → Placed d → Placed (copy_all (copy_f f ns ps) d ts).to)
          → Placed (copy_new (copy_f f ns ps) c (find ns t) st).to
      new (Known i k) all =
          let d : Copying = noted c (find ns t).idx (Known i k) in
          let b : CopiedAll = copy_all (copy_f f ns ps) d k.kids in
          placed_filled b.to (length c.dest.nodes) (Known i (record { head = k.head; kids = b.types })) (all d k.kids (placed_noted c (find ns t).idx (Known i k) p))
      new (Unknown q) all = placed_noted c (find ns t).idx (Unknown q) p
      new InferenceFailed all = placed_noted c (find ns t).idx InferenceFailed p

      go : (n : ℕ) (u : Replaced) → ((d : Copying) (ts : List Ty) → Placed d → Placed (copy_all (copy_f f ns ps) d ts).to)
          → Placed (copy_at (copy_f f ns ps) c (find ns t) (state_at ns t) u n).to
      go (suc n) u all = p
      go zero keep all = new (state_at ns t) all
      go zero missing_entry all = p
      go zero (entry x) all = p

  -- what is left of a list makes no fewer nodes and children than are made
  pub left_grows : (f : ℕ) {c₀ : Copying} {ts : List Ty} {c : Copying} {done rest : List Ty} → Left (copy_f f ns ps) c₀ ts c done rest
      → Grows c (copy_all (copy_f f ns ps) c₀ ts).to
  left_grows f {c = c} {rest = rest} l = subst (Grows c) l.to (grows_all (copy_f f ns ps) (copy_grows f) c rest)

-- with no parameter list a copy is a node of the destination

module _ (ns : List Node) (f : ℕ) (c : Copying) (t : Ty) where
  abbrev below : Copying → Ty → Copied
  below = copy_f f ns none

  new_inside : (st : State) → (copy_new below c (find ns t) st).type.idx < length (copy_new below c (find ns t) st).to.dest.nodes
  new_inside (Known i k) =
      let b : CopiedAll = copy_all below (noted c (find ns t).idx (Known i k)) k.kids in
      let p = (grows_all below (copy_grows ns none f) (noted c (find ns t).idx (Known i k)) k.kids).nodes in
      let q = length-append c.dest.nodes (Root (Unknown (span_of (Known i k))) 1 ∷ []) in
      let l = length-set b.to.dest.nodes (length c.dest.nodes) (Root (Known i (record { head = k.head; kids = b.types })) 1) in
      omega (arith, p, q, l)
  new_inside (Unknown s) = omega (arith, length-append c.dest.nodes (Root (Unknown s) 1 ∷ []))
  new_inside InferenceFailed = omega (arith, length-append c.dest.nodes (Root (Unknown NONE) 1 ∷ []))

  place_inside : (st : State) (m : ℕ) (u : Replaced) → m ≤ length c.dest.nodes → u ≡ keep
      → (copy_at below c (find ns t) st u m).type.idx < length (copy_at below c (find ns t) st u m).to.dest.nodes
  place_inside st (suc m) u h e = omega arith
  place_inside st zero keep h e = new_inside st
  place_inside st zero missing_entry h e = let z : ◌≡◌ {A = ℕ} 0 1 = cc in absurd (omega arith)
  place_inside st zero (entry x) h e = let z : ◌≡◌ {A = ℕ} 0 1 = cc in absurd (omega arith)

  pub copy_inside : Placed c → (copy_f (suc f) ns none c t).type.idx < length (copy_f (suc f) ns none c t).to.dest.nodes
  unfolding copy_f
  copy_inside p = place_inside (state_at ns t) (get_or c.table (find ns t).idx 0) (replaced none (state_at ns t)) (p (find ns t).idx) (replaced_none (state_at ns t))
