-- A list of types copied one after the other: what is left of it gives what the whole list gives, and the copies so far stand at the front of the answer's
-- list. A remembered type is a list of one or none, and its copy is a node of the destination. Assumes nothing.
use mathlib.Core.Path.{◌≡◌, refl, ap, sym, ◌∙◌, subst}
use mathlib.Core.Bool.{true}
use mathlib.Core.Option.{Option, none, some}
use mathlib.Core.List.Memᴰ
use mathlib.Core.List.{List, [], ◌∷◌, ◌++◌, map, map-append}
use Prim.Native.Nat.{ℕ, suc, ◌+◌, ◌-◌, ◌≤◌, ◌<◌}
use native.Mathlib.Omega.{arith}
use native.Mathlib.Numerals.{add-one}
use lib.ListN.{length, set, take, drop, drop_of_length-le, length-set}
use lib.Seq.{take-suc-set, drop-set-lt, drop-drop}
use borrow.Author.Tests.{ne_eqb}
use Rattle.scope.specs.Limits.{MAX_NODES, NONE}
use Rattle.scope.specs.Types.{Ty, ty_of}
use Rattle.scope.specs.Needs.{listed}
use Rattle.scope.proofs.CopyTable.{Copying, Copied, CopiedAll, copy_all, copy_f}
use Rattle.scope.proofs.CopyTableLaws.{Left, left_next, left_end, left_grows, Placed, copy_placed, copy_inside}
use Rattle.types.specs.declared.«Type».{«Type»}
use Rattle.layout.specs.Words.{decode}
use Rattle.layout.specs.Meaning.{remembered_means, remembered_fits, Clean}
use Rattle.layout.specs.Meaning.{Remembered}
use Rattle.std.specs.Prelude.{Some, None}
use Rattle.store.specs.Holds.{Room}
use Rattle.copy_type.specs.Words.{copying_at, Spared, Copyable, CopiedIs}
use Rattle.copy_type.proofs.SparedLaws.{spared_refl, spared_trans, spared_less}
use Rattle.copy_type.proofs.FillLaws.{Long, room_less}
use Rattle.copy_lists.specs.Lists.{AllCopyable, AllCopied, RememberedCopied}

-- the copies of the first i types of us stand at the front of the list
pub record Listing (sw sk : List ℕ) (n : ℕ) (ps : Option (List Ty)) (us : List Ty) (table₀ h₀ ws₀ ks₀ out₀ table h ws ks out : List ℕ) (i : ℕ) : Type 0 where
  pub left : Left (copy_f n (decode sw sk n) ps) (copying_at h₀ ws₀ ks₀ table₀) us (copying_at h ws ks table) (map ty_of (take i out)) (drop i us)
  pub room : Room (copy_all (copy_f n (decode sw sk n) ps) (copying_at h₀ ws₀ ks₀ table₀) us).to.dest 0 0
  pub placed : Placed (copying_at h ws ks table)
  pub spared : Spared 0 h₀ ws₀ ks₀ h ws ks
  pub rest : drop i out ≡ drop i out₀
  pub few : i ≤ length us
  pub long : Long table₀ h₀ ws₀ ks₀ table h ws ks
  pub wide : length out ≡ length out₀

module _ {sw sk : List ℕ} {n : ℕ} {ps : Option (List Ty)} {us : List Ty} {table₀ h₀ ws₀ ks₀ out₀ table h ws ks out : List ℕ} {i : ℕ}
    (o : Listing sw sk n ps us table₀ h₀ ws₀ ks₀ out₀ table h ws ks out i) where
  abbrev g : Copying → Ty → Copied
  g = copy_f n (decode sw sk n) ps

  abbrev c : Copying
  c = copying_at h ws ks table

  -- all are copied
  pub listing_end : (m : ℕ) → length us ≡ m → m ≤ i → AllCopied (copy_all g (copying_at h₀ ws₀ ks₀ table₀) us) m h₀ ws₀ ks₀ h ws ks table out₀ out
  listing_end m e l =
      let q : i ≡ m = omega (arith, o.few) in
      let d : drop i us ≡ [] = drop_of_length-le us {i = i} (omega (arith, o.few)) in
      let z = left_end (subst (λ (x : List Ty). Left g (copying_at h₀ ws₀ ks₀ table₀) us c (map ty_of (take i out)) x) d o.left) in
      record { types = rw (← q) z.1; rest = rw (← q) o.rest; to = z.0; spared = o.spared }

  -- the next type
  module _ (t : «Type») (here : drop i us ≡ ty_of t.0 ∷ drop (i + 1) us) where
    next : Left g (copying_at h₀ ws₀ ks₀ table₀) us (g c (ty_of t.0)).to (map ty_of (take i out) ++ ((g c (ty_of t.0)).type ∷ [])) (drop (i + 1) us)
    next = left_next (subst (λ (l : List Ty). Left g (copying_at h₀ ws₀ ks₀ table₀) us c (map ty_of (take i out)) l) here o.left)

    pub listing_copyable : {m : ℕ} → Clean sw sk m n → Copyable sw sk n ps n h ws ks table t
    listing_copyable {m} cl = record {
      made = m;
      source = cl;
      clean = o.spared.clean;
      placed = o.placed;
      room = room_less (left_grows (decode sw sk n) ps n next) o.room;
    }

    module _ {table' h' ws' ks' : List ℕ} {r : «Type»} (d : CopiedIs (g c (ty_of t.0)) h ws ks h' ws' ks' table' r) (more : i < length us)
        (space : i < length out) where
      types_next : map ty_of (take (i + 1) (set out i r.0)) ≡ map ty_of (take i out) ++ ((g c (ty_of t.0)).type ∷ [])
      types_next =
          rw (add-one i) (ap (map ty_of) (take-suc-set out i r.0 space))
          ∙ (map-append ty_of (take i out) (r.0 ∷ []) ∙ ap (λ (u : Ty). map ty_of (take i out) ++ (u ∷ [])) d.type)

      pub listing_next : Long table h ws ks table' h' ws' ks' → Listing sw sk n ps us table₀ h₀ ws₀ ks₀ out₀ table' h' ws' ks' (set out i r.0) (i + 1)
      listing_next len = record {
        left = rw (d.to, types_next) next;
        room = o.room;
        placed = subst Placed (sym d.to) (copy_placed (decode sw sk n) ps n c (ty_of t.0) o.placed);
        spared = spared_trans o.spared (spared_less (omega arith) d.spared);
        rest =
            drop-set-lt (i + 1) out i r.0 (omega arith)
            ∙ (sym (drop-drop 1 i out) ∙ (ap (drop 1) o.rest ∙ drop-drop 1 i out₀));
        few = omega arith;
        long = record {
          tables = len.tables ∙ o.long.tables;
          heads = len.heads ∙ o.long.heads;
          nodes = len.nodes ∙ o.long.nodes;
          kids = len.kids ∙ o.long.kids;
        };
        wide = length-set out i r.0 ∙ o.wide;
      }

-- a node of the destination may be remembered
inside_fits : (r : «Type») → (ty_of r.0).idx < MAX_NODES → remembered_fits (Some r) ≡ true
unfolding ty_of
inside_fits r l = rw (ne_eqb r.0 NONE (λ e. omega (arith, e))) refl

module _ {sw sk h ws ks table : List ℕ} {n : ℕ} (was : Remembered) (p : AllCopyable sw sk n none h ws ks table (listed (remembered_means was))) where
  abbrev from : CopiedAll
  from = copy_all (copy_f n (decode sw sk n) none) (copying_at h ws ks table) (listed (remembered_means was))

  pub remembered_none : was ≡ None → RememberedCopied from h ws ks h ws ks table None
  unfolding copy_all
  remembered_none e = rw e (record { type = refl; fits = refl; to = refl; spared = spared_refl h ws ks p.clean })

  module _ {t : «Type»} (e : was ≡ Some t) where
    one : AllCopyable sw sk n none h ws ks table (ty_of t.0 ∷ [])
    one = rw e at p

    pub remembered_copyable : Copyable sw sk n none n h ws ks table t
    unfolding copy_all
    remembered_copyable = record { made = p.made; source = p.source; clean = p.clean; placed = p.placed; room = one.room }

    pub remembered_one : {h' ws' ks' table' : List ℕ} {r : «Type»} → CopiedIs (copy_f n (decode sw sk n) none (copying_at h ws ks table) (ty_of t.0)) h ws ks h' ws' ks' table' r
        → RememberedCopied from h ws ks h' ws' ks' table' (Some r)
    unfolding copy_all
    remembered_one {r = r} d =
        let c : Copying = copying_at h ws ks table in
        let deep : n ≡ suc (n - 1) = omega (arith, one.given (ty_of t.0) (Memᴰ.head refl)) in
        let inside : (ty_of r.0).idx < length (copy_f n (decode sw sk n) none c (ty_of t.0)).to.dest.nodes =
        rw d.type (subst (λ (f : ℕ). (copy_f f (decode sw sk n) none c (ty_of t.0)).type.idx < length (copy_f f (decode sw sk n) none c (ty_of t.0)).to.dest.nodes)
        (sym deep) (copy_inside (decode sw sk n) (n - 1) c (ty_of t.0) p.placed)) in
        rw e (record {
          type = ap some d.type;
          fits = inside_fits r (omega (arith, inside, one.room.nodes, one.room.node_limit));
          to = d.to;
          spared = spared_less (omega arith) d.spared;
        })
