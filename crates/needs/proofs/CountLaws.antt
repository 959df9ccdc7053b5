-- One step of the walk, and what is left of a run of types: it gives what the whole run gives, and the sums stay as small as the marks allow.
-- Assumes nothing.
use mathlib.Core.Path.{◌≡◌, refl, ap, sym, ◌∙◌, subst}
use mathlib.Core.Bool.{Bool, true, false, not}
use mathlib.Core.Option.{Option, none, some}
use mathlib.Core.List.{List, ◌∷◌}
use Prim.Native.Nat.{ℕ, suc, ◌+◌, ◌-◌, ◌*◌, ◌≤◌, ◌<◌}
use native.Mathlib.Omega.{arith}
use lib.Dec.{eqb}
use lib.ListN.{length, get_or, set, drop, drop_of_length-le, replicate, length-replicate}
use borrow.Author.Tests.{eqb-true, eqb-false, not-true, not-false}
use Rattle.scope.specs.Limits.{MAX_NODES, MAX_CHILDREN}
use Rattle.scope.specs.Types.{Ty, ty, ty_of}
use Rattle.scope.specs.Nodes.{Node, at, state_of, state_at, find, kids_of}
use Rattle.scope.specs.Sound as sound
use Rattle.scope.specs.Needs.{count_all, count_f}
use Rattle.scope.proofs.NeedsWalk.{count_end, count_old, count_entry, count_missing, count_keep, Small, small_room, small_counted, small_all, small_count}
use Rattle.types.specs.declared.«Type».{«Type»}
use Rattle.layout.specs.Words.{slot_at, decode}
use Rattle.layout.specs.Meaning.{read_at, held_in, slot_means}
use Rattle.layout.specs.declared.Slot.{Slot}
use Rattle.needs.specs.declared.Needs.{Needs}
use Rattle.needs.specs.Roots.{Params}
use Rattle.std.specs.Prelude.{Some, None}
use Rattle.needs.specs.declared.Asks.{Asks}
use Rattle.needs.specs.declared.Asks.TheVariants as asks
use Rattle.needs.specs.Roots.{params_for, asks_of}
use Rattle.needs.specs.Sums.{walk_at, Readable, CountedIs, AllCounted}
use Rattle.needs.proofs.RootLaws.{kids_in, length_run, run_next, Told, read_told, narrow}

-- the sums with a Param that has no entry, and with a root more

abbrev pub lacking : Needs → Needs
lacking sum = record { missing = true; nodes = sum.nodes; children = sum.children }

abbrev pub with_root : Needs → ℕ → Needs
with_root sum m = record { missing = sum.missing; nodes = sum.nodes + 1; children = sum.children + m }

-- some list of which the walk is told this
abbrev any_list : Params → Option (List Ty)
any_list None = none
any_list (Some m) = some (replicate m (ty false 0))

any_told : (p : Params) → p ≡ params_for (any_list p)
any_told None = refl
any_told (Some m) = ap Some (sym (length-replicate {A = Ty} m (ty false 0)))

module _ {ws ks : List ℕ} {n : ℕ} (src : Readable ws ks n) where
  source_narrow : (r : ℕ) → length (kids_of (state_of (at (decode ws ks n) r))) ≤ MAX_CHILDREN
  source_narrow r = omega (arith, narrow src.clean r, src.few)

  -- sums stay small
  pub counted_small : {p : Params} {ms ms' : List ℕ} {sum r : Needs} {t : «Type»} {depth : ℕ} → CountedIs ws ks n p ms sum t depth ms' r
      → Small MAX_CHILDREN (walk_at ms sum) → Small MAX_CHILDREN (walk_at ms' r)
  counted_small {p} {ms = ms} {sum = sum} {t = t} {depth = depth} o s =
      rw (o.is (any_list p) (any_told p)) (small_count MAX_CHILDREN (decode ws ks n) (any_list p) source_narrow depth (walk_at ms sum) (ty_of t.0) s)

  pub all_small : {p : Params} {ms ms' : List ℕ} {sum r : Needs} {us : List Ty} → AllCounted ws ks n p ms sum us ms' r
      → Small MAX_CHILDREN (walk_at ms sum) → Small MAX_CHILDREN (walk_at ms' r)
  all_small {p} {ms = ms} {sum = sum} {us = us} o s =
      rw (o.is (any_list p) (any_told p))
      (small_all (count_f n (decode ws ks n) (any_list p)) (small_count MAX_CHILDREN (decode ws ks n) (any_list p) source_narrow n) (walk_at ms sum) us s)

-- what is left of a list, from j on, gives what the whole list gives
pub record Turn (ws ks : List ℕ) (n : ℕ) (p : Params) (depth : ℕ) (us : List Ty) (ms₀ : List ℕ) (sum₀ : Needs) (ms : List ℕ) (sum : Needs) (j : ℕ) : Type 0 where
  pub left : (ps : Option (List Ty)) → p ≡ params_for ps
      → count_all (count_f depth (decode ws ks n) ps) (walk_at ms sum) (drop j us) ≡ count_all (count_f depth (decode ws ks n) ps) (walk_at ms₀ sum₀) us
  pub small : Small MAX_CHILDREN (walk_at ms sum)
  pub long : length ms ≡ length ms₀

pub turn_start : {ws ks ms : List ℕ} {n depth : ℕ} {p : Params} {us : List Ty} {sum : Needs} → Small MAX_CHILDREN (walk_at ms sum)
    → Turn ws ks n p depth us ms sum ms sum 0
turn_start s = record { left = λ ps o. refl; small = s; long = refl }

module _ {ws ks ms₀ ms : List ℕ} {n depth j : ℕ} {p : Params} {us : List Ty} {sum₀ sum : Needs} (c : Turn ws ks n p depth us ms₀ sum₀ ms sum j) where
  pub turn_next : {ms' : List ℕ} {r : Needs} {t : «Type»} → Readable ws ks n → drop j us ≡ ty_of t.0 ∷ drop (j + 1) us
      → CountedIs ws ks n p ms sum t depth ms' r → length ms' ≡ length ms → Turn ws ks n p depth us ms₀ sum₀ ms' r (j + 1)
  turn_next src e w l = record {
    left = λ ps o.
        let g = count_f depth (decode ws ks n) ps in
        rw (w.is ps o) (sym (ap (count_all g (walk_at ms sum)) e) ∙ c.left ps o);
    small = counted_small src w c.small;
    long = l ∙ c.long;
  }

  pub turn_end : length us ≤ j → (ps : Option (List Ty)) → p ≡ params_for ps
      → walk_at ms sum ≡ count_all (count_f depth (decode ws ks n) ps) (walk_at ms₀ sum₀) us
  turn_end h ps o = sym (ap (count_all (count_f depth (decode ws ks n) ps) (walk_at ms sum)) (drop_of_length-le us {i = j} h)) ∙ c.left ps o

-- child j of a run, and those after it
pub kid_next : (ks : List ℕ) (first m j : ℕ) (s : Slot) → j < m → slot_means s ≡ slot_at ks (first + j)
    → drop j (kids_in ks first m) ≡ ty_of s.ty.0 ∷ drop (j + 1) (kids_in ks first m)
kid_next ks first m j s h e = run_next ks first m j h ∙ ap (λ (x : sound.Slot). ty_of x.type ∷ drop (j + 1) (kids_in ks first m)) (sym e)

-- no depth is left, or the root is counted

pub count_shallow : {ws ks ms : List ℕ} {n : ℕ} {p : Params} {sum : Needs} {t : «Type»} {depth : ℕ} → depth ≡ 0 → CountedIs ws ks n p ms sum t depth ms sum
count_shallow e = rw e (record { is = λ ps o. sym (count_end _ ps _ _) })

new_mark : (ms : List ℕ) (i : ℕ) {b : Bool} → b ≡ not (eqb (get_or ms i 1) 0) → b ≡ false → get_or ms i 1 ≡ 0
new_mark ms i m e = eqb-true (get_or ms i 1) 0 (not-false (eqb (get_or ms i 1) 0) (sym m ∙ e))

module _ (ws ks ms : List ℕ) (n : ℕ) (p : Params) (sum : Needs) (t : «Type») (depth i : ℕ) {b : Bool} (root : i ≡ (find (decode ws ks n) (ty_of t.0)).idx)
    (m : b ≡ not (eqb (get_or ms i 1) 0)) where
  abbrev ns : List Node
  ns = decode ws ks n

  pub count_met : b ≡ true → CountedIs ws ks n p ms sum t depth ms sum
  count_met e = record {
    is = λ ps o. sym (count_old ns ps depth _ (ty_of t.0) (λ z. eqb-false (get_or ms i 1) 0 (not-true (eqb (get_or ms i 1) 0) (sym m ∙ e)) (rw root z)));
  }

  -- a root that is not counted, by what it asks for
  module _ (src : Readable ws ks n) (e : b ≡ false) {a : Asks} (r : a ≡ asks_of p (held_in (read_at ws n i))) where
    new : get_or ms (find ns (ty_of t.0)).idx 1 ≡ 0
    new = rw (← root) (new_mark ms i m e)

    told : {q : Asks} (ps : Option (List Ty)) → p ≡ params_for ps → a ≡ q → Told ps ks (state_at ns (ty_of t.0)) q
    told {q} ps o s = subst (λ (j : ℕ). Told ps ks (state_of (at ns j)) q) root (read_told src.clean i ps o r s)

    pub count_replaced : a ≡ asks.Replaced → CountedIs ws ks n p ms sum t depth ms sum
    count_replaced s = record { is = λ ps o. let u = told ps o s in sym (count_entry ns ps depth _ (ty_of t.0) u.0 u.1) }

    pub count_lacking : (depth ≡ 0 → ⊥) → a ≡ asks.Missing → CountedIs ws ks n p ms sum t depth ms (lacking sum)
    count_lacking h s = record {
      is = λ ps o.
          let d : depth ≡ suc (depth - 1) = omega arith in
          rw d (sym (count_missing ns ps (depth - 1) (walk_at ms sum) (ty_of t.0) new (told ps o s)));
    }

    module _ {first kids : ℕ} (s : a ≡ asks.Node first kids) where
      kids_are : kids_of (state_at ns (ty_of t.0)) ≡ kids_in ks first kids
      kids_are = (told (any_list p) (any_told p) s).1

      kids_count : length (kids_of (state_at ns (ty_of t.0))) ≡ kids
      kids_count = ap length kids_are ∙ length_run ks first kids

      node_small : Small MAX_CHILDREN (walk_at ms sum) → Small MAX_CHILDREN (walk_at (set ms i 1) (with_root sum kids))
      node_small z =
          rw (root, ← kids_count) (small_counted z (find ns (ty_of t.0)).idx (state_at ns (ty_of t.0)) new (source_narrow src (find ns (ty_of t.0)).idx))

      -- the sums fit
      pub node_fits : length ms ≤ MAX_NODES → Small MAX_CHILDREN (walk_at ms sum) → (sum.nodes < MAX_NODES) × (sum.children + kids ≤ MAX_NODES * MAX_CHILDREN)
      node_fits l z =
          let h : sum.nodes < length ms = small_room z i (new_mark ms i m e) in
          let d = (node_small z).children in
          let f : (sum.nodes + 1) * MAX_CHILDREN ≤ MAX_NODES * MAX_CHILDREN = omega arith in
          (omega arith, omega (arith, d, f))

      -- its children, from the first to the last
      module _ {ms₀ : List ℕ} (w : ms₀ ≡ set ms i 1) where
        pub node_turn : Small MAX_CHILDREN (walk_at ms sum) → Turn ws ks n p (depth - 1) (kids_in ks first kids) ms₀ (with_root sum kids) ms₀ (with_root sum kids) 0
        node_turn z = turn_start (rw w (node_small z))

        pub count_node : (depth ≡ 0 → ⊥) → {ms' : List ℕ} {r : Needs} {j : ℕ} → Turn ws ks n p (depth - 1) (kids_in ks first kids) ms₀ (with_root sum kids) ms' r j → kids ≤ j
            → CountedIs ws ks n p ms sum t depth ms' r
        count_node h o l = record {
          is = λ ps q.
              let d : depth ≡ suc (depth - 1) = omega arith in
              turn_end o (rw (length_run ks first kids) l) ps q ∙ rw (w, root, ← kids_are, ← kids_count)
              (sym (ap (λ (f : ℕ). count_f f ns ps (walk_at ms sum) (ty_of t.0)) d
              ∙ count_keep ns ps (depth - 1) (walk_at ms sum) (ty_of t.0) new (told ps q s).0));
        }
