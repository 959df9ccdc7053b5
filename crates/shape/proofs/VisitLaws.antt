-- The ways out of `visit`, and the turns of its loop. A visit that fails came back to an open node, and each open node lies on the way to the next: if
-- walks from nodes open before are longer than d nodes, then so are those from v, by one node less at a time.
-- Assumes nothing.
use mathlib.Core.Path.{◌≡◌, refl, ap, sym, ◌∙◌}
use mathlib.Core.Bool.{Bool, true, false, false≢true}
use mathlib.Core.List.{List}
use Prim.Native.Nat.{ℕ, zero, suc, ◌+◌, ◌-◌, ◌≤◌, ◌<◌}
use native.Mathlib.Decide.{ℕ_discrete}
use native.Mathlib.Omega.{arith}
use lib.ListN.{length, get_or, set, length-set, replicate}
use lib.Seq.{get_or-set_same, get_or-set_other}
use Rattle.scope.specs.Limits.{MAX_NODES}
use Rattle.types.specs.declared.Inverted.{Inverted}
use Rattle.layout.specs.Meaning.{read_at, held_in}
use Rattle.layout.specs.declared.Kind.{Kind}
use Rattle.layout.specs.Meaning.{Held}
use Rattle.std.specs.Prelude.{Some, None}
use Rattle.shape.specs.Walks.{Graph, ends, InRun, Closed}
use Rattle.shape.specs.Read.{count_of, kids, kid_at, root_of}
use Rattle.shape.specs.declared.Mark.{Mark}
use Rattle.shape.specs.declared.Mark.TheVariants as mark
use Rattle.shape.specs.Asks.{is_fresh, is_done, Open, TrueMarks, fresh, Falls, Visits, Visited}
use Rattle.shape.proofs.Lists.{count_more}
use Rattle.shape.proofs.Walks.{ends_none, ends_more, ends_not, ends_before}
use Rattle.shape.proofs.Tables.{blank, blank_long, stored_by}
use Rattle.std.proofs.lemmas.Bool.{false_from_ne_true}

module _ (g : Graph) (n : ℕ) where
  marked_none : TrueMarks g n (replicate MAX_NODES mark.Fresh)
  marked_none = record { long = blank_long mark.Fresh; done = λ v e. absurd (false≢true (ap is_done (sym (blank mark.Fresh MAX_NODES v) ∙ e))) }

  marked_set : {marks : List Mark} (v : ℕ) (m : Mark) → v < MAX_NODES → TrueMarks g n marks → (m ≡ mark.Done → ends g n v ≡ true) → TrueMarks g n (set marks v m)
  marked_set {marks} v m l a f = record {
    long = length-set marks v m ∙ a.long;
    done = stored_by mark.Fresh (λ u x. x ≡ mark.Done → ends g n u ≡ true) marks v m (omega (arith, a.long)) f (λ u z. a.done u);
  }

  -- What holds while the places of v's run are gone through: those before i are passed, and no node is open that was not
  pub record Passed (v i : ℕ) (marks₁ marks : List Mark) : Type 0 where
    pub low : g.first v ≤ i
    pub marked : TrueMarks g n marks
    pub ended : (j : ℕ) → g.first v ≤ j → j < i → ends g n (g.to j) ≡ true
    pub stay : (u : ℕ) → is_fresh (get_or marks₁ u mark.Fresh) ≡ false → is_fresh (get_or marks u mark.Fresh) ≡ false
    pub shut : (u : ℕ) → Open marks u → Open marks₁ u

  pub passed_none : {v : ℕ} {marks : List Mark} → v < MAX_NODES → TrueMarks g n marks → Passed v (g.first v) (set marks v mark.Open) (set marks v mark.Open)
  passed_none {v} l a = record {
    low = omega arith;
    marked = marked_set v mark.Open l a (λ e. absurd (false≢true (ap is_done e)));
    ended = λ j k q. absurd (omega arith);
    stay = λ u k. k;
    shut = λ u o. o;
  }

  -- a walk with one node less is too long all the more
  ends_less : (d u : ℕ) → ends g (suc d) u ≡ false → ends g d u ≡ false
  ends_less d u e = false_from_ne_true (ends g d u) (λ t. false≢true (sym e ∙ ends_more g d u t))

  -- since v was marked open, with marks before
  module _ {v i : ℕ} {before marks : List Mark} (b : TrueMarks g n before) (small : v < MAX_NODES) (a : Passed v i (set before v mark.Open) marks) where
    m : v < length before
    m = omega (arith, b.long)

    -- but for v, what is open now was open before
    open_before : (u : ℕ) → (u ≡ v → ⊥) → Open marks u → Open before u
    open_before u z o = sym (get_or-set_other before v u mark.Open mark.Fresh z) ∙ a.shut u o

    stay_before : (u : ℕ) → is_fresh (get_or before u mark.Fresh) ≡ false → is_fresh (get_or marks u mark.Fresh) ≡ false
    stay_before u k =
        a.stay u (stored_by mark.Fresh (λ y x. is_fresh (get_or before y mark.Fresh) ≡ false → is_fresh x ≡ false) before v mark.Open m (λ _. refl) (λ y z q. q) u k)

    stay_here : is_fresh (get_or marks v mark.Fresh) ≡ false
    stay_here = a.stay v (ap is_fresh (get_or-set_same before v mark.Open mark.Fresh m))

    module _ (k : ℕ) (l : InRun g v i) (e : k ≡ g.to i) (f : (d : ℕ) → ((u : ℕ) → Open marks u → ends g d u ≡ false) → ends g d k ≡ false) where
      opened : (d : ℕ) → ends g d v ≡ false → ((u : ℕ) → Open before u → ends g d u ≡ false) → (u : ℕ) → Open marks u → ends g d u ≡ false
      opened d x h u o = go (ℕ_discrete u v)
        where
          go : Dec (u ≡ v) → ends g d u ≡ false
          go (yes z) = rw z x
          go (no z) = h u (open_before u z o)

      comes_back : (d : ℕ) → ((u : ℕ) → Open before u → ends g d u ≡ false) → ends g d v ≡ false
      comes_back zero h = ends_none g v
      comes_back (suc d) h =
          let h' : (u : ℕ) → Open before u → ends g d u ≡ false = λ u o. ends_less d u (h u o) in
          ends_not g d v i l (rw (← e) (f d (opened d (comes_back d h') h')))

    pub visit_failed : {k : ℕ} {marks' : List Mark} {r : Bool} → InRun g v i → k ≡ g.to i → r ≡ false → Visited g n k marks marks' r → Visited g n v before marks' false
    visit_failed {k} l e z w = record {
      marked = w.marked;
      stay = λ u h. w.stay u (stay_before u h);
      shut = λ q. absurd (false≢true q);
      passed = λ q. absurd (false≢true q);
      failed = λ _. comes_back k l e (w.failed z);
    }

    pub visit_passed : Closed g n → v < n → g.first v + g.deg v ≤ i → Visited g n v before (set marks v mark.Done) true
    visit_passed c l h =
        let t : ends g n v ≡ true = ends_before g n c v l (λ j r. a.ended j r.from (omega (arith, r.below))) in
        let k : v < length marks = omega (arith, a.marked.long) in
        record {
          marked = marked_set v mark.Done small a.marked (λ _. t);
          stay = stored_by mark.Fresh (λ u x. is_fresh (get_or before u mark.Fresh) ≡ false → is_fresh x ≡ false) marks v mark.Done k (λ _. refl) (λ u z. stay_before u);
          shut = λ _ u o. stored_by mark.Fresh (λ y x. x ≡ mark.Open → Open before y) marks v mark.Done k (λ q. absurd (false≢true (sym (ap is_done q)))) open_before u o;
          passed = λ _. t;
          failed = λ q. absurd (false≢true (sym q));
        }

    fresh_grows : (u : ℕ) → is_fresh (get_or marks u mark.Fresh) ≡ true → is_fresh (get_or before u mark.Fresh) ≡ true
    fresh_grows u t = go (is_fresh (get_or before u mark.Fresh)) refl
      where
        go : (b : Bool) → is_fresh (get_or before u mark.Fresh) ≡ b → is_fresh (get_or before u mark.Fresh) ≡ true
        go true e = e
        go false e = absurd (false≢true (sym (stay_before u e) ∙ t))

    -- a visit below has fewer nodes to come to
    pub fresh_less : v < n → get_or before v mark.Fresh ≡ mark.Fresh → fresh n marks < fresh n before
    fresh_less l e =
        count_more (λ u. is_fresh (get_or marks u mark.Fresh)) (λ u. is_fresh (get_or before u mark.Fresh)) fresh_grows 0 n v (omega arith) (omega arith) stay_here
        (ap is_fresh e)

  -- falls_ok: the walks from the first v nodes end, and no node is open
  pub record Tried (v : ℕ) (marks : List Mark) : Type 0 where
    pub marked : TrueMarks g n marks
    pub ended : (u : ℕ) → u < v → ends g n u ≡ true
    pub shut : (u : ℕ) → Open marks u → ⊥

  pub visits_none : Tried 0 (replicate MAX_NODES mark.Fresh)
  visits_none = record {
    marked = marked_none;
    ended = λ u l. absurd (omega arith);
    shut = λ u o. false≢true (sym (ap is_fresh (sym (blank mark.Fresh MAX_NODES u) ∙ o)));
  }

  pub visits_not : {v : ℕ} {marks marks' : List Mark} {r : Bool} → Tried v marks → r ≡ false → Visited g n v marks marks' r → ends g n v ≡ false
  visits_not a t w = w.failed t n (λ u o. absurd (a.shut u o))

  -- kids_done: the walks on from the places a to i end, if ok says so
  pub record Ended (a i : ℕ) (ok : Bool) : Type 0 where
    pub low : a ≤ i
    pub each : ok ≡ true → (j : ℕ) → a ≤ j → j < i → ends g n (g.to j) ≡ true

  pub ended_none : (a : ℕ) (ok : Bool) → Ended a a ok
  ended_none a ok = record { low = omega arith; each = λ _ j k q. absurd (omega arith) }

  pub ended_all : {v i : ℕ} {ok : Bool} → Closed g n → v < n → Ended (g.first v) i ok → g.first v + g.deg v ≤ i → ok ≡ true → ends g n v ≡ true
  ended_all {v} c l w h t = ends_before g n c v l (λ j r. w.each t j r.from (omega (arith, r.below)))

-- the root of a child is a node
pub kids_closed : {ws ks roots : List ℕ} {n : ℕ} → Falls ws ks n roots → Closed (kids ws ks n roots) n
kids_closed {ks = ks} a = record { inside = λ v i l r. a.rooted.below (kid_at ks i) (a.below v i l r) }

-- v is a node
module _ {ws ks roots : List ℕ} {n v : ℕ} (a : Falls ws ks n roots) (node : v < n) where
  -- v holds the kind k: what the code reads of its run
  module _ {r : Held} {j : Inverted} {k : Kind} (e : r ≡ held_in (read_at ws n v)) (q : r ≡ Some (j, k)) where
    pub in_run : {i : ℕ} → (kids ws ks n roots).first v ≤ i → i < k.first + k.count → InRun (kids ws ks n roots) v i
    in_run w l = record { from = w; below = rw (sym e ∙ q) l }

    pub run_done : {i : ℕ} → k.first + k.count ≤ i → (kids ws ks n roots).first v + (kids ws ks n roots).deg v ≤ i
    run_done l = rw (sym e ∙ q) l

    pub in_kind : {i : ℕ} → k.first ≤ i → i < k.first + k.count → InRun (kids ws ks n roots) v i
    in_kind w l = in_run (rw (sym e ∙ q) w) l

    pub run_ended : {i : ℕ} {ok : Bool} → Ended (kids ws ks n roots) n k.first i ok → k.first + k.count ≤ i → ok ≡ true → ends (kids ws ks n roots) n v ≡ true
    run_ended w l = ended_all (kids ws ks n roots) n (kids_closed a) node (rw (sym e ∙ q) w) (run_done l)

  -- v holds no kind: it has no place to go through
  pub ended_bare : {r : Held} → r ≡ held_in (read_at ws n v) → r ≡ None → ends (kids ws ks n roots) n v ≡ true
  ended_bare e q =
      let g : Graph = kids ws ks n roots in
      let d : g.deg v ≡ 0 = ap count_of (sym e ∙ q) in
      ended_all g n (kids_closed a) node (ended_none g n (g.first v) true) (omega arith) refl

  pub kid_known : {i k : ℕ} → InRun (kids ws ks n roots) v i → k ≡ kid_at ks i → (k < MAX_NODES) × (0 < get_or roots k 0)
  kid_known {i} r e =
      let l = a.below v i node r in
      rw e (omega (arith, a.rooted.few), a.rooted.known (kid_at ks i) l)

  -- where the code has read one more than a child's root: it lies before v, or it has a mark
  module _ {i k m : ℕ} (r : InRun (kids ws ks n roots) v i) (e : k ≡ kid_at ks i) (f : m ≡ get_or roots k 0) where
    pub kid_root : (kids ws ks n roots).to i ≡ m - 1
    kid_root =
        let up = f ∙ ap (λ (j : ℕ). get_or roots j 0) e in
        omega (arith, up)

    pub root_marked : m - 1 < MAX_NODES
    root_marked = omega (arith, kid_root, (kids_closed a).inside v i node r, a.rooted.few)

module _ {ws ks roots : List ℕ} {n v : ℕ} {before : List Mark} (a : Visits ws ks n roots before v) where
  pub mark_small : v < MAX_NODES
  mark_small = omega (arith, a.node, a.falls.rooted.few)

  -- v holds no kind: it has no run to go through
  pub visit_bare : {r : Held} → r ≡ held_in (read_at ws n v) → r ≡ None
      → Visited (kids ws ks n roots) n v before (set (set before v mark.Open) v mark.Done) true
  visit_bare e q =
      let g : Graph = kids ws ks n roots in
      let d : g.deg v ≡ 0 = ap count_of (sym e ∙ q) in
      visit_passed g n a.marked mark_small (passed_none g n mark_small a.marked) (kids_closed a.falls) a.node (omega arith)

  pub visits_on : {i k : ℕ} {marks₁ marks : List Mark} → Passed (kids ws ks n roots) n v i marks₁ marks → InRun (kids ws ks n roots) v i
      → k ≡ root_of roots (kid_at ks i) → Visits ws ks n roots marks k
  visits_on {i} w r e = record { falls = a.falls; marked = w.marked; node = rw e ((kids_closed a.falls).inside v i a.node r) }
