-- What a unify that remembers leaves of a memory: how far its clock goes, what it has noted and what it has spent, from one state of the nodes to the next. The clock
-- moves only where nodes change, and where it stands whatever was told is told. Assumes nothing.
use mathlib.Core.Path.{◌≡◌, refl, sym, ap, subst, ◌∙◌}
use mathlib.Core.List.{List, ◌∷◌, Memᴰ}
use mathlib.Core.Bool.{Bool, true, false, not}
use mathlib.Core.Option.{Option, none, some}
use mathlib.Core.Logic.{◌⊎◌, inl, inr}
use Prim.Native.Nat.{ℕ, zero, suc, ◌+◌, ◌*◌, ◌≤◌, ◌<◌}
use native.Mathlib.Nat.{mul-le-mul_left}
use native.Mathlib.Omega.{arith}
use native.Mathlib.Decide.{ℕ_discrete}
use borrow.Author.Tests.{eq-eqb}
use Rattle.scope.specs.Base.{pick, is_some}
use Rattle.scope.specs.Limits.{MAX_WIDTH}
use Rattle.scope.specs.Types.{Ty}
use Rattle.scope.specs.Nodes.{Node, find_mut}
use Rattle.scope.specs.Answers.{Answer, Success, Failure, Indeterminate}
use Rattle.scope.specs.Recall.{Note, Memory, visited_at, moved, changed, near, found, speaks, told, look, started, noting, noted, note, settled}
use Rattle.scope.specs.Visits.{pairs_of}
use Rattle.scope.proofs.TestLaws.{tf, and_both}
use Rattle.scope.proofs.Free.{memb, memb_rest}
use Rattle.scope.proofs.Paths.{Forest, near_stays}
use Rattle.scope.proofs.Changes.{changes_left, find_mut_fewer}
use Rattle.scope.proofs.Untold.{silent, untold, untold_most, untold_le, untold_lt}
use Rattle.scope.proofs.Recalls.{moved_away, told_found, found_told}

-- a clock that has not started has one move more
unfoldable pub waits : ℕ → ℕ
waits zero = 1
waits (suc c) = 0

-- the moves that the clock can still make
abbrev pub moves : Memory → List Node → ℕ
moves m ns = waits m.clock + changes_left ns

-- m' and ns' after m and ns
pub record Goes (m m' : Memory) (ns ns' : List Node) : Type 0 where
  pub on : m.clock ≤ m'.clock
  pub fewer : m'.clock + moves m' ns' ≤ m.clock + moves m ns
  pub kept : m'.clock ≡ m.clock → (a b : Ty) → silent m' a b ≡ true → silent m a b ≡ true

pub goes_same : {m : Memory} {ns : List Node} → Goes m m ns ns
goes_same = record { on = omega arith; fewer = omega arith; kept = λ e a b h. h }

pub goes_then : {m m₁ m₂ : Memory} {ns ns₁ ns₂ : List Node} → Goes m m₁ ns ns₁ → Goes m₁ m₂ ns₁ ns₂ → Goes m m₂ ns ns₂
goes_then {m} {m₁} {m₂} g h = record {
  on = omega (arith, g.on, h.on);
  fewer = omega (arith, g.fewer, h.fewer);
  kept = λ e a b s. g.kept (omega (arith, g.on, h.on, e)) a b (h.kept (omega (arith, g.on, h.on, e)) a b s);
}

-- the same notes
abbrev mem : ℕ → ℕ → List Note → ℕ → Memory
mem c l ts v = record { clock = c; left = l; notes = ts; visits = v }

pub goes_visited : (c l : ℕ) (ts : List Note) (v : ℕ) {ns : List Node} → Goes (mem c l ts v) (visited_at c l ts v) ns ns
unfolding waits
goes_visited zero zero ts v = record { on = omega arith; fewer = omega arith; kept = λ e. absurd (omega arith) }
goes_visited zero (suc l) ts v = record { on = omega arith; fewer = omega arith; kept = λ e a b h. h }
goes_visited (suc c) l ts v = record { on = omega arith; fewer = omega arith; kept = λ e a b h. h }

goes_moved : (c l : ℕ) (ts : List Note) (v : ℕ) {ns ns' : List Node} → changes_left ns' < changes_left ns → Goes (mem c l ts v) (mem (moved c) l ts v) ns ns'
unfolding waits
goes_moved zero l ts v h = record { on = omega arith; fewer = omega arith; kept = λ e a b s. s }
goes_moved (suc c) l ts v h = record { on = omega arith; fewer = omega arith; kept = λ e. absurd (omega arith) }

pub goes_changed : (m : Memory) {ns ns' : List Node} → changes_left ns' < changes_left ns → Goes m (changed m) ns ns'
goes_changed m h = goes_moved m.clock m.left m.notes m.visits h

pub goes_found : (m : Memory) {ns : List Node} → Forest ns → (t : Ty) → Goes m (found m ns t) ns (find_mut ns t)
goes_found m {ns} ok t = go (near ns t) refl
  where
    go : (v : Bool) → near ns t ≡ v → Goes m (pick v m (changed m)) ns (find_mut ns t)
    go true e = rw (near_stays ns t e) goes_same
    go false e = goes_changed m (find_mut_fewer ok t e)

pub goes_note : (m : Memory) (c : ℕ) (a b : Ty) (r : Answer) {ns : List Node} → Goes m (note m c a b r) ns ns
goes_note m c a b r {ns} = go (noting m.clock c)
  where
    new : Note
    new = record { first = a; second = b; when = m.clock; answer = r }

    still : (u v : Ty) (k : Bool) → not (is_some (pick k (some r) (look m u v))) ≡ true → silent m u v ≡ true
    still u v true h = tf (sym h)
    still u v false h = h

    go : (k : Bool) → Goes m (pick k (noted m a b r) m) ns ns
    go true = record { on = omega arith; fewer = omega arith; kept = λ e u v h. still u v (speaks m.clock u v new) h }
    go false = goes_same

-- the visits made, and those that are only counted
abbrev pub spent : Memory → ℕ
spent m = m.visits + m.left

pub visited_spent : (c l : ℕ) (ts : List Note) (v : ℕ) → spent (visited_at c l ts v) ≤ v + l + 1
visited_spent zero zero ts v = omega arith
visited_spent zero (suc l) ts v = omega arith
visited_spent (suc c) l ts v = omega arith

pub waiting_spent : (c l : ℕ) (ts : List Note) (v : ℕ) → (visited_at c l ts v).clock ≡ 0 → spent (visited_at c l ts v) ≤ v + l
waiting_spent zero zero ts v e = absurd (omega arith)
waiting_spent zero (suc l) ts v e = omega arith
waiting_spent (suc c) l ts v e = absurd (omega arith)

pub found_spent : (m : Memory) (ns : List Node) (t : Ty) → spent (found m ns t) ≡ spent m
found_spent m ns t = go (near ns t)
  where
    go : (v : Bool) → spent (pick v m (changed m)) ≡ spent m
    go true = refl
    go false = refl

note_spent : (m : Memory) (c : ℕ) (a b : Ty) (r : Answer) → spent (note m c a b r) ≡ spent m
note_spent m c a b r = go (noting m.clock c)
  where
    go : (v : Bool) → spent (pick v (noted m a b r) m) ≡ spent m
    go true = refl
    go false = refl

pub settled_spent : (m : Memory) (c : ℕ) (a b : Ty) (r : Answer) → spent (settled m c a b r) ≡ spent m
settled_spent m c a b Success = refl
settled_spent m c a b Failure = note_spent m c a b Failure
settled_spent m c a b Indeterminate = note_spent m c a b Indeterminate

-- what m' has noted after m: only of first roots that are not in ls
pub record New (ls : List ℕ) (m m' : Memory) : Type 0 where
  pub only : (t : Note) → Memᴰ t m'.notes → Memᴰ t m.notes ⊎ (memb t.first.idx ls ≡ false)

pub new_then : {ls : List ℕ} {m m₁ m₂ : Memory} → New ls m m₁ → New ls m₁ m₂ → New ls m m₂
new_then {ls} {m} {m₁} {m₂} g h = record { only = λ t i. go t (h.only t i) }
  where
    go : (t : Note) → Memᴰ t m₁.notes ⊎ (memb t.first.idx ls ≡ false) → Memᴰ t m.notes ⊎ (memb t.first.idx ls ≡ false)
    go t (inl j) = g.only t j
    go t (inr j) = inr j

pub new_refl : {ls : List ℕ} {m : Memory} → New ls m m
new_refl = record { only = λ t i. inl i }

pub found_notes : (m : Memory) (ns : List Node) (t : Ty) → (found m ns t).notes ≡ m.notes
found_notes m ns t = go (near ns t)
  where
    go : (v : Bool) → (pick v m (changed m)).notes ≡ m.notes
    go true = refl
    go false = refl

pub new_same : {ls : List ℕ} {m m' : Memory} → m'.notes ≡ m.notes → New ls m m'
new_same e = record { only = λ t i. inl (subst (Memᴰ t) e i) }

new_note : {ls : List ℕ} (m : Memory) (c : ℕ) (a b : Ty) (r : Answer) → memb a.idx ls ≡ false → New ls m (note m c a b r)
new_note {ls} m c a b r h = go (noting m.clock c)
  where
    new : Note
    new = record { first = a; second = b; when = m.clock; answer = r }

    of : (t : Note) → Memᴰ t (new ∷ m.notes) → Memᴰ t m.notes ⊎ (memb t.first.idx ls ≡ false)
    of t (Memᴰ.head q) = inr (subst (λ (u : Note). memb u.first.idx ls ≡ false) (sym q) h)
    of t (Memᴰ.tail i) = inl i

    go : (v : Bool) → New ls m (pick v (noted m a b r) m)
    go true = record { only = of }
    go false = new_refl

pub new_settled : {ls : List ℕ} (m : Memory) (c : ℕ) (a b : Ty) (r : Answer) → memb a.idx ls ≡ false → New ls m (settled m c a b r)
new_settled m c a b Success h = new_same refl
new_settled m c a b Failure h = new_note m c a b Failure h
new_settled m c a b Indeterminate h = new_note m c a b Indeterminate h

-- a chain that is shorter
pub new_rest : {ls : List ℕ} {m m' : Memory} (x : ℕ) → New (x ∷ ls) m m' → New ls m m'
new_rest {ls} {m} x w = record { only = λ t i. go t (w.only t i) }
  where
    go : (t : Note) → Memᴰ t m.notes ⊎ (memb t.first.idx (x ∷ ls) ≡ false) → Memᴰ t m.notes ⊎ (memb t.first.idx ls ≡ false)
    go t (inl i) = inl i
    go t (inr i) = inr (memb_rest t.first.idx x ls i)

-- a pair that was not told and is of a root in ls is not told after others are noted
pub new_silent : {ls : List ℕ} (m m' : Memory) (a b : Ty) → New ls m m' → m'.clock ≡ m.clock → memb a.idx ls ≡ true → look m a b ≡ none → silent m' a b ≡ true
new_silent {ls} m m' a b h e q s = go (look m' a b) refl
  where
    at : (t : Note) → t.when ≡ m'.clock → t.first ≡ a → t.second ≡ b → Memᴰ t m.notes ⊎ (memb t.first.idx ls ≡ false) → ⊥
    at t w x y (inl i) = found_told m.clock m.notes a b t i (w ∙ e) x y s
    at t w x y (inr i) = tf (sym q ∙ (ap (λ (u : Ty). memb u.idx ls) (sym x) ∙ i))

    go : (o : Option Answer) → look m' a b ≡ o → not (is_some o) ≡ true
    go none z = refl
    go (some r) z =
        let f = told_found m'.clock m'.notes a b r z in
        absurd (at f.note f.now f.first f.second (h.only f.note f.among))

started_on : (c : ℕ) → (c ≡ 0 → ⊥) → started c ≡ true
started_on zero h = absurd (h refl)
started_on (suc c) h = refl

-- after a pair is settled that was begun at the clock c: it is told, or the clock is no longer c, or it has not started
pub settled_told : (m : Memory) (c : ℕ) (a b : Ty) (r : Answer) → c ≤ m.clock → (settled m c a b r).clock ≡ c → (c ≡ 0) ⊎ (silent (settled m c a b r) a b ≡ false)
settled_told m c a b r le = go r
  where
    by : (r : Answer) → (note m c a b r).clock ≡ c → (c ≡ 0) ⊎ (silent (note m c a b r) a b ≡ false)
    by r = on (noting m.clock c) refl
      where
        new : Note
        new = record { first = a; second = b; when = m.clock; answer = r }

        here : (o : Option Answer) → told m.clock (new ∷ m.notes) a b ≡ o → not (is_some o) ≡ false
        here none z = absurd (found_told m.clock (new ∷ m.notes) a b new (Memᴰ.head refl) refl refl refl z)
        here (some v) z = refl

        off : (d : Dec (c ≡ 0)) → noting m.clock c ≡ false → m.clock ≡ c → (c ≡ 0) ⊎ (silent m a b ≡ false)
        off (yes z) q e = inl z
        off (no z) q e = tf (sym (and_both _ _ (eq-eqb m.clock c e) (started_on c z)) ∙ q)

        on : (v : Bool) → noting m.clock c ≡ v → (pick v (noted m a b r) m).clock ≡ c → (c ≡ 0) ⊎ (silent (pick v (noted m a b r) m) a b ≡ false)
        on true q e = inr (here (told m.clock (new ∷ m.notes) a b) refl)
        on false q e = off (ℕ_discrete c 0) q e

    go : (r : Answer) → (settled m c a b r).clock ≡ c → (c ≡ 0) ⊎ (silent (settled m c a b r) a b ≡ false)
    go Success e = inl (zero_by (ℕ_discrete c 0))
      where
        zero_by : Dec (c ≡ 0) → c ≡ 0
        zero_by (yes z) = z
        zero_by (no z) = absurd (omega (arith, moved_away m.clock (λ y. z (omega (arith, le, y))), le, e))
    go Failure e = by Failure e
    go Indeterminate e = by Indeterminate e

-- from one state to the next the clock can move less often, by one at least where it moved
module _ {m m' : Memory} {ns ns' : List Node} (g : Goes m m' ns ns') where
  pub moves_le : moves m' ns' ≤ moves m ns
  moves_le = omega (arith, g.fewer, g.on)

  pub moves_lt : (m'.clock ≡ m.clock → ⊥) → moves m' ns' < moves m ns
  moves_lt e = omega (arith, g.fewer, g.on, e)

module _ (n : ℕ) where
  -- what is left to do, where a change costs k
  abbrev pub room : ℕ → Memory → List Node → ℕ
  room k m ns = untold n m + k * moves m ns

  module _ {m m' : Memory} {ns ns' : List Node} (g : Goes m m' ns ns') (k : ℕ) where
    pub room_le : pairs_of n ≤ k → room k m' ns' ≤ room k m ns
    room_le h = go (ℕ_discrete m'.clock m.clock)
      where
        go : Dec (m'.clock ≡ m.clock) → room k m' ns' ≤ room k m ns
        go (yes e) = omega (arith, untold_le n m m' (g.kept e), mul-le-mul_left k (moves_le g))
        go (no e) = omega (arith, untold_most n m', h, mul-le-mul_left k (moves_lt g e))

    -- a pair is noted
    pub room_lt : m'.clock ≡ m.clock → (a b : Ty) → a.idx < n → b.idx < n → silent m a b ≡ true → silent m' a b ≡ false → room k m' ns' < room k m ns
    room_lt e a b ha hb s t = omega (arith, untold_lt n m m' (g.kept e) a b ha hb t s, mul-le-mul_left k (moves_le g))

  -- what is spent, and what is left to do at 255 visits each
  abbrev pub bill : ℕ → Memory → List Node → ℕ
  bill k m ns = spent m + MAX_WIDTH * room k m ns

  -- from m to m', with c visits asked for, at depth f below roots ls. Before the clock starts every visit is one of those that are only counted
  pub record Cheap (f c : ℕ) (ls : List ℕ) (m m' : Memory) (ns ns' : List Node) : Type 0 where
    pub goes : Goes m m' ns ns'
    pub new : New ls m m'
    pub waiting : m'.clock ≡ 0 → bill (pairs_of n + f) m' ns' ≤ bill (pairs_of n + f) m ns
    pub most : bill (pairs_of n + f) m' ns' ≤ c + bill (pairs_of n + f) m ns

  pub cheap_same : {f c : ℕ} {ls : List ℕ} {m : Memory} {ns : List Node} → Cheap f c ls m m ns ns
  cheap_same = record { goes = goes_same; new = new_refl; waiting = λ e. omega arith; most = omega arith }

  pub cheap_then : {f c d k : ℕ} {ls : List ℕ} {m m₁ m₂ : Memory} {ns ns₁ ns₂ : List Node} → c + d ≤ k → Cheap f c ls m m₁ ns ns₁ → Cheap f d ls m₁ m₂ ns₁ ns₂ → Cheap f k ls m m₂ ns ns₂
  cheap_then h x y = record {
    goes = goes_then x.goes y.goes;
    new = new_then x.new y.new;
    waiting = λ e. omega (arith, y.waiting e, x.waiting (omega (arith, y.goes.on, e)));
    most = omega (arith, x.most, y.most);
  }

  -- no visit below
  pub cheap_goes : {f : ℕ} {ls : List ℕ} {m m' : Memory} {ns ns' : List Node} → Goes m m' ns ns' → New ls m m' → spent m' ≡ spent m → Cheap f 0 ls m m' ns ns'
  cheap_goes {f} g w e =
      let h = room_le g (pairs_of n + f) (omega arith) in
      record { goes = g; new = w; waiting = λ z. omega (arith, e, h); most = omega (arith, e, h) }
