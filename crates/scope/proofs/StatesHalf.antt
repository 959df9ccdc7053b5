-- Demand 3's second half with named states. One invariant holds of the present state and of each held one: its ledger is behind it, which means that it was
-- reached, has as many nodes as the ledger says were made, and has joined each pair that got Success. Calls that stood keep it as they did; naming and
-- returning copy it; names are apart, so a held state's ledger is the one saved under its name. Assumes nothing.
use mathlib.Core.Path.{◌≡◌, refl, sym, ap, subst, ◌∙◌}
use mathlib.Core.List.Memᴰ
use mathlib.Core.List.{List, [], ◌∷◌, Memᴰ}
use mathlib.Core.Bool.{Bool, true, false}
use mathlib.Core.Option.{Option, none, some}
use mathlib.Core.Logic.{◌≢◌, ◌⊎◌, inl, inr}
use Prim.Native.Nat.{ℕ, ◌≤◌, ◌<◌}
use native.Mathlib.Omega.{arith}
use lib.ListN.{length, set}
use Rattle.scope.specs.Base.{pick, or_else, all}
use Rattle.scope.specs.Limits.{MAX_NODES, MAX_CHILDREN}
use Rattle.scope.specs.Names.{eq_bytes}
use Rattle.scope.specs.Chart.{Env, chart_ok}
use Rattle.scope.specs.Types.{Ty}
use Rattle.scope.specs.Nodes.{Store, opened}
use Rattle.scope.specs.Answers.{Answer, Success}
use Rattle.scope.specs.Force.{with_reports}
use Rattle.scope.specs.Sound.{reads}
use Rattle.scope.specs.Calls.{Outcome, unify_call}
use Rattle.scope.specs.States.{Named, Place, Book, is_free, under, place_where, holds_none, keep_reports, store_under}
use Rattle.scope.specs.Demand.{Call, given, next}
use Rattle.scope.specs.Demand as Demand
use Rattle.scope.specs.StatesDemand.{Naming, StateCall, call, naming, name, return_to, drop, reset, Desk, desk}
use Rattle.scope.specs.StatesDemand.{outcome_on, left, next_desk, after_desk, Pair, pair, answered, pairs_by, Ledger, entered}
use Rattle.scope.specs.StatesDemand.{Ledgers, no_ledger, saved_under, forgotten, turned_by, next_ledgers, after_ledgers, in_states_half, StatesHalfHolds}
use Rattle.scope.proofs.TestLaws.{tf, and_left, and_right}
use Rattle.scope.proofs.NameLaws.{eq_bytes_lem, eq_bytes_refl}
use Rattle.scope.proofs.View.{view}
use Rattle.scope.proofs.Grow.{Joined, joined_grow}
use Rattle.scope.proofs.Sizes.{sizes_length, shallow_twelve}
use Rattle.scope.proofs.Falls.{contains_never}
use Rattle.scope.proofs.SoundLaws.{SoundNodes}
use Rattle.scope.proofs.SoundKept.{reports_facts}
use Rattle.scope.proofs.Reached.{Reached, opened_reached, next_reached}
use Rattle.scope.proofs.GrowCalls.{next_moves, next_grow}
use Rattle.scope.proofs.Again.{success_won, joined_success}
use Rattle.scope.proofs.BookLaws.{HeldAt, name_cases, return_cases, drop_cases}
use Rattle.scope.proofs.PlaceLaws.{place_at, not_held, For, all_places, set_cases}

-- a pair is joined in a store
record Pairs (e : Env) (s : Store) (a b : Ty) : Type 0 where
  chart : chart_ok e ≡ true
  a_in : a.idx < length s.nodes
  b_in : b.idx < length s.nodes
  joined : Joined (view s.nodes) a b

-- a ledger is behind a state
record Behind (e : Env) (s : Store) (l : Ledger) : Type 0 where
  reached : Reached e s
  count : length s.nodes ≡ l.made
  pairs : (a b : Ty) → Memᴰ (pair a b Success) l.pairs → Pairs e s a b

-- a held state's ledger is saved under its name
record Saved (e : Env) (g : List (List ℕ × Ledger)) (h : Named) : Type 0 where
  ledger : Ledger
  is : saved_under h.name g ≡ some ledger
  behind : Behind e h.store ledger

record Stands (e : Env) (d : Desk) (g : Ledgers) : Type 0 where
  present : Behind e d.store g.present
  held : (i : ℕ) (h : Named) → place_at d.book.places i ≡ some h → Saved e g.saved h

-- what is behind a state does not see the report count
behind_reports : {e : Env} {s : Store} {l : Ledger} (n : ℕ) → Behind e s l → Behind e (with_reports s n) l
behind_reports {e} n b = record {
  reached = record { facts = reports_facts e b.reached.facts; shallow = b.reached.shallow };
  count = b.count;
  pairs = λ x y m. let p = b.pairs x y m in record { chart = p.chart; a_in = p.a_in; b_in = p.b_in; joined = p.joined };
}

-- a call that stood
module _ (e : Env) (s : Store) (l : Ledger) (b : Behind e s l) (c : Call) where
  old_pairs : (x y : Ty) → Memᴰ (pair x y Success) l.pairs → Pairs e (next e s c) x y
  old_pairs x y m =
      let p = b.pairs x y m in
      let len = (next_moves e s c b.reached).len in
      record {
        chart = p.chart;
        a_in = omega (arith, p.a_in, len);
        b_in = omega (arith, p.b_in, len);
        joined = joined_grow b.reached.facts.nodes.good (next_grow e s c b.reached) p.joined;
      }

new_pairs : (e : Env) (s : Store) → Reached e s → (c : Call) → (x y : Ty) → Memᴰ (pair x y Success) (pairs_by e s c) → Pairs e (next e s c) x y
new_pairs e s r (Demand.make k) x y m = elim m [ ]
new_pairs e s r (Demand.import l ts ps h) x y m = elim m [ ]
new_pairs e s r (Demand.force_kind t) x y m = elim m [ ]
new_pairs e s r (Demand.read q) x y m = elim m [ ]
new_pairs e s r (Demand.later q) x y m = elim m [ ]
new_pairs e s r (Demand.unify a b) x y m = go (given (unify_call e (reads s) a b)) refl m
  where
    go : (o : Option Answer) → given (unify_call e (reads s) a b) ≡ o → Memᴰ (pair x y Success) (answered a b o) → Pairs e (next e s (Demand.unify a b)) x y
    go none q m = elim m [ ]
    go (some z) q m =
        let p : pair x y Success ≡ pair a b z = Memᴰ.eq_of_singleton m in
        let w = success_won e s a b r (q ∙ ap some (sym (ap (λ (u : Pair). u.answer) p))) in
        let len = (next_moves e s (Demand.unify a b) r).len in
        let joined : Pairs e (next e s (Demand.unify a b)) a b =
        record { chart = w.chart; a_in = omega (arith, w.a_in, len); b_in = omega (arith, w.b_in, len); joined = w.joined } in
        subst (λ (u : Pair). Pairs e (next e s (Demand.unify a b)) u.a u.b) (sym p) joined

behind_next : (e : Env) (s : Store) (l : Ledger) → Behind e s l → (c : Call) → Behind e (next e s c) (entered e s l c)
behind_next e s l b c = record {
  reached = next_reached e s c b.reached;
  count = omega (arith, (next_moves e s c b.reached).len, b.count);
  pairs = λ x y m. go x y (Memᴰ.append_cases l.pairs m);
}
  where
    go : (x y : Ty) → Memᴰ (pair x y Success) l.pairs ⊎ Memᴰ (pair x y Success) (pairs_by e s c) → Pairs e (next e s c) x y
    go x y (inl m) = old_pairs e s l b c x y m
    go x y (inr m) = new_pairs e s b.reached c x y m

-- what is saved, beside a newer ledger and where another name is forgotten
module _ (n m : List ℕ) (apart : m ≢ n) where
  not_same : eq_bytes n m ≡ false
  not_same = go (eq_bytes n m) refl
    where
      go : (b : Bool) → eq_bytes n m ≡ b → b ≡ false
      go false q = refl
      go true q = absurd (apart (sym (eq_bytes_lem n m q)))

  saved_later : (l : Ledger) (g : List (List ℕ × Ledger)) → saved_under m ((n, l) ∷ g) ≡ saved_under m g
  saved_later l g = rw not_same refl

  pub saved_forgotten : (g : List (List ℕ × Ledger)) → saved_under m (forgotten n g) ≡ saved_under m g
  saved_forgotten [] = refl
  saved_forgotten (x ∷ xs) = go (eq_bytes x.0 n) refl (saved_forgotten xs)
    where
      go : (b : Bool) → eq_bytes x.0 n ≡ b → saved_under m (forgotten n xs) ≡ saved_under m xs
          → saved_under m (pick b (forgotten n xs) (x ∷ forgotten n xs)) ≡ saved_under m (x ∷ xs)
      go true q ih = rw (eq_bytes_lem x.0 n q, not_same) ih
      go false q ih = ap (pick (eq_bytes x.0 m) (some x.1)) ih

-- the calls on names
module _ (e : Env) (d : Desk) (g : Ledgers) (ok : Stands e d g) where
  saved_as : {h : Named} (gs : List (List ℕ × Ledger)) → saved_under h.name gs ≡ saved_under h.name g.saved → Saved e g.saved h → Saved e gs h
  saved_as gs q w = record { ledger = w.ledger; is = q ∙ w.is; behind = w.behind }

  -- the place for n is given another content
  set_saved : (n : List ℕ) (i : ℕ) (x : Place) (gs : List (List ℕ × Ledger)) → For n d.book.places i
      → ((m : List ℕ) → m ≢ n → saved_under m gs ≡ saved_under m g.saved)
      → ((h : Named) → x ≡ some h → Saved e gs h)
      → (j : ℕ) (h : Named) → place_at (set d.book.places i x) j ≡ some h → Saved e gs h
  set_saved n i x gs f others new j h q = go (set_cases d.book.places i x j f.inside)
    where
      go : ((j ≡ i) × (place_at (set d.book.places i x) j ≡ x)) ⊎ ((j ≢ i) × (place_at (set d.book.places i x) j ≡ place_at d.book.places j)) → Saved e gs h
      go (inl p) = new h (sym p.1 ∙ q)
      go (inr p) =
          let at_j = sym p.1 ∙ q in
          saved_as gs (others h.name (λ r. p.0 (f.only j h at_j r))) (ok.held j h at_j)

  -- the state that is held under n, with its ledger
  returned : (n : List ℕ) → HeldAt n d.book → Behind e (keep_reports d.store (store_under n d.book.places)) (or_else (saved_under n g.saved) g.present)
  returned n a =
      let h = a.state.state in
      let w = ok.held (place_where (under n) d.book.places) h a.state.is in
      let q : saved_under n g.saved ≡ some w.ledger = ap (λ (m : List ℕ). saved_under m g.saved) (sym a.state.name) ∙ w.is in
      rw (a.state.is, q) (behind_reports d.store.reports w.behind)

  abbrev Left : Naming → Outcome Book → Type 0
  Left x o = Stands e (left d o) (turned_by g x o)

  naming_stands : (x : Naming) → in_states_half (naming x) ≡ true → Left x (outcome_on e d x)
  naming_stands (name n) half = name_cases e d.store d.book (Left (name n)) n (λ k. ok) (λ t w f. record {
    present = ok.present;
    held = set_saved n _ _ ((n, g.present) ∷ g.saved) f (λ m r. saved_later n m r g.present g.saved) (λ h q.
        let r : record { name = n; store = d.store } ≡ h = cc in
        subst (Saved e ((n, g.present) ∷ g.saved)) r (record { ledger = g.present; is = rw (eq_bytes_refl n) refl; behind = ok.present }));
  })
  naming_stands (return_to n) half = return_cases e d.store d.book (Left (return_to n)) n (λ k. ok) (λ t a. record { present = returned n a; held = ok.held })
  naming_stands (drop n) half = drop_cases e d.store d.book (Left (drop n)) n (λ k. ok) (λ t a. record {
    present = ok.present;
    held = set_saved n _ _ (forgotten n g.saved) a.place (λ m r. saved_forgotten n m r g.saved) (λ h q. absurd (not_held q));
  })
  naming_stands reset half = tf (sym half)

stands_next : (e : Env) (d : Desk) (g : Ledgers) → Stands e d g → (c : StateCall) → in_states_half c ≡ true → Stands e (next_desk e d c) (next_ledgers e d g c)
stands_next e d g ok (call c) half = record { present = behind_next e d.store g.present ok.present c; held = ok.held }
stands_next e d g ok (naming x) half = naming_stands e d g ok x half

stands_after : (e : Env) (d : Desk) (g : Ledgers) → Stands e d g → (cs : List StateCall) → all in_states_half cs ≡ true
    → Stands e (after_desk e d cs) (after_ledgers e d g cs)
unfolding after_desk after_ledgers
stands_after e d g ok [] h = ok
stands_after e d g ok (c ∷ cs) h = stands_after e (next_desk e d c) (next_ledgers e d g c)
    (stands_next e d g ok c (and_left (in_states_half c) (all in_states_half cs) h)) cs (and_right (in_states_half c) (all in_states_half cs) h)

-- a store just opened, and a book without a name
stands_first : (e : Env) (n c : ℕ) → n ≤ MAX_NODES → c ≤ MAX_CHILDREN → (b : Book) → holds_none b ≡ true → Stands e (desk (opened n c) b) no_ledger
stands_first e n c hn hc b none-held = record {
  present = record { reached = opened_reached e n c hn hc; count = refl; pairs = λ x y m. elim m [ ] };
  held = λ i h q. tf (sym (all_places is_free refl b.places none-held i) ∙ ap is_free q);
}

pub states_half : StatesHalfHolds
states_half e n c hn hc b none-held cs half = record {
  again = λ x y m. let p = end.present.pairs x y m in joined_success e s x y reached p.chart p.a_in p.b_in p.joined;
  added = sizes_length s.nodes ok.forest ok.sized ∙ end.present.count;
  apart = contains_never s.nodes ok.forest ok.good;
  twelve = shallow_twelve s.nodes ok.forest reached.shallow ok.sized (omega (arith, reached.facts.node_room_lem, reached.facts.node_limit));
}
  where
    s : Store
    s = (after_desk e (desk (opened n c) b) cs).store

    end : Stands e (after_desk e (desk (opened n c) b) cs) (after_ledgers e (desk (opened n c) b) no_ledger cs)
    end = stands_after e (desk (opened n c) b) no_ledger (stands_first e n c hn hc b none-held) cs half

    reached : Reached e s
    reached = end.present.reached

    ok : SoundNodes e s.nodes
    ok = reached.facts.nodes
