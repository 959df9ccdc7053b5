-- A sound store and a sound book stay sound under every call, those that stood and those on names. Assumes nothing.
use mathlib.Core.Path.{◌≡◌, refl, sym, ap, ◌∙◌}
use mathlib.Core.List.{List, [], ◌∷◌}
use mathlib.Core.Bool.{true, ◌&&◌}
use mathlib.Core.Option.{none, some}
use Prim.Native.Nat.{ℕ, ◌≤◌}
use lib.Dec.{eqb}
use lib.ListN.{set, length-set}
use borrow.Author.Tests.{eq-eqb}
use Rattle.scope.specs.Base.{all}
use Rattle.scope.specs.Limits.{MAX_NODES, MAX_CHILDREN}
use Rattle.scope.specs.Chart.{Env}
use Rattle.scope.specs.Nodes.{Store, opened}
use Rattle.scope.specs.Force as Force
use Rattle.scope.specs.Sound.{sound_store}
use Rattle.scope.specs.Sound as Sound
use Rattle.scope.specs.Calls.{Outcome}
use Rattle.scope.specs.States.{Named, Place, Book, blank, with_places, place_where, under, store_under, name_length, same_room, place_sound, book_sound, keep_reports}
use Rattle.scope.specs.StatesDemand.{Naming, StateCall, call, naming, name, return_to, drop, reset, Desk, desk, outcome_on, left, next_desk, after_desk}
use Rattle.scope.proofs.TestLaws.{and_left, and_right, and_both}
use Rattle.scope.proofs.SoundLaws.{sound_facts, facts_sound}
use Rattle.scope.proofs.SoundKept.{Roomed, opened_facts, reset_kept}
use Rattle.scope.proofs.Reached.{next_kept}
use Rattle.scope.proofs.PlaceLaws.{place_at, not_held, For, set_apart, all_places, all_set}
use Rattle.scope.proofs.BookLaws.{book_facts, facts_book, Tested, HeldAt, name_cases, return_cases, drop_cases, reset_cases}

pub record SoundDesk (e : Env) (d : Desk) : Type 0 where
  pub store : sound_store e d.store ≡ true
  pub book : book_sound e d.store d.book ≡ true

room_same : {s s' : Store} (b : Book) → Roomed s s' → same_room s b ≡ true → same_room s' b ≡ true
room_same b r h = rw (r.nodes, r.children) h

-- a place is tested by the book's capacities alone
places_same : (e : Env) (b : Book) (qs ps : List Place) → all (place_sound e b) ps ≡ true → all (place_sound e (with_places b qs)) ps ≡ true
places_same e b qs [] h = refl
places_same e b qs (none ∷ ps) h = places_same e b qs ps h
places_same e b qs (some x ∷ ps) h =
    and_both (place_sound e b (some x)) _ (and_left (place_sound e b (some x)) (all (place_sound e b) ps) h)
    (places_same e b qs ps (and_right (place_sound e b (some x)) (all (place_sound e b) ps) h))

module _ (e : Env) (s : Store) (b : Book) (t : Tested e s b) where
  -- a place given another content
  set_facts : (n : List ℕ) (i : ℕ) (x : Place) → For n b.places i → ((h : Named) → x ≡ some h → h.name ≡ n) → place_sound e b x ≡ true
      → SoundDesk e (desk s (with_places b (set b.places i x)))
  set_facts n i x f own ok = record {
    store = t.store;
    book = facts_book e s (with_places b (set b.places i x)) (record {
      eight = length-set b.places i x ∙ t.book.eight;
      room = t.book.room;
      each = places_same e b (set b.places i x) (set b.places i x) (all_set (place_sound e b) b.places i x t.book.each ok);
      apart = set_apart n b.places i x t.book.apart f own;
    });
  }

  named_sound : (n : List ℕ) → name_length n ≡ true → place_sound e b (some (record { name = n; store = s })) ≡ true
  named_sound n w = and_both (name_length n) _ w (and_both (same_room s b) (sound_store e s) t.book.room t.store)

  -- a held store
  held_sound : (n : List ℕ) → HeldAt n b → place_sound e b (place_at b.places (place_where (under n) b.places)) ≡ true
  held_sound n a = all_places (place_sound e b) refl b.places t.book.each (place_where (under n) b.places)

  -- the report count is no part of what is tested
  reports_sound : (h : Store) → sound_store e h ≡ true → sound_store e (keep_reports s h) ≡ true
  unfolding sound_store Sound.room_sound
  reports_sound h q = q

  returned_sound : (n : List ℕ) → HeldAt n b → SoundDesk e (desk (keep_reports s (store_under n b.places)) b)
  returned_sound n a =
      let h = a.state.state in
      let q : place_sound e b (some h) ≡ true = ap (place_sound e b) (sym a.state.is) ∙ held_sound n a in
      let q₁ = and_right (name_length h.name) (same_room h.store b && sound_store e h.store) q in
      rw a.state.is (record {
        store = reports_sound h.store (and_right (same_room h.store b) (sound_store e h.store) q₁);
        book = facts_book e (keep_reports s h.store) b (record {
          eight = t.book.eight;
          room = and_left (same_room h.store b) (sound_store e h.store) q₁;
          each = t.book.each;
          apart = t.book.apart;
        });
      })

module _ (e : Env) (d : Desk) (ok : SoundDesk e d) where
  abbrev pub Left : Outcome Book → Type 0
  Left o = SoundDesk e (left d o)

  pub naming_sound : (x : Naming) → Left (outcome_on e d x)
  unfolding Force.reset book_sound
  naming_sound (name n) = name_cases e d.store d.book Left n (λ k. ok) (λ t w f.
      set_facts e d.store d.book t n _ _ f (λ h q. let r : record { name = n; store = d.store } ≡ h = cc in sym (ap (λ (x : Named). x.name) r))
      (named_sound e d.store d.book t n w))
  naming_sound (return_to n) = return_cases e d.store d.book Left n (λ k. ok) (λ t a. returned_sound e d.store d.book t n a)
  naming_sound (drop n) = drop_cases e d.store d.book Left n (λ k. ok) (λ t a.
      set_facts e d.store d.book t n _ none a.place (λ h q. absurd (not_held q)) refl)
  naming_sound reset = reset_cases e d.store d.book Left (λ k. ok) (λ t. record {
    store = facts_sound e (Force.reset d.store) (reset_kept e d.store (sound_facts e d.store t.store)).facts;
    book = and_both (same_room d.store d.book) true t.book.room refl;
  })

  pub next_sound : (c : StateCall) → SoundDesk e (next_desk e d c)
  next_sound (naming x) = naming_sound x
  next_sound (call c) =
      let k = next_kept e d.store c (sound_facts e d.store ok.store) in
      let f = book_facts e d.store d.book ok.book in
      record {
        store = facts_sound e _ k.facts;
        book = facts_book e _ d.book (record { eight = f.eight; room = room_same d.book k.room f.room; each = f.each; apart = f.apart });
      }

pub after_sound : (e : Env) (d : Desk) → SoundDesk e d → (cs : List StateCall) → SoundDesk e (after_desk e d cs)
unfolding after_desk
after_sound e d ok [] = ok
after_sound e d ok (c ∷ cs) = after_sound e (next_desk e d c) (next_sound e d ok c) cs

-- and what opening leaves is sound
pub opened_sound : (e : Env) (n c : ℕ) → n ≤ MAX_NODES → c ≤ MAX_CHILDREN → SoundDesk e (desk (opened n c) (blank n c))
unfolding book_sound
opened_sound e n c hn hc = record {
  store = facts_sound e (opened n c) (opened_facts e n c hn hc);
  book = and_both (same_room (opened n c) (blank n c)) true (and_both (eqb n n) (eqb c c) (eq-eqb n n refl) (eq-eqb c c refl)) refl;
}
