-- The kind that `new_kind` pushes means the kind that it was given, and it fits: its children are the entries, at another place.
-- Assumes nothing.
use mathlib.Core.Path.{◌≡◌, ap, sym, ◌∙◌}
use mathlib.Core.Bool.{true, false}
use mathlib.Core.List.{List}
use Prim.Native.Nat.{ℕ, ◌+◌, ◌*◌, ◌<◌, ◌≤◌}
use native.Mathlib.Omega.{arith}
use lib.ListN.{length, get_or, take, drop}
use borrow.Author.Count.{below_more}
use Rattle.scope.specs.Sound.{names_clean}
use Rattle.scope.specs.Make.{new}
use Rattle.types.specs.declared.«Type».{«Type»}
use Rattle.layout.specs.Words.{HEAD_WORDS, child_words, children_made, slot_at, store_in}
use Rattle.layout.specs.Meaning.{slot_means, put_slot, header_in, kind_cell, kind_means, kind_fits, Lies}
use Rattle.layout.specs.declared.Kind.{Kind}
use Rattle.layout.specs.declared.Slot.{Slot}
use Rattle.layout.specs.declared.TypeState.TheVariants.{Known}
use Rattle.layout.proofs.Lists.{drop_later, part_here}
use Rattle.layout.proofs.ChildLaws.{slot_here, slot_there, tail_put_child, kept_put, kept_trans, length_kids}
use Rattle.layout.proofs.KindLaws.{kind_fits_lem, moved_means, moved_fits}
use Rattle.layout.proofs.StoreLaws.{clean_lies}
use Rattle.store.specs.Holds.{Ready}
use Rattle.make.specs.Made.{MadeIs}
use Rattle.make.specs.Header.{Pushed}
use Rattle.store.specs.Entries.{entry_count}
use Rattle.make.specs.Given.{kind_at, kind_over, kind_given, KindReady, Put}
use Rattle.make.proofs.MakeLaws.{RoomIn, ready_room, pushed_made}
use borrow.Rule.Slice.PartMut.{put_mid}
use lib.Seq.{get_or-take, get_or-drop, length-take-le}
use Rattle.std.proofs.lemmas.Slice.{take-put_mid_below, drop-put_mid}
use Rattle.scope.specs.Sound as sound

-- a run of children, whose words are copied at once

abbrev four : ℕ → ℕ → ℕ → ℕ → sound.Slot
four t x s l = record { type = t; text = x; start = s; len = l }

slot_by : (ks ls : List ℕ) (i j : ℕ) → ((f : ℕ) → f < 4 → get_or ks (i * 4 + f) 0 ≡ get_or ls (j * 4 + f) 0) → slot_at ks i ≡ slot_at ls j
slot_by ks ls i j e =
    ap (λ (v : ℕ). four v (get_or ks (i * 4 + 1) 0) (get_or ks (i * 4 + 2) 0) (get_or ks (i * 4 + 3) 0)) (e 0 (omega arith))
    ∙ (ap (λ (v : ℕ). four (get_or ls (j * 4 + 0) 0) v (get_or ks (i * 4 + 2) 0) (get_or ks (i * 4 + 3) 0)) (e 1 (omega arith))
    ∙ (ap (λ (v : ℕ). four (get_or ls (j * 4 + 0) 0) (get_or ls (j * 4 + 1) 0) v (get_or ks (i * 4 + 3) 0)) (e 2 (omega arith))
    ∙ ap (λ (v : ℕ). four (get_or ls (j * 4 + 0) 0) (get_or ls (j * 4 + 1) 0) (get_or ls (j * 4 + 2) 0) v) (e 3 (omega arith))))

module _ (es ks : List ℕ) (first n : ℕ) {a k : ℕ} {ys : List ℕ} (at : a ≡ first * 4) (of : k ≡ n * 4) (is : ys ≡ take (n * 4) es) (room : (first + n) * 4 ≤ length ks)
    (lent : n * 4 ≤ length es) where
  abbrev copied : List ℕ
  copied = put_mid a k ks ys

  long : length ys ≡ k
  long = ap length is ∙ (length-take-le (n * 4) es lent ∙ sym of)

  behind : (j : ℕ) → j < k → get_or copied (a + j) 0 ≡ get_or es j 0
  behind j h =
      sym (get_or-drop a copied j 0)
      ∙ (sym (get_or-take k (drop a copied) j 0 h)
      ∙ (ap (λ (l : List ℕ). get_or l j 0) (part_here a k ks ys long (omega (arith, at, of)) ∙ is)
      ∙ get_or-take (n * 4) es j 0 (omega (arith, h, of))))

  ahead : (j : ℕ) → j < a → get_or copied j 0 ≡ get_or ks j 0
  ahead j h =
      sym (get_or-take a copied j 0 h)
      ∙ (ap (λ (l : List ℕ). get_or l j 0) (take-put_mid_below a k ks ys a (omega arith) (omega (arith, at)))
      ∙ get_or-take a ks j 0 h)

  pub put_copied : Put es first n ks copied
  put_copied = record {
    put = λ i h. slot_by copied es (first + i) i (λ f l. let to : (first + i) * 4 + f ≡ a + (i * 4 + f) = omega (arith, at) in
        ap (λ (p : ℕ). get_or copied p 0) to ∙ behind (i * 4 + f) (omega (arith, of)));
    before = record { same = λ i h. slot_by copied ks i i (λ f l. ahead (i * 4 + f) (omega (arith, at))) };
    after = drop-put_mid a k ks ys (child_words (first + n)) (omega (arith, at, of)) (omega (arith, at)) long;
  }

-- a run of children that are put one after the other

module _ (es : List ℕ) (first i : ℕ) {ks₀ ks ks' : List ℕ} {s : Slot} (o : Put es first i ks₀ ks) (room : (first + i) * 4 + 4 ≤ length ks)
    (is : slot_means s ≡ slot_at es i) (q : ks' ≡ put_slot ks (first + i) s) where
  there : (j : ℕ) → j < i → slot_at (put_slot ks (first + i) s) (first + j) ≡ slot_at es j
  there j h = slot_there ks (first + i) s room (first + j) (λ z. omega arith) ∙ o.put j h

  here : slot_at (put_slot ks (first + i) s) (first + i) ≡ slot_at es i
  here = slot_here ks (first + i) s room ∙ is

  pub put_more : Put es first (i + 1) ks₀ ks'
  put_more = rw q (record {
    put = below_more (λ j. slot_at (put_slot ks (first + i) s) (first + j) ≡ slot_at es j) i there here;
    before = kept_trans o.before (kept_put ks (first + i) s room first (omega arith));
    after = tail_put_child ks (first + i) s room (first + (i + 1)) (omega arith)
        ∙ drop_later (child_words (first + i)) (child_words (first + (i + 1))) ks ks₀ (omega arith) o.after;
  })

-- the kind over the entries, with its children at `first`

module _ (k : Kind) (es : List ℕ) {ks ks' : List ℕ} {first : ℕ} (o : Put es first (entry_count es) ks ks') where
  abbrev moved : Kind
  moved = kind_at k first (entry_count es)

  same : (i : ℕ) → i < entry_count es → slot_at ks' (first + i) ≡ slot_at es (0 + i)
  same i h = let z : 0 + i ≡ i = omega arith in o.put i h ∙ ap (slot_at es) (sym z)

  put_means : kind_means ks' moved ≡ kind_given k es
  put_means = moved_means es ks' (kind_over k es) first same

  put_fits : kind_fits es (entry_count es) (kind_over k es) ≡ true → kind_fits ks' (first + entry_count es) moved ≡ true
  put_fits h = moved_fits es ks' (kind_over k es) first same (entry_count es) (first + entry_count es) (omega arith) h

-- for callers: a kind has a child for each entry, and one whose names are clean may be made where there is room

pub given_kids : (k : Kind) (es : List ℕ) → length (kind_given k es).kids ≡ entry_count es
given_kids k es = length_kids es (kind_over k es)

pub kind_ready : {h ws ks : List ℕ} (k : Kind) (es : List ℕ) → Ready h ws ks 1 (entry_count es) → names_clean (kind_cell es (kind_over k es)) ≡ true
    → KindReady h ws ks k es
kind_ready k es r c = record { ready = r; fits = kind_fits_lem es (kind_over k es) (entry_count es) (omega arith) c }

-- new_kind

pub entries_ready : {h ws ks es : List ℕ} {k : Kind} {n : ℕ} → KindReady h ws ks k es → n ≡ entry_count es → Ready h ws ks 1 n
entries_ready r e = rw e r.ready

pub kind_head : {h ws ks es : List ℕ} {k : Kind} → KindReady h ws ks k es → HEAD_WORDS ≤ length h
kind_head {h} {ws} {ks} r = (clean_lies h ws ks r.ready.clean).head

pub children_room : {h ws ks : List ℕ} {f n : ℕ} → Ready h ws ks 1 n → f ≡ children_made h → child_words (f + n) ≤ length ks
children_room {h} {ws} {ks} {f} {n} r e =
    let p : Lies h ws ks = clean_lies h ws ks r.clean in
    let o : RoomIn h 1 n = ready_room r in
    omega (arith, p.child_slots, o.children)

kind_in : {h ws ks h' ws' ks' es : List ℕ} {k : Kind} {t : «Type»} → KindReady h ws ks k es → Put es (children_made h) (entry_count es) ks ks'
    → length ks' ≡ length ks
    → Pushed h ws h' ws' (header_in h) (entry_count es) (header_in h).error (header_in h).nil (Known (record { 0 = false }) (kind_at k (children_made h) (entry_count es))) t
    → MadeIs h ws ks h' ws' ks' t (new (store_in h ws ks) (kind_given k es))
unfolding new
kind_in {ks' = ks'} {es = es} {k = k} r o l p =
    rw (given_kids k es, ← (put_means k es o)) (pushed_made r.ready p ks' l o.before o.after (put_fits k es o r.fits))

pub kind_made_lem : {h ws ks h' ws' ks' es : List ℕ} {k : Kind} {f : ℕ} {y : Kind} {t : «Type»} {n : ℕ} → KindReady h ws ks k es → f ≡ children_made h
    → n ≡ entry_count es → Put es f n ks ks' → length ks' ≡ length ks → y ≡ kind_at k f n
    → Pushed h ws h' ws' (header_in h) n (header_in h).error (header_in h).nil (Known (record { 0 = false }) y) t
    → MadeIs h ws ks h' ws' ks' t (new (store_in h ws ks) (kind_given k es))
kind_made_lem r e m o l q p = kind_in r (rw (e, m) at o) l (rw (q, e, m) at p)
