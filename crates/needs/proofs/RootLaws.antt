-- What a root asks for, as the code reads it, is what scope's definitions take of its state: the kind's code and number against the list, and the
-- run of its children. Assumes nothing.
use mathlib.Core.Path.{◌≡◌, refl, ap, sym, ◌∙◌, subst}
use mathlib.Core.Bool.{Bool, true, false}
use mathlib.Core.Option.{Option, none, some}
use mathlib.Core.List.{List, ◌∷◌, map}
use Prim.Native.Nat.{ℕ, ◌+◌, ◌≤◌, ◌<◌}
use native.Mathlib.Omega.{arith}
use native.Mathlib.Numerals.{add-one}
use lib.Dec.{eqb, ltb}
use lib.ListN.{length, length-map, get_or, drop, get_or-map}
use lib.Seq.{drop-cons}
use borrow.Author.Tests.{eqb-true, eqb-false, ltb-true, ltb-false}
use Rattle.scope.specs.Base.{pick}
use Rattle.scope.specs.Types.{Ty, ty, ty_of}
use Rattle.scope.specs.Kinds.{PARAM}
use Rattle.scope.specs.Nodes.{state_of, at, kids_of}
use Rattle.scope.specs.Nodes as nodes
use Rattle.scope.specs.Import.{replaced, keep, missing_entry, entry}
use Rattle.scope.proofs.ReplacedLaws.{replaced_none, replaced_plain, replaced_other, replaced_entry, replaced_missing}
use Rattle.layout.specs.Words.{slot_at, slots, decode}
use Rattle.layout.specs.Meaning.{read_at, node_state, held_by, held_in, kind_means, state_means, state_fits, Clean}
use Rattle.layout.specs.declared.Kind.{Kind}
use Rattle.layout.specs.declared.TypeState.{TypeState}
use Rattle.layout.specs.declared.TypeState.TheVariants.{Known, Unknown, InferenceFailed}
use Rattle.layout.proofs.ChildLaws.{length_slots, slots_get, length_kids, kind_room}
use Rattle.layout.proofs.KindLaws.{kind_code, kind_number, kind_kids}
use Rattle.layout.proofs.HeldLaws.{state_read, state_fits_lem}
use Rattle.needs.specs.Roots.{Params}
use Rattle.needs.specs.declared.Asks.{Asks}
use Rattle.needs.specs.declared.Asks.TheVariants.{Replaced, Missing, Node}
use Rattle.needs.specs.Roots.{params_for, kind_asks, asks_of}

-- a run of children: so many types, from a place on
abbrev pub kids_in : List ℕ → ℕ → ℕ → List Ty
kids_in ks first m = map (λ s. ty_of s.type) (slots ks first m)

module _ (ks : List ℕ) (first m : ℕ) where
  pub length_run : length (kids_in ks first m) ≡ m
  length_run = length-map (slots ks first m) (λ s. ty_of s.type) ∙ length_slots ks first m

  -- the type of child j, and those after it
  pub run_next : (j : ℕ) → j < m → drop j (kids_in ks first m) ≡ ty_of (slot_at ks (first + j)).type ∷ drop (j + 1) (kids_in ks first m)
  run_next j h =
      let x : get_or (kids_in ks first m) j (ty_of (slot_at ks 0).type) ≡ ty_of (slot_at ks (first + j)).type =
      get_or-map (λ s. ty_of s.type) (slots ks first m) j (slot_at ks 0)
      ∙ ap (λ s. ty_of s.type) (slots_get ks first m j (slot_at ks 0) h) in
      drop-cons (kids_in ks first m) j (ty_of (slot_at ks 0).type) (omega (arith, length_run)) ∙ rw (x, add-one j) refl

-- what of a state is said by what it asks for
abbrev pub Told : Option (List Ty) → List ℕ → nodes.State → Asks → Type 0
Told ps ks st Replaced = (u : Ty) × (replaced ps st ≡ entry u)
Told ps ks st Missing = replaced ps st ≡ missing_entry
Told ps ks st (Node first m) = (replaced ps st ≡ keep) × (kids_of st ≡ kids_in ks first m)

module _ (ks : List ℕ) (i : Bool) (k : Kind) where
  abbrev st : nodes.State
  st = nodes.Known i (kind_means ks k)

  told_list : (ps : List Ty) (b : Bool) → ltb k.number (length ps) ≡ b → k.code ≡ PARAM → Told (some ps) ks st (pick b Replaced Missing)
  told_list ps true q e =
      let h : (kind_means ks k).head.number < length ps = rw (kind_number ks k) (ltb-true k.number (length ps) q) in
      (_, replaced_entry ps i (kind_means ks k) (kind_code ks k ∙ e) (ty false 0) h)
  told_list ps false q e =
      let h : length ps ≤ (kind_means ks k).head.number = rw (kind_number ks k) (ltb-false k.number (length ps) q) in
      replaced_missing ps i (kind_means ks k) (kind_code ks k ∙ e) h

  told_kind : (ps : Option (List Ty)) → Told ps ks st (kind_asks (params_for ps) k)
  told_kind none = go (eqb k.code PARAM)
    where
      go : (b : Bool) → Told none ks st (pick b (Node k.first k.count) (Node k.first k.count))
      go true = (replaced_none st, kind_kids ks k)
      go false = (replaced_none st, kind_kids ks k)
  told_kind (some ps) = go (eqb k.code PARAM) refl
    where
      go : (b : Bool) → eqb k.code PARAM ≡ b
          → Told (some ps) ks st (pick b (pick (ltb k.number (length ps)) Replaced Missing) (Node k.first k.count))
      go true q = told_list ps (ltb k.number (length ps)) refl (eqb-true k.code PARAM q)
      go false q = (replaced_other (some ps) i (kind_means ks k) (λ e. eqb-false k.code PARAM q (sym (kind_code ks k) ∙ e)), kind_kids ks k)

told_state : (ps : Option (List Ty)) (ks : List ℕ) (st : TypeState) → Told ps ks (state_means ks st) (asks_of (params_for ps) (held_by st))
told_state ps ks (Known i k) = told_kind ks i.0 k ps
told_state ps ks (Unknown s) = (replaced_plain ps (nodes.Unknown s) refl, refl)
told_state ps ks InferenceFailed = (replaced_plain ps nodes.InferenceFailed refl, refl)

kids_few : (ks : List ℕ) (c : ℕ) (st : TypeState) → state_fits ks c st ≡ true → length (kids_of (state_means ks st)) ≤ c
kids_few ks c (Known i k) h = omega (arith, length_kids ks k, kind_room ks c k h)
kids_few ks c (Unknown s) h = omega arith
kids_few ks c InferenceFailed h = omega arith

module _ {ws ks : List ℕ} {c n : ℕ} (cl : Clean ws ks c n) (i : ℕ) where
  -- what was read at a node of clean words
  pub read_told : {p : Params} {a q : Asks} (ps : Option (List Ty)) → p ≡ params_for ps → a ≡ asks_of p (held_in (read_at ws n i)) → a ≡ q
      → Told ps ks (state_of (at (decode ws ks n) i)) q
  read_told {q = q} ps o e s =
      let w : asks_of (params_for ps) (held_in (read_at ws n i)) ≡ q = ap (λ (p : Params). asks_of p (held_in (read_at ws n i))) (sym o) ∙ (sym e ∙ s) in
      rw (← (state_read ws ks c n cl i)) (subst (Told ps ks _) w (told_state ps ks (node_state (read_at ws n i))))

  -- no kind has more children than there are
  pub narrow : length (kids_of (state_of (at (decode ws ks n) i))) ≤ c
  narrow = rw (← (state_read ws ks c n cl i)) (kids_few ks c (node_state (read_at ws n i)) (state_fits_lem ws ks c n cl i))
