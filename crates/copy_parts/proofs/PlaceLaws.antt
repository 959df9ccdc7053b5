-- What a source root becomes, test by test: no list, no Param, no entry, an entry, no kind, a copy. Each is scope's law of what a state is replaced by.
-- Assumes nothing.
use mathlib.Core.Path.{◌≡◌, refl, ap, sym, ◌∙◌}
use mathlib.Core.Bool.{Bool}
use mathlib.Core.Option.{Option}
use mathlib.Core.List.{List}
use Prim.Native.Nat.{ℕ, suc, ◌≤◌, ◌<◌}
use native.Mathlib.Omega.{arith}
use lib.ListN.{length, get_or}
use Rattle.scope.specs.Limits.{MAX_NODES, NONE}
use Rattle.scope.specs.Types.{Ty, ty, flip, ty_of}
use Rattle.scope.specs.Kinds.{PARAM}
use Rattle.scope.specs.Nodes.{at, state_of}
use Rattle.scope.specs.Nodes as nodes
use Rattle.scope.proofs.ReplacedLaws.{replaced_none, replaced_plain, replaced_other, replaced_entry, replaced_missing}
use Rattle.types.specs.declared.«Type».{«Type»}
use Rattle.types.specs.declared.Inverted.{Inverted}
use Rattle.types.specs.declared.TypeIdx.{TypeIdx}
use Rattle.types.proofs.Laws.{ty_new}
use Rattle.layout.specs.Words.{decode}
use Rattle.layout.specs.Meaning.{read_at, node_state, held_by, kind_means, state_means}
use Rattle.layout.specs.declared.Kind.{Kind}
use Rattle.layout.specs.declared.TypeState.{TypeState}
use Rattle.layout.specs.declared.TypeState.TheVariants.{Unknown, InferenceFailed}
use Rattle.layout.specs.declared.TypeNode.{TypeNode}
use Rattle.layout.proofs.KindLaws.{kind_code, kind_number}
use Rattle.layout.proofs.HeldLaws.{state_read}
use Rattle.store.specs.Entries.{types_in}
use Rattle.store.proofs.EntryLaws.{listed_below, listed_past, listed_at}
use Rattle.std.specs.Borrow.{Bor}
use Rattle.std.specs.Prelude.{Some, None}
use Rattle.std.specs.declared.option.Option as option
use Rattle.copy_parts.specs.declared.Place.{Place}
use Rattle.copy_parts.specs.declared.Place.TheVariants.{Is, Node}
use Rattle.copy_parts.specs.Places.{params_in, Becomes, Runs, EntryPlace, KindPlace, StatePlace, CopyNoted, Goes, RootPlace}

module _ {root : «Type»} {i : Inverted} {k : Kind} where
  pub place_unlisted : {p : option.Option (Bor (List ℕ))} → p ≡ None → KindPlace (params_in p) root i k (Node NONE k.first k.count)
  place_unlisted e = rw e (record { becomes = λ ks. (replaced_none _, refl); run = (refl, refl) })

  pub place_other : {ps : Option (List Ty)} → (k.code ≡ PARAM → ⊥) → KindPlace ps root i k (Node NONE k.first k.count)
  place_other {ps} h = record {
    becomes = λ ks. (replaced_other ps i.0 (kind_means ks k) (λ e. h (sym (kind_code ks k) ∙ e)), refl);
    run = (refl, refl);
  }

  pub place_param : {p : option.Option (Bor (List ℕ))} {ps : Bor (List ℕ)} {r : Place} → p ≡ Some ps → k.code ≡ PARAM → EntryPlace ps.now root i k.number r → KindPlace (params_in p) root i k r
  place_param on param e = rw on (e.each k param refl)

-- a Param, by its number

module _ {ps : List ℕ} {root : «Type»} {i : Inverted} {m : ℕ} where
  pub place_missing : length ps ≤ m → EntryPlace ps root i m (Is root)
  place_missing h = record {
    each = λ k param n. record {
      becomes = λ ks g c.
          rw (replaced_missing (types_in ps) i.0 (kind_means ks k) (kind_code ks k ∙ param) (rw (kind_number ks k, n) (listed_past ps m h)));
      run = tt;
    };
  }

  pub place_entry : {u : «Type»} {entry : ℕ} → m < length ps → entry ≡ get_or ps m 0 → ty_of u.0 ≡ flip (ty_of root.0).inv (flip i.0 (ty_of entry))
      → EntryPlace ps root i m (Is u)
  place_entry h at e = record {
    each = λ k param n. record {
      becomes = λ ks g c.
          let q : (kind_means ks k).head.number ≡ m = kind_number ks k ∙ n in
          let x : get_or (types_in ps) m (ty_of 0) ≡ ty_of (get_or ps m 0) = listed_at ps m in
          rw (replaced_entry (types_in ps) i.0 (kind_means ks k) (kind_code ks k ∙ param) (ty_of 0) (rw q (listed_below ps m h)), q, x, e, at);
      run = tt;
    };
  }

-- by the state that is read

module _ {ws : List ℕ} {ps : Option (List Ty)} {n : ℕ} {root : «Type»} {v : TypeNode} {r : Place} (st : TypeState) (j : ℕ) (here : j ≡ (ty_of root.0).idx)
    (read : v ≡ read_at ws n j) (state : st ≡ node_state v)
    (each : (ks : List ℕ) → Becomes ps (state_means ks st) (ty_of root.0) r) (run : Runs (held_by st) r) where
  pub place_read : StatePlace ws n ps root r
  place_read = record {
    becomes = λ ks c cl.
        let e : state_means ks st ≡ state_of (at (decode ws ks n) (ty_of root.0).idx) =
        ap (state_means ks) (state ∙ ap node_state read) ∙ (state_read ws ks c n cl j ∙ ap (λ (i : ℕ). state_of (at (decode ws ks n) i)) here) in
        rw (← e) (each ks);
    run = rw (← here, ← read, ← state) run;
  }

pub become_unknown : (ps : Option (List Ty)) (ks : List ℕ) (root : «Type») (s : ℕ) → Becomes ps (state_means ks (Unknown s)) (ty_of root.0) (Node s 0 0)
become_unknown ps ks root s = (replaced_plain ps (nodes.Unknown s) refl, refl)

pub become_failed : (ps : Option (List Ty)) (ks : List ℕ) (root : «Type») → Becomes ps (state_means ks InferenceFailed) (ty_of root.0) (Node NONE 0 0)
become_failed ps ks root = (replaced_plain ps nodes.InferenceFailed refl, refl)

-- by the table's number

module _ {ws table : List ℕ} {ps : Option (List Ty)} {n : ℕ} {root : «Type»} {j : ℕ} {noted : option.Option TypeIdx} (here : j ≡ (ty_of root.0).idx)
    (read : CopyNoted (get_or table j 0) noted) where
  pub place_copied : {u : «Type»} {copy : TypeIdx} (i : Inverted) → get_or table (ty_of root.0).idx 0 ≤ MAX_NODES → noted ≡ Some copy → i.0 ≡ (ty_of root.0).inv
      → ty_of u.0 ≡ flip i.0 (ty_of copy.0) → RootPlace ws n ps table root (Is u)
  place_copied {u} {copy} i few is e q =
      let z : get_or table (ty_of root.0).idx 0 ≡ suc copy.0 = rw (← here) (omega (arith, read.copied copy is)) in
      let v : ty_of u.0 ≡ ty (ty_of root.0).inv copy.0 = q ∙ (ty_new i.0 copy.0 (omega (arith, z, few)) ∙ ap (λ (b : Bool). ty b copy.0) e) in
      record { goes = λ ks c cl g d. rw z (ap (λ (x : Ty). record { to = d; type = x }) (sym v)); run = tt }

  pub place_new : {r : Place} → noted ≡ None → StatePlace ws n ps root r → RootPlace ws n ps table root r
  place_new {r} is o = record { goes = λ ks c cl. go (state_of (at (decode ws ks n) (ty_of root.0).idx)) r (o.becomes ks c cl); run = o.run }
    where
      none_yet : get_or table (ty_of root.0).idx 0 ≡ 0
      none_yet = rw (← here) (read.new is)

      go : (st : nodes.State) (r : Place) → Becomes ps st (ty_of root.0) r
          → Goes ps st (ty_of root.0) (get_or table (ty_of root.0).idx 0) r
      go st (Is u) b = rw none_yet b
      go st (Node span first m) b = (none_yet, b)
