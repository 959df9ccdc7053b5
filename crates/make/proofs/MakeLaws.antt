-- What each maker's words hold. A push leaves the store with one root more; the header that it writes says the rest. `new_var` pushes an Unknown,
-- `error` and `nil` a kind without children, which they remember unless one is remembered already: one law for both, over what is remembered.
-- Assumes nothing.
use mathlib.Core.Path.{◌≡◌, refl, ap, sym, ◌∙◌, subst}
use mathlib.Core.Bool.{true, false}
use mathlib.Core.Option.{Option, some}
use mathlib.Core.List.{List}
use Prim.Native.Nat.{ℕ, ◌+◌, ◌≤◌, ◌<◌}
use native.Mathlib.Omega.{arith}
use lib.ListN.{length, get_or, drop}
use borrow.Author.Tests.{ne_eqb}
use Rattle.scope.specs.Limits.{MAX_NODES, MAX_CHILDREN, NONE}
use Rattle.scope.specs.Types.{Ty, ty, ty_of}
use Rattle.scope.specs.Kinds.{row_of, rows, NO_NAMES, TUPLE, ERROR}
use Rattle.scope.specs.Nodes as nodes
use Rattle.scope.specs.Nodes.{remembering}
use Rattle.scope.specs.Make.{Made, next_type, pushed, bare, new, new_var, again, remember_error, remember_nil, make_error, make_nil}
use Rattle.heads.specs.declared.Once.{Once}
use Rattle.heads.specs.declared.Once.TheVariants as once
use Rattle.scope.specs.Calls.{done, nodes_for, made_type}
use Rattle.types.specs.declared.«Type».{«Type»}
use Rattle.types.proofs.Laws.{ty_plain}
use Rattle.layout.specs.Words.{HEAD_WORDS, child_words, nodes_made, children_made, node_room, child_room, store_in, clean}
use Rattle.layout.specs.Meaning.{HALF, type_of, header_in, put_header, put_at, state_means, state_fits, remembered_means, remembered_fits, Kept, Lies}
use Rattle.heads.specs.Heads.{put_counts, remembered_by}
use Rattle.make.specs.Once.{once_of, make_once, OnceLeaves}
use Rattle.layout.specs.declared.Header.{Header}
use Rattle.layout.specs.Meaning.{Remembered}
use Rattle.std.specs.Prelude.{Some, None}
use Rattle.layout.specs.declared.TypeState.{TypeState}
use Rattle.layout.specs.declared.TypeState.TheVariants.{Known, Unknown}
use Rattle.layout.specs.declared.TypeNode.TheVariants.{Root}
use Rattle.layout.proofs.ChildLaws.{kept_refl}
use Rattle.heads.proofs.HeadLaws.{put_counts_lem, next_unused}
use Rattle.layout.proofs.StoreLaws.{length_put_header, tail_put_header, store_put, clean_lies, clean_unused, clean_nodes, clean_of, unused_grown}
use Rattle.store.specs.Holds.{Became, Ready}
use Rattle.store.specs.Bare.{bare_kind}
use Rattle.store.proofs.Laws.{store_count, beyond_refl, remembered_fits_lem, error_is, nil_is, bare_means, bare_fits}
use Rattle.make.specs.Made.{MadeIs, BlankMade, Rememberable}
use Rattle.make.specs.Header.{Pushable, Pushed, BlankReady, OnceReady, OnceMade, with_remembered}
use Rattle.make.proofs.Laws.{push_holds, push_beyond}

-- a maker's answer as an outcome
pub made_done : {h ws ks h' ws' ks' : List ℕ} {t : «Type»} {m : Made} → MadeIs h ws ks h' ws' ks' t m → made_type m ≡ done (ty_of t.0) m.store
made_done {m = m} o = ap (λ (y : Ty). done y m.store) (sym o.type)

-- room, in the header's words
pub record RoomIn (h : List ℕ) (n c : ℕ) : Type 0 where
  pub node_limit : node_room h ≤ MAX_NODES
  pub child_limit : child_room h ≤ MAX_CHILDREN
  pub nodes : nodes_made h + n ≤ node_room h
  pub children : children_made h + c ≤ child_room h

pub ready_room : {h ws ks : List ℕ} {n c : ℕ} → Ready h ws ks n c → RoomIn h n c
unfolding store_in
ready_room {h} {ws} {ks} r = record {
  node_limit = r.room.node_limit;
  child_limit = r.room.child_limit;
  nodes = rw (store_count h ws ks) at r.room.nodes;
  children = r.room.children;
}

pub pushable_in : {h ws ks : List ℕ} {c : ℕ} → Ready h ws ks 1 c → Pushable h ws (header_in h) c
pushable_in {h} {ws} {ks} {c} r =
    let p : Lies h ws ks = clean_lies h ws ks r.clean in
    let o : RoomIn h 1 c = ready_room r in
    record { head = p.head; node_len = omega (arith, p.node_slots, o.nodes); nodes = omega arith; children = omega arith }

-- the next slot is not used
pub blank_ready : {h ws ks : List ℕ} {c : ℕ} → Ready h ws ks 1 c → BlankReady h ws c
blank_ready {h} {ws} {ks} {c} r =
    let o : RoomIn h 1 c = ready_room r in
    record { pushable = pushable_in r; slot = next_unused h ws ks r.clean o.nodes }

-- a push that writes the counts alone
pub counted_push : {h ws h' ws' : List ℕ} {n k c : ℕ} {st : TypeState} {t : «Type»} → HEAD_WORDS ≤ length h → get_or h 6 0 < HALF → n ≡ nodes_made h → k ≡ children_made h
    → t.0 ≡ n → ws' ≡ put_at ws (n + 1) n (Root st 1) → h' ≡ put_counts h (n + 1) (k + c)
    → Pushed h ws h' ws' (header_in h) c (header_in h).error (header_in h).nil st t
counted_push {h} {n = n} {k = k} {c = c} l s p q e w g = record {
  type = e ∙ p;
  nodes = rw p at w;
  head = rw (p, q) at (g ∙ put_counts_lem h (n + 1) (k + c) l s);
}

-- a push

module _ {h ws ks h' ws' : List ℕ} {c : ℕ} {st : TypeState} {e z : Remembered} {t : «Type»} (r : Ready h ws ks 1 c)
    (p : Pushed h ws h' ws' (header_in h) c e z st t) where
  pub pushed_type : ty_of t.0 ≡ next_type (store_in h ws ks)
  pushed_type =
      let o : RoomIn h 1 c = ready_room r in
      ap ty_of p.type ∙ (ty_plain (nodes_made h) (omega arith) ∙ ap (ty false) (sym (store_count h ws ks)))

  module _ (ks' : List ℕ) (len : length ks' ≡ length ks) (kept : Kept (children_made h) ks ks')
      (after : drop (child_words (children_made h + c)) ks' ≡ drop (child_words (children_made h + c)) ks)
      (fits : state_fits ks' (children_made h + c) st ≡ true) where
    pub pushed_became : remembered_fits e ≡ true → remembered_fits z ≡ true
        → Became h ws ks h' ws' ks' (remembering (pushed (store_in h ws ks) (state_means ks' st) c) (remembered_means e) (remembered_means z))
    unfolding store_in
    pushed_became a b =
        let o : RoomIn h 1 c = ready_room r in
        rw (p.nodes, p.head) (record {
          holds = push_holds h ws ks ks' r.clean c st e z o.nodes o.children len kept after fits a b;
          beyond = push_beyond h ws ks ks' r.clean c st e z o.nodes o.children len kept after fits;
        })

-- new: the same types are remembered

module _ {h ws ks h' ws' : List ℕ} {c : ℕ} {st : TypeState} {t : «Type»} (r : Ready h ws ks 1 c)
    (p : Pushed h ws h' ws' (header_in h) c (header_in h).error (header_in h).nil st t) where
  pub pushed_made : (ks' : List ℕ) → length ks' ≡ length ks → Kept (children_made h) ks ks'
      → drop (child_words (children_made h + c)) ks' ≡ drop (child_words (children_made h + c)) ks
      → state_fits ks' (children_made h + c) st ≡ true
      → MadeIs h ws ks h' ws' ks' t (record { type = next_type (store_in h ws ks); store = pushed (store_in h ws ks) (state_means ks' st) c })
  pushed_made ks' len kept after fits = record {
    type = pushed_type r p;
    store =
        rw (error_is h ws ks, nil_is h ws ks) at
        (pushed_became r p ks' len kept after fits (remembered_fits_lem (get_or h 4 0)) (remembered_fits_lem (get_or h 5 0)));
  }

pub blank_made : {h ws ks h' ws' : List ℕ} {p c : ℕ} {t : «Type»} → Ready h ws ks 1 c
    → Pushed h ws h' ws' (header_in h) c (header_in h).error (header_in h).nil (Unknown p) t → BlankMade h ws ks h' ws' p c t
blank_made {h} {ws} {ks} r o = record {
  made = pushed_made r o ks refl (kept_refl (children_made h) ks) refl refl;
  node = o.type;
  nodes = o.nodes;
}

pub var_made : {h ws ks h' ws' : List ℕ} {p : ℕ} {t : «Type»} → BlankMade h ws ks h' ws' p 0 t → MadeIs h ws ks h' ws' ks t (new_var (store_in h ws ks) p)
unfolding new_var
var_made o = o.made

-- the header with other types remembered

module _ {h ws ks : List ℕ} {e z : Remembered} (r : Rememberable h ws ks e z) where
  pub header_long : HEAD_WORDS ≤ length h
  header_long = (clean_lies h ws ks r.clean).head

  remembered_lies : Lies (put_header h (with_remembered (header_in h) e z)) ws ks
  unfolding put_header
  remembered_lies =
      let l : Lies h ws ks = clean_lies h ws ks r.clean in
      record {
        head = omega (arith, length_put_header h (with_remembered (header_in h) e z) l.head, l.head);
        nodes = l.nodes;
        children = l.children;
        node_slots = l.node_slots;
        child_slots = l.child_slots;
      }

  remembered_clean : clean (put_header h (with_remembered (header_in h) e z)) ws ks ≡ true
  unfolding put_header
  remembered_clean =
      clean_of (put_header h (with_remembered (header_in h) e z)) ws ks remembered_lies
      (unused_grown h ws ks (put_header h (with_remembered (header_in h) e z)) ws ks
      (record { node_rooms = refl; child_rooms = refl; nodes = omega arith; children = omega arith; node_tail = refl; child_tail = refl })
      (clean_unused h ws ks r.clean)) (clean_nodes h ws ks r.clean)

  pub remembered_became : {h' : List ℕ} → h' ≡ put_header h (with_remembered (header_in h) e z)
      → Became h ws ks h' ws ks (remembering (store_in h ws ks) (remembered_means e) (remembered_means z))
  unfolding store_in
  remembered_became w = rw w (record {
    holds = record { clean = remembered_clean; is = store_put h (with_remembered (header_in h) e z) r.error r.nil ws ks };
    beyond = record { head = tail_put_header h (with_remembered (header_in h) e z); nodes = refl; kids = refl };
  })

-- error and nil: a kind without children, and what is remembered then

module _ {h ws ks h' ws' : List ℕ} {e z : Remembered} {t : «Type»} (c : ℕ) (row : (row_of c).names ≡ NO_NAMES) (r : Ready h ws ks 1 0)
    (p : Pushed h ws h' ws' (header_in h) 0 e z (Known (record { 0 = false }) (bare_kind c)) t) where
  bare_became : remembered_fits e ≡ true → remembered_fits z ≡ true
      → Became h ws ks h' ws' ks (remembering (new (store_in h ws ks) (bare c)).store (remembered_means e) (remembered_means z))
  unfolding new
  bare_became a b =
      rw (bare_means ks c row) at (pushed_became r p ks refl (kept_refl (children_made h) ks) refl (bare_fits ks (children_made h + 0) c row) a b)

-- the type of the next node may be remembered
module _ {h ws ks : List ℕ} {c : ℕ} (r : Ready h ws ks 1 c) where
  next_fits : remembered_fits (Some (type_of (nodes_made h))) ≡ true
  next_fits =
      let o : RoomIn h 1 c = ready_room r in
      rw (ne_eqb (nodes_made h) NONE (λ q. omega arith)) refl

  next_means : remembered_means (Some (type_of (nodes_made h))) ≡ some (next_type (store_in h ws ks))
  next_means =
      let o : RoomIn h 1 c = ready_room r in
      ap some (ty_plain (nodes_made h) (omega arith) ∙ ap (ty false) (sym (store_count h ws ks)))

-- what it makes, where remembering e and z is what `remember` does

module _ (h ws ks : List ℕ) (c : ℕ) (row : (row_of c).names ≡ NO_NAMES) (remember : Made → Made) (e z : Remembered) where
  abbrev s : nodes.Store
  s = store_in h ws ks

  abbrev kept : Made
  kept = record { type = next_type s; store = remembering (new s (bare c)).store (remembered_means e) (remembered_means z) }

  record Remembers : Type 0 where
    makes : remember (new s (bare c)) ≡ kept
    first : remembered_fits e ≡ true
    second : remembered_fits z ≡ true

  same_made : (t : «Type») → clean h ws ks ≡ true → MadeIs h ws ks h ws ks t (record { type = ty_of t.0; store = s })
  same_made t ok = record { type = refl; store = record { holds = record { clean = ok; is = refl }; beyond = beyond_refl } }

  once_by : (was : Remembered) {h' ws' : List ℕ} {t : «Type»} → Ready h ws ks (nodes_for (remembered_means was)) 0 → (Ready h ws ks 1 0 → Remembers)
      → OnceMade h ws h' ws' (header_in h) was e z c t → MadeIs h ws ks h' ws' ks t (again s (remembered_means was) (remember (new s (bare c))))
  once_by (Some u) r f o =
      let p = o.same u refl in
      rw (p.0, p.1.0, p.1.1) (same_made u r.clean)
  once_by None r f o =
      let m : Remembers = f r in
      let p = o.new refl in
      rw m.makes (record { type = pushed_type r p; store = bare_became c row r p m.first m.second })

  once_made : (was : Remembered) {o : Option Ty} {h' ws' : List ℕ} {t : «Type»} → remembered_means was ≡ o → Ready h ws ks (nodes_for o) 0
      → (Ready h ws ks 1 0 → Remembers) → OnceMade h ws h' ws' (header_in h) was e z c t
      → MadeIs h ws ks h' ws' ks t (again s o (remember (new s (bare c))))
  once_made was {h' = h'} {ws' = ws'} {t = t} g r f m =
      subst (λ (o : Option Ty). MadeIs h ws ks h' ws' ks t (again s o (remember (new s (bare c))))) g
      (once_by was (subst (λ (o : Option Ty). Ready h ws ks (nodes_for o) 0) (sym g) r) f m)

error_row : (row_of ERROR).names ≡ NO_NAMES
unfolding row_of rows
error_row = refl

nil_row : (row_of TUPLE).names ≡ NO_NAMES
unfolding row_of rows
nil_row = refl

pub once_ready : {h ws ks : List ℕ} {was : Remembered} {o : Option Ty} → clean h ws ks ≡ true → remembered_means was ≡ o
    → Ready h ws ks (nodes_for o) 0 → OnceReady h ws (header_in h) was
once_ready {h} {ws} {ks} k g r = record { head = (clean_lies h ws ks k).head; pushable = λ e. pushable_in (rw (← g, e) at r) }

module _ (h ws ks : List ℕ) where
  abbrev next : Remembered
  next = Some (type_of (nodes_made h))

  error_kept : Ready h ws ks 1 0 → Remembers h ws ks ERROR error_row remember_error next (header_in h).nil
  unfolding new
  error_kept r = record { makes = rw (next_means r, nil_is h ws ks); first = next_fits r; second = remembered_fits_lem (get_or h 5 0) }

  nil_kept : Ready h ws ks 1 0 → Remembers h ws ks TUPLE nil_row remember_nil (header_in h).error next
  unfolding new
  nil_kept r = record { makes = rw (next_means r, error_is h ws ks); first = remembered_fits_lem (get_or h 4 0); second = next_fits r }

  module _ {x : Header} (q : x ≡ header_in h) where
    pub head_error : remembered_means x.error ≡ (store_in h ws ks).error
    head_error = rw q (error_is h ws ks)

    pub head_nil : remembered_means x.nil ≡ (store_in h ws ks).nil
    head_nil = rw q (nil_is h ws ks)

  pub once_is : (w : Once) → remembered_means (remembered_by w (header_in h)) ≡ once_of w (store_in h ws ks)
  once_is once.Error = error_is h ws ks
  once_is once.Nil = nil_is h ws ks

  pub once_is_made : (w : Once) {h' ws' : List ℕ} {t : «Type»} → Ready h ws ks (nodes_for (once_of w (store_in h ws ks))) 0 → OnceLeaves w h ws h' ws' t
      → MadeIs h ws ks h' ws' ks t (make_once w (store_in h ws ks))
  unfolding make_error make_nil
  once_is_made once.Error r o = once_made h ws ks ERROR error_row remember_error next (header_in h).nil (header_in h).error (error_is h ws ks) r error_kept o
  once_is_made once.Nil r o = once_made h ws ks TUPLE nil_row remember_nil (header_in h).error next (header_in h).nil (nil_is h ws ks) r nil_kept o
