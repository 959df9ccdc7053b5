-- What header and nodes of a tested store say, and one law for each way out of the calls that are lent no more.
-- Assumes nothing.
use mathlib.Core.Path.{◌≡◌, refl, ap, ◌∙◌}
use mathlib.Core.List.{List, [], ◌∷◌, ◌++◌}
use mathlib.Core.Option.{Option, none, some}
use Prim.Native.Nat.{ℕ, ◌+◌, ◌≤◌, ◌<◌}
use native.Mathlib.Omega.{arith}
use borrow.Author.Tests.{lt-ltb, le-ltb}
use Rattle.scope.specs.Chart.{Env}
use Rattle.scope.specs.Types.{ty_of}
use Rattle.scope.specs.Nodes.{Node, find}
use Rattle.scope.specs.Refusals.{NODES_FULL}
use Rattle.scope.specs.Make.{new_var}
use Rattle.scope.specs.Sound.{Lent}
use Rattle.scope.specs.Calls.{first_broken, judged, store_of, lent_tests, room_tests, made_type, nodes_for, new_var_call, error_call, nil_call, find_call, find_mut_call}
use Rattle.types.specs.declared.«Type».{«Type»}
use Rattle.layout.specs.Words.{nodes_made, children_made, node_room, child_room, store_in, lent_of}
use Rattle.layout.specs.Meaning.{header_in, remembered_means, Linked, Lies}
use Rattle.layout.specs.Meaning.{Remembered}
use Rattle.layout.specs.declared.TypeState.TheVariants.{Unknown}
use Rattle.layout.proofs.StoreLaws.{clean_lies}
use Rattle.heads.specs.declared.Once.{Once}
use Rattle.heads.specs.declared.Once.TheVariants as once
use Rattle.heads.specs.Heads.{remembered_by}
use Rattle.make.specs.Once.{once_of, make_once, OnceLeaves}
use Rattle.tested_lean.specs.Once.{once_call}
use Rattle.roots.specs.Found.{Found, FoundMut}
use Rattle.make.specs.Header.{Pushed, BlankReady, OnceReady}
use Rattle.make.proofs.MakeLaws.{blank_ready, blank_made, var_made, once_ready, once_is, once_is_made}
use Rattle.refusals.proofs.RoomLaws.{nodes_full, room_left}
use Rattle.promise.specs.Promise.{value, refusal, Tested, TypesInside}
use Rattle.promise.proofs.Laws.{tested_clean, inside_tested}
use Rattle.promise.proofs.ReadLaws.{read_refused, read_linked, read_nodes}
use Rattle.tested_lean.specs.Room.{RoomTested}
use Rattle.tested_lean.proofs.MakerLaws.{RoomFor, for_room, maker_back, maker_ready, maker_done, once_tested}
use Rattle.tested_lean.proofs.FindLaws.{mut_refused, mut_answer}
use Rattle.tested_lean.specs.Each.{Passed, EachPromised, EachAnswered, Within}

tested_within : {e : Env} {h ws ks : List ℕ} → Tested e h ws ks → Within h
tested_within {h = h} {ws = ws} {ks = ks} q =
    let l : Lies h ws ks = clean_lies h ws ks (tested_clean q) in
    record { head = l.head; nodes = l.nodes; children = l.children }

pub passed_within : {h ws : List ℕ} → Passed h ws → Within h
passed_within p = tested_within p.tested

-- room for one node more, and for none

module _ {h : List ℕ} (w : Within h) (ws ks : List ℕ) where
  pub node_full : node_room h ≤ nodes_made h → first_broken (room_tests (store_in h ws ks) 1 0) ≡ some NODES_FULL
  node_full l = nodes_full h ws ks (header_in h) refl 1 0 (lt-ltb (node_room h) (nodes_made h + 1) (omega arith))

  pub node_left : nodes_made h < node_room h → first_broken (room_tests (store_in h ws ks) 1 0) ≡ none
  node_left l =
      room_left h ws ks (header_in h) refl 1 0 (le-ltb (node_room h) (nodes_made h + 1) (omega arith)) (le-ltb (child_room h) (children_made h + 0) (omega (arith, w.children)))

  pub none_left : first_broken (room_tests (store_in h ws ks) 0 0) ≡ none
  none_left =
      room_left h ws ks (header_in h) refl 0 0 (le-ltb (node_room h) (nodes_made h + 0) (omega (arith, w.nodes))) (le-ltb (child_room h) (children_made h + 0) (omega (arith, w.children)))

-- new_var

module _ {h ws : List ℕ} (span : ℕ) where
  pub var_back : {n : ℕ} → RoomFor h 1 (some n) → EachPromised (λ e l. new_var_call e l span) (refusal n) h ws h ws
  unfolding new_var_call
  var_back room = record { each = λ q. maker_back (for_room 1 q room) (λ s. new_var s span) }

  pub var_ready : RoomFor h 1 none → Passed h ws → BlankReady h ws 0
  var_ready room p = blank_ready (maker_ready (for_room 1 p.tested room))

  pub var_done : {h' ws' : List ℕ} {t : «Type»} → RoomFor h 1 none → Pushed h ws h' ws' (header_in h) 0 (header_in h).error (header_in h).nil (Unknown span) t
      → EachPromised (λ e l. new_var_call e l span) (value (ty_of t.0)) h ws h' ws'
  unfolding new_var_call
  var_done room o = record {
    each = λ q. maker_done (for_room 1 q room) (λ s. new_var s span) (var_made (blank_made (maker_ready (for_room 1 q room)) o));
  }

-- error and nil

once_call_is : (w : Once) (e : Env) (l : Lent)
    → once_call w e l ≡ judged (lent_tests e l ++ room_tests (store_of l) (nodes_for (once_of w (store_of l))) 0) (made_type (make_once w (store_of l)))
unfolding error_call nil_call
once_call_is once.Error e l = refl
once_call_is once.Nil e l = refl

module _ {h : List ℕ} {was : Remembered} (w : Once) (g : was ≡ remembered_by w (header_in h)) where
  for_once : {v : Env} {ws ks : List ℕ} {o : Option ℕ} → RoomFor h (nodes_for (remembered_means was)) o → Tested v h ws ks
      → RoomTested v h ws ks (λ s. nodes_for (once_of w s)) o
  for_once {ws = ws} {ks = ks} room q =
      once_tested (once_of w) (ap (λ (r : Remembered). nodes_for (remembered_means r)) g ∙ ap nodes_for (once_is h ws ks w)) q room

  pub once_back : {ws : List ℕ} {n : ℕ} → RoomFor h (nodes_for (remembered_means was)) (some n) → EachPromised (once_call w) (refusal n) h ws h ws
  once_back {ws = ws} room = record {
    each = λ {e = v} {ks = ks} q. rw (once_call_is w v (lent_of h ws ks)) (maker_back (for_once room q) (make_once w));
  }

  pub once_can : {ws : List ℕ} → RoomFor h (nodes_for (remembered_means was)) none → Passed h ws → OnceReady h ws (header_in h) (remembered_by w (header_in h))
  once_can {ws} room p = once_ready (tested_clean p.tested) (once_is h ws p.kids w) (maker_ready (for_once room p.tested))

  pub once_done : {ws h' ws' : List ℕ} {t : «Type»} → RoomFor h (nodes_for (remembered_means was)) none → OnceLeaves w h ws h' ws' t
      → EachPromised (once_call w) (value (ty_of t.0)) h ws h' ws'
  once_done {ws = ws} room o = record {
    each = λ {e = v} {ks = ks} q.
        rw (once_call_is w v (lent_of h ws ks)) (maker_done (for_once room q) (make_once w) (once_is_made h ws ks w (maker_ready (for_once room q)) o));
  }

-- find and find_mut

module _ {h : List ℕ} (t : «Type») where
  module _ {n : ℕ} (outside : TypesInside h (ty_of t.0 ∷ []) (some n)) where
    pub find_back : {ws : List ℕ} → EachAnswered (λ e l. find_call e l (ty_of t.0)) (refusal n) h ws
    unfolding find_call
    find_back = record { each = λ q. read_refused (inside_tested q outside) _ }

    pub mut_back : {ws : List ℕ} → EachPromised (λ e l. find_mut_call e l (ty_of t.0)) (refusal n) h ws h ws
    mut_back = record { each = λ q. mut_refused t (inside_tested q outside) }

  module _ (inside : TypesInside h (ty_of t.0 ∷ []) none) {ws : List ℕ} {m : ℕ} (g : m ≡ nodes_made h) where
    pub find_linked : Passed h ws → Linked ws m
    find_linked p = rw g (read_linked (inside_tested p.tested inside) {x = header_in h} refl)

    pub find_done : {r : «Type»} → Found ws m t.0 r.0 → EachAnswered (λ e l. find_call e l (ty_of t.0)) (value (ty_of r.0)) h ws
    unfolding find_call
    find_done f = record {
      each = λ {ks = ks} q. read_nodes (inside_tested q inside) {x = header_in h} refl (λ (ns : List Node). find ns (ty_of t.0)) ((rw g at f).root ks);
    }

    pub mut_done : {ws' : List ℕ} {r : «Type»} → FoundMut ws m ws' t.0 r.0
        → EachPromised (λ e l. find_mut_call e l (ty_of t.0)) (value (ty_of r.0)) h ws h ws'
    mut_done f = record { each = λ q. mut_answer t (inside_tested q inside) {x = header_in h} refl (rw g at f) }
