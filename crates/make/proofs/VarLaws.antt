-- A run of variables is made at its end as well as at its front: one variable more is new_var on the store that the others left, and its type comes
-- after theirs. So a loop that makes one after the other makes what new_vars says.
-- Assumes nothing.
use mathlib.Core.Path.{◌≡◌, refl, ap, sym, subst, ◌∙◌}
use mathlib.Core.List.{List, [], ◌∷◌, ◌++◌, map, map-append, append_assoc}
use Prim.Native.Nat.{ℕ, zero, suc, ◌+◌, ◌<◌, ◌≤◌}
use native.Mathlib.Omega.{arith}
use native.Mathlib.Nat.{add-zero}
use native.Mathlib.Numerals.{add-one}
use lib.ListN.{length, get_or, drop, set, length-append, length-map, length-drop}
use lib.Seq.{drop-cons, set_at}
use Rattle.scope.specs.Types.{Ty, word_of}
use Rattle.scope.specs.Nodes.{Store}
use Rattle.scope.specs.Make.{Made, MadeAll, new_var, new_vars}
use Rattle.scope.specs.Calls.{written}
use Rattle.types.specs.declared.«Type».{«Type»}
use Rattle.types.proofs.Laws.{word_is}
use Rattle.layout.specs.Words.{store_in}
use Rattle.store.specs.Holds.{Ready}
use Rattle.make.specs.Made.{MadeIs, MadeAllIs}
use Rattle.store.proofs.Laws.{beyond_refl, beyond_trans}

-- one variable after n others
abbrev after : MadeAll → ℕ → MadeAll
after a p = let m : Made = new_var a.store p in record { types = a.types ++ (m.type ∷ []); store = m.store }

vars_suc : (s : Store) (p n : ℕ) → new_vars s p (suc n) ≡ after (new_vars s p n) p
unfolding new_vars
vars_suc s p zero = refl
vars_suc s p (suc n) =
    ap (λ (r : MadeAll). record { types = (new_var s p).type ∷ r.types; store = r.store }) (vars_suc (new_var s p).store p n)

vars_more_is : (s : Store) (p n : ℕ) → new_vars s p (n + 1) ≡ after (new_vars s p n) p
vars_more_is s p n = ap (new_vars s p) (add-one n) ∙ vars_suc s p n

-- what n variables leave of a store
record Left (s o : Store) (n : ℕ) : Type 0 where
  nodes : length o.nodes ≡ length s.nodes + n
  children : o.children ≡ s.children
  node_room : o.node_room ≡ s.node_room
  child_room : o.child_room ≡ s.child_room

var_left : (s o : Store) (n p : ℕ) → Left s o n → Left s (new_var o p).store (suc n)
unfolding new_var
var_left s o n p l = record {
  nodes = rw length-append (rw l.nodes (omega arith));
  children = rw add-zero l.children;
  node_room = l.node_room;
  child_room = l.child_room;
}

vars_left : (s : Store) (p n : ℕ) → Left s (new_vars s p n).store n
unfolding new_vars
vars_left s p zero = record { nodes = omega arith; children = refl; node_room = refl; child_room = refl }
vars_left s p (suc n) =
    subst (λ (r : MadeAll). Left s r.store (suc n)) (sym (vars_suc s p n)) (var_left s (new_vars s p n).store n p (vars_left s p n))

vars_types : (s : Store) (p n : ℕ) → length (new_vars s p n).types ≡ n
unfolding new_vars
vars_types s p zero = refl
vars_types s p (suc n) = ap suc (vars_types (new_var s p).store p n)

-- the front of a list of words

pub written_length : (ts : List Ty) (out : List ℕ) → length ts ≤ length out → length (written ts out) ≡ length out
written_length ts out h = simp (length-append, length-map) (omega (arith, length-drop (length ts) out))

pub written_more : (ts : List Ty) (t : Ty) (out : List ℕ) (i : ℕ) → length ts ≡ i → i < length out → set (written ts out) i (word_of t) ≡ written (ts ++ (t ∷ [])) out
written_more ts t out i z h =
    let e : length (ts ++ (t ∷ [])) ≡ suc i = length-append ts (t ∷ []) ∙ omega arith in
    rw (z, drop-cons out i 0 h, set_at (map word_of ts) (get_or out i 0) (drop (suc i) out) (word_of t) i (length-map ts word_of ∙ z))
    (rw (e, map-append word_of ts (t ∷ []), append_assoc) refl)

-- the loop

module _ {h₀ ws₀ ks h ws out₀ out : List ℕ} (p i : ℕ) (o : MadeAllIs h₀ ws₀ ks h ws ks out₀ out (new_vars (store_in h₀ ws₀ ks) p i)) where
  abbrev was : Store
  was = store_in h₀ ws₀ ks

  abbrev made : MadeAll
  made = new_vars was p i

  pub vars_ready : {n : ℕ} → Ready h₀ ws₀ ks n 0 → i < n → Ready h ws ks 1 0
  vars_ready r l =
      let v : Left was made.store i = vars_left was p i in
      let e : store_in h ws ks ≡ made.store = o.store.holds.is in
      record {
        clean = o.store.holds.clean;
        room = rw e (record {
          node_limit = rw v.node_room r.room.node_limit;
          child_limit = rw v.child_room r.room.child_limit;
          nodes = rw (v.nodes, v.node_room) (omega (arith, r.room.nodes));
          children = rw (v.children, v.child_room) r.room.children;
        });
      }

  pub vars_more : {h' ws' out' : List ℕ} {t : «Type»} → MadeIs h ws ks h' ws' ks t (new_var (store_in h ws ks) p) → i < length out₀ → t.0 < 4294967296
      → out' ≡ set out i t.0 → MadeAllIs h₀ ws₀ ks h' ws' ks out₀ out' (new_vars was p (i + 1))
  unfolding new_var
  vars_more {t = t} m l b q =
      let m' = rw o.store.holds.is at m in
      let w : t.0 ≡ word_of (new_var made.store p).type = word_is t.0 b m'.type in
      rw (vars_more_is was p i) (record {
        types = q
            ∙ (ap (λ (l : List ℕ). set l i t.0) o.types
            ∙ rw w (written_more made.types (new_var made.store p).type out₀ i (vars_types was p i) l));
        store = record { holds = m'.store.holds; beyond = beyond_trans o.store.beyond m'.store.beyond };
      })

pub vars_none : {h ws ks out : List ℕ} {n : ℕ} (p : ℕ) → Ready h ws ks n 0 → MadeAllIs h ws ks h ws ks out out (new_vars (store_in h ws ks) p 0)
unfolding new_vars
vars_none p r = record { types = refl; store = record { holds = record { clean = r.clean; is = refl }; beyond = beyond_refl } }
