-- `export` out of a sound store is an import of the remembered types and then the listed ones, and leaves a sound store. Assumes nothing.
use mathlib.Core.Path.{◌≡◌, refl, sym, ap, subst, ◌∙◌}
use mathlib.Core.List.Memᴰ
use mathlib.Core.List.{List, [], ◌∷◌, ◌++◌, Memᴰ}
use mathlib.Core.Bool.{false}
use mathlib.Core.Option.{Option, none, some}
use mathlib.Core.Logic.{◌⊎◌, inl, inr}
use Prim.Native.Nat.{ℕ, zero, suc, ◌≤◌, ◌<◌}
use native.Mathlib.Omega.{arith}
use lib.ListN.{length}
use Rattle.scope.specs.Limits.{MAX_NODES, MAX_CHILDREN}
use Rattle.scope.specs.Chart.{Env}
use Rattle.scope.specs.Types.{Ty}
use Rattle.scope.specs.Nodes.{State, Known, Unknown, InferenceFailed, Node, Store, at, state_of, find}
use Rattle.scope.specs.Import.{Work, Moved, MovedAll, copy_of, keep, replaced, begun, many, copied, place, transfer, start, import, carried, first_of, export}
use Rattle.scope.proofs.Merge.{Shallow}
use Rattle.scope.proofs.SoundLaws.{SoundNodes, SoundFacts}
use Rattle.scope.proofs.Imports.{Imported}
use Rattle.scope.proofs.SoundKept.{Kept}
use Rattle.scope.proofs.ImportKept.{import_leaves, import_kept}

-- a remembered type as a list
abbrev listed : Option Ty → List Ty
listed none = []
listed (some t) = t ∷ []

listed_is : (o : Option Ty) (t : Ty) → Memᴰ t (listed o) → o ≡ some t
listed_is none t m = elim m [ ]
listed_is (some u) t m = ap some (sym (Memᴰ.eq_of_singleton m))

first_in : (ts : List Ty) (t : Ty) → first_of ts ≡ some t → Memᴰ t ts
first_in [] t q = let z : ◌≡◌ {A = ℕ} 0 1 = cc in absurd (omega arith)
first_in (u ∷ ts) t q = let z : t ≡ u = cc in Memᴰ.head z

module _ (g : Work → Ty → Moved) where
  many_work : (w : Work) (xs ys : List Ty) → (many g w (xs ++ ys)).work ≡ (many g (many g w xs).work ys).work
  unfolding many
  many_work w [] ys = refl
  many_work w (x ∷ xs) ys = many_work (g w x).work xs ys

  many_types : (w : Work) (xs ys : List Ty) → (many g w (xs ++ ys)).types ≡ (many g w xs).types ++ (many g (many g w xs).work ys).types
  unfolding many
  many_types w [] ys = refl
  many_types w (x ∷ xs) ys = ap (λ (ts : List Ty). (g w x).type ∷ ts) (many_types (g w x).work xs ys)

  carried_many : (w : Work) (o : Option Ty) → carried g w o ≡ many g w (listed o)
  unfolding many
  carried_many w none = refl
  carried_many w (some t) = refl

  -- where no entry is missed
  many_miss : ((w : Work) (t : Ty) → (g w t).work.missing ≡ w.missing) → (w : Work) (ts : List Ty) → (many g w ts).work.missing ≡ w.missing
  unfolding many
  many_miss h w [] = refl
  many_miss h w (t ∷ ts) = many_miss h (g w t).work ts ∙ h w t

-- without a parameter list no entry is missing
transfer_miss : (ns : List Node) (f : ℕ) (w : Work) (t : Ty) → (transfer f ns none w t).work.missing ≡ w.missing
unfolding transfer replaced
transfer_miss ns zero w t = refl
transfer_miss ns (suc f) w t = go (transfer_miss ns f) (copy_of w.mapping (find ns t).idx)
  where
    go : ((w : Work) (t : Ty) → (transfer f ns none w t).work.missing ≡ w.missing) → (o : Option ℕ)
        → (place (transfer f ns none) w (find ns t) (state_of (at ns (find ns t).idx)) keep o).work.missing ≡ w.missing
    go ih (some n) = refl
    go ih none = new (state_of (at ns (find ns t).idx))
      where
        new : (st : State) → (copied (transfer f ns none) w (find ns t) st).work.missing ≡ w.missing
        new (Known i k) = many_miss (transfer f ns none) ih (begun w (find ns t).idx (Known i k)) k.kids
        new (Unknown p) = refl
        new InferenceFailed = refl

module _ (e : Env) (s d : Store) (ts : List Ty) (ok : SoundFacts e s) (fresh : SoundFacts e d)
    (inside : (t : Ty) → Memᴰ t ts → t.idx < length s.nodes) where
  abbrev g : Work → Ty → Moved
  g = transfer (length s.nodes) s.nodes none

  -- what is imported
  abbrev whole : List Ty
  whole = listed s.error ++ (listed s.nil ++ ts)

  abbrev a : MovedAll
  a = many g (start d) (listed s.error)

  abbrev b : MovedAll
  b = many g a.work (listed s.nil)

  abbrev m : MovedAll
  m = import s.nodes none d whole

  whole_inside : (t : Ty) → Memᴰ t whole → t.idx < length s.nodes
  whole_inside t w = go (Memᴰ.append_cases (listed s.error) w)
    where
      then : Memᴰ t (listed s.nil) ⊎ Memᴰ t ts → t.idx < length s.nodes
      then (inl w) = ok.nil t (listed_is s.nil t w)
      then (inr w) = inside t w

      go : Memᴰ t (listed s.error) ⊎ Memᴰ t (listed s.nil ++ ts) → t.idx < length s.nodes
      go (inl w) = ok.error t (listed_is s.error t w)
      go (inr w) = then (Memᴰ.append_cases (listed s.nil) w)

  miss : m.work.missing ≡ false
  unfolding import
  miss = many_miss g (transfer_miss s.nodes (length s.nodes)) (start d) whole

  leaves : Imported s.nodes none d whole m
  leaves = import_leaves e s.nodes none d whole ok.nodes fresh whole_inside (λ t w. elim w [ ]) miss

  -- the three parts of `export`, as it takes them
  abbrev a' : MovedAll
  a' = carried g (start d) s.error

  abbrev b' : MovedAll
  b' = carried g a'.work s.nil

  a_same : a' ≡ a
  a_same = carried_many g (start d) s.error

  b_same : b' ≡ b
  b_same = carried_many g a'.work s.nil ∙ ap (λ (x : MovedAll). many g x.work (listed s.nil)) a_same

  work_same : (many g b'.work ts).work ≡ m.work
  unfolding import
  work_same = ap (λ (x : MovedAll). (many g x.work ts).work) b_same
      ∙ sym (many_work g (start d) (listed s.error) (listed s.nil ++ ts) ∙ many_work g a.work (listed s.nil) ts)

  types_same : m.types ≡ a'.types ++ (b'.types ++ (many g b'.work ts).types)
  unfolding import
  types_same =
      many_types g (start d) (listed s.error) (listed s.nil ++ ts)
      ∙ ap (λ (xs : List Ty). a.types ++ xs) (many_types g a.work (listed s.nil) ts)
      ∙ ap (λ (x : MovedAll). x.types ++ (b.types ++ (many g b.work ts).types)) (sym a_same)
      ∙ ap (λ (x : MovedAll). a'.types ++ (x.types ++ (many g x.work ts).types)) (sym b_same)

  moved_inside : (t : Ty) → Memᴰ t (a'.types ++ (b'.types ++ (many g b'.work ts).types)) → t.idx < length (many g b'.work ts).work.dest.nodes
  moved_inside t w = rw work_same (leaves.inside t (subst (Memᴰ t) (sym types_same) w))

  pub export_inside : (t : Ty) → Memᴰ t (export s d ts).types → t.idx < length (export s d ts).work.dest.nodes
  unfolding export
  export_inside t w = moved_inside t (Memᴰ.append_right a'.types (Memᴰ.append_right b'.types w))

  pub export_kept : length (export s d ts).work.dest.nodes ≤ d.node_room → (export s d ts).work.dest.children ≤ d.child_room
      → Kept e d (export s d ts).work.dest
  unfolding export
  export_kept hn hc = record {
    facts = record {
      nodes = subst (λ (w : Work). SoundNodes e w.dest.nodes) (sym work_same) k.facts.nodes;
      error = λ t q. moved_inside t (Memᴰ.append_left _ (first_in a'.types t q));
      nil = λ t q. moved_inside t (Memᴰ.append_right a'.types (Memᴰ.append_left _ (first_in b'.types t q)));
      node_limit = subst (λ (w : Work). w.dest.node_room ≤ MAX_NODES) (sym work_same) k.facts.node_limit;
      child_limit = subst (λ (w : Work). w.dest.child_room ≤ MAX_CHILDREN) (sym work_same) k.facts.child_limit;
      node_room_lem = subst (λ (w : Work). length w.dest.nodes ≤ w.dest.node_room) (sym work_same) k.facts.node_room_lem;
      child_room_lem = subst (λ (w : Work). w.dest.children ≤ w.dest.child_room) (sym work_same) k.facts.child_room_lem;
    };
    shallow = λ h. subst (λ (w : Work). Shallow w.dest.nodes) (sym work_same) (k.shallow h);
    room = record {
      nodes = subst (λ (w : Work). w.dest.node_room ≡ d.node_room) (sym work_same) k.room.nodes;
      children = subst (λ (w : Work). w.dest.child_room ≡ d.child_room) (sym work_same) k.room.children;
    };
  }
    where
      k : Kept e d m.work.dest
      k = import_kept e s.nodes none d whole ok.nodes fresh whole_inside (λ t w. elim w [ ]) miss
          (subst (λ (w : Work). length w.dest.nodes ≤ d.node_room) work_same hn) (subst (λ (w : Work). w.dest.children ≤ d.child_room) work_same hc)
