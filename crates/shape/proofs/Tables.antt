-- A table of a number or a mark for each node, just made and after a store: only the entry that was stored changes.
-- Assumes nothing.
use mathlib.Core.Path.{◌≡◌, refl}
use mathlib.Core.List.{List}
use Prim.Native.Nat.{ℕ, zero, suc, ◌<◌}
use native.Mathlib.Decide.{ℕ_discrete}
use lib.ListN.{length, get_or, set, replicate, length-replicate}
use lib.Seq.{get_or-set_same, get_or-set_other}
use Rattle.scope.specs.Limits.{MAX_NODES}

pub blank : {A : Type 0} (x : A) (m v : ℕ) → get_or (replicate m x) v x ≡ x
blank x zero v = refl
blank x (suc m) zero = refl
blank x (suc m) (suc v) = blank x m v

pub zeros : (m v : ℕ) → ◌≡◌ {A = ℕ} (get_or (replicate m 0) v 0) 0
zeros m v = blank {A = ℕ} 0 m v

pub blank_long : {A : Type 0} (x : A) → length (replicate MAX_NODES x) ≡ MAX_NODES
blank_long x = length-replicate MAX_NODES x

pub stored_by : {A : Type 0} (d : A) (P : ℕ → A → Type 0) (t : List A) (v : ℕ) (h : A) → v < length t → P v h → ((u : ℕ) → (u ≡ v → ⊥) → P u (get_or t u d))
    → (u : ℕ) → P u (get_or (set t v h) u d)
stored_by d P t v h l p f u = go (ℕ_discrete u v)
  where
    go : Dec (u ≡ v) → P u (get_or (set t v h) u d)
    go (yes e) = rw (e, get_or-set_same t v h d l) p
    go (no z) = rw (get_or-set_other t v u h d z) (f u z)
