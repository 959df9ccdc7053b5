-- A name in words is none where its length is 0, and then its place has no bytes: either way its bytes are those at its place.
-- Assumes nothing.
use mathlib.Core.Path.{◌≡◌, refl}
use Prim.Native.Nat.{ℕ, zero, suc}
use native.Mathlib.Omega.{arith}
use borrow.Author.Tests.{ne_eqb}
use Rattle.scope.specs.Names.{Texts, name, bytes, bytes_or}
use Rattle.scope.specs.Sound.{name_in}

pub name_bytes : (x : Texts) (t i n : ℕ) → bytes_or x (name_in t i n) ≡ bytes x (name t i n)
unfolding bytes
name_bytes x t i zero = refl
name_bytes x t i (suc n) = rw (ne_eqb (suc n) 0 (λ e. omega (arith, e))) refl
