-- "A type is a node number with an inversion bit". A lent number holds the bit above the node number.
use Rattle.std.specs.Prelude.{Bool, ℕ, ◌+◌, ◌%◌, leb}
use Rattle.scope.specs.Base.{pick, xor}

pub record Ty : Type 0 where
  pub inv : Bool
  pub idx : ℕ

abbrev pub ty : Bool → ℕ → Ty
ty i n = record { inv = i; idx = n }

-- invert_if: "combining inversions by exclusive or"
abbrev pub flip : Bool → Ty → Ty
flip i t = record { inv = xor i t.inv; idx = t.idx }

-- INV_BIT: the bit's weight in a number of 32 bits
abbrev pub INV_BIT : ℕ
INV_BIT = 2147483648

-- the type that a number holds, and the number that holds a type
unfoldable pub ty_of : ℕ → Ty
ty_of w = ty (leb INV_BIT w) (w % INV_BIT)

unfoldable pub word_of : Ty → ℕ
word_of t = pick t.inv (t.idx + INV_BIT) t.idx
