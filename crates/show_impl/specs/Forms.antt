-- Which impl types have the fn form, as the code finds it: a type's kind where it is a Tuple, whatever the children's words are. It adds nothing to scope's
-- pieces.
use Rattle.std.specs.Prelude.{◌≡◌, List, ℕ}
use Rattle.scope.specs.Types.{Ty, ty_of}
use Rattle.scope.specs.Nodes.{kind}
use Rattle.scope.specs.Force.{is_nil}
use Rattle.scope.specs.Show.{Piece, fn_pieces, fn_form}
use Rattle.layout.specs.Words.{decode}
use Rattle.layout.specs.Meaning.{kind_means}
use Rattle.layout.specs.Meaning.{Held}
use Rattle.std.specs.Prelude.{Some, None}
use Rattle.walk.specs.Asks.{Stands}

-- the pieces by the Tuple that was found
abbrev pub form_of : (ws ks : List ℕ) → ℕ → Ty → Held → Ty → List Piece → List Piece
form_of ws ks n receiver (Some (i, k)) ret other = fn_pieces (is_nil (decode ws ks n)) receiver i.0 (kind_means ks k).kids ret
form_of ws ks n receiver None ret other = other

-- r is the kind of the type t where it is a Tuple
pub record TupleOf (ws : List ℕ) (n t : ℕ) (r : Held) : Type 0 where
  pub is : (ks : List ℕ) → Stands ws ks n → (receiver ret : Ty) (other : List Piece)
      → fn_form (is_nil (decode ws ks n)) receiver (kind (decode ws ks n) (ty_of t)) ret other ≡ form_of ws ks n receiver r ret other
