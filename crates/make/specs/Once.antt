-- The types that a store makes once, the error type and nil: scope's definition of each, and what the words are once it is made.
use Rattle.std.specs.Prelude.{List, ℕ, Some}
use Rattle.std.proofs.Math.Option.{Option}
use Rattle.scope.specs.Types.{Ty}
use Rattle.scope.specs.Kinds.{ERROR, TUPLE}
use Rattle.scope.specs.Nodes.{Store}
use Rattle.scope.specs.Make.{Made, make_error, make_nil}
use Rattle.types.specs.declared.«Type».{«Type»}
use Rattle.layout.specs.Words.{nodes_made}
use Rattle.layout.specs.Meaning.{Remembered, type_of, header_in}
use Rattle.layout.specs.declared.Header.{Header}
use Rattle.heads.specs.Heads.{remembered_by}
use Rattle.heads.specs.declared.Once.{Once}
use Rattle.heads.specs.declared.Once.TheVariants.{Error, Nil}
use Rattle.make.specs.Header.{OnceMade}

abbrev pub once_of : Once → Store → Option Ty
once_of Error s = s.error
once_of Nil s = s.nil

abbrev pub make_once : Once → Store → Made
make_once Error s = make_error s
make_once Nil s = make_nil s

abbrev pub once_code : Once → ℕ
once_code Error = ERROR
once_code Nil = TUPLE

-- the error type and nil once t is remembered
abbrev pub error_then : Once → Header → Remembered → Remembered
error_then Error x t = t
error_then Nil x t = x.error

abbrev pub nil_then : Once → Header → Remembered → Remembered
nil_then Error x t = x.nil
nil_then Nil x t = t

-- the type that was remembered, or that of a root more, which is remembered then
abbrev pub OnceLeaves : Once → List ℕ → List ℕ → List ℕ → List ℕ → «Type» → Type 0
OnceLeaves w h ws h' ws' t =
    OnceMade h ws h' ws' (header_in h) (remembered_by w (header_in h)) (error_then w (header_in h) (Some (type_of (nodes_made h))))
    (nil_then w (header_in h) (Some (type_of (nodes_made h)))) (once_code w) t
