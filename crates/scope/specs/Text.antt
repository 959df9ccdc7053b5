-- Fixed pieces of text as bytes; only ASCII is written.
use Rattle.std.specs.Prelude.{List, ℕ}
use Prim.Native.Char.{code}
use Prim.Native.String.{String, [], ◌∷◌}

abbrev pub text : String → List ℕ
text [] = List.[]
text (c ∷ s) = List.◌∷◌ (code c) (text s)
