-- What the code's answers mean among scope's: a line by its case and the words lent beside it, a word's type, a count of types.
use Rattle.std.specs.Prelude.{◌≡◌, false, List, [], ◌∷◌, map, ℕ, eqb}
use Rattle.std.proofs.Math.Option.{Option, none, some}
use Rattle.scope.specs.Base.{pick}
use Rattle.scope.specs.Text.{text}
use Rattle.scope.specs.Names.{eq_bytes}
use Rattle.scope.specs.Types.{Ty, ty, ty_of}
use Rattle.scope.specs.Kinds.{REF, NEVER, DEFAULT, NO_NAMES, row_of}
use Rattle.scope.specs.Nodes.{Store}
use Rattle.scope.specs.Sound.{reads}
use Rattle.scope.specs.Calls.{over, new_call}
use Rattle.scope.specs.Sheet as sheet
use Rattle.types.specs.declared.«Type».{«Type»}
use Rattle.sheet_lines.specs.declared.Line.{Line}
use Rattle.sheet_lines.specs.declared.Line.TheVariants.{Plain, Unify, Show}
use Rattle.sheet_lines.specs.declared.Plain as asked
use Rattle.sheet_lines.specs.declared.Plain.TheVariants as plain
use Rattle.sheet_lines.specs.declared.Maker.{Maker}
use Rattle.sheet_lines.specs.declared.Maker.TheVariants as maker
use Rattle.std.specs.declared.option.Option.TheVariants as word
use Rattle.std.specs.declared.option.Option as option

-- a word's type, and whether some words are all types
abbrev pub TypeWord : Type 0
TypeWord = option.Option «Type»

abbrev pub TypesRead : Type 0
TypesRead = option.Option (Unit {0})

-- the first of some types
abbrev pub first_of : List Ty → Ty
first_of [] = ty false 0
first_of (t ∷ ts) = t

-- the line that makes a kind over some types
abbrev pub kind_line : ℕ → List Ty → sheet.Line
kind_line c ts =
    pick (eqb c NEVER) sheet.Line.never
    (pick (eqb c DEFAULT) sheet.Line.default (pick (eqb c REF) (sheet.Line.ref (first_of ts)) (sheet.Line.tuple ts)))

abbrev pub maker_means : Maker → List ℕ → sheet.Line
maker_means maker.Var out = sheet.Line.var
maker_means maker.Nil out = sheet.Line.nil
maker_means maker.Error out = sheet.Line.error
maker_means (maker.Over c) out = kind_line c (map ty_of out)

abbrev pub plain_means : asked.Plain → List ℕ → sheet.Line
plain_means (plain.Make m) out = maker_means m out
plain_means plain.Finish out = sheet.Line.finish
plain_means plain.Bad out = sheet.Line.bad

abbrev pub line_means : Line → List ℕ → sheet.Line
line_means (Plain p) out = plain_means p out
line_means (Unify t u) out = sheet.Line.unify (ty_of t.0) (ty_of u.0)
line_means (Show t) out = sheet.Line.show (ty_of t.0)

abbrev pub word_means : TypeWord → Option Ty
word_means (word.Some t) = some (ty_of t.0)
word_means word.None = none

-- the types read, if all words are types
abbrev pub read_means : TypesRead → List ℕ → Option (List Ty)
read_means (word.Some u) out = some (map ty_of out)
read_means word.None out = none

abbrev pub ReadIs : TypesRead → List ℕ → Option (List Ty) → Type 0
ReadIs r out ts = read_means r out ≡ ts

-- a kind's code and its types: the kind has no names, and what its line says is what is said for the call that makes it
pub record Over (c : ℕ) (out : List ℕ) : Type 0 where
  pub names : (row_of c).names ≡ NO_NAMES
  pub says : (s : Store) → sheet.sheet_line s (kind_line c (map ty_of out)) ≡ sheet.say_type s (new_call sheet.sheet_env (reads s) (over c 0 (map ty_of out)))

-- what is to be known of a maker beside some words
abbrev pub MakerFits : Maker → List ℕ → Type 0
MakerFits maker.Var out = Unit {0}
MakerFits maker.Nil out = Unit {0}
MakerFits maker.Error out = Unit {0}
MakerFits (maker.Over c) out = Over c out

abbrev pub PlainFits : asked.Plain → List ℕ → Type 0
PlainFits (plain.Make m) out = MakerFits m out
PlainFits plain.Finish out = Unit {0}
PlainFits plain.Bad out = Unit {0}

abbrev pub Fits : Line → List ℕ → Type 0
Fits (Plain p) out = PlainFits p out
Fits (Unify t u) out = Unit {0}
Fits (Show t) out = Unit {0}

-- a line read beside some words
pub record Parsed (r : Line) (out : List ℕ) (l : sheet.Line) : Type 0 where
  pub means : line_means r out ≡ l
  pub fits : Fits r out

-- a line without types, read
abbrev pub PlainParsed : asked.Plain → List ℕ → sheet.Line → Type 0
PlainParsed r out l = Parsed (Plain r) out l

-- a line that means the same beside any words, unless its command is `tuple`
pub record Unless (r : Line) (w : List ℕ) (l : sheet.Line) : Type 0 where
  pub beside : eq_bytes w (text "tuple") ≡ false → (out : List ℕ) → Parsed r out l

-- a line beside one type, unless its command is `tuple`
pub record OneBeside (r : Line) (t : «Type») (w : List ℕ) (l : sheet.Line) : Type 0 where
  pub beside : eq_bytes w (text "tuple") ≡ false → Parsed r (t.0 ∷ []) l
