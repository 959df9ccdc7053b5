-- `show` and `show_impl_type`: 000's text. One level is a list of pieces, fixed bytes or a type to be shown; bytes come from one walk of them.
use Rattle.std.specs.Prelude.{List, [], ◌∷◌, ◌++◌, map, Bool, true, false, not, ◌&&◌, ℕ, zero, suc, ◌+◌, ◌/◌, ◌%◌, eqb, ltb, length, get_or}
use Rattle.std.proofs.Math.Option.{Option, none, some}
use Rattle.scope.specs.Base.{pick, xor, front, last}
use Rattle.scope.specs.Text.{text}
use Rattle.scope.specs.Names.{Texts, Name, bytes}
use Rattle.scope.specs.Chart.{Record, Env, record_at, sigil_at, TRAIT_FN_SORT}
use Rattle.scope.specs.Types.{Ty, flip}
use Rattle.scope.specs.Kinds.{Head, self_dual, TUPLE}
use Rattle.scope.specs.Nodes.{Kind, State, Known, Unknown, InferenceFailed, Node, at, state_of, find, kind}
use Rattle.scope.specs.Unify.{first_name, ImplType, Trait, Error}
use Rattle.scope.specs.Force.{is_nil}

pub data Piece : Type 0 where
  fixed : List ℕ → Piece
  sub : Ty → Piece

-- "Node numbers are decimal"; at most f digits before the last
unfoldable pub decimal_f : ℕ → ℕ → List ℕ
decimal_f zero n = (48 + n % 10) ∷ []
decimal_f (suc f) n = elim (ltb n 10) [ true ↦ (48 + n) ∷ [] | false ↦ decimal_f f (n / 10) ++ ((48 + n % 10) ∷ []) ]

unfoldable pub decimal : ℕ → List ℕ
decimal n = decimal_f 20 n

-- items with ", " between them
unfoldable pub joined : List (List Piece) → List Piece
joined [] = []
joined (x ∷ []) = x
joined (x ∷ y ∷ ys) = x ++ (fixed (text ", ") ∷ joined (y ∷ ys))

-- `_show_comma_separated`: types, inverted if i
abbrev pub commas : Bool → List Ty → List Piece
commas i ts = joined (map (λ t. sub (flip i t) ∷ []) ts)

-- `_show_params`
abbrev pub params : Bool → List Ty → List Piece
params i [] = []
params i (t ∷ ts) = fixed (text "[") ∷ (commas i (t ∷ ts) ++ (fixed (text "]") ∷ []))

-- a Tuple of one has a comma
abbrev pub tuple : Bool → List Ty → List Piece
tuple i ts = fixed (text "(") ∷ (commas i ts ++ (fixed (pick (eqb (length ts) 1) (text ",)") (text ")")) ∷ []))

-- a name, or the dots of a missing one
abbrev pub name_or_dots : Texts → Option Name → List ℕ
name_or_dots x none = text "..."
name_or_dots x (some n) = bytes x n

-- names with their types
unfoldable pub entries : Texts → Bool → List (Option Name) → List Ty → List (List Piece)
entries x i [] ts = []
entries x i (n ∷ ns) [] = []
entries x i (n ∷ ns) (t ∷ ts) = (fixed (name_or_dots x n) ∷ fixed (text ": ") ∷ sub (flip i t) ∷ []) ∷ entries x i ns ts

abbrev pub object : Texts → Bool → List (Option Name) → List Ty → List Piece
object x i ns [] = fixed (text "{}") ∷ []
object x i ns (t ∷ ts) = fixed (text "{ ") ∷ (joined (entries x i ns (t ∷ ts)) ++ (fixed (text " }") ∷ []))

-- ` -> ` and the return, unless it is nil
abbrev pub arrow : (Ty → Bool) → List Ty → List Piece
arrow nil [] = []
arrow nil (t ∷ ts) = pick (nil t) [] (fixed (text " -> ") ∷ sub t ∷ [])

-- `_show_fn_sig`
abbrev pub signature : Texts → (Ty → Bool) → List (Option Name) → List Ty → List Piece
signature x nil ns ts =
    fixed (text "(") ∷ (joined (entries x false ns (front ts)) ++ (fixed (text ")") ∷ arrow nil (last ts)))

abbrev pub closure : Env → (Ty → Bool) → Head → List Ty → List Piece
closure e nil h ts =
    fixed (text "fn") ∷ fixed (bytes e.texts (sigil_at e h.flex)) ∷ fixed (text " <") ∷ fixed (decimal h.number) ∷ fixed (text ">")
    ∷ signature e.texts nil h.names ts

-- a concrete fn's path; of a trait fn its trait's path, `::` and its own name
abbrev pub function : Env → Record → List Piece
function e r =
    pick (eqb r.sort TRAIT_FN_SORT)
    (fixed (text "fn ") ∷ fixed (bytes e.texts (record_at e r.trait).path) ∷ fixed (text "::") ∷ fixed (bytes e.texts r.name) ∷ [])
    (fixed (text "fn ") ∷ fixed (bytes e.texts r.path) ∷ [])

abbrev pub if_const : Env → (Ty → Bool) → Bool → Head → List Ty → List Piece
if_const e nil i h [] = []
if_const e nil i h (t ∷ []) = []
if_const e nil i h (t ∷ u ∷ us) =
    fixed (text "if const ") ∷ fixed (bytes e.texts (record_at e h.number).path) ∷ fixed (text " { ") ∷ sub (flip i t) ∷ fixed (text " }")
    ∷ pick (nil u) [] (fixed (text " else { ") ∷ sub (flip i u) ∷ fixed (text " }") ∷ [])

-- a definition's name and its parameters
abbrev pub defined_name : Env → Bool → Head → List Ty → List Piece
defined_name e i h ts = fixed (bytes e.texts (record_at e h.number).name) ∷ params i ts

-- a kind's pieces, by its code, in the order of the codes; i inverts the children
unfoldable pub kind_pieces : Env → (Ty → Bool) → Bool → Kind → List Piece
kind_pieces e nil i k =
    let h : Head = k.head in
    let ts : List Ty = k.kids in
    get_or
    ((fixed (first_name e.texts h.names) ∷ [])
    ∷ tuple i ts
    ∷ object e.texts i h.names ts
    ∷ defined_name e i h ts
    ∷ defined_name e i h ts
    ∷ defined_name e i h ts
    ∷ defined_name e i h ts
    ∷ function e (record_at e h.number)
    ∷ closure e nil h ts
    ∷ (fixed (text "&") ∷ commas i ts)
    ∷ (fixed (text ".") ∷ fixed (first_name e.texts h.names) ∷ [])
    ∷ if_const e nil i h ts
    ∷ (fixed (text "!") ∷ [])
    ∷ (fixed (text "_") ∷ [])
    ∷ (fixed (text "??") ∷ [])
    ∷ [])
    h.code
    []

-- `~` before a kind that is not self-dual; a self-dual one is inverted in its children
abbrev pub known_pieces : Env → (Ty → Bool) → Bool → Kind → List Piece
known_pieces e nil i k =
    pick (i && not (self_dual k.head)) (fixed (text "~") ∷ kind_pieces e nil false k) (kind_pieces e nil i k)

abbrev pub unknown_pieces : Ty → List Piece
unknown_pieces r = fixed (pick r.inv (text "~?") (text "?")) ∷ fixed (decimal r.idx) ∷ []

-- the pieces of the root r
abbrev pub state_pieces : Env → (Ty → Bool) → Ty → State → List Piece
state_pieces e nil r (Known i k) = known_pieces e nil (xor i r.inv) k
state_pieces e nil r (Unknown p) = unknown_pieces r
state_pieces e nil r InferenceFailed = unknown_pieces r

unfoldable pub pieces : Env → List Node → Ty → List Piece
pieces e ns t = state_pieces e (is_nil ns) (find ns t) (state_of (at ns (find ns t).idx))

-- pieces in order, a type by g
unfoldable pub render : (Ty → List ℕ) → List Piece → List ℕ
render g [] = []
render g (fixed bs ∷ ps) = bs ++ render g ps
render g (sub t ∷ ps) = g t ++ render g ps

-- `_show`, at most f deep
unfoldable pub show_f : Env → ℕ → List Node → Ty → List ℕ
show_f e zero ns t = []
show_f e (suc f) ns t = render (show_f e f ns) (pieces e ns t)

unfoldable pub show : Env → List Node → Ty → List ℕ
show e ns t = show_f e (length ns) ns t

-- `show_impl_type`: a trait's name and parameters
abbrev pub trait_pieces : Env → ℕ → List Ty → List Piece
trait_pieces e n ts = fixed (bytes e.texts (record_at e n).name) ∷ params false ts

-- `_show_anonymous_fn_sig`
abbrev pub fn_pieces : (Ty → Bool) → Ty → Bool → List Ty → Ty → List Piece
fn_pieces nil receiver i ps ret =
    fixed (text "fn ") ∷ sub receiver ∷ fixed (text "(") ∷ (commas i ps ++ (fixed (text ")") ∷ arrow nil (ret ∷ [])))

-- the fn form: the second type's kind is a Tuple
abbrev pub fn_form : (Ty → Bool) → Ty → Option (Bool × Kind) → Ty → List Piece → List Piece
fn_form nil receiver none ret other = other
fn_form nil receiver (some p) ret other = pick (eqb p.1.head.code TUPLE) (fn_pieces nil receiver p.0 p.1.kids ret) other

-- the builtin fn trait over exactly three types
abbrev pub three_types : List Node → List Ty → List Piece → List Piece
three_types ns [] other = other
three_types ns (a ∷ []) other = other
three_types ns (a ∷ b ∷ []) other = other
three_types ns (a ∷ b ∷ c ∷ []) other = fn_form (is_nil ns) a (kind ns b) c other
three_types ns (a ∷ b ∷ c ∷ d ∷ ds) other = other

abbrev pub impl_pieces : Env → List Node → ImplType → List Piece
impl_pieces e ns (Trait n ts) = pick (eqb n e.fn_trait) (three_types ns ts (trait_pieces e n ts)) (trait_pieces e n ts)
impl_pieces e ns Error = fixed (text "??") ∷ []

unfoldable pub show_impl_type : Env → List Node → ImplType → List ℕ
show_impl_type e ns a = render (show e ns) (impl_pieces e ns a)
