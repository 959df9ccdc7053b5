-- Program `sheet`: from input bytes to output bytes.
use Rattle.std.specs.Prelude.{List, [], ◌∷◌, ◌++◌, Bool, true, false, not, ◌&&◌, ℕ, ◌+◌, ◌-◌, ◌*◌, eqb, leb, length, replicate}
use Rattle.std.proofs.Math.Option.{Option, none, some}
use Rattle.scope.specs.Base.{pick, all}
use Rattle.scope.specs.Text.{text}
use Rattle.scope.specs.Limits.{SIGILS, NONE, MAX_LINE, MAX_DIGITS, SHEET_NODES, SHEET_CHILDREN, SHEET_TEXT}
use Rattle.scope.specs.Names.{name, eq_bytes}
use Rattle.scope.specs.Chart.{Env}
use Rattle.scope.specs.Types.{Ty, ty}
use Rattle.scope.specs.Kinds.{TUPLE, REF, NEVER, DEFAULT}
use Rattle.scope.specs.Nodes.{Store, opened}
use Rattle.scope.specs.Answers.{Answer, Success, Failure, Indeterminate}
use Rattle.scope.specs.Show.{decimal}
use Rattle.scope.specs.Sound.{reads}
use Rattle.scope.specs.Calls.{Outcome, refused, done, over, new_call, new_var_call, error_call, nil_call, unify_call, finish_inference_call, Printed, show_call}

-- a byte before the first of some lines
abbrev pub before : ℕ → List (List ℕ) → List (List ℕ)
before b [] = (b ∷ []) ∷ []
before b (l ∷ ls) = (b ∷ l) ∷ ls

-- the input's lines; "a last line may lack its newline"
unfoldable pub lines : List ℕ → List (List ℕ)
lines [] = []
lines (b ∷ bs) = pick (eqb b 10) ([] ∷ lines bs) (before b (lines bs))

-- a line's words, "one space between"
unfoldable pub words : List ℕ → List (List ℕ)
words [] = [] ∷ []
words (b ∷ bs) = pick (eqb b 32) ([] ∷ words bs) (before b (words bs))

-- "A node has one to four decimal digits and no leading zero except `0` itself"
abbrev pub is_digit : ℕ → Bool
is_digit b = leb 48 b && leb b 57

abbrev pub no_leading_zero : List ℕ → Bool
no_leading_zero [] = false
no_leading_zero (d ∷ []) = true
no_leading_zero (d ∷ c ∷ ds) = not (eqb d 48)

abbrev pub value_from : ℕ → List ℕ → ℕ
value_from n [] = n
value_from n (d ∷ ds) = value_from (n * 10 + (d - 48)) ds

abbrev pub node_word : Bool → List ℕ → Option Ty
node_word i w = pick (all is_digit w && (leb (length w) MAX_DIGITS && no_leading_zero w)) (some (ty i (value_from 0 w))) none

-- "types as `3` or `~3`"
unfoldable pub type_word : List ℕ → Option Ty
type_word [] = none
type_word (b ∷ w) = pick (eqb b 126) (node_word true w) (node_word false (b ∷ w))

abbrev pub cons_types : Option Ty → Option (List Ty) → Option (List Ty)
cons_types none r = none
cons_types (some t) none = none
cons_types (some t) (some ts) = some (t ∷ ts)

unfoldable pub type_words : List (List ℕ) → Option (List Ty)
type_words [] = some []
type_words (w ∷ ws) = cons_types (type_word w) (type_words ws)

pub data Line : Type 0 where
  var nil never default error finish : Line
  tuple : List Ty → Line
  ref : Ty → Line
  unify : Ty → Ty → Line
  show : Ty → Line
  bad : Line

-- "`tuple` takes any number of types, none included; `ref` and `show` one; `unify` two; the rest none"
abbrev pub plain_line : List ℕ → Line
plain_line w =
    pick (eq_bytes w (text "var")) var
    (pick (eq_bytes w (text "nil")) nil
    (pick (eq_bytes w (text "never")) never
    (pick (eq_bytes w (text "default")) default
    (pick (eq_bytes w (text "error")) error (pick (eq_bytes w (text "finish")) finish (pick (eq_bytes w (text "tuple")) (tuple []) bad))))))

abbrev pub one_type : List ℕ → Ty → Line
one_type w t =
    pick (eq_bytes w (text "tuple")) (tuple (t ∷ []))
    (pick (eq_bytes w (text "ref")) (ref t) (pick (eq_bytes w (text "show")) (show t) bad))

abbrev pub two_types : List ℕ → Ty → Ty → Line
two_types w t u = pick (eq_bytes w (text "tuple")) (tuple (t ∷ u ∷ [])) (pick (eq_bytes w (text "unify")) (unify t u) bad)

abbrev pub with_types : List ℕ → Option (List Ty) → Line
with_types w none = bad
with_types w (some []) = plain_line w
with_types w (some (t ∷ [])) = one_type w t
with_types w (some (t ∷ u ∷ [])) = two_types w t u
with_types w (some (t ∷ u ∷ v ∷ ts)) = pick (eq_bytes w (text "tuple")) (tuple (t ∷ u ∷ v ∷ ts)) bad

abbrev pub words_line : List (List ℕ) → Line
words_line [] = bad
words_line (w ∷ ws) = with_types w (type_words ws)

-- "Any other line, an empty one or one over 255 bytes is a bad line"
unfoldable pub parse : List ℕ → Line
parse l = pick (leb (length l) MAX_LINE) (words_line (words l)) bad

-- "over an empty chart with no fn trait"
abbrev pub sheet_env : Env
sheet_env = record {
  records = [];
  fn_trait = NONE;
  sigils = replicate SIGILS (name 0 0 0);
  texts = record { rule = []; chart = [] };
}

-- "`sheet` opens 256 nodes and 1,024 children", "and its text buffer is 4,096 bytes"
abbrev pub sheet_store : Store
sheet_store = opened SHEET_NODES SHEET_CHILDREN

abbrev pub sheet_buffer : List ℕ
sheet_buffer = replicate SHEET_TEXT 0

-- a printed line, and the store afterwards
pub record Said : Type 0 where
  pub bytes : List ℕ
  pub store : Store

abbrev pub say : List ℕ → Store → Said
say bs s = record { bytes = bs; store = s }

-- "A refusal prints as `refused 3`"
abbrev pub say_refused : Store → ℕ → Said
say_refused s n = say (text "refused " ++ decimal n) s

-- "`=` and the node"
abbrev pub say_type : Store → Outcome Ty → Said
say_type s (refused n) = say_refused s n
say_type s (done t s') = say (text "=" ++ decimal t.idx) s'

abbrev pub answer_text : Answer → List ℕ
answer_text Success = text "Success"
answer_text Failure = text "Failure"
answer_text Indeterminate = text "Indeterminate"

abbrev pub say_answer : Store → Outcome Answer → Said
say_answer s (refused n) = say_refused s n
say_answer s (done r s') = say (answer_text r) s'

abbrev pub say_done : Store → Outcome (Unit {0}) → Said
say_done s (refused n) = say_refused s n
say_done s (done u s') = say (text "done") s'

abbrev pub say_text : Store → List ℕ → Outcome ℕ → Said
say_text s part (refused n) = say_refused s n
say_text s part (done n s') = say part s'

-- one line, run
unfoldable pub sheet_line : Store → Line → Said
sheet_line s var = say_type s (new_var_call sheet_env (reads s) NONE)
sheet_line s nil = say_type s (nil_call sheet_env (reads s))
sheet_line s never = say_type s (new_call sheet_env (reads s) (over NEVER 0 []))
sheet_line s default = say_type s (new_call sheet_env (reads s) (over DEFAULT 0 []))
sheet_line s error = say_type s (error_call sheet_env (reads s))
sheet_line s finish = say_done s (finish_inference_call sheet_env (reads s))
sheet_line s (tuple ts) = say_type s (new_call sheet_env (reads s) (over TUPLE 0 ts))
sheet_line s (ref t) = say_type s (new_call sheet_env (reads s) (over REF 0 (t ∷ [])))
sheet_line s (unify a b) = say_answer s (unify_call sheet_env (reads s) a b)
sheet_line s (show t) = let p : Printed = show_call sheet_env (reads s) t sheet_buffer in say_text s p.part p.answer
sheet_line s bad = say (text "bad line") s

-- lines in order, each with what it prints and a newline
unfoldable pub sheet_lines : Store → List (List ℕ) → List ℕ
sheet_lines s [] = []
sheet_lines s (l ∷ ls) = let d : Said = sheet_line s (parse l) in d.bytes ++ (10 ∷ sheet_lines d.store ls)

unfoldable pub sheet : List ℕ → List ℕ
sheet input = sheet_lines sheet_store (lines input)
