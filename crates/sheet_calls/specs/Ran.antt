-- What a line of `sheet` prints and leaves: scope's `sheet_line` of the store that the slices hold, and every byte of the lent buffer.
use Rattle.std.specs.Prelude.{◌≡◌, List, ◌++◌, ℕ, take, drop, Result}
use Rattle.scope.specs.Limits.{SHEET_TEXT}
use Rattle.scope.specs.Types.{Ty}
use Rattle.scope.specs.Nodes.{Store}
use Rattle.scope.specs.Sound.{reads}
use Rattle.scope.specs.Calls.{Outcome, show_call}
use Rattle.scope.specs.Sheet.{Line, sheet_env, sheet_line, say_type}
use Rattle.types.specs.declared.«Type».{«Type»}
use Rattle.store.specs.Holds.{Became}
use Rattle.refusals.specs.declared.Refusal.{Refusal}
use Rattle.promise.specs.Promise.{Promised, type_reply}
use Rattle.sheet_say.specs.Front.{Front}
use Rattle.sheet_calls.specs.Store.{SheetStore}

-- what `show` leaves in the buffer before anything else is printed: it writes into the first 4,096 bytes, and where the text does not fit these are its first
abbrev pub show_leaves : Store → Ty → List ℕ → List ℕ
show_leaves s t out = (show_call sheet_env (reads s) t (take SHEET_TEXT out)).buffer ++ drop SHEET_TEXT out

-- what a line leaves there: other lines leave it as found
abbrev pub line_leaves : Store → Line → List ℕ → List ℕ
line_leaves s Line.var out = out
line_leaves s Line.nil out = out
line_leaves s Line.never out = out
line_leaves s Line.default out = out
line_leaves s Line.error out = out
line_leaves s Line.finish out = out
line_leaves s (Line.tuple ts) out = out
line_leaves s (Line.ref t) out = out
line_leaves s (Line.unify a b) out = out
line_leaves s (Line.show t) out = show_leaves s t out
line_leaves s Line.bad out = out

-- the line `show`: its text or its refusal stands at the front
abbrev pub Shown : Store → Ty → List ℕ → List ℕ → ℕ → Type 0
Shown s t out out' n = Front (show_leaves s t out) out' n (sheet_line s (Line.show t)).bytes

-- a line on the slices h ws ks, which held the store s and then hold h' ws' ks'. What it prints stands at the front of the buffer and is n bytes long; the
-- slices hold the store that it leaves, which is sound again, and words past it are as found
pub record Ran (s : Store) (l : Line) (h ws ks h' ws' ks' out out' : List ℕ) (n : ℕ) : Type 0 where
  pub printed : Front (line_leaves s l out) out' n (sheet_line s l).bytes
  pub store : Became h ws ks h' ws' ks' (sheet_line s l).store
  pub sound : SheetStore h' ws' ks'

-- the call of a line that makes a type, on the slices h ws ks, and its answer: what the line says is what is said for the call's outcome, and the buffer is as found
pub record Made (s : Store) (l : Line) (h ws ks h' ws' ks' : List ℕ) (r : Result «Type» Refusal) : Type 0 where
  pub outcome : Outcome Ty
  pub says : sheet_line s l ≡ say_type s outcome
  pub leaves : (out : List ℕ) → line_leaves s l out ≡ out
  pub promised : Promised outcome (type_reply r) h ws ks h' ws' ks'
