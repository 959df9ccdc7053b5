-- The starred cases of document 01's "Judged by example", and further ones that pin a sentence of 01: one table over the definitions, and one theorem
-- that the checker computes. A case is a list of calls on a fresh store, what they answer, and every node afterwards. Assumes nothing.
use mathlib.Core.Path.{◌≡◌, refl}
use mathlib.Core.List.{List, [], ◌∷◌, ◌++◌, map}
use mathlib.Core.Bool.{true, false}
use mathlib.Core.Option.{Option, some}
use Prim.Native.Nat.{ℕ, zero, suc}
use lib.ListN.{replicate}
use Rattle.scope.specs.Text.{text}
use Rattle.scope.specs.Limits.{SIGILS}
use Rattle.scope.specs.Names.{Name, name}
use Rattle.scope.specs.Chart.{Env, TRAIT_SORT}
use Rattle.scope.specs.Types.{Ty, ty}
use Rattle.scope.specs.Kinds.{OBJECT, TUPLE, NEVER, DEFAULT, ERROR}
use Rattle.scope.specs.Nodes.{Known, Unknown, InferenceFailed, Node, Root, Child, opened}
use Rattle.scope.specs.Answers.{Success, Failure, Indeterminate}
use Rattle.scope.specs.Unify.{Trait}
use Rattle.scope.specs.Make.{bare}
use Rattle.scope.specs.Force.{forced_error}
use Rattle.scope.specs.Calls.{over}
use Rattle.scope.specs.Demand.{Call, make, unify, force_kind, read, later, new, new_var, error, nil, export, show, show_impl_type}
use Rattle.scope.specs.Replies.{Reply, type, answer, forced, exported}
use Rattle.scope.specs.Replies as Replies
use Rattle.scope.proofs.Run.{ran}
use Rattle.scope.specs.Sheet.{Line, bad, lines, words, type_word, type_words, parse, sheet_line, sheet_lines, sheet}
use Rattle.scope.specs.Sheet as Sheet

-- a chart of one trait, which is the builtin fn trait; the rule text holds the names a and b
unfoldable pub env : Env
env = record {
  records = record { sort = TRAIT_SORT; name = name 0 0 1; path = name 0 0 1; def = 0; dual = 0; trait = 0 } ∷ [];
  fn_trait = 0;
  sigils = replicate SIGILS (name 0 0 0);
  texts = record { rule = text "ab"; chart = [] };
}

pub record Case : Type 0 where
  pub calls : List Call
  pub replies : List Reply
  pub nodes : List Node

-- what a case's calls do
pub done_by : Case → Case
done_by c =
    let r = ran env (opened 8 8) c.calls in
    record { calls = c.calls; replies = r.replies; nodes = r.store.nodes }

-- a type, its inverse, an answer to a maker, a variable, a Known root of size 1
unfoldable pub t : ℕ → Ty
t n = ty false n

pub ~t : ℕ → Ty
~t n = ty true n

unfoldable pub made : ℕ → Reply
made n = type (t n)

unfoldable pub var : Call
var = make (new_var 7)

unfoldable pub a_var : Node
a_var = Root (Unknown 7) 1

unfoldable pub plain : ℕ → Call
plain c = make (new (over c 0 []))

unfoldable pub known : ℕ → Node
known c = Root (Known false (bare c)) 1

unfoldable pub tuple : List Ty → Call
tuple ts = make (new (over TUPLE 0 ts))

unfoldable pub a_tuple : List Ty → Node
a_tuple ts = Root (Known false (record { head = (bare TUPLE).head; kids = ts })) 1

pub object : List (Option Name) → List Ty → Call
object ns ts = make (new (record { code = OBJECT; number = 0; flex = 0; names = ns; kids = ts }))

pub an_object : List (Option Name) → List Ty → Node
an_object ns ts = Root (Known false (record { head = record { code = OBJECT; number = 0; dual = false; flex = 0; names = ns }; kids = ts })) 1

pub shown : Ty → Call
shown u = later (show u (replicate 16 0))

pub shown_trait : List Ty → Call
shown_trait us = later (show_impl_type (Trait 0 us) (replicate 32 0))

pub a : Option Name
a = some (name 0 0 1)

pub b : Option Name
b = some (name 0 1 1)

pub table : List Case
table =
    -- "var 0: unify 0, ~0: Failure"
    record {
      calls = var ∷ unify (t 0) (~t 0) ∷ [];
      replies = made 0 ∷ answer Failure ∷ [];
      nodes = a_var ∷ [];
    }
    -- "nil 0: Success"
    ∷ record {
      calls = make nil ∷ unify (t 0) (~t 0) ∷ [];
      replies = made 0 ∷ answer Success ∷ [];
      nodes = known TUPLE ∷ [];
    }
    -- "0 var, 1 = (0): unify 0, 1: Failure"
    ∷ record {
      calls = var ∷ tuple (t 0 ∷ []) ∷ unify (t 0) (t 1) ∷ [];
      replies = made 0 ∷ made 1 ∷ answer Failure ∷ [];
      nodes = a_var ∷ a_tuple (t 0 ∷ []) ∷ [];
    }
    -- "Default 0 and 1: unify 0, ~1: Failure; 0, ~0: Success"
    ∷ record {
      calls = plain DEFAULT ∷ plain DEFAULT ∷ unify (t 0) (~t 1) ∷ unify (t 0) (~t 0) ∷ [];
      replies = made 0 ∷ made 1 ∷ answer Failure ∷ answer Success ∷ [];
      nodes = known DEFAULT ∷ known DEFAULT ∷ [];
    }
    -- "Error against Never: Indeterminate, no merge"
    ∷ record {
      calls = make error ∷ plain NEVER ∷ unify (t 0) (t 1) ∷ [];
      replies = made 0 ∷ made 1 ∷ answer Indeterminate ∷ [];
      nodes = known ERROR ∷ known NEVER ∷ [];
    }
    -- "var against Error: Success"
    ∷ record {
      calls = var ∷ make error ∷ unify (t 0) (t 1) ∷ [];
      replies = made 0 ∷ made 1 ∷ answer Success ∷ [];
      nodes = Child (t 1) ∷ Root (Known false (bare ERROR)) 2 ∷ [];
    }
    -- "vars 0, 1, 2: unify 0, 1 then 1, 2: 0 and 2 are children of 1, size 3"
    ∷ record {
      calls = var ∷ var ∷ var ∷ unify (t 0) (t 1) ∷ unify (t 1) (t 2) ∷ [];
      replies = made 0 ∷ made 1 ∷ made 2 ∷ answer Success ∷ answer Success ∷ [];
      nodes = Child (t 1) ∷ Root (Unknown 7) 3 ∷ Child (t 1) ∷ [];
    }
    -- "0 var, 1 Never, 2 nil, 3 = (1, 0), 4 = (2, 1): unify 3, 4: Failure; 0 is now a child of 1"
    ∷ record {
      calls = var ∷ plain NEVER ∷ make nil ∷ tuple (t 1 ∷ t 0 ∷ []) ∷ tuple (t 2 ∷ t 1 ∷ []) ∷ unify (t 3) (t 4) ∷ [];
      replies = made 0 ∷ made 1 ∷ made 2 ∷ made 3 ∷ made 4 ∷ answer Failure ∷ [];
      nodes =
          Child (t 1)
          ∷ Root (Known false (bare NEVER)) 2
          ∷ known TUPLE
          ∷ a_tuple (t 1 ∷ t 0 ∷ [])
          ∷ a_tuple (t 2 ∷ t 1 ∷ [])
          ∷ [];
    }
    -- "{a: 0} and {a: 1, b: 1} over vars: Failure; 0 is a child of 1"
    ∷ record {
      calls = var ∷ var ∷ object (a ∷ []) (t 0 ∷ []) ∷ object (a ∷ b ∷ []) (t 1 ∷ t 1 ∷ []) ∷ unify (t 2) (t 3) ∷ [];
      replies = made 0 ∷ made 1 ∷ made 2 ∷ made 3 ∷ answer Failure ∷ [];
      nodes = Child (t 1) ∷ Root (Unknown 7) 2 ∷ an_object (a ∷ []) (t 0 ∷ []) ∷ an_object (a ∷ b ∷ []) (t 1 ∷ t 1 ∷ []) ∷ [];
    }
    -- "0 forced, then unify 0, 1: Unknown again, 1's span"
    ∷ record {
      calls = make (new_var 3) ∷ var ∷ force_kind (t 0) ∷ unify (t 0) (t 1) ∷ [];
      replies = made 0 ∷ made 1 ∷ forced (forced_error (some 3)) ∷ answer Success ∷ [];
      nodes = Child (t 1) ∷ Root (Unknown 7) 2 ∷ [];
    }
    -- "(0) over var 0 shows `(?0,)`; inverted `(~?0,)`"
    ∷ record {
      calls = var ∷ tuple (t 0 ∷ []) ∷ shown (t 1) ∷ shown (~t 1) ∷ [];
      replies = made 0 ∷ made 1 ∷ Replies.text (text "(?0,)") ∷ Replies.text (text "(~?0,)") ∷ [];
      nodes = a_var ∷ a_tuple (t 0 ∷ []) ∷ [];
    }
    -- "one report count": a fresh store has none, though the store exported has one
    ∷ record {
      calls = var ∷ force_kind (t 0) ∷ read (export 4 4 true [] 0) ∷ [];
      replies = made 0 ∷ forced (forced_error (some 7)) ∷ exported (record { types = []; fresh = opened 4 4 }) ∷ [];
      nodes = Root InferenceFailed 1 ∷ [];
    }
    -- `show_impl_type`: the fn trait over three types, the second a Tuple, has the fn form; over two or four it has its name and parameters
    ∷ record {
      calls = var ∷ tuple (t 0 ∷ []) ∷ shown_trait (t 0 ∷ t 1 ∷ t 0 ∷ []) ∷ shown_trait (t 0 ∷ t 1 ∷ []) ∷ shown_trait (t 0 ∷ t 1 ∷ t 0 ∷ t 0 ∷ []) ∷ [];
      replies =
          made 0
          ∷ made 1
          ∷ Replies.text (text "fn ?0(?0) -> ?0")
          ∷ Replies.text (text "a[?0, (?0,)]")
          ∷ Replies.text (text "a[?0, (?0,), ?0, ?0]")
          ∷ [];
      nodes = a_var ∷ a_tuple (t 0 ∷ []) ∷ [];
    }
    ∷ []

-- a line of `sheet`, and what it is read as
pub record Read : Type 0 where
  pub line : List ℕ
  pub as_line : Line

-- n types of node 0, and their bytes
pub zeros : ℕ → List ℕ
zeros zero = []
zeros (suc n) = text " 0" ++ zeros n

pub reads : List Read
reads =
    -- "no leading zero except `0` itself"
    record { line = text "show 0"; as_line = Sheet.show (t 0) }
    ∷ record { line = text "show ~0"; as_line = Sheet.show (~t 0) }
    ∷ record { line = text "show 00"; as_line = bad }
    ∷ record { line = text "show 01"; as_line = bad }
    ∷ record { line = text "show ~01"; as_line = bad }
    -- "one over 255 bytes is a bad line": 5 and 125 times 2 bytes are 255, 5 and 124 times 2 and 3 are 256
    ∷ record { line = text "tuple" ++ zeros 125; as_line = Sheet.tuple (replicate 125 (t 0)) }
    ∷ record { line = text "tuple" ++ (zeros 124 ++ text " ~0"); as_line = bad }
    ∷ []

-- sheet's example
pub input : List ℕ
input = text "var\nvar\ntuple 0 ~1\ntuple ~1 0\nunify 2 3\nshow ~2"

pub output : List ℕ
output = text "=0\n=1\n=2\n=3\nSuccess\n(?1, ?1)\n"

-- a bad line and a refused one change nothing: the next node made is the next number
pub stray_input : List ℕ
stray_input = text "var\nvars\nshow 1\n\nvar"

pub stray_output : List ℕ
stray_output = text "=0\nbad line\nrefused 3\nbad line\n=1\n"

-- the whole table, and sheet's lines and examples with it
pub table_holds :
    (map done_by table ≡ table)
    × (map (λ r. parse r.line) reads ≡ map (λ r. r.as_line) reads)
    × (sheet input ≡ output)
    × (sheet stray_input ≡ stray_output)
unfolding ran done_by table zeros reads env t ~t made var a_var plain known tuple a_tuple object an_object shown shown_trait a b
    input output stray_input stray_output lines words type_word type_words parse sheet_line sheet_lines sheet
table_holds = (refl, refl, refl, refl)
