-- What a list of calls runs on: three lent slices of words, which each call leaves for the next one, and the chart and the texts, which "stay as they are".
use Rattle.std.specs.Prelude.{◌≡◌, List, Bool, ℕ, Result, Ok}
use Rattle.scope.specs.Chart.{Env}
use Rattle.scope.specs.Types.{Ty}
use Rattle.scope.specs.Nodes.{Store}
use Rattle.scope.specs.Sound.{Lent}
use Rattle.scope.specs.Calls.{Outcome, open_call}
use Rattle.chart.specs.declared.Beside.{Beside}
use Rattle.layout.specs.Words.{store_in, lent_of}
use Rattle.refusals.specs.Opening.{enough}
use Rattle.sound.specs.Tests.{env_in}
use Rattle.promise.specs.Promise.{Reply, outcome_by, done_reply, Promised, Tested}
use Rattle.promise.specs.Lists.{ListPromised}
use Rattle.refusals.specs.declared.Refusal.{Refusal}

-- an answer of the code: a value or a refusal
abbrev pub CodeAnswer : Type 0 → Type 0
CodeAnswer A = Result A Refusal

-- the words of a store: its header, its nodes and their children
pub record Memory : Type 0 where
  pub head : List ℕ
  pub nodes : List ℕ
  pub kids : List ℕ

-- three lists of words as one memory
abbrev pub memory_of : List ℕ → List ℕ → List ℕ → Memory
memory_of h ws ks = record { head = h; nodes = ws; kids = ks }

-- the words after a call that writes the nodes alone, and after one that writes the header too
abbrev pub nodes_now : Memory → List ℕ → Memory
nodes_now m ws = memory_of m.head ws m.kids

abbrev pub head_now : Memory → List ℕ → List ℕ → Memory
head_now m h ws = memory_of h ws m.kids

-- "chart and texts stay as they are": what every call of a list reads beside the words
pub record Fixed : Type 0 where
  pub chart : List ℕ
  pub beside : Beside
  pub rule : List ℕ
  pub text : List ℕ

abbrev pub env : Fixed → Env
env f = env_in f.chart f.beside f.rule f.text

-- what the words are to a call, and the store that they hold
abbrev pub lent : Memory → Lent
lent m = lent_of m.head m.nodes m.kids

abbrev pub held : Memory → Store
held m = store_in m.head m.nodes m.kids

-- chart, texts and words pass the tests of 2 and 8
abbrev pub TestedWords : Fixed → Memory → Type 0
TestedWords f m = Tested (env f) m.head m.nodes m.kids

-- the slices are long enough for n nodes and c children, whatever they hold
abbrev pub roomy : ℕ → ℕ → Memory → Bool
roomy n c m = enough n c m.head m.nodes m.kids

-- a call that may write: its outcome o on the words m is the reply, and it leaves the words m'
abbrev pub Did : {A : Type 0} → Outcome A → Reply A → Memory → Memory → Type 0
Did o r m m' = Promised o r m.head m.nodes m.kids m'.head m'.nodes m'.kids

-- a call that only reads the words m
abbrev pub Told : {A : Type 0} → Outcome A → Reply A → Memory → Type 0
Told o r m = o ≡ outcome_by r (held m)

-- the same of a call that writes types at the front of the list `out`, n of them, and leaves it as out'
abbrev pub DidList : Outcome (List Ty) → CodeAnswer (Unit {0}) → ℕ → Memory → Memory → List ℕ → List ℕ → Type 0
DidList o r n m m' out out' = ListPromised o r n m.head m.nodes m.kids m'.head m'.nodes m'.kids out out'

-- "Each list starts from a store just opened, with no node": the words m are what `open` left, whatever they were, when it answered `Ok`
pub record Opened (n c : ℕ) (m : Memory) : Type 0 where
  pub found : Memory
  pub left : Did (open_call n c (roomy n c found)) (done_reply (Ok tt)) found m
