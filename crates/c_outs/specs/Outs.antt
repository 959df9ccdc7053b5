-- The words of an answer that is more than one number, and the way back. The number that is returned says which case it is; a word that a case lacks is 0.
use Rattle.std.specs.Prelude.{◌≡◌, Bool, true, false, List, [], ◌∷◌, ℕ, ◌+◌, ◌*◌, ◌/◌, ◌%◌, eqb, get_or, Result, Ok, Err}
use Rattle.std.specs.declared.option.Option as option
use Rattle.scope.specs.Base.{pick}
use Rattle.types.specs.declared.Inverted.{Inverted}
use Rattle.types.specs.declared.«Type».{«Type»}
use Rattle.names.specs.declared.Name.{Name}
use Rattle.layout.specs.Meaning.{HALF}
use Rattle.layout.specs.declared.Kind.{Kind}
use Rattle.layout.specs.declared.Header.{Header}
use Rattle.layout.specs.Meaning.{Remembered}
use Rattle.std.specs.declared.option.Option.TheVariants as was
use Rattle.walk.specs.declared.Mod.{Mod}
use Rattle.walk.specs.declared.Mod.TheVariants as mods
use Rattle.layout.specs.declared.TypeState.{TypeState}
use Rattle.layout.specs.declared.TypeState.TheVariants as state
use Rattle.layout.specs.declared.TypeNode.{TypeNode}
use Rattle.layout.specs.declared.TypeNode.TheVariants as node
use Rattle.refusals.specs.declared.Refusal.{Refusal}
use Rattle.promise.specs.Promise.{Reply, reply}
use Rattle.refusals.specs.Codes.{number}
use Rattle.c_words.specs.Numbers.{REFUSED, answer_in}

-- the words of a value, or what stood there
abbrev pub left : {A : Type 0} → (A → List ℕ) → Result A Refusal → List ℕ → List ℕ
left put (Ok a) before = put a
left put (Err r) before = before

-- an answer a, as the number r and the words `now` of an array that held `before`: they read back as a, and they are all that a puts there; a refusal puts none
pub record Told {A : Type 0} (reads : ℕ → List ℕ → Reply A) (put : A → List ℕ) (a : Result A Refusal) (before now : List ℕ) (r : ℕ) : Type 0 where
  pub answer : reads r now ≡ reply (λ x. x) a
  pub out : now ≡ left put a before

-- they tell an answer of which P holds
pub record Tells {A : Type 0} (reads : ℕ → List ℕ → Reply A) (put : A → List ℕ) (before now : List ℕ) (r : ℕ) (P : Result A Refusal → Type 0) : Type 0 where
  pub answer : Result A Refusal
  pub told : Told reads put answer before now r
  pub promised : P answer

abbrev pub type_word : ℕ → «Type»
type_word w = record { 0 = w }

-- yes is 1 and no 0
abbrev pub bit : Bool → ℕ
bit true = 1
bit false = 0

abbrev word : List ℕ → ℕ → ℕ
word out i = get_or out i 0

-- a node without a kind: its parent or span, and its size
abbrev pub plain_out : ℕ → ℕ → List ℕ
plain_out link size = link ∷ size ∷ 0 ∷ 0 ∷ 0 ∷ 0 ∷ 0 ∷ 0 ∷ 0 ∷ 0 ∷ 0 ∷ 0 ∷ []

-- a node with a kind: its size, inversion and kind
abbrev pub kind_out : Inverted → Kind → ℕ → List ℕ
kind_out i k size =
    0
    ∷ size
    ∷ bit i.0
    ∷ k.code
    ∷ k.number
    ∷ bit k.dual
    ∷ k.flex
    ∷ k.name.text
    ∷ k.name.start
    ∷ k.name.len
    ∷ k.first
    ∷ k.count
    ∷ []

abbrev name_from : ℕ → List ℕ → Name
name_from i out = record { text = word out i; start = word out (i + 1); len = word out (i + 2) }

abbrev pub inverted_from : List ℕ → Inverted
inverted_from out = record { 0 = eqb (word out 2) 1 }

abbrev pub kind_from : List ℕ → Kind
kind_from out = record {
  code = word out 3;
  number = word out 4;
  dual = eqb (word out 5) 1;
  flex = word out 6;
  name = name_from 7 out;
  first = word out 10;
  count = word out 11;
}

-- `node`: 0 a child, 1 an Unknown, 2 a failed one, 3 a Known
abbrev pub node_case : List ℕ → ℕ → TypeNode
node_case out r =
    pick (eqb r 0) (node.Child (type_word (word out 0)))
    (pick (eqb r 1) (node.Root (state.Unknown (word out 0)) (word out 1))
    (pick (eqb r 2) (node.Root state.InferenceFailed (word out 1)) (node.Root (state.Known (inverted_from out) (kind_from out)) (word out 1))))

abbrev pub node_in : ℕ → List ℕ → Reply TypeNode
node_in r out = answer_in 4 (node_case out) r

-- a root's state, and the size of its tree
abbrev pub state_out : ℕ → TypeState → List ℕ
state_out z (state.Known i k) = kind_out i k z
state_out z (state.Unknown p) = plain_out p z
state_out z state.InferenceFailed = plain_out 0 z

abbrev pub node_out : TypeNode → List ℕ
node_out (node.Root s z) = state_out z s
node_out (node.Child t) = plain_out t.0 0

-- `force_kind`: 1 a type that is reported, with its span, 2 one that had failed before, 3 a Known
abbrev pub forced_case : List ℕ → ℕ → TypeState
forced_case out r =
    pick (eqb r 1) (state.Unknown (word out 0)) (pick (eqb r 2) state.InferenceFailed (state.Known (inverted_from out) (kind_from out)))

abbrev pub forced_in : ℕ → List ℕ → Reply TypeState
forced_in r out = answer_in 4 (forced_case out) r

-- a forced type has no size to tell
abbrev pub forced_out : TypeState → List ℕ
forced_out s = state_out 0 s

-- whether there is a type, and which
abbrev pub has_word : Remembered → ℕ
has_word (was.Some t) = 1
has_word was.None = 0

abbrev pub type_or_zero : Remembered → ℕ
type_or_zero (was.Some t) = t.0
type_or_zero was.None = 0

-- `child` and `child_name`: 1 and it, 0 for none
abbrev pub child_case : List ℕ → ℕ → Remembered
child_case out r = pick (eqb r 0) was.None (was.Some (type_word (word out 0)))

abbrev pub child_in : ℕ → List ℕ → Reply Remembered
child_in r out = answer_in 2 (child_case out) r

abbrev pub child_out : Remembered → List ℕ
child_out t = type_or_zero t ∷ []

abbrev pub name_case : List ℕ → ℕ → option.Option Name
name_case out r = pick (eqb r 0) was.None (was.Some (name_from 0 out))

abbrev pub name_answer_in : ℕ → List ℕ → Reply (option.Option Name)
name_answer_in r out = answer_in 2 (name_case out) r

abbrev pub name_out : option.Option Name → List ℕ
name_out (was.Some n) = n.text ∷ n.start ∷ n.len ∷ []
name_out was.None = 0 ∷ 0 ∷ 0 ∷ []

-- `get_mod`: 0 no definition, 1 its def number, 2 an error
abbrev pub mod_number : Mod → ℕ
mod_number mods.Nothing = 0
mod_number (mods.Def d) = 1
mod_number mods.Error = 2

abbrev pub mod_def : Mod → ℕ
mod_def mods.Nothing = 0
mod_def (mods.Def d) = d
mod_def mods.Error = 0

abbrev pub mod_case : List ℕ → ℕ → Mod
mod_case out r = pick (eqb r 0) mods.Nothing (pick (eqb r 1) (mods.Def (word out 0)) mods.Error)

abbrev pub mod_in : ℕ → List ℕ → Reply Mod
mod_in r out = answer_in 3 (mod_case out) r

abbrev pub mod_out : Mod → List ℕ
mod_out m = mod_def m ∷ []

-- `figures`: 0, and a remembered type as whether there is one and which; the report count in two halves
abbrev pub remembered_from : ℕ → ℕ → Remembered
remembered_from has t = pick (eqb has 1) (was.Some (type_word t)) was.None

abbrev pub figures_out : Header → List ℕ
figures_out x =
    x.nodes
    ∷ x.children
    ∷ x.node_room
    ∷ x.child_room
    ∷ has_word x.error
    ∷ type_or_zero x.error
    ∷ has_word x.nil
    ∷ type_or_zero x.nil
    ∷ x.reports % HALF
    ∷ x.reports / HALF
    ∷ 0
    ∷ 0
    ∷ []

abbrev pub figures_from : List ℕ → Header
figures_from out = record {
  nodes = word out 0;
  children = word out 1;
  node_room = word out 2;
  child_room = word out 3;
  error = remembered_from (word out 4) (word out 5);
  nil = remembered_from (word out 6) (word out 7);
  reports = word out 8 + word out 9 * HALF;
}

abbrev pub figures_in : ℕ → List ℕ → Reply Header
figures_in r out = answer_in 1 (λ w. figures_from out) r

-- a value's number
abbrev pub forced_number : TypeState → ℕ
forced_number (state.Known i k) = 3
forced_number (state.Unknown p) = 1
forced_number state.InferenceFailed = 2

abbrev pub node_number : TypeNode → ℕ
node_number (node.Root s z) = forced_number s
node_number (node.Child t) = 0

abbrev pub some_number : {A : Type 0} → option.Option A → ℕ
some_number (was.Some x) = 1
some_number was.None = 0

-- an answer's, where a value's is by f
abbrev pub answer_number : {A : Type 0} → (A → ℕ) → Result A Refusal → ℕ
answer_number f (Ok a) = f a
answer_number f (Err r) = REFUSED + number r

-- a value's number and words, or a refusal's number, as r and the words `now` of an array that held `before`
pub record SaidBy (a : Result (ℕ × List ℕ) Refusal) (before now : List ℕ) (r : ℕ) : Type 0 where
  pub number : r ≡ answer_number (λ p. p.0) a
  pub words : now ≡ left (λ p. p.1) a before
