-- An answer's number and words read back as the answer. Assumes nothing.
use mathlib.Core.Path.{◌≡◌, refl, ap, ◌∙◌}
use mathlib.Core.Bool.{Bool, true, false}
use mathlib.Core.List.{List}
use Prim.Native.Nat.{ℕ, ◌<◌}
use native.Mathlib.Nat.{mod-add-div'}
use native.Mathlib.Omega.{arith}
use lib.Dec.{eqb}
use Rattle.std.specs.Prelude.{Result, Ok, Err, MatchResult, IsOkAnd}
use Rattle.std.specs.declared.option.Option as option
use Rattle.std.specs.declared.option.Option.TheVariants.{Some, None}
use Rattle.types.specs.declared.Inverted.{Inverted}
use Rattle.names.specs.declared.Name.{Name}
use Rattle.layout.specs.Meaning.{HALF, Remembered}
use Rattle.layout.specs.declared.Kind.{Kind}
use Rattle.layout.specs.declared.Header.{Header}
use Rattle.layout.specs.declared.TypeState.{TypeState}
use Rattle.layout.specs.declared.TypeState.TheVariants as state
use Rattle.layout.specs.declared.TypeNode.{TypeNode}
use Rattle.layout.specs.declared.TypeNode.TheVariants as node
use Rattle.walk.specs.declared.Mod.{Mod}
use Rattle.walk.specs.declared.Mod.TheVariants as mods
use Rattle.refusals.specs.declared.Refusal.{Refusal}
use Rattle.refusals.specs.Codes.{number}
use Rattle.promise.specs.Promise.{Reply, value}
use Rattle.c_words.specs.Numbers.{REFUSED, answer_in}
use Rattle.c_words.proofs.Laws.{number_value, number_refused}
use Rattle.c_outs.specs.Outs.{left, Told, bit, kind_out, inverted_from, kind_from, node_case, node_in, node_out, forced_case, forced_in, forced_out}
use Rattle.c_outs.specs.Outs.{child_case, child_in, child_out, name_case, name_answer_in, name_out, mod_number, mod_case, mod_in, mod_out}
use Rattle.c_outs.specs.Outs.{SaidBy, node_number, forced_number, some_number, answer_number}
use Rattle.c_outs.specs.Outs.{has_word, type_or_zero, remembered_from, figures_out, figures_from, figures_in}

bit_back : (b : Bool) → eqb (bit b) 1 ≡ b
bit_back true = refl
bit_back false = refl

inverted_back : (i : Inverted) (k : Kind) (z : ℕ) → inverted_from (kind_out i k z) ≡ i
inverted_back i k z = ap (λ (b : Bool). record { 0 = b }) (bit_back i.0)

kind_back : (i : Inverted) (k : Kind) (z : ℕ) → kind_from (kind_out i k z) ≡ k
kind_back i k z =
    ap (λ (b : Bool). record { code = k.code; number = k.number; dual = b; flex = k.flex; name = k.name; first = k.first; count = k.count }) (bit_back k.dual)

-- where values are told, refusals are
told_all : {A : Type 0} (n : ℕ) (is : List ℕ → ℕ → A) (put : A → List ℕ) (f : A → ℕ) (out : List ℕ) → n < REFUSED
    → ((a : A) → answer_in n (is (put a)) (f a) ≡ value a)
    → (a : Result A Refusal) → Told (λ r words. answer_in n (is words) r) put a out (left put a out) (answer_number f a)
told_all n is put f out low back (Ok a) = record { answer = back a; out = refl }
told_all n is put f out low back (Err r) = record { answer = number_refused n (is out) (number r) (omega (arith, low)); out = refl }

node_back : (a : TypeNode) → answer_in 4 (node_case (node_out a)) (node_number a) ≡ value a
unfolding answer_in
node_back (node.Root (state.Known i k) z) = rw (inverted_back i k z, kind_back i k z) refl
node_back (node.Root (state.Unknown p) z) = refl
node_back (node.Root state.InferenceFailed z) = refl
node_back (node.Child t) = refl

forced_back : (a : TypeState) → answer_in 4 (forced_case (forced_out a)) (forced_number a) ≡ value a
unfolding answer_in
forced_back (state.Known i k) = rw (inverted_back i k 0, kind_back i k 0) refl
forced_back (state.Unknown p) = refl
forced_back state.InferenceFailed = refl

child_back : (a : Remembered) → answer_in 2 (child_case (child_out a)) (some_number a) ≡ value a
unfolding answer_in
child_back (Some t) = refl
child_back None = refl

name_back : (a : option.Option Name) → answer_in 2 (name_case (name_out a)) (some_number a) ≡ value a
unfolding answer_in
name_back (Some n) = refl
name_back None = refl

mod_back : (a : Mod) → answer_in 3 (mod_case (mod_out a)) (mod_number a) ≡ value a
unfolding answer_in
mod_back mods.Nothing = refl
mod_back (mods.Def d) = refl
mod_back mods.Error = refl

remembered_back : (t : Remembered) → remembered_from (has_word t) (type_or_zero t) ≡ t
remembered_back (Some t) = refl
remembered_back None = refl

figures_back : (x : Header) → figures_from (figures_out x) ≡ x
figures_back x = rw (remembered_back x.error, remembered_back x.nil, mod-add-div' x.reports HALF)

figures_value : (x : Header) → answer_in 1 (λ w. figures_from (figures_out x)) 0 ≡ value x
figures_value x = number_value 1 (λ w. figures_from (figures_out x)) 0 (omega arith) ∙ ap value (figures_back x)

-- what tells a value's number and words tells its answer
pub told_by : {A : Type 0} (f : A → ℕ) (put : A → List ℕ) {reads : ℕ → List ℕ → Reply A} {out out' : List ℕ} {r : ℕ} (a : Result A Refusal) (m : Result (ℕ × List ℕ) Refusal)
    → Told reads put a out (left put a out) (answer_number f a) → MatchResult a (λ x. IsOkAnd m (λ y. y ≡ (f x, put x))) (λ e. m ≡ Err e) → SaidBy m out out' r
    → Told reads put a out out' r
told_by f put (Ok x) (Ok y) t e s = let q = rw e at s in rw (q.number, q.words) t
told_by f put (Ok x) (Err y) t e s = absurd e
told_by f put (Err x) m t e s = let q = rw e at s in rw (q.number, q.words) t

module _ (out : List ℕ) where
  pub node_told : (a : Result TypeNode Refusal) → Told node_in node_out a out (left node_out a out) (answer_number node_number a)
  node_told a = told_all 4 node_case node_out node_number out (omega arith) node_back a

  pub forced_told : (a : Result TypeState Refusal) → Told forced_in forced_out a out (left forced_out a out) (answer_number forced_number a)
  forced_told a = told_all 4 forced_case forced_out forced_number out (omega arith) forced_back a

  pub child_told : (a : Result Remembered Refusal) → Told child_in child_out a out (left child_out a out) (answer_number some_number a)
  child_told a = told_all 2 child_case child_out some_number out (omega arith) child_back a

  pub name_told : (a : Result (option.Option Name) Refusal) → Told name_answer_in name_out a out (left name_out a out) (answer_number some_number a)
  name_told a = told_all 2 name_case name_out some_number out (omega arith) name_back a

  pub mod_told : (a : Result Mod Refusal) → Told mod_in mod_out a out (left mod_out a out) (answer_number mod_number a)
  mod_told a = told_all 3 mod_case mod_out mod_number out (omega arith) mod_back a

  pub figures_told : (a : Result Header Refusal) → Told figures_in figures_out a out (left figures_out a out) (answer_number (λ x. 0) a)
  figures_told a = told_all 1 (λ words w. figures_from words) figures_out (λ x. 0) out (omega arith) figures_value a
