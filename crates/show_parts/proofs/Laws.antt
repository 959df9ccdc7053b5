-- A kind up to its children is what it says before its name, its name, and what it says after it. Assumes nothing.
use mathlib.Core.Path.{◌≡◌, refl, sym}
use mathlib.Core.Bool.{Bool, true, false}
use mathlib.Core.List.{[], ◌++◌, append-nil}
use Prim.Native.Nat.{ℕ, zero, suc, ◌<◌}
use native.Mathlib.Omega.{arith}
use borrow.Author.Tests.{ne_eqb, le-ltb}
use lib.Dec.{ltb}
use Rattle.scope.specs.Base.{pick}
use Rattle.scope.specs.Text.{text}
use Rattle.scope.specs.Names.{Texts, Name, bytes}
use Rattle.scope.specs.Chart.{Env, record_at}
use Rattle.scope.specs.Kinds.{TUPLE, FN, CLOSURE, ERROR}
use Rattle.scope.specs.Show.{decimal}
use Rattle.layout.specs.declared.Kind.{Kind}
use Rattle.names.specs.Place.{name_of, no_name}
use Rattle.show_parts.specs.Parts.{fixed_of, front_of, own_name, back_of, lead_of}

pub lead_tuple : (e : Env) (k : Kind) → k.code ≡ TUPLE → lead_of e k ≡ front_of k.code k.count
unfolding lead_of fixed_of front_of
lead_tuple e k h = rw h

pub lead_closure : (e : Env) (k : Kind) → k.code ≡ CLOSURE
    → lead_of e k ≡ front_of k.code k.count ++ (bytes e.texts (own_name e k) ++ (back_of k.code k.count ++ (decimal k.number ++ text ">(")))
unfolding lead_of front_of own_name back_of
lead_closure e k h = rw h

-- an if const, by whether it has less than two children
if_const_by : (x : Texts) (b : Bool) (n : Name)
    → pick b [] (text "if const " ++ (bytes x n ++ text " { ")) ≡ pick b [] (text "if const ") ++ (bytes x (pick b (name_of no_name) n) ++ pick b [] (text " { "))
unfolding bytes
if_const_by x true n = refl
if_const_by x false n = refl

module _ (e : Env) (k : Kind) where
  abbrev of_code : ℕ → Kind
  of_code c = record {
    code = c;
    number = k.number;
    dual = k.dual;
    flex = k.flex;
    name = k.name;
    first = k.first;
    count = k.count;
  }

  abbrev Plain : ℕ → Type 0
  Plain c = lead_of e (of_code c) ≡ front_of c k.count ++ (bytes e.texts (own_name e (of_code c)) ++ back_of c k.count)

  plain_other : (c : ℕ) → ERROR < c → Plain c
  unfolding lead_of fixed_of front_of own_name back_of bytes
  plain_other c h = grind (arith, ne_eqb, le-ltb)

  plain_by : (c : ℕ) → (c ≡ FN → ⊥) → (c ≡ CLOSURE → ⊥) → Plain c
  unfolding lead_of fixed_of front_of own_name back_of bytes
  plain_by zero f g = sym (append-nil _)
  plain_by (suc zero) f g = refl
  plain_by (suc (suc zero)) f g = sym (append-nil _)
  plain_by (suc (suc (suc zero))) f g = refl
  plain_by (suc (suc (suc (suc zero)))) f g = refl
  plain_by (suc (suc (suc (suc (suc zero))))) f g = refl
  plain_by (suc (suc (suc (suc (suc (suc zero)))))) f g = refl
  plain_by (suc (suc (suc (suc (suc (suc (suc zero))))))) f g = absurd (f refl)
  plain_by (suc (suc (suc (suc (suc (suc (suc (suc zero)))))))) f g = absurd (g refl)
  plain_by (suc (suc (suc (suc (suc (suc (suc (suc (suc zero))))))))) f g = refl
  plain_by (suc (suc (suc (suc (suc (suc (suc (suc (suc (suc zero)))))))))) f g = rw append-nil
  plain_by (suc (suc (suc (suc (suc (suc (suc (suc (suc (suc (suc zero))))))))))) f g = if_const_by e.texts (ltb k.count 2) (record_at e k.number).path
  plain_by (suc (suc (suc (suc (suc (suc (suc (suc (suc (suc (suc (suc zero)))))))))))) f g = refl
  plain_by (suc (suc (suc (suc (suc (suc (suc (suc (suc (suc (suc (suc (suc zero))))))))))))) f g = refl
  plain_by (suc (suc (suc (suc (suc (suc (suc (suc (suc (suc (suc (suc (suc (suc zero)))))))))))))) f g = refl
  plain_by (suc (suc (suc (suc (suc (suc (suc (suc (suc (suc (suc (suc (suc (suc (suc c))))))))))))))) f g =
      plain_other (suc (suc (suc (suc (suc (suc (suc (suc (suc (suc (suc (suc (suc (suc (suc c))))))))))))))) (omega arith)

pub lead_plain : (e : Env) (k : Kind) → (k.code ≡ FN → ⊥) → (k.code ≡ CLOSURE → ⊥)
    → lead_of e k ≡ front_of k.code k.count ++ (bytes e.texts (own_name e k) ++ back_of k.code k.count)
lead_plain e k f g = plain_by e k k.code f g
