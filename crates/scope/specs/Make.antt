-- "Making and unifying": the makers. "Size is 1".
use Rattle.std.specs.Prelude.{List, [], ◌∷◌, ◌++◌, false, ℕ, zero, suc, ◌+◌, length}
use Rattle.std.proofs.Math.Option.{Option, none, some}
use Rattle.scope.specs.Types.{Ty, ty}
use Rattle.scope.specs.Kinds.{TUPLE, ERROR}
use Rattle.scope.specs.Nodes.{Kind, State, Known, Unknown, Node, Root, Store, with_made, remembering}

-- a type, and the store afterwards
pub record Made : Type 0 where
  pub type : Ty
  pub store : Store

-- one more root at the end
abbrev pub push : List Node → State → List Node
push ns st = ns ++ Root st 1 ∷ []

-- the type of the next node to be made
abbrev pub next_type : Store → Ty
next_type s = ty false (length s.nodes)

-- one node, and c children more
abbrev pub pushed : Store → State → ℕ → Store
pushed s st c = with_made s (push s.nodes st) (s.children + c)

-- `new`
unfoldable pub new : Store → Kind → Made
new s k = record { type = next_type s; store = pushed s (Known false k) (length k.kids) }

-- `new_var`
unfoldable pub new_var : Store → ℕ → Made
new_var s p = record { type = next_type s; store = pushed s (Unknown p) 0 }

-- a list of types, and the store afterwards
pub record MadeAll : Type 0 where
  pub types : List Ty
  pub store : Store

-- `new_vars`
unfoldable pub new_vars : Store → ℕ → ℕ → MadeAll
new_vars s p zero = record { types = []; store = s }
new_vars s p (suc n) =
    let m : Made = new_var s p in
    let r : MadeAll = new_vars m.store p n in
    record { types = m.type ∷ r.types; store = r.store }

-- a kind without number, names or children
abbrev pub bare : ℕ → Kind
bare c = record { head = record { code = c; number = 0; dual = false; flex = 0; names = [] }; kids = [] }

-- the type made is remembered as the error type, or as nil
abbrev pub remember_error : Made → Made
remember_error m = record { type = m.type; store = remembering m.store (some m.type) m.store.nil }

abbrev pub remember_nil : Made → Made
remember_nil m = record { type = m.type; store = remembering m.store m.store.error (some m.type) }

-- "`error` and `nil`, which make one node each and return it until `reset`"
abbrev pub again : Store → Option Ty → Made → Made
again s none m = m
again s (some t) m = record { type = t; store = s }

-- `error`, `nil`
unfoldable pub make_error : Store → Made
make_error s = again s s.error (remember_error (new s (bare ERROR)))

unfoldable pub make_nil : Store → Made
make_nil s = again s s.nil (remember_nil (new s (bare TUPLE)))
