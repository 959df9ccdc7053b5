-- What stands before, between and after a kind's children in its text. The parts add nothing to scope's pieces: proofs/Level.antt of crate show has those
-- as these.
use Rattle.std.specs.Prelude.{List, [], ◌++◌, Bool, not, ◌&&◌, ℕ, ◌+◌, eqb, ltb}
use Rattle.scope.specs.Base.{pick}
use Rattle.scope.specs.Text.{text}
use Rattle.scope.specs.Names.{Texts, Name, bytes}
use Rattle.scope.specs.Chart.{Env, record_at, sigil_at}
use Rattle.scope.specs.Kinds.{PARAM, TUPLE, OBJECT, OPAQUE, FN, CLOSURE, REF, KEY, IF_CONST, NEVER, DEFAULT, ERROR, row_of, dual_by}
use Rattle.layout.specs.declared.Kind.{Kind}
use Rattle.names.specs.Place.{name_of, no_name}
use Rattle.show_names.specs.Names.{comma, entry_text, defined_text, function_text, closure_text, if_const_text}

-- a Param's or a Key's name
abbrev pub own_text : Texts → Kind → List ℕ
own_text x k = bytes x (name_of k.name)

-- the kinds that say no more than a fixed text before their n children
unfoldable pub fixed_of : ℕ → ℕ → List ℕ
fixed_of c n =
    pick (eqb c TUPLE) (text "(")
    (pick (eqb c OBJECT) (pick (eqb n 0) (text "{}") (text "{ "))
    (pick (eqb c REF) (text "&")
    (pick (eqb c NEVER) (text "!")
    (pick (eqb c DEFAULT) (text "_")
    (pick (eqb c ERROR) (text "??") [])))))

-- what a kind says before its name, or at all where it has none
unfoldable pub front_of : ℕ → ℕ → List ℕ
front_of c n =
    pick (eqb c TUPLE) (text "(")
    (pick (eqb c OBJECT) (pick (eqb n 0) (text "{}") (text "{ "))
    (pick (eqb c CLOSURE) (text "fn")
    (pick (eqb c REF) (text "&")
    (pick (eqb c KEY) (text ".")
    (pick (eqb c IF_CONST) (pick (ltb n 2) [] (text "if const "))
    (pick (eqb c NEVER) (text "!")
    (pick (eqb c DEFAULT) (text "_")
    (pick (eqb c ERROR) (text "??") []))))))))

-- its name
unfoldable pub own_name : Env → Kind → Name
own_name e k =
    pick (eqb k.code PARAM) (name_of k.name)
    (pick (eqb k.code KEY) (name_of k.name)
    (pick (eqb k.code CLOSURE) (sigil_at e k.flex)
    (pick (ltb k.code OPAQUE) (name_of no_name)
    (pick (ltb k.code FN) (record_at e k.number).name
    (pick (eqb k.code IF_CONST) (pick (ltb k.count 2) (name_of no_name) (record_at e k.number).path) (name_of no_name))))))

-- what it says after its name
unfoldable pub back_of : ℕ → ℕ → List ℕ
back_of c n =
    pick (eqb c CLOSURE) (text " <")
    (pick (eqb c IF_CONST) (pick (ltb n 2) [] (text " { "))
    (pick (ltb c OPAQUE) [] (pick (ltb c FN) (pick (eqb n 0) [] (text "[")) [])))

-- before the children; Tuple and Object lie between Param and Opaque, and the kinds with a definition's name between Object and Fn
unfoldable pub lead_of : Env → Kind → List ℕ
lead_of e k =
    pick (eqb k.code PARAM) (own_text e.texts k)
    (pick (ltb k.code OPAQUE) (fixed_of k.code k.count)
    (pick (ltb k.code FN) (defined_text e k)
    (pick (eqb k.code FN) (function_text e (record_at e k.number))
    (pick (eqb k.code CLOSURE) (closure_text e k)
    (pick (eqb k.code KEY) (text "." ++ own_text e.texts k)
    (pick (eqb k.code IF_CONST) (if_const_text e k) (fixed_of k.code k.count)))))))

-- before child j
unfoldable pub gap_of : Texts → List ℕ → Kind → ℕ → List ℕ
gap_of x ks k j =
    pick (eqb k.code OBJECT) (entry_text x ks k j)
    (pick (eqb k.code CLOSURE) (pick (eqb (j + 1) k.count) (text ") -> ") (entry_text x ks k j))
    (pick (eqb k.code IF_CONST) (pick (eqb j 0) [] (text " } else { ")) (comma j)))

-- after the children of a kind, of which m are shown
unfoldable pub end_of : ℕ → ℕ → ℕ → List ℕ
end_of c n m =
    pick (eqb c PARAM) []
    (pick (eqb c TUPLE) (pick (eqb n 1) (text ",)") (text ")"))
    (pick (eqb c OBJECT) (pick (eqb n 0) [] (text " }"))
    (pick (ltb c FN) (pick (eqb n 0) [] (text "]"))
    (pick (eqb c CLOSURE) (pick (ltb m n) (text ")") (pick (eqb n 0) (text ")") []))
    (pick (eqb c IF_CONST) (pick (ltb n 2) [] (text " }")) [])))))

abbrev pub close_of : Kind → ℕ → List ℕ
close_of k m = end_of k.code k.count m

-- self-dual kinds are inverted in their children, others have a `~`
abbrev pub dual_of : Kind → Bool
dual_of k = dual_by (row_of k.code).dual k.dual

abbrev pub sign_of : Bool → List ℕ
sign_of b = pick b (text "~") []

abbrev pub tilde_of : Bool → Kind → List ℕ
tilde_of i k = sign_of (i && not (dual_of k))
