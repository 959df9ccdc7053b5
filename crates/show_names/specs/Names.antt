-- The texts that names and numbers make: what the code writes with one name or number in it. They add nothing to scope's pieces.
use Rattle.std.specs.Prelude.{Bool, List, [], ◌++◌, ℕ, ◌+◌, eqb, ltb}
use Rattle.scope.specs.Base.{pick}
use Rattle.scope.specs.Text.{text}
use Rattle.scope.specs.Names.{Texts, bytes}
use Rattle.scope.specs.Chart.{Record, Env, record_at, sigil_at, TRAIT_FN_SORT}
use Rattle.scope.specs.Types.{Ty}
use Rattle.scope.specs.Sound.{Slot, slot_name}
use Rattle.scope.specs.Show.{decimal, name_or_dots}
use Rattle.layout.specs.Words.{slot_at}
use Rattle.layout.specs.declared.Kind.{Kind}

-- between the items of a list
abbrev pub comma : ℕ → List ℕ
comma j = pick (eqb j 0) [] (text ", ")

-- the same by whether it stands before a later item
abbrev pub comma_if : Bool → List ℕ
comma_if later = pick later (text ", ") []

-- a child's name and a colon
abbrev pub label : Texts → Slot → List ℕ
label x s = name_or_dots x (slot_name s) ++ text ": "

-- the same of child j of a kind, among others
abbrev pub entry_text : Texts → List ℕ → Kind → ℕ → List ℕ
entry_text x ks k j = comma j ++ label x (slot_at ks (k.first + j))

-- a definition's name, and a bracket where parameters follow
abbrev pub defined_text : Env → Kind → List ℕ
defined_text e k = bytes e.texts (record_at e k.number).name ++ pick (eqb k.count 0) [] (text "[")

-- a concrete fn's path; of a trait fn its trait's path and its own name
abbrev pub function_text : Env → Record → List ℕ
function_text e r =
    pick (eqb r.sort TRAIT_FN_SORT)
    (text "fn " ++ (bytes e.texts (record_at e r.trait).path ++ (text "::" ++ bytes e.texts r.name)))
    (text "fn " ++ bytes e.texts r.path)

-- a Closure up to its parameters
abbrev pub closure_text : Env → Kind → List ℕ
closure_text e k = text "fn" ++ (bytes e.texts (sigil_at e k.flex) ++ (text " <" ++ (decimal k.number ++ text ">(")))

-- an if const up to its first type; one without two children has no text
abbrev pub if_const_text : Env → Kind → List ℕ
if_const_text e k = pick (ltb k.count 2) [] (text "if const " ++ (bytes e.texts (record_at e k.number).path ++ text " { "))

-- a root without a kind
abbrev pub unknown_text : Ty → List ℕ
unknown_text r = pick r.inv (text "~?") (text "?") ++ decimal r.idx
