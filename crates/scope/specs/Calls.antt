-- Each public call's outcome as one definition of its arguments: its answer and the store afterwards, or a refusal. "Tested in the order 1, 2, 8,
-- 9, 3, 4, 5, 6, 10, 11, 7. A refusal returns only its number and leaves all memory as found".
use Rattle.std.specs.Prelude.{List, [], ◌∷◌, ◌++◌, map, Bool, true, not, ◌&&◌, ◌||◌, ℕ, eqb, ltb, leb, length, take, drop}
use Rattle.std.proofs.Math.Option.{Option, none, some}
use Rattle.std.proofs.Math.ListN.{get_elem?}
use Rattle.scope.specs.Base.{pick, all, any}
use Rattle.scope.specs.Names.{Name}
use Rattle.scope.specs.Chart.{Env, is_trait}
use Rattle.scope.specs.Types.{Ty, word_of}
use Rattle.scope.specs.Kinds.{head_of, makeable, defined, object_names_ok, STRUCT, UNION}
use Rattle.scope.specs.Nodes.{Kind, Known, Unknown, InferenceFailed, Node, Root, Child, Store, opened, with_nodes, at, find, find_mut}
use Rattle.scope.specs.Answers.{Answer}
use Rattle.scope.specs.Unify.{Out, unify, unify_types, unify_objects, ImplType, Trait, Error, unify_impl_type, unify_fn_sig, approx_eq, self_inverse_of}
use Rattle.scope.specs.Make.{Made, MadeAll, new, new_var, new_vars, make_error, make_nil}
use Rattle.scope.specs.Force.{Forced, force_kind, finish_inference, finish_where, find_related, is_nil, Mod, get_mod}
use Rattle.scope.specs.Import.{MovedAll, import, export}
use Rattle.scope.specs.Show.{show, show_impl_type}
use Rattle.scope.specs.Sound.{Lent, sound, in_store}
use Rattle.scope.specs.Refusals.{OUTSIDE, UNMAKEABLE, UNDEFINED, NO_ENTRY, SHORT, SOURCE_UNSOUND, NODES_FULL, CHILDREN_FULL}
pub use Rattle.scope.specs.Refusals.{Outcome, refused, done, first_broken, or_refused, judged, store_of}
pub use Rattle.scope.specs.Refusals.{open_test, lent_tests, outside, too_many, room_tests, short_for}

-- what a lent list of numbers holds once types are written at its front
abbrev pub written : List Ty → List ℕ → List ℕ
written ts buffer = map word_of ts ++ drop (length ts) buffer

-- opening: "capacity above the limit or buffers too short"
unfoldable pub open_call : ℕ → ℕ → Bool → Outcome (Unit {0})
open_call n c enough = judged (open_test n c enough ∷ []) (done tt (opened n c))

-- a call on one type that only reads
abbrev pub read_call : {A : Type 0} → Env → Lent → List Ty → A → Outcome A
read_call e l ts a = judged (lent_tests e l ++ (outside (store_of l) ts ∷ [])) (done a (store_of l))

-- `find`, `find_mut`
unfoldable pub find_call : Env → Lent → Ty → Outcome Ty
find_call e l t = read_call e l (t ∷ []) (find (store_of l).nodes t)

unfoldable pub find_mut_call : Env → Lent → Ty → Outcome Ty
find_mut_call e l t =
    let s : Store = store_of l in
    judged (lent_tests e l ++ (outside s (t ∷ []) ∷ [])) (done (find s.nodes t) (with_nodes s (find_mut s.nodes t)))

-- a node as it stands; a child and its name by their index, none past the end; counts, capacities, remembered types and the report count
unfoldable pub node_call : Env → Lent → Ty → Outcome Node
node_call e l t = read_call e l (t ∷ []) (at (store_of l).nodes t.idx)

-- a node's j-th child, and the j-th of its names
abbrev pub child_at : Node → ℕ → Option Ty
child_at (Root (Known i k) z) j = get_elem? k.kids j
child_at (Root (Unknown p) z) j = none
child_at (Root InferenceFailed z) j = none
child_at (Child t) j = none

abbrev pub flat : Option (Option Name) → Option Name
flat none = none
flat (some n) = n

abbrev pub child_name_at : Node → ℕ → Option Name
child_name_at (Root (Known i k) z) j = flat (get_elem? k.head.names j)
child_name_at (Root (Unknown p) z) j = none
child_name_at (Root InferenceFailed z) j = none
child_name_at (Child t) j = none

unfoldable pub child_call : Env → Lent → Ty → ℕ → Outcome (Option Ty)
child_call e l t j = read_call e l (t ∷ []) (child_at (at (store_of l).nodes t.idx) j)

unfoldable pub name_call : Env → Lent → Ty → ℕ → Outcome (Option Name)
name_call e l t j = read_call e l (t ∷ []) (child_name_at (at (store_of l).nodes t.idx) j)

unfoldable pub figures_call : Env → Lent → Outcome Store
figures_call e l = read_call e l [] (store_of l)

-- what `new` is given: a kind, its flag apart, which is the chart's
pub record NewKind : Type 0 where
  pub code : ℕ
  pub number : ℕ
  pub flex : ℕ
  pub names : List (Option Name)
  pub kids : List Ty

-- the kind that is made of it, and a maker's answer
abbrev pub kind_made : Env → NewKind → Kind
kind_made e a = record { head = head_of e a.code a.number a.flex a.names; kids = a.kids }

abbrev pub made_type : Made → Outcome Ty
made_type m = done m.type m.store

-- `new`, and over a definition `new_struct` and `new_union`
unfoldable pub new_call : Env → Lent → NewKind → Outcome Ty
new_call e l a =
    let s : Store = store_of l in
    let k : Kind = kind_made e a in
    judged
    (lent_tests e l
    ++ (outside s a.kids ∷ (not (makeable e.texts k.head (length a.kids)), UNMAKEABLE) ∷ (not (defined e k.head), UNDEFINED) ∷ room_tests s 1 (length a.kids)))
    (made_type (new s k))

-- a Struct or Union over a definition
abbrev pub over : ℕ → ℕ → List Ty → NewKind
over c n ts = record { code = c; number = n; flex = 0; names = []; kids = ts }

unfoldable pub new_struct_call : Env → Lent → ℕ → List Ty → Outcome Ty
new_struct_call e l n ts = new_call e l (over STRUCT n ts)

unfoldable pub new_union_call : Env → Lent → ℕ → List Ty → Outcome Ty
new_union_call e l n ts = new_call e l (over UNION n ts)

-- `new_var`
unfoldable pub new_var_call : Env → Lent → ℕ → Outcome Ty
new_var_call e l p = let s : Store = store_of l in judged (lent_tests e l ++ room_tests s 1 0) (made_type (new_var s p))

-- "The count given to `new_vars` is limited by 10 and 7 only"; the answer's list has room for `have` types
unfoldable pub new_vars_call : Env → Lent → ℕ → ℕ → ℕ → Outcome (List Ty)
new_vars_call e l p n have =
    let s : Store = store_of l in
    let o : Outcome (List Ty) = (let m : MadeAll = new_vars s p n in done m.types m.store) in
    judged (lent_tests e l ++ (room_tests s n 0 ++ (short_for have n ∷ []))) o

-- `error` and `nil`, which need a node where none is remembered
abbrev pub nodes_for : Option Ty → ℕ
nodes_for none = 1
nodes_for (some t) = 0

unfoldable pub error_call : Env → Lent → Outcome Ty
error_call e l = let s : Store = store_of l in judged (lent_tests e l ++ room_tests s (nodes_for s.error) 0) (made_type (make_error s))

unfoldable pub nil_call : Env → Lent → Outcome Ty
nil_call e l = let s : Store = store_of l in judged (lent_tests e l ++ room_tests s (nodes_for s.nil) 0) (made_type (make_nil s))

-- unify's answer, and the store with the nodes that it leaves
abbrev pub unified : Store → Out → Outcome Answer
unified s o = done o.answer (with_nodes s o.nodes)

-- `unify`, `unify_types`
unfoldable pub unify_call : Env → Lent → Ty → Ty → Outcome Answer
unify_call e l a b =
    let s : Store = store_of l in
    judged (lent_tests e l ++ (outside s (a ∷ b ∷ []) ∷ [])) (unified s (unify e.texts s.nodes a b))

unfoldable pub unify_types_call : Env → Lent → List Ty → List Ty → Bool → Outcome Answer
unify_types_call e l xs ys i =
    let s : Store = store_of l in
    judged
    (lent_tests e l ++ (outside s (xs ++ ys) ∷ (too_many xs || too_many ys, UNMAKEABLE) ∷ []))
    (unified s (unify_types e.texts s.nodes xs ys i))

-- an object's entries as they are lent
pub record Entries : Type 0 where
  pub names : List (Option Name)
  pub types : List Ty

-- "object names not strictly ascending", or a name too many
abbrev pub bad_entries : Env → Entries → Bool
bad_entries e a =
    too_many a.types || not (eqb (length a.names) (length a.types) && object_names_ok e.texts a.names)

-- `unify_objects`
unfoldable pub unify_objects_call : Env → Lent → Entries → Entries → Bool → Outcome Answer
unify_objects_call e l a b i =
    let s : Store = store_of l in
    judged
    (lent_tests e l ++ (outside s (a.types ++ b.types) ∷ (bad_entries e a || bad_entries e b, UNMAKEABLE) ∷ []))
    (unified s (unify_objects e.texts s.nodes a.names a.types b.names b.types i))

-- an impl type's types, and whether it is over a trait
abbrev pub impl_types : ImplType → List Ty
impl_types (Trait n ts) = ts
impl_types Error = []

abbrev pub impl_defined : Env → ImplType → Bool
impl_defined e (Trait n ts) = is_trait e n
impl_defined e Error = true

-- the tests of calls on impl types: 3, 4 and 5 over all of them
abbrev pub impl_tests : Env → Store → List ImplType → List (Bool × ℕ)
impl_tests e s as' =
    (not (all (λ a. all (in_store s.nodes) (impl_types a)) as'), OUTSIDE)
    ∷ (any (λ a. too_many (impl_types a)) as', UNMAKEABLE)
    ∷ (not (all (impl_defined e) as'), UNDEFINED)
    ∷ []

-- `unify_impl_type`, `approx_eq`
unfoldable pub unify_impl_type_call : Env → Lent → ImplType → ImplType → Outcome Answer
unify_impl_type_call e l a b =
    let s : Store = store_of l in
    judged (lent_tests e l ++ impl_tests e s (a ∷ b ∷ [])) (unified s (unify_impl_type e.texts s.nodes a b))

unfoldable pub approx_eq_call : Env → Lent → ImplType → ImplType → Outcome Bool
approx_eq_call e l a b =
    let s : Store = store_of l in
    judged (lent_tests e l ++ impl_tests e s (a ∷ b ∷ [])) (done (approx_eq a b) s)

-- `unify_fn_sig`: parameters and return of each
unfoldable pub unify_fn_sig_call : Env → Lent → List Ty → Ty → List Ty → Ty → Outcome Answer
unify_fn_sig_call e l xs r ys q =
    let s : Store = store_of l in
    judged
    (lent_tests e l ++ (outside s (xs ++ (r ∷ ys ++ (q ∷ []))) ∷ (too_many xs || too_many ys, UNMAKEABLE) ∷ []))
    (unified s (unify_fn_sig e.texts s.nodes xs r ys q))

-- `force_kind`
unfoldable pub force_kind_call : Env → Lent → Ty → Outcome Forced
force_kind_call e l t =
    let s : Store = store_of l in
    let o : Outcome Forced = (let f : Forced × Store = force_kind s t in done f.0 f.1) in
    judged (lent_tests e l ++ (outside s (t ∷ []) ∷ [])) o

-- `finish_inference`, `finish_inference_where`
unfoldable pub finish_inference_call : Env → Lent → Outcome (Unit {0})
finish_inference_call e l =
    let s : Store = store_of l in
    judged (lent_tests e l) (done tt (with_nodes s (finish_inference s.nodes)))

unfoldable pub finish_where_call : Env → Lent → List ℕ → Outcome (Unit {0})
finish_where_call e l bs =
    let s : Store = store_of l in
    judged (lent_tests e l) (done tt (with_nodes s (finish_where bs s.nodes)))

-- "too few marks: 7"; the answer is the marks afterwards
unfoldable pub find_related_call : Env → Lent → Ty → List ℕ → Outcome (List ℕ)
find_related_call e l t ms =
    let s : Store = store_of l in
    judged
    (lent_tests e l ++ (outside s (t ∷ []) ∷ short_for (length ms) (length s.nodes) ∷ []))
    (done (find_related s.nodes t ms) s)

-- `_self_inverse`, `is_nil`, `get_mod`
unfoldable pub self_inverse_call : Env → Lent → Ty → Bool → Outcome Bool
self_inverse_call e l t param = read_call e l (t ∷ []) (self_inverse_of (store_of l).nodes t param)

unfoldable pub is_nil_call : Env → Lent → Ty → Outcome Bool
is_nil_call e l t = read_call e l (t ∷ []) (is_nil (store_of l).nodes t)

unfoldable pub get_mod_call : Env → Lent → Ty → Outcome Mod
get_mod_call e l t = read_call e l (t ∷ []) (get_mod e (store_of l).nodes t)

-- the list and the parameter list; "Source and destination read the same chart and texts"
abbrev pub import_list : Option (List Ty) → List Ty
import_list none = []
import_list (some ps) = ps

-- `import`; the answer's list has room for `have` types
unfoldable pub import_call : Env → Lent → Lent → List Ty → Option (List Ty) → ℕ → Outcome (List Ty)
import_call e l src ts ps have =
    let s : Store = store_of l in
    let o : Store = store_of src in
    let m : MovedAll = import o.nodes ps s ts in
    judged
    (lent_tests e l
    ++ ((not (sound e src), SOURCE_UNSOUND)
    ∷ (not (all (in_store o.nodes) ts && all (in_store s.nodes) (import_list ps)), OUTSIDE)
    ∷ (too_many ts || too_many (import_list ps), UNMAKEABLE)
    ∷ (m.work.missing, NO_ENTRY)
    ∷ (ltb s.node_room (length m.work.dest.nodes), NODES_FULL)
    ∷ (ltb s.child_room m.work.dest.children, CHILDREN_FULL)
    ∷ short_for have (length ts)
    ∷ []))
    (done m.types m.work.dest)

-- export's answer: the types, and the fresh store that the destination's buffers then hold
pub record Exported : Type 0 where
  pub types : List Ty
  pub fresh : Store

-- the destination is opened with n nodes and c children; `enough` says that its buffers are long enough
unfoldable pub export_call : Env → Lent → ℕ → ℕ → Bool → List Ty → ℕ → Outcome Exported
export_call e l n c enough ts have =
    let s : Store = store_of l in
    let m : MovedAll = export s (opened n c) ts in
    judged
    (open_test n c enough
    ∷ (lent_tests e l
    ++ (outside s ts
    ∷ (too_many ts, UNMAKEABLE)
    ∷ (ltb n (length m.work.dest.nodes), NODES_FULL)
    ∷ (ltb c m.work.dest.children, CHILDREN_FULL)
    ∷ short_for have (length ts)
    ∷ [])))
    (done (record { types = m.types; fresh = m.work.dest }) s)

-- a printer's outcome: the text's length or a refusal, the buffer afterwards, and "the written front part of that buffer"
pub record Printed : Type 0 where
  pub answer : Outcome ℕ
  pub buffer : List ℕ
  pub part : List ℕ

-- "on any other refusal an empty part"
abbrev pub unprinted : ℕ → List ℕ → Printed
unprinted n buffer = record { answer = refused n; buffer = buffer; part = [] }

-- "7 from a printer fills the buffer with the text's first bytes", and the part is "on 7 the whole buffer"
abbrev pub printed_text : Store → List ℕ → List ℕ → Printed
printed_text s bs buffer =
    pick (leb (length bs) (length buffer))
    (record { answer = done (length bs) s; buffer = bs ++ drop (length bs) buffer; part = bs })
    (record { answer = refused SHORT; buffer = take (length buffer) bs; part = take (length buffer) bs })

-- a printer that is turned back before it prints
abbrev pub or_unprinted : Option ℕ → List ℕ → Printed → Printed
or_unprinted none buffer p = p
or_unprinted (some n) buffer p = unprinted n buffer

-- `show`, `show_impl_type`
unfoldable pub show_call : Env → Lent → Ty → List ℕ → Printed
show_call e l t buffer =
    let s : Store = store_of l in
    or_unprinted (first_broken (lent_tests e l ++ (outside s (t ∷ []) ∷ []))) buffer (printed_text s (show e s.nodes t) buffer)

unfoldable pub show_impl_type_call : Env → Lent → ImplType → List ℕ → Printed
show_impl_type_call e l a buffer =
    let s : Store = store_of l in
    or_unprinted (first_broken (lent_tests e l ++ impl_tests e s (a ∷ []))) buffer (printed_text s (show_impl_type e s.nodes a) buffer)
