-- Every public function's own contract is a step. `Learnt` is what the kit makes of a function's `ensures` for its callers: a claim of its lifetimes, its
-- arguments, its answer and its arguments at exit. Each line says that whatever a function's contract allows, on any arguments, is a step of a list on
-- the words that it was lent, with the answer that it gave and the words that it left. So `Theorem` speaks of every list that the code can run.
use Rattle.std.specs.Prelude.{◌≡◌, false, List, ℕ, length, take, Ok}
use borrow.Fn.Kinds.{ParamKind, ResultKind, In, Out, Dens, res_t, ended_of}
use contract.Lifetimes.{Lfts}
use Rattle.std.specs.Borrow.{Bor, MutBor}
use denote.Triple.Clauses.{AtExit}
use Rattle.scope.specs.Types.{ty_of}
use Rattle.scope.specs.Demand.{Call}
use Rattle.scope.specs.Demand as call
use Rattle.scope.specs.StatesDemand.{StateCall, naming}
use Rattle.scope.specs.StatesDemand as calls
use Rattle.scope.specs.Replies.{Reply}
use Rattle.scope.specs.Replies as says
use Rattle.types.specs.Impls.{impl_means}
use Rattle.chart.specs.declared.Env.{Env}
use Rattle.store.specs.Entries.{types_in}
use Rattle.lent_tests.specs.Given.{entries_in}
use Rattle.promise.specs.Promise.{type_reply, bool_reply, done_reply}
use Rattle.promise.specs.Lists.{list_reply}
use Rattle.promise.specs.Prints.{count_reply, part_reply}
use Rattle.promise.specs.Exports.{export_reply}
use Rattle.call_open.proofs as opening
use Rattle.call_make.proofs as call_make
use Rattle.call_new.proofs as call_new
use Rattle.lent_kind.specs.Lent.{given}
use Rattle.call_find.proofs as call_find
use Rattle.call_read.proofs as call_read
use Rattle.call_read.specs.Replies.{node_reply, child_reply, name_reply, figures_reply}
use Rattle.call_ask.proofs as call_ask
use Rattle.call_ask.specs.Replies.{mod_reply, marks_reply}
use Rattle.call_force.proofs as call_force
use Rattle.call_force.specs.Replies.{forced_reply}
use Rattle.call_unify.proofs as call_unify
use Rattle.call_unify.specs.Answers.{unify_reply}
use Rattle.call_unify_lists.proofs as call_unify_lists
use Rattle.call_impl.proofs as call_impl
use Rattle.call_copy.proofs as call_copy
use Rattle.call_show.proofs as call_show
use Rattle.call_states.proofs as call_states
use Rattle.copy_parts.specs.Places.{params_in}
use Rattle.theorem.specs.Memory.{Memory, memory_of, nodes_now, head_now, Fixed, lent, held, roomy, Opened}
use Rattle.theorem.specs.Steps.{replied, Ran}
use Rattle.theorem.specs.DeskSteps.{DeskMemory, desk_of, store_now, names_now, OpenedNames, DeskRan}

-- of a function that asks A of its arguments and whose callers learn L: it asks nothing, so any numbers at all may be lent, and whatever is learnt is S
pub record Allows {n : ℕ} (ps : List (ParamKind n)) (r : ResultKind n) (A : In n ps) (L S : Out n ps r) : Type 0 where
  pub free : (κs : Lfts n) (a : Dens κs ps) → A κs a
  pub is : (κs : Lfts n) (a : Dens κs ps) (z : (res_t r κs).Denot) (x : AtExit (ended_of n ps r) κs) → L κs a z x → S κs a z x

-- a slice that is lent to be read, and one that is lent to be written
abbrev pub Slice : Type 0
Slice = Bor (List ℕ)

abbrev pub SliceMut : Type 0
SliceMut = MutBor (List ℕ)

-- what every call but `open` is lent first: chart, what is beside it and the two texts as one, and the three slices H, W and K, each to be read or to be written
abbrev pub Args : Type 0 → Type 0 → Type 0 → Type 0 → Type 0
Args H W K R = Bor Env × (H × (W × (K × R)))

abbrev pub fixed_in : {H W K R : Type 0} → Args H W K R → Fixed
fixed_in a = let e = a.0.now in record { chart = e.chart.now; beside = e.beside; rule = e.texts.rule.now; text = e.texts.chart.now }

-- the words of the three slices: of a call that may write none of them, one that may write the nodes, one that may write header and nodes, and one that may
-- write all three
abbrev pub words_read : {R : Type 0} → Args Slice Slice Slice R → Memory
words_read a = memory_of a.1.0.now a.1.1.0.now a.1.1.1.0.now

abbrev pub nodes_in : {R : Type 0} → Args Slice SliceMut Slice R → Memory
nodes_in a = memory_of a.1.0.now a.1.1.0.now a.1.1.1.0.now

abbrev pub head_in : {R : Type 0} → Args SliceMut SliceMut Slice R → Memory
head_in a = memory_of a.1.0.now a.1.1.0.now a.1.1.1.0.now

abbrev pub words_in : {R : Type 0} → Args SliceMut SliceMut SliceMut R → Memory
words_in a = memory_of a.1.0.now a.1.1.0.now a.1.1.1.0.now

-- the arguments behind these
abbrev pub arg1 : {H W K A R : Type 0} → Args H W K (A × R) → A
arg1 a = a.1.1.1.1.0

abbrev pub arg2 : {H W K A B R : Type 0} → Args H W K (A × (B × R)) → B
arg2 a = a.1.1.1.1.1.0

abbrev pub arg3 : {H W K A B C R : Type 0} → Args H W K (A × (B × (C × R))) → C
arg3 a = a.1.1.1.1.1.1.0

abbrev pub arg4 : {H W K A B C D R : Type 0} → Args H W K (A × (B × (C × (D × R)))) → D
arg4 a = a.1.1.1.1.1.1.1.0

abbrev pub arg5 : {H W K A B C D E R : Type 0} → Args H W K (A × (B × (C × (D × (E × R))))) → E
arg5 a = a.1.1.1.1.1.1.1.1.0

abbrev pub arg6 : {H W K A B C D E F R : Type 0} → Args H W K (A × (B × (C × (D × (E × (F × R)))))) → F
arg6 a = a.1.1.1.1.1.1.1.1.1.0

abbrev pub arg7 : {H W K A B C D E F G R : Type 0} → Args H W K (A × (B × (C × (D × (E × (F × (G × R))))))) → G
arg7 a = a.1.1.1.1.1.1.1.1.1.1.0

-- a second store's words, which stand first behind these: an import's source, which is read, and an export's destination, which is written
abbrev pub source_words : {H W K R : Type 0} → Args H W K (Slice × (Slice × (Slice × R))) → Memory
source_words a = memory_of (arg1 a).now (arg2 a).now (arg3 a).now

abbrev pub other_words : {H W K R : Type 0} → Args H W K (SliceMut × (SliceMut × (SliceMut × R))) → Memory
other_words a = memory_of (arg1 a).now (arg2 a).now (arg3 a).now

-- a step on what was lent, on the words m: the call c answers r and leaves the words m'
abbrev pub RanOn : {H W K R : Type 0} → Args H W K R → Memory → Call → Reply → Memory → Type 0
RanOn a m c r m' = Ran (fixed_in a) m c r m'

-- with a names buffer, and a step on both
abbrev pub DeskRanOn : {H W K R : Type 0} → Args H W K R → DeskMemory → StateCall → Reply → DeskMemory → Type 0
DeskRanOn a d c r d' = DeskRan (fixed_in a) d c r d'

-- the names buffer stands first behind the three slices: a call that may write it alone, one that reads it and may write the store, one that may write both
abbrev pub desk_names : {R : Type 0} → Args Slice Slice Slice (SliceMut × R) → DeskMemory
desk_names a = desk_of (words_read a) (arg1 a).now

abbrev pub desk_words : {R : Type 0} → Args SliceMut SliceMut SliceMut (Slice × R) → DeskMemory
desk_words a = desk_of (words_in a) (arg1 a).now

abbrev pub desk_in : {R : Type 0} → Args SliceMut SliceMut SliceMut (SliceMut × R) → DeskMemory
desk_in a = desk_of (words_in a) (arg1 a).now

-- the words at exit, of a call that writes the header and the nodes, and of one that writes the nodes alone
abbrev pub head_left : {R Q : Type 0} → Args SliceMut SliceMut Slice R → Args SliceMut SliceMut Slice Q → Memory
head_left a x = head_now (head_in a) (head_in x).head (head_in x).nodes

abbrev pub nodes_left : {R Q : Type 0} → Args Slice SliceMut Slice R → Args Slice SliceMut Slice Q → Memory
nodes_left a x = nodes_now (nodes_in a) (nodes_in x).nodes

pub record Contracts : Type 0 where
  -- the slices that `open` was lent, when it answered `Ok`
  pub opens : Allows opening.open.Kinds.ps opening.open.Kinds.r opening.open.Reads.Asked opening.open.Reads.Learnt
      (λ κs a r x. r ≡ Ok tt → Opened a.1.1.1.0 a.1.1.1.1.0 (memory_of x.0.now x.1.0.now x.1.1.0.now))
  -- the makers
  pub new : Allows call_new.new.Kinds.ps call_new.new.Kinds.r call_new.new.Reads.Asked call_new.new.Reads.Learnt
      (λ κs a r x. RanOn a (words_in a) (call.make (call.new (given (arg1 a) (arg2 a).now))) (replied says.type (type_reply r)) (words_in x))
  pub new_var : Allows call_make.new_var.Kinds.ps call_make.new_var.Kinds.r call_make.new_var.Reads.Asked call_make.new_var.Reads.Learnt
      (λ κs a r x. RanOn a (head_in a) (call.make (call.new_var (arg1 a))) (replied says.type (type_reply r)) (head_left a x))
  pub new_struct : Allows call_new.new_struct.Kinds.ps call_new.new_struct.Kinds.r call_new.new_struct.Reads.Asked call_new.new_struct.Reads.Learnt
      (λ κs a r x. RanOn a (words_in a) (call.make (call.new_struct (arg1 a) (types_in (arg2 a).now))) (replied says.type (type_reply r)) (words_in x))
  pub new_union : Allows call_new.new_union.Kinds.ps call_new.new_union.Kinds.r call_new.new_union.Reads.Asked call_new.new_union.Reads.Learnt
      (λ κs a r x. RanOn a (words_in a) (call.make (call.new_union (arg1 a) (types_in (arg2 a).now))) (replied says.type (type_reply r)) (words_in x))
  pub new_vars : Allows call_make.new_vars.Kinds.ps call_make.new_vars.Kinds.r call_make.new_vars.Reads.Asked call_make.new_vars.Reads.Learnt
      (λ κs a r x. RanOn a (head_in a) (call.make (call.new_vars (arg1 a) (arg2 a) (length (arg3 a).now))) (replied says.types (list_reply r (take (arg2 a) (arg3 x).now))) (head_left a x))
  pub error : Allows call_make.error.Kinds.ps call_make.error.Kinds.r call_make.error.Reads.Asked call_make.error.Reads.Learnt
      (λ κs a r x. RanOn a (head_in a) (call.make call.error) (replied says.type (type_reply r)) (head_left a x))
  pub nil : Allows call_make.nil.Kinds.ps call_make.nil.Kinds.r call_make.nil.Reads.Asked call_make.nil.Reads.Learnt
      (λ κs a r x. RanOn a (head_in a) (call.make call.nil) (replied says.type (type_reply r)) (head_left a x))
  -- `force_kind`, `unify`
  pub force_kind : Allows call_force.force_kind.Kinds.ps call_force.force_kind.Kinds.r call_force.force_kind.Reads.Asked call_force.force_kind.Reads.Learnt
      (λ κs a r x. RanOn a (head_in a) (call.force_kind (ty_of (arg1 a).0)) (replied says.forced (forced_reply (head_in a).kids r)) (head_left a x))
  pub unify : Allows call_unify.unify.Kinds.ps call_unify.unify.Kinds.r call_unify.unify.Reads.Asked call_unify.unify.Reads.Learnt
      (λ κs a r x. RanOn a (nodes_in a) (call.unify (ty_of (arg1 a).0) (ty_of (arg2 a).0)) (replied says.answer (unify_reply r)) (nodes_left a x))
  pub unify_recalling : Allows call_unify.unify_recalling.Kinds.ps call_unify.unify_recalling.Kinds.r call_unify.unify_recalling.Reads.Asked call_unify.unify_recalling.Reads.Learnt
      (λ κs a r x. RanOn a (nodes_in a) (call.unify (ty_of (arg2 a).0) (ty_of (arg3 a).0)) (replied says.answer (unify_reply r)) (nodes_left a x))
  -- `import`, whose source is any numbers
  pub import : Allows call_copy.import.Kinds.ps call_copy.import.Kinds.r call_copy.import.Reads.Asked call_copy.import.Reads.Learnt
      (λ κs a r x. RanOn a (words_in a) (call.import (lent (source_words a)) (types_in (arg4 a).now) (params_in (arg5 a)) (length (arg6 a).now))
      (replied says.types (list_reply r (take (length (arg4 a).now) (arg6 x).now))) (words_in x))
  -- the reads
  pub find : Allows call_find.find.Kinds.ps call_find.find.Kinds.r call_find.find.Reads.Asked call_find.find.Reads.Learnt
      (λ κs a r x. RanOn a (words_read a) (call.read (call.find (ty_of (arg1 a).0))) (replied says.type (type_reply r)) (words_read a))
  pub find_mut : Allows call_find.find_mut.Kinds.ps call_find.find_mut.Kinds.r call_find.find_mut.Reads.Asked call_find.find_mut.Reads.Learnt
      (λ κs a r x. RanOn a (nodes_in a) (call.read (call.find_mut (ty_of (arg1 a).0))) (replied says.type (type_reply r)) (nodes_left a x))
  pub node : Allows call_read.node.Kinds.ps call_read.node.Kinds.r call_read.node.Reads.Asked call_read.node.Reads.Learnt
      (λ κs a r x. RanOn a (words_read a) (call.read (call.node (ty_of (arg1 a).0))) (replied says.a_node (node_reply (words_read a).kids r)) (words_read a))
  pub child : Allows call_read.child.Kinds.ps call_read.child.Kinds.r call_read.child.Reads.Asked call_read.child.Reads.Learnt
      (λ κs a r x. RanOn a (words_read a) (call.read (call.child (ty_of (arg1 a).0) (arg2 a))) (replied says.a_child (child_reply r)) (words_read a))
  pub child_name : Allows call_read.child_name.Kinds.ps call_read.child_name.Kinds.r call_read.child_name.Reads.Asked call_read.child_name.Reads.Learnt
      (λ κs a r x. RanOn a (words_read a) (call.read (call.name (ty_of (arg1 a).0) (arg2 a))) (replied says.a_name (name_reply r)) (words_read a))
  pub figures : Allows call_read.figures.Kinds.ps call_read.figures.Kinds.r call_read.figures.Reads.Asked call_read.figures.Reads.Learnt
      (λ κs a r x. RanOn a (words_read a) (call.read call.figures) (replied says.a_store (figures_reply (words_read a).nodes (words_read a).kids r)) (words_read a))
  pub export : Allows call_copy.export.Kinds.ps call_copy.export.Kinds.r call_copy.export.Reads.Asked call_copy.export.Reads.Learnt
      (λ κs a r x. RanOn a (words_read a) (call.read (call.export (arg4 a) (arg5 a) (roomy (arg4 a) (arg5 a) (other_words a)) (types_in (arg6 a).now) (length (arg7 a).now)))
      (replied says.exported (export_reply r (take (length (arg6 a).now) (arg7 x).now) (held (other_words x)))) (words_read a))
  -- the calls "Outside the theorem's first half"
  pub unify_types : Allows call_unify_lists.unify_types.Kinds.ps call_unify_lists.unify_types.Kinds.r call_unify_lists.unify_types.Reads.Asked call_unify_lists.unify_types.Reads.Learnt
      (λ κs a r x. RanOn a (nodes_in a) (call.later (call.unify_types (types_in (arg1 a).now) (types_in (arg2 a).now) (arg3 a).0)) (replied says.answer (unify_reply r)) (nodes_left a x))
  pub unify_types_recalling : Allows call_unify_lists.unify_types_recalling.Kinds.ps call_unify_lists.unify_types_recalling.Kinds.r
      call_unify_lists.unify_types_recalling.Reads.Asked call_unify_lists.unify_types_recalling.Reads.Learnt
      (λ κs a r x. RanOn a (nodes_in a) (call.later (call.unify_types (types_in (arg2 a).now) (types_in (arg3 a).now) (arg4 a).0)) (replied says.answer (unify_reply r)) (nodes_left a x))
  pub unify_objects : Allows call_unify_lists.unify_objects.Kinds.ps call_unify_lists.unify_objects.Kinds.r call_unify_lists.unify_objects.Reads.Asked call_unify_lists.unify_objects.Reads.Learnt
      (λ κs a r x. RanOn a (nodes_in a) (call.later (call.unify_objects (entries_in (arg1 a).now) (entries_in (arg2 a).now) (arg3 a).0)) (replied says.answer (unify_reply r)) (nodes_left a x))
  pub unify_objects_recalling : Allows call_unify_lists.unify_objects_recalling.Kinds.ps call_unify_lists.unify_objects_recalling.Kinds.r
      call_unify_lists.unify_objects_recalling.Reads.Asked call_unify_lists.unify_objects_recalling.Reads.Learnt
      (λ κs a r x. RanOn a (nodes_in a) (call.later (call.unify_objects (entries_in (arg2 a).now) (entries_in (arg3 a).now) (arg4 a).0)) (replied says.answer (unify_reply r)) (nodes_left a x))
  pub unify_impl_type : Allows call_impl.unify_impl_type.Kinds.ps call_impl.unify_impl_type.Kinds.r
      call_impl.unify_impl_type.Reads.Asked call_impl.unify_impl_type.Reads.Learnt
      (λ κs a r x. RanOn a (nodes_in a) (call.later (call.unify_impl_type (impl_means (arg1 a)) (impl_means (arg2 a))))
      (replied says.answer (unify_reply r)) (nodes_left a x))
  pub unify_impl_type_recalling : Allows call_impl.unify_impl_type_recalling.Kinds.ps call_impl.unify_impl_type_recalling.Kinds.r
      call_impl.unify_impl_type_recalling.Reads.Asked call_impl.unify_impl_type_recalling.Reads.Learnt
      (λ κs a r x. RanOn a (nodes_in a) (call.later (call.unify_impl_type (impl_means (arg2 a)) (impl_means (arg3 a))))
      (replied says.answer (unify_reply r)) (nodes_left a x))
  pub unify_fn_sig : Allows call_unify_lists.unify_fn_sig.Kinds.ps call_unify_lists.unify_fn_sig.Kinds.r call_unify_lists.unify_fn_sig.Reads.Asked call_unify_lists.unify_fn_sig.Reads.Learnt
      (λ κs a r x. RanOn a (nodes_in a) (call.later (call.unify_fn_sig (types_in (arg1 a).now) (ty_of (arg2 a).0) (types_in (arg3 a).now) (ty_of (arg4 a).0)))
      (replied says.answer (unify_reply r)) (nodes_left a x))
  pub unify_fn_sig_recalling : Allows call_unify_lists.unify_fn_sig_recalling.Kinds.ps call_unify_lists.unify_fn_sig_recalling.Kinds.r
      call_unify_lists.unify_fn_sig_recalling.Reads.Asked call_unify_lists.unify_fn_sig_recalling.Reads.Learnt
      (λ κs a r x. RanOn a (nodes_in a) (call.later (call.unify_fn_sig (types_in (arg2 a).now) (ty_of (arg3 a).0) (types_in (arg4 a).now) (ty_of (arg5 a).0)))
      (replied says.answer (unify_reply r)) (nodes_left a x))
  pub finish_inference : Allows call_force.finish_inference.Kinds.ps call_force.finish_inference.Kinds.r call_force.finish_inference.Reads.Asked call_force.finish_inference.Reads.Learnt
      (λ κs a r x. RanOn a (nodes_in a) (call.later call.finish_inference) (replied (λ u. says.nothing) (done_reply r)) (nodes_left a x))
  pub finish_inference_where : Allows call_force.finish_inference_where.Kinds.ps call_force.finish_inference_where.Kinds.r
      call_force.finish_inference_where.Reads.Asked call_force.finish_inference_where.Reads.Learnt
      (λ κs a r x. RanOn a (nodes_in a) (call.later (call.finish_where (arg1 a).now)) (replied (λ u. says.nothing) (done_reply r)) (nodes_left a x))
  pub find_related : Allows call_ask.find_related.Kinds.ps call_ask.find_related.Kinds.r call_ask.find_related.Reads.Asked call_ask.find_related.Reads.Learnt
      (λ κs a r x. RanOn a (words_read a) (call.later (call.find_related (ty_of (arg2 a).0) (arg1 a).now)) (replied says.marks (marks_reply (arg1 x).now r)) (words_read a))
  pub self_inverse_param : Allows call_ask.self_inverse_param.Kinds.ps call_ask.self_inverse_param.Kinds.r call_ask.self_inverse_param.Reads.Asked call_ask.self_inverse_param.Reads.Learnt
      (λ κs a r x. RanOn a (words_read a) (call.later (call.self_inverse (ty_of (arg1 a).0) (arg2 a))) (replied says.flag (bool_reply r)) (words_read a))
  pub self_inverse : Allows call_ask.self_inverse.Kinds.ps call_ask.self_inverse.Kinds.r call_ask.self_inverse.Reads.Asked call_ask.self_inverse.Reads.Learnt
      (λ κs a r x. RanOn a (words_read a) (call.later (call.self_inverse (ty_of (arg1 a).0) false)) (replied says.flag (bool_reply r)) (words_read a))
  pub is_nil : Allows call_ask.is_nil.Kinds.ps call_ask.is_nil.Kinds.r call_ask.is_nil.Reads.Asked call_ask.is_nil.Reads.Learnt
      (λ κs a r x. RanOn a (words_read a) (call.later (call.is_nil (ty_of (arg1 a).0))) (replied says.flag (bool_reply r)) (words_read a))
  pub get_mod : Allows call_ask.get_mod.Kinds.ps call_ask.get_mod.Kinds.r call_ask.get_mod.Reads.Asked call_ask.get_mod.Reads.Learnt
      (λ κs a r x. RanOn a (words_read a) (call.later (call.get_mod (ty_of (arg1 a).0))) (replied says.mod_is (mod_reply r)) (words_read a))
  pub approx_eq : Allows call_impl.approx_eq.Kinds.ps call_impl.approx_eq.Kinds.r call_impl.approx_eq.Reads.Asked call_impl.approx_eq.Reads.Learnt
      (λ κs a r x. RanOn a (words_read a) (call.later (call.approx_eq (impl_means (arg1 a)) (impl_means (arg2 a)))) (replied says.flag (bool_reply r)) (words_read a))
  pub show : Allows call_show.show.Kinds.ps call_show.show.Kinds.r call_show.show.Reads.Asked call_show.show.Reads.Learnt
      (λ κs a r x. RanOn a (words_read a) (call.later (call.show (ty_of (arg1 a).0) (arg2 a).now)) (replied (λ n. says.text (take n (arg2 x).now)) (count_reply r)) (words_read a))
  pub show_impl_type : Allows call_show.show_impl_type.Kinds.ps call_show.show_impl_type.Kinds.r call_show.show_impl_type.Reads.Asked call_show.show_impl_type.Reads.Learnt
      (λ κs a r x. RanOn a (words_read a) (call.later (call.show_impl_type (impl_means (arg1 a)) (arg2 a).now))
      (replied (λ n. says.text (take n (arg2 x).now)) (count_reply r)) (words_read a))
  pub show_part : Allows call_show.show_part.Kinds.ps call_show.show_part.Kinds.r call_show.show_part.Reads.Asked call_show.show_part.Reads.Learnt
      (λ κs a r x. RanOn a (words_read a) (call.later (call.show (ty_of (arg1 a).0) (arg2 a).now)) (replied (λ n. says.text r.0.now) (part_reply r.1 r.0.now)) (words_read a))
  pub show_impl_type_part : Allows call_show.show_impl_type_part.Kinds.ps call_show.show_impl_type_part.Kinds.r
      call_show.show_impl_type_part.Reads.Asked call_show.show_impl_type_part.Reads.Learnt
      (λ κs a r x. RanOn a (words_read a) (call.later (call.show_impl_type (impl_means (arg1 a)) (arg2 a).now))
      (replied (λ n. says.text r.0.now) (part_reply r.1 r.0.now)) (words_read a))
  -- the names buffer that `open_names` was lent, when it answered `Ok`
  pub opens_names : Allows call_states.open_names.Kinds.ps call_states.open_names.Kinds.r call_states.open_names.Reads.Asked call_states.open_names.Reads.Learnt
      (λ κs a r x. r ≡ Ok tt → OpenedNames a.1.0 a.1.1.0 x.0.now)
  -- the calls on a store and its names buffer
  pub name_state : Allows call_states.name_state.Kinds.ps call_states.name_state.Kinds.r call_states.name_state.Reads.Asked call_states.name_state.Reads.Learnt
      (λ κs a r x. DeskRanOn a (desk_names a) (naming (calls.name (arg2 a).now)) (replied (λ u. says.nothing) (done_reply r)) (names_now (desk_names a) (arg1 x).now))
  pub return_to : Allows call_states.return_to.Kinds.ps call_states.return_to.Kinds.r call_states.return_to.Reads.Asked call_states.return_to.Reads.Learnt
      (λ κs a r x. DeskRanOn a (desk_words a) (naming (calls.return_to (arg2 a).now)) (replied (λ u. says.nothing) (done_reply r)) (store_now (desk_words a) (words_in x)))
  pub drop_name : Allows call_states.drop_name.Kinds.ps call_states.drop_name.Kinds.r call_states.drop_name.Reads.Asked call_states.drop_name.Reads.Learnt
      (λ κs a r x. DeskRanOn a (desk_names a) (naming (calls.drop (arg2 a).now)) (replied (λ u. says.nothing) (done_reply r)) (names_now (desk_names a) (arg1 x).now))
  pub reset : Allows call_states.reset.Kinds.ps call_states.reset.Kinds.r call_states.reset.Reads.Asked call_states.reset.Reads.Learnt
      (λ κs a r x. DeskRanOn a (desk_in a) (naming calls.reset) (replied (λ u. says.nothing) (done_reply r)) (desk_in x))
