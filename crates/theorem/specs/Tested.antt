-- The forms of the calls for a tested store: one that only the library's calls have written since it was opened or tested. Such a form asks that chart, texts
-- and words pass the tests of 2 and 8, and nothing else; it tests its arguments alone. Its contract is the call's own, so whatever it does the call does, and
-- it is a step of a list as the call is (Contracts). Opening leaves words that pass, every call of a list does, and export does in its destination.
use Rattle.std.specs.Prelude.{◌≡◌, true, List, ℕ, length, Ok}
use borrow.Fn.Kinds.{ParamKind, ResultKind, In, Out, Dens, res_t, ended_of}
use contract.Lifetimes.{Lfts}
use denote.Triple.Clauses.{AtExit}
use Rattle.scope.specs.Chart.{chart_ok}
use Rattle.scope.specs.Calls.{export_call}
use Rattle.store.specs.Entries.{types_in}
use Rattle.promise.specs.Exports.{ExportPromised}
use Rattle.call_new.proofs as call_new
use Rattle.tested_new.proofs as tested_new
use Rattle.call_make.proofs as call_make
use Rattle.call_make.proofs.tested as tested_make
use Rattle.call_force.proofs as call_force
use Rattle.call_force.proofs.tested as tested_force
use Rattle.call_find.proofs as call_find
use Rattle.call_find.proofs.tested as tested_find
use Rattle.call_read.proofs as call_read
use Rattle.call_read.proofs.tested as tested_read
use Rattle.call_copy.proofs as call_copy
use Rattle.tested_export.proofs as tested_export
use Rattle.call_ask.proofs as call_ask
use Rattle.call_ask.proofs.tested as tested_ask
use Rattle.call_show.proofs as call_show
use Rattle.call_show.proofs.tested as tested_show
use Rattle.call_unify.proofs as call_unify
use Rattle.call_unify.proofs.tested as tested_unify
use Rattle.call_unify_lists.proofs as call_unify_lists
use Rattle.tested_unify_lists.proofs as tested_unify_lists
use Rattle.call_impl.proofs as call_impl
use Rattle.call_impl.proofs.tested as tested_impl
use Rattle.tested_import.proofs as tested_import
use Rattle.call_states.proofs as call_states
use Rattle.call_states.proofs.tested as tested_states
use Rattle.theorem.specs.Memory.{Memory, Fixed, env, lent, held, roomy, Opened, TestedWords}
use Rattle.theorem.specs.Runs.{Runs}
use Rattle.theorem.specs.DeskSteps.{DeskMemory, TestedDesk, OpenedNames}
use Rattle.theorem.specs.DeskRuns.{DeskRuns}
use Rattle.theorem.specs.CallContracts.{Args, fixed_in, words_read, nodes_in, head_in, words_in, source_words, desk_names, desk_words, desk_in}

-- of a form that asks A of its arguments and whose callers learn L: it asks no more than T, and whatever is learnt is S
pub record Form {n : ℕ} (ps : List (ParamKind n)) (r : ResultKind n) (T A : In n ps) (L S : Out n ps r) : Type 0 where
  pub asks : (κs : Lfts n) (a : Dens κs ps) → T κs a → A κs a
  pub is : (κs : Lfts n) (a : Dens κs ps) (z : (res_t r κs).Denot) (x : AtExit (ended_of n ps r) κs) → L κs a z x → S κs a z x

-- what was lent passes the tests, on the words m
abbrev pub OnTested : {H W K R : Type 0} → Args H W K R → Memory → Type 0
OnTested a m = TestedWords (fixed_in a) m

-- with its names buffer
abbrev pub OnTestedDesk : {H W K R : Type 0} → Args H W K R → DeskMemory → Type 0
OnTestedDesk a d = TestedDesk (fixed_in a) d

pub record TestedForms : Type 0 where
  pub new : Form tested_new.new.Kinds.ps tested_new.new.Kinds.r (λ κs a. OnTested a (words_in a))
      tested_new.new.Reads.Asked tested_new.new.Reads.Learnt call_new.new.Reads.Learnt
  pub new_var : Form tested_make.new_var.Kinds.ps tested_make.new_var.Kinds.r (λ κs a. OnTested a (head_in a))
      tested_make.new_var.Reads.Asked tested_make.new_var.Reads.Learnt call_make.new_var.Reads.Learnt
  pub new_struct : Form tested_new.new_struct.Kinds.ps tested_new.new_struct.Kinds.r (λ κs a. OnTested a (words_in a))
      tested_new.new_struct.Reads.Asked tested_new.new_struct.Reads.Learnt call_new.new_struct.Reads.Learnt
  pub new_union : Form tested_new.new_union.Kinds.ps tested_new.new_union.Kinds.r (λ κs a. OnTested a (words_in a))
      tested_new.new_union.Reads.Asked tested_new.new_union.Reads.Learnt call_new.new_union.Reads.Learnt
  pub new_vars : Form tested_make.new_vars.Kinds.ps tested_make.new_vars.Kinds.r (λ κs a. OnTested a (head_in a))
      tested_make.new_vars.Reads.Asked tested_make.new_vars.Reads.Learnt call_make.new_vars.Reads.Learnt
  pub error : Form tested_make.error.Kinds.ps tested_make.error.Kinds.r (λ κs a. OnTested a (head_in a))
      tested_make.error.Reads.Asked tested_make.error.Reads.Learnt call_make.error.Reads.Learnt
  pub nil : Form tested_make.nil.Kinds.ps tested_make.nil.Kinds.r (λ κs a. OnTested a (head_in a))
      tested_make.nil.Reads.Asked tested_make.nil.Reads.Learnt call_make.nil.Reads.Learnt
  pub force_kind : Form tested_force.force_kind.Kinds.ps tested_force.force_kind.Kinds.r (λ κs a. OnTested a (head_in a))
      tested_force.force_kind.Reads.Asked tested_force.force_kind.Reads.Learnt call_force.force_kind.Reads.Learnt
  pub unify : Form tested_unify.unify.Kinds.ps tested_unify.unify.Kinds.r (λ κs a. OnTested a (nodes_in a))
      tested_unify.unify.Reads.Asked tested_unify.unify.Reads.Learnt call_unify.unify.Reads.Learnt
  pub unify_recalling : Form tested_unify.unify_recalling.Kinds.ps tested_unify.unify_recalling.Kinds.r (λ κs a. OnTested a (nodes_in a))
      tested_unify.unify_recalling.Reads.Asked tested_unify.unify_recalling.Reads.Learnt call_unify.unify_recalling.Reads.Learnt
  -- both stores are tested
  pub import : Form tested_import.import.Kinds.ps tested_import.import.Kinds.r (λ κs a. OnTested a (words_in a) × TestedWords (fixed_in a) (source_words a))
      tested_import.import.Reads.Asked tested_import.import.Reads.Learnt call_copy.import.Reads.Learnt
  pub find : Form tested_find.find.Kinds.ps tested_find.find.Kinds.r (λ κs a. OnTested a (words_read a))
      tested_find.find.Reads.Asked tested_find.find.Reads.Learnt call_find.find.Reads.Learnt
  pub find_mut : Form tested_find.find_mut.Kinds.ps tested_find.find_mut.Kinds.r (λ κs a. OnTested a (nodes_in a))
      tested_find.find_mut.Reads.Asked tested_find.find_mut.Reads.Learnt call_find.find_mut.Reads.Learnt
  pub node : Form tested_read.node.Kinds.ps tested_read.node.Kinds.r (λ κs a. OnTested a (words_read a))
      tested_read.node.Reads.Asked tested_read.node.Reads.Learnt call_read.node.Reads.Learnt
  pub child : Form tested_read.child.Kinds.ps tested_read.child.Kinds.r (λ κs a. OnTested a (words_read a))
      tested_read.child.Reads.Asked tested_read.child.Reads.Learnt call_read.child.Reads.Learnt
  pub child_name : Form tested_read.child_name.Kinds.ps tested_read.child_name.Kinds.r (λ κs a. OnTested a (words_read a))
      tested_read.child_name.Reads.Asked tested_read.child_name.Reads.Learnt call_read.child_name.Reads.Learnt
  pub figures : Form tested_read.figures.Kinds.ps tested_read.figures.Kinds.r (λ κs a. OnTested a (words_read a))
      tested_read.figures.Reads.Asked tested_read.figures.Reads.Learnt call_read.figures.Reads.Learnt
  pub export : Form tested_export.export.Kinds.ps tested_export.export.Kinds.r (λ κs a. OnTested a (words_read a))
      tested_export.export.Reads.Asked tested_export.export.Reads.Learnt call_copy.export.Reads.Learnt
  pub unify_types : Form tested_unify_lists.unify_types.Kinds.ps tested_unify_lists.unify_types.Kinds.r (λ κs a. OnTested a (nodes_in a))
      tested_unify_lists.unify_types.Reads.Asked tested_unify_lists.unify_types.Reads.Learnt call_unify_lists.unify_types.Reads.Learnt
  pub unify_types_recalling : Form tested_unify_lists.unify_types_recalling.Kinds.ps tested_unify_lists.unify_types_recalling.Kinds.r (λ κs a. OnTested a (nodes_in a))
      tested_unify_lists.unify_types_recalling.Reads.Asked tested_unify_lists.unify_types_recalling.Reads.Learnt call_unify_lists.unify_types_recalling.Reads.Learnt
  pub unify_objects : Form tested_unify_lists.unify_objects.Kinds.ps tested_unify_lists.unify_objects.Kinds.r (λ κs a. OnTested a (nodes_in a))
      tested_unify_lists.unify_objects.Reads.Asked tested_unify_lists.unify_objects.Reads.Learnt call_unify_lists.unify_objects.Reads.Learnt
  pub unify_objects_recalling : Form tested_unify_lists.unify_objects_recalling.Kinds.ps tested_unify_lists.unify_objects_recalling.Kinds.r (λ κs a. OnTested a (nodes_in a))
      tested_unify_lists.unify_objects_recalling.Reads.Asked tested_unify_lists.unify_objects_recalling.Reads.Learnt call_unify_lists.unify_objects_recalling.Reads.Learnt
  pub unify_impl_type : Form tested_impl.unify_impl_type.Kinds.ps tested_impl.unify_impl_type.Kinds.r (λ κs a. OnTested a (nodes_in a))
      tested_impl.unify_impl_type.Reads.Asked tested_impl.unify_impl_type.Reads.Learnt call_impl.unify_impl_type.Reads.Learnt
  pub unify_impl_type_recalling : Form tested_impl.unify_impl_type_recalling.Kinds.ps tested_impl.unify_impl_type_recalling.Kinds.r (λ κs a. OnTested a (nodes_in a))
      tested_impl.unify_impl_type_recalling.Reads.Asked tested_impl.unify_impl_type_recalling.Reads.Learnt call_impl.unify_impl_type_recalling.Reads.Learnt
  pub unify_fn_sig : Form tested_unify_lists.unify_fn_sig.Kinds.ps tested_unify_lists.unify_fn_sig.Kinds.r (λ κs a. OnTested a (nodes_in a))
      tested_unify_lists.unify_fn_sig.Reads.Asked tested_unify_lists.unify_fn_sig.Reads.Learnt call_unify_lists.unify_fn_sig.Reads.Learnt
  pub unify_fn_sig_recalling : Form tested_unify_lists.unify_fn_sig_recalling.Kinds.ps tested_unify_lists.unify_fn_sig_recalling.Kinds.r (λ κs a. OnTested a (nodes_in a))
      tested_unify_lists.unify_fn_sig_recalling.Reads.Asked tested_unify_lists.unify_fn_sig_recalling.Reads.Learnt call_unify_lists.unify_fn_sig_recalling.Reads.Learnt
  pub finish_inference : Form tested_force.finish_inference.Kinds.ps tested_force.finish_inference.Kinds.r (λ κs a. OnTested a (nodes_in a))
      tested_force.finish_inference.Reads.Asked tested_force.finish_inference.Reads.Learnt call_force.finish_inference.Reads.Learnt
  pub finish_inference_where : Form tested_force.finish_inference_where.Kinds.ps tested_force.finish_inference_where.Kinds.r (λ κs a. OnTested a (nodes_in a))
      tested_force.finish_inference_where.Reads.Asked tested_force.finish_inference_where.Reads.Learnt call_force.finish_inference_where.Reads.Learnt
  pub find_related : Form tested_ask.find_related.Kinds.ps tested_ask.find_related.Kinds.r (λ κs a. OnTested a (words_read a))
      tested_ask.find_related.Reads.Asked tested_ask.find_related.Reads.Learnt call_ask.find_related.Reads.Learnt
  pub self_inverse_param : Form tested_ask.self_inverse_param.Kinds.ps tested_ask.self_inverse_param.Kinds.r (λ κs a. OnTested a (words_read a))
      tested_ask.self_inverse_param.Reads.Asked tested_ask.self_inverse_param.Reads.Learnt call_ask.self_inverse_param.Reads.Learnt
  pub self_inverse : Form tested_ask.self_inverse.Kinds.ps tested_ask.self_inverse.Kinds.r (λ κs a. OnTested a (words_read a))
      tested_ask.self_inverse.Reads.Asked tested_ask.self_inverse.Reads.Learnt call_ask.self_inverse.Reads.Learnt
  pub is_nil : Form tested_ask.is_nil.Kinds.ps tested_ask.is_nil.Kinds.r (λ κs a. OnTested a (words_read a))
      tested_ask.is_nil.Reads.Asked tested_ask.is_nil.Reads.Learnt call_ask.is_nil.Reads.Learnt
  pub get_mod : Form tested_ask.get_mod.Kinds.ps tested_ask.get_mod.Kinds.r (λ κs a. OnTested a (words_read a))
      tested_ask.get_mod.Reads.Asked tested_ask.get_mod.Reads.Learnt call_ask.get_mod.Reads.Learnt
  pub approx_eq : Form tested_impl.approx_eq.Kinds.ps tested_impl.approx_eq.Kinds.r (λ κs a. OnTested a (words_read a))
      tested_impl.approx_eq.Reads.Asked tested_impl.approx_eq.Reads.Learnt call_impl.approx_eq.Reads.Learnt
  pub show : Form tested_show.show.Kinds.ps tested_show.show.Kinds.r (λ κs a. OnTested a (words_read a))
      tested_show.show.Reads.Asked tested_show.show.Reads.Learnt call_show.show.Reads.Learnt
  pub show_impl_type : Form tested_show.show_impl_type.Kinds.ps tested_show.show_impl_type.Kinds.r (λ κs a. OnTested a (words_read a))
      tested_show.show_impl_type.Reads.Asked tested_show.show_impl_type.Reads.Learnt call_show.show_impl_type.Reads.Learnt
  -- store and names buffer are tested
  pub name_state : Form tested_states.name_state.Kinds.ps tested_states.name_state.Kinds.r (λ κs a. OnTestedDesk a (desk_names a))
      tested_states.name_state.Reads.Asked tested_states.name_state.Reads.Learnt call_states.name_state.Reads.Learnt
  pub return_to : Form tested_states.return_to.Kinds.ps tested_states.return_to.Kinds.r (λ κs a. OnTestedDesk a (desk_words a))
      tested_states.return_to.Reads.Asked tested_states.return_to.Reads.Learnt call_states.return_to.Reads.Learnt
  pub drop_name : Form tested_states.drop_name.Kinds.ps tested_states.drop_name.Kinds.r (λ κs a. OnTestedDesk a (desk_names a))
      tested_states.drop_name.Reads.Asked tested_states.drop_name.Reads.Learnt call_states.drop_name.Reads.Learnt
  pub reset : Form tested_states.reset.Kinds.ps tested_states.reset.Kinds.r (λ κs a. OnTestedDesk a (desk_in a))
      tested_states.reset.Reads.Asked tested_states.reset.Reads.Learnt call_states.reset.Reads.Learnt

pub record StaysTested : Type 0 where
  -- opening, with a chart and texts that 2 does not turn back
  pub opened : (f : Fixed) (n c : ℕ) (m : Memory) → chart_ok (env f) ≡ true → Opened n c m → TestedWords f m
  -- any list of calls
  pub after : (f : Fixed) (m m' : Memory) → TestedWords f m → Runs f m m' → TestedWords f m'
  -- with a names buffer: opening both for the same capacities, and any list of calls; then the store passes its own tests too
  pub opened_desk : (f : Fixed) (n c : ℕ) (d : DeskMemory) → chart_ok (env f) ≡ true → Opened n c d.store → OpenedNames n c d.names → TestedDesk f d
  pub after_desk : (f : Fixed) (d d' : DeskMemory) → TestedDesk f d → DeskRuns f d d' → TestedDesk f d'
  pub desk_store : (f : Fixed) (d : DeskMemory) → TestedDesk f d → TestedWords f d.store
  -- the destination of an export that is done
  pub exported : (f : Fixed) (n c : ℕ) (m to to' : Memory) (ts out out' : List ℕ) → TestedWords f m
      → ExportPromised (export_call (env f) (lent m) n c (roomy n c to) (types_in ts) (length out)) (Ok tt) (length ts) (held m)
      to.head to.nodes to.kids to'.head to'.nodes to'.kids out out'
      → TestedWords f to'
