-- Every public call's step: one line for each, from the call's contract.
-- Assumes nothing.
use mathlib.Core.Bool.{false}
use lib.ListN.{length, take}
use Rattle.scope.specs.Types.{ty_of}
use Rattle.scope.specs.Calls.{find_call, find_mut_call, node_call, child_call, name_call, figures_call, new_call, new_struct_call, new_union_call, new_var_call, new_vars_call, error_call, nil_call}
use Rattle.scope.specs.Calls.{unify_call, unify_types_call, unify_objects_call, unify_impl_type_call, approx_eq_call, unify_fn_sig_call, force_kind_call, finish_inference_call, finish_where_call}
use Rattle.scope.specs.Calls.{find_related_call, self_inverse_call, is_nil_call, get_mod_call, import_call, export_call, show_call, show_impl_type_call}
use Rattle.scope.specs.Demand.{Call}
use Rattle.scope.specs.Replies.{Reply}
use Rattle.scope.specs.Replies as says
use Rattle.types.specs.Impls.{impl_means}
use Rattle.store.specs.Entries.{types_in}
use Rattle.lent_tests.specs.Given.{entries_in}
use Rattle.promise.specs.Promise.{type_reply, bool_reply, done_reply}
use Rattle.promise.specs.Lists.{list_reply}
use Rattle.promise.specs.Exports.{export_reply}
use Rattle.promise.specs.Prints.{count_reply}
use Rattle.lent_kind.specs.Lent.{given}
use Rattle.call_read.specs.Replies.{node_reply, child_reply, name_reply, figures_reply}
use Rattle.call_ask.specs.Replies.{mod_reply, marks_reply}
use Rattle.call_force.specs.Replies.{forced_reply}
use Rattle.call_unify.specs.Answers.{unify_reply}
use Rattle.theorem.specs.Memory.{Memory, Fixed, env, lent, held, roomy}
use Rattle.copy_parts.specs.Places.{params_in}
use Rattle.theorem.specs.Steps.{Ran}
use Rattle.theorem.specs.Steps as ran
use Rattle.theorem.proofs.StepLaws.{CleanWords, Stepped, did, told}
use Rattle.theorem.proofs.PrintLaws.{show_tells, impl_tells, parted, shown}

pub stepped : (f : Fixed) {m m' : Memory} {c : Call} {r : Reply} → CleanWords m → Ran f m c r m' → Stepped f m c r m'
stepped f h (ran.new k es r p) = did says.type (λ l. new_call (env f) l (given k es)) h (type_reply r) p
stepped f h (ran.new_var span r p) = did says.type (λ l. new_var_call (env f) l span) h (type_reply r) p
stepped f h (ran.new_struct n ts r p) = did says.type (λ l. new_struct_call (env f) l n (types_in ts)) h (type_reply r) p
stepped f h (ran.new_union n ts r p) = did says.type (λ l. new_union_call (env f) l n (types_in ts)) h (type_reply r) p
stepped f h (ran.new_vars span n out out' r p) = did says.types (λ l. new_vars_call (env f) l span n (length out)) h (list_reply r (take n out')) p.promised
stepped f h (ran.error r p) = did says.type (error_call (env f)) h (type_reply r) p
stepped f h (ran.nil r p) = did says.type (nil_call (env f)) h (type_reply r) p
stepped f h (ran.force_kind {m} t r p) = did says.forced (λ l. force_kind_call (env f) l (ty_of t.0)) h (forced_reply m.kids r) p.promised
stepped f h (ran.unify a b r p) = did says.answer (λ l. unify_call (env f) l (ty_of a.0) (ty_of b.0)) h (unify_reply r) p
stepped f h (ran.import from ts ps out out' r p) =
    did says.types (λ l. import_call (env f) l (lent from) (types_in ts) (params_in ps) (length out)) h (list_reply r (take (length ts) out')) p.promised
stepped f h (ran.find t r p) = told says.type (λ l. find_call (env f) l (ty_of t.0)) h (type_reply r) p
stepped f h (ran.find_mut t r p) = did says.type (λ l. find_mut_call (env f) l (ty_of t.0)) h (type_reply r) p
stepped f h (ran.node {m} t r p) = told says.a_node (λ l. node_call (env f) l (ty_of t.0)) h (node_reply m.kids r) p.outcome
stepped f h (ran.child t j r p) = told says.a_child (λ l. child_call (env f) l (ty_of t.0) j) h (child_reply r) p
stepped f h (ran.child_name t j r p) = told says.a_name (λ l. name_call (env f) l (ty_of t.0) j) h (name_reply r) p
stepped f h (ran.figures {m} r p) = told says.a_store (figures_call (env f)) h (figures_reply m.nodes m.kids r) p
stepped f h (ran.export n c to to' ts out out' r p) =
    told says.exported (λ l. export_call (env f) l n c (roomy n c to) (types_in ts) (length out)) h (export_reply r (take (length ts) out') (held to')) p.outcome
stepped f h (ran.unify_types xs ys i r p) = did says.answer (λ l. unify_types_call (env f) l (types_in xs) (types_in ys) i.0) h (unify_reply r) p
stepped f h (ran.unify_objects xs ys i r p) = did says.answer (λ l. unify_objects_call (env f) l (entries_in xs) (entries_in ys) i.0) h (unify_reply r) p
stepped f h (ran.unify_impl_type a b r p) = did says.answer (λ l. unify_impl_type_call (env f) l (impl_means a) (impl_means b)) h (unify_reply r) p
stepped f h (ran.unify_fn_sig xs t ys q r p) =
    did says.answer (λ l. unify_fn_sig_call (env f) l (types_in xs) (ty_of t.0) (types_in ys) (ty_of q.0)) h (unify_reply r) p
stepped f h (ran.finish_inference r p) = did (λ u. says.nothing) (finish_inference_call (env f)) h (done_reply r) p
stepped f h (ran.finish_inference_where bs r p) = did (λ u. says.nothing) (λ l. finish_where_call (env f) l bs) h (done_reply r) p
stepped f h (ran.find_related t ms ms' r p) = told says.marks (λ l. find_related_call (env f) l (ty_of t.0) ms) h (marks_reply ms' r) p.outcome
stepped f h (ran.self_inverse_param t b r p) = told says.flag (λ l. self_inverse_call (env f) l (ty_of t.0) b) h (bool_reply r) p
stepped f h (ran.self_inverse t r p) = told says.flag (λ l. self_inverse_call (env f) l (ty_of t.0) false) h (bool_reply r) p
stepped f h (ran.is_nil t r p) = told says.flag (λ l. is_nil_call (env f) l (ty_of t.0)) h (bool_reply r) p
stepped f h (ran.get_mod t r p) = told says.mod_is (λ l. get_mod_call (env f) l (ty_of t.0)) h (mod_reply r) p
stepped f h (ran.approx_eq a b r p) = did says.flag (λ l. approx_eq_call (env f) l (impl_means a) (impl_means b)) h (bool_reply r) p
stepped f h (ran.show {m} t bs bs' r p) =
    shown (λ l. show_call (env f) l (ty_of t.0) bs) h (show_tells (env f) (lent m) (ty_of t.0) bs) (count_reply r) bs' p
stepped f h (ran.show_part t bs part n p) = parted (λ l. show_call (env f) l (ty_of t.0) bs) h n part p
stepped f h (ran.show_impl_type {m} a bs bs' r p) =
    shown (λ l. show_impl_type_call (env f) l (impl_means a) bs) h (impl_tells (env f) (lent m) (impl_means a) bs) (count_reply r) bs' p
stepped f h (ran.show_impl_type_part a bs part n p) = parted (λ l. show_impl_type_call (env f) l (impl_means a) bs) h n part p
