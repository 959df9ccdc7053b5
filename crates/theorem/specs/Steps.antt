-- One step of a list on memory, for each public call by its own name: the arguments as the code takes them, the code's answer, and the call's own contract on
-- the words before and after. It gives scope's call, the code's answer among every call's answers, and the words that the next call starts from. What a
-- contract says beside (a list's rest, marks, a buffer, an exported store) stands in the same record.
use Rattle.std.specs.Prelude.{List, Bool, false, ℕ, length, take}
use Rattle.std.specs.Borrow.{Bor}
use Rattle.std.specs.declared.option.Option as option
use Rattle.scope.specs.Types.{ty_of}
use Rattle.scope.specs.Calls.{find_call, find_mut_call, node_call, child_call, name_call, figures_call, new_call, new_struct_call, new_union_call, new_var_call, new_vars_call, error_call, nil_call}
use Rattle.scope.specs.Calls.{unify_call, unify_types_call, unify_objects_call, unify_impl_type_call, approx_eq_call, unify_fn_sig_call, force_kind_call, finish_inference_call, finish_where_call}
use Rattle.scope.specs.Calls.{find_related_call, self_inverse_call, is_nil_call, get_mod_call, import_call, export_call, show_call, show_impl_type_call}
use Rattle.scope.specs.Demand.{Call}
use Rattle.scope.specs.Demand as call
use Rattle.scope.specs.Replies.{Reply, number}
use Rattle.scope.specs.Replies as says
use Rattle.types.specs.declared.«Type».{«Type»}
use Rattle.types.specs.declared.Inverted.{Inverted}
use Rattle.types.specs.declared.UnifyResult.{UnifyResult}
use Rattle.names.specs.declared.Name.{Name}
use Rattle.layout.specs.declared.TypeNode.{TypeNode}
use Rattle.layout.specs.declared.Header.{Header}
use Rattle.walk.specs.declared.Mod.{Mod}
use Rattle.layout.specs.declared.TypeState.{TypeState}
use Rattle.refusals.specs.declared.Refusal.{Refusal}
use Rattle.types.specs.declared.Impl.{Impl}
use Rattle.types.specs.Impls.{impl_means}
use Rattle.store.specs.Entries.{types_in}
use Rattle.lent_tests.specs.Given.{entries_in}
use Rattle.promise.specs.Promise.{value, refusal, type_reply, bool_reply, done_reply}
use Rattle.promise.specs.Promise as promise
use Rattle.promise.specs.Lists.{list_reply}
use Rattle.promise.specs.Exports.{export_reply, ExportPromised}
use Rattle.promise.specs.Prints.{count_reply, part_reply, PrintPromised, PartPromised}
use Rattle.lent_kind.specs.Lent.{given}
use Rattle.lent_kind.specs.declared.KindArgs.{KindArgs}
use Rattle.call_read.specs.Replies.{node_reply, child_reply, name_reply, figures_reply, NodePromised}
use Rattle.call_ask.specs.Replies.{mod_reply, marks_reply, MarksPromised}
use Rattle.call_force.specs.Replies.{forced_reply, ForcePromised}
use Rattle.call_unify.specs.Answers.{unify_reply}
use Rattle.copy_parts.specs.Places.{params_in}
use Rattle.theorem.specs.Memory.{CodeAnswer, Memory, nodes_now, head_now, Fixed, env, lent, held, roomy, Did, DidList, Told}

-- the code's answer among every call's; "A refusal returns only its number"
abbrev pub replied : {A : Type 0} → (A → Reply) → promise.Reply A → Reply
replied f (value a) = f a
replied f (refusal n) = number n

pub data Ran (f : Fixed) : Memory → Call → Reply → Memory → Type 0 where
  -- the makers
  new : {m m' : Memory} (k : KindArgs) (entries : List ℕ) (r : CodeAnswer «Type») → Did (new_call (env f) (lent m) (given k entries)) (type_reply r) m m'
      → Ran f m (call.make (call.new (given k entries))) (replied says.type (type_reply r)) m'
  new_var : {m : Memory} {h ws : List ℕ} (span : ℕ) (r : CodeAnswer «Type») → Did (new_var_call (env f) (lent m) span) (type_reply r) m (head_now m h ws)
      → Ran f m (call.make (call.new_var span)) (replied says.type (type_reply r)) (head_now m h ws)
  new_struct : {m m' : Memory} (number : ℕ) (ts : List ℕ) (r : CodeAnswer «Type») → Did (new_struct_call (env f) (lent m) number (types_in ts)) (type_reply r) m m'
      → Ran f m (call.make (call.new_struct number (types_in ts))) (replied says.type (type_reply r)) m'
  new_union : {m m' : Memory} (number : ℕ) (ts : List ℕ) (r : CodeAnswer «Type») → Did (new_union_call (env f) (lent m) number (types_in ts)) (type_reply r) m m'
      → Ran f m (call.make (call.new_union number (types_in ts))) (replied says.type (type_reply r)) m'
  new_vars : {m : Memory} {h ws : List ℕ} (span count : ℕ) (out out' : List ℕ) (r : CodeAnswer (Unit {0}))
      → DidList (new_vars_call (env f) (lent m) span count (length out)) r count m (head_now m h ws) out out'
      → Ran f m (call.make (call.new_vars span count (length out))) (replied says.types (list_reply r (take count out'))) (head_now m h ws)
  error : {m : Memory} {h ws : List ℕ} (r : CodeAnswer «Type») → Did (error_call (env f) (lent m)) (type_reply r) m (head_now m h ws)
      → Ran f m (call.make call.error) (replied says.type (type_reply r)) (head_now m h ws)
  nil : {m : Memory} {h ws : List ℕ} (r : CodeAnswer «Type») → Did (nil_call (env f) (lent m)) (type_reply r) m (head_now m h ws)
      → Ran f m (call.make call.nil) (replied says.type (type_reply r)) (head_now m h ws)
  -- `force_kind`, `unify`
  force_kind : {m : Memory} {h ws : List ℕ} (t : «Type») (r : CodeAnswer TypeState)
      → ForcePromised (force_kind_call (env f) (lent m) (ty_of t.0)) r m.head m.nodes m.kids h ws
      → Ran f m (call.force_kind (ty_of t.0)) (replied says.forced (forced_reply m.kids r)) (head_now m h ws)
  unify : {m : Memory} {ws : List ℕ} (a b : «Type») (r : CodeAnswer UnifyResult) → Did (unify_call (env f) (lent m) (ty_of a.0) (ty_of b.0)) (unify_reply r) m (nodes_now m ws)
      → Ran f m (call.unify (ty_of a.0) (ty_of b.0)) (replied says.answer (unify_reply r)) (nodes_now m ws)
  -- `import`, whose source is any numbers
  import : {m m' : Memory} (from : Memory) (ts : List ℕ) (params : option.Option (Bor (List ℕ))) (out out' : List ℕ) (r : CodeAnswer (Unit {0}))
      → DidList (import_call (env f) (lent m) (lent from) (types_in ts) (params_in params) (length out)) r (length ts) m m' out out'
      → Ran f m (call.import (lent from) (types_in ts) (params_in params) (length out)) (replied says.types (list_reply r (take (length ts) out'))) m'
  -- the reads
  find : {m : Memory} (t : «Type») (r : CodeAnswer «Type») → Told (find_call (env f) (lent m) (ty_of t.0)) (type_reply r) m
      → Ran f m (call.read (call.find (ty_of t.0))) (replied says.type (type_reply r)) m
  find_mut : {m : Memory} {ws : List ℕ} (t : «Type») (r : CodeAnswer «Type») → Did (find_mut_call (env f) (lent m) (ty_of t.0)) (type_reply r) m (nodes_now m ws)
      → Ran f m (call.read (call.find_mut (ty_of t.0))) (replied says.type (type_reply r)) (nodes_now m ws)
  node : {m : Memory} (t : «Type») (r : CodeAnswer TypeNode) → NodePromised (node_call (env f) (lent m) (ty_of t.0)) r m.head m.nodes m.kids
      → Ran f m (call.read (call.node (ty_of t.0))) (replied says.a_node (node_reply m.kids r)) m
  child : {m : Memory} (t : «Type») (j : ℕ) (r : CodeAnswer (option.Option «Type»)) → Told (child_call (env f) (lent m) (ty_of t.0) j) (child_reply r) m
      → Ran f m (call.read (call.child (ty_of t.0) j)) (replied says.a_child (child_reply r)) m
  child_name : {m : Memory} (t : «Type») (j : ℕ) (r : CodeAnswer (option.Option Name)) → Told (name_call (env f) (lent m) (ty_of t.0) j) (name_reply r) m
      → Ran f m (call.read (call.name (ty_of t.0) j)) (replied says.a_name (name_reply r)) m
  figures : {m : Memory} (r : CodeAnswer Header) → Told (figures_call (env f) (lent m)) (figures_reply m.nodes m.kids r) m
      → Ran f m (call.read call.figures) (replied says.a_store (figures_reply m.nodes m.kids r)) m
  -- out of the store; the destination's words are `to`, whatever they were, and then `to'`
  export : {m : Memory} (nodes children : ℕ) (to to' : Memory) (ts out out' : List ℕ) (r : CodeAnswer (Unit {0}))
      → ExportPromised (export_call (env f) (lent m) nodes children (roomy nodes children to) (types_in ts) (length out)) r (length ts) (held m)
      to.head to.nodes to.kids to'.head to'.nodes to'.kids out out'
      → Ran f m (call.read (call.export nodes children (roomy nodes children to) (types_in ts) (length out)))
      (replied says.exported (export_reply r (take (length ts) out') (held to'))) m
  -- the calls "Outside the theorem's first half"
  unify_types : {m : Memory} {ws : List ℕ} (xs ys : List ℕ) (inv : Inverted) (r : CodeAnswer UnifyResult)
      → Did (unify_types_call (env f) (lent m) (types_in xs) (types_in ys) inv.0) (unify_reply r) m (nodes_now m ws)
      → Ran f m (call.later (call.unify_types (types_in xs) (types_in ys) inv.0)) (replied says.answer (unify_reply r)) (nodes_now m ws)
  unify_objects : {m : Memory} {ws : List ℕ} (xs ys : List ℕ) (inv : Inverted) (r : CodeAnswer UnifyResult)
      → Did (unify_objects_call (env f) (lent m) (entries_in xs) (entries_in ys) inv.0) (unify_reply r) m (nodes_now m ws)
      → Ran f m (call.later (call.unify_objects (entries_in xs) (entries_in ys) inv.0)) (replied says.answer (unify_reply r)) (nodes_now m ws)
  unify_impl_type : {m : Memory} {ws : List ℕ} (a b : Impl) (r : CodeAnswer UnifyResult)
      → Did (unify_impl_type_call (env f) (lent m) (impl_means a) (impl_means b)) (unify_reply r) m (nodes_now m ws)
      → Ran f m (call.later (call.unify_impl_type (impl_means a) (impl_means b))) (replied says.answer (unify_reply r)) (nodes_now m ws)
  unify_fn_sig : {m : Memory} {ws : List ℕ} (xs : List ℕ) (p : «Type») (ys : List ℕ) (q : «Type») (r : CodeAnswer UnifyResult)
      → Did (unify_fn_sig_call (env f) (lent m) (types_in xs) (ty_of p.0) (types_in ys) (ty_of q.0)) (unify_reply r) m (nodes_now m ws)
      → Ran f m (call.later (call.unify_fn_sig (types_in xs) (ty_of p.0) (types_in ys) (ty_of q.0))) (replied says.answer (unify_reply r)) (nodes_now m ws)
  finish_inference : {m : Memory} {ws : List ℕ} (r : CodeAnswer (Unit {0})) → Did (finish_inference_call (env f) (lent m)) (done_reply r) m (nodes_now m ws)
      → Ran f m (call.later call.finish_inference) (replied (λ u. says.nothing) (done_reply r)) (nodes_now m ws)
  finish_inference_where : {m : Memory} {ws : List ℕ} (bytes : List ℕ) (r : CodeAnswer (Unit {0})) → Did (finish_where_call (env f) (lent m) bytes) (done_reply r) m (nodes_now m ws)
      → Ran f m (call.later (call.finish_where bytes)) (replied (λ u. says.nothing) (done_reply r)) (nodes_now m ws)
  find_related : {m : Memory} (t : «Type») (marks marks' : List ℕ) (r : CodeAnswer (Unit {0}))
      → MarksPromised (find_related_call (env f) (lent m) (ty_of t.0) marks) r (held m) marks marks'
      → Ran f m (call.later (call.find_related (ty_of t.0) marks)) (replied says.marks (marks_reply marks' r)) m
  self_inverse_param : {m : Memory} (t : «Type») (param : Bool) (r : CodeAnswer Bool) → Told (self_inverse_call (env f) (lent m) (ty_of t.0) param) (bool_reply r) m
      → Ran f m (call.later (call.self_inverse (ty_of t.0) param)) (replied says.flag (bool_reply r)) m
  self_inverse : {m : Memory} (t : «Type») (r : CodeAnswer Bool) → Told (self_inverse_call (env f) (lent m) (ty_of t.0) false) (bool_reply r) m
      → Ran f m (call.later (call.self_inverse (ty_of t.0) false)) (replied says.flag (bool_reply r)) m
  is_nil : {m : Memory} (t : «Type») (r : CodeAnswer Bool) → Told (is_nil_call (env f) (lent m) (ty_of t.0)) (bool_reply r) m
      → Ran f m (call.later (call.is_nil (ty_of t.0))) (replied says.flag (bool_reply r)) m
  get_mod : {m : Memory} (t : «Type») (r : CodeAnswer Mod) → Told (get_mod_call (env f) (lent m) (ty_of t.0)) (mod_reply r) m
      → Ran f m (call.later (call.get_mod (ty_of t.0))) (replied says.mod_is (mod_reply r)) m
  approx_eq : {m : Memory} (a b : Impl) (r : CodeAnswer Bool)
      → Did (approx_eq_call (env f) (lent m) (impl_means a) (impl_means b)) (bool_reply r) m m
      → Ran f m (call.later (call.approx_eq (impl_means a) (impl_means b))) (replied says.flag (bool_reply r)) m
  show : {m : Memory} (t : «Type») (buffer buffer' : List ℕ) (r : CodeAnswer ℕ)
      → PrintPromised (show_call (env f) (lent m) (ty_of t.0) buffer) (count_reply r) (held m) buffer'
      → Ran f m (call.later (call.show (ty_of t.0) buffer)) (replied (λ n. says.text (take n buffer')) (count_reply r)) m
  show_part : {m : Memory} (t : «Type») (buffer part : List ℕ) (r : option.Option Refusal)
      → PartPromised (show_call (env f) (lent m) (ty_of t.0) buffer) r part (held m)
      → Ran f m (call.later (call.show (ty_of t.0) buffer)) (replied (λ n. says.text part) (part_reply r part)) m
  show_impl_type : {m : Memory} (a : Impl) (buffer buffer' : List ℕ) (r : CodeAnswer ℕ)
      → PrintPromised (show_impl_type_call (env f) (lent m) (impl_means a) buffer) (count_reply r) (held m) buffer'
      → Ran f m (call.later (call.show_impl_type (impl_means a) buffer)) (replied (λ n. says.text (take n buffer')) (count_reply r)) m
  show_impl_type_part : {m : Memory} (a : Impl) (buffer part : List ℕ) (r : option.Option Refusal)
      → PartPromised (show_impl_type_call (env f) (lent m) (impl_means a) buffer) r part (held m)
      → Ran f m (call.later (call.show_impl_type (impl_means a) buffer)) (replied (λ n. says.text part) (part_reply r part)) m
