-- Every public function's own contract is a step: by the step's own constructor.
-- Assumes nothing.
use mathlib.Core.Path.{subst}
use mathlib.Core.List.{List}
use Prim.Native.Nat.{ℕ}
use lib.Dec.{leb}
use lib.ListN.{length}
use Rattle.scope.specs.Calls.{open_call}
use Rattle.scope.specs.States.{open_names_call}
use Rattle.book.specs.Words.{book_words}
use Rattle.promise.specs.Promise.{done_reply}
use Rattle.call_states.specs.Promise.{NamesOpened}
use Rattle.theorem.specs.Memory.{CodeAnswer, memory_of, roomy, Did}
use Rattle.theorem.specs.Steps as ran
use Rattle.theorem.specs.DeskSteps as desk
use Rattle.theorem.specs.CallContracts.{Contracts, arg1, arg2, arg3, arg4, arg5, arg6, arg7, source_words, other_words}

pub contracts : Contracts
contracts = record {
  opens = record {
    free = λ κs a. tt;
    is = λ κs a r x p q.
        let was = memory_of a.0.now a.1.0.now a.1.1.0.now in
        let is = memory_of x.0.now x.1.0.now x.1.1.0.now in
        let n : ℕ = a.1.1.1.0 in
        let c : ℕ = a.1.1.1.1.0 in
        record { found = was; left = subst (λ (y : CodeAnswer (Unit {0})). Did (open_call n c (roomy n c was)) (done_reply y) was is) q p };
  };
  new = record { free = λ κs a. tt; is = λ κs a r x p. ran.new (arg1 a) (arg2 a).now r p };
  new_var = record { free = λ κs a. tt; is = λ κs a r x p. ran.new_var (arg1 a) r p };
  new_struct = record { free = λ κs a. tt; is = λ κs a r x p. ran.new_struct (arg1 a) (arg2 a).now r p };
  new_union = record { free = λ κs a. tt; is = λ κs a r x p. ran.new_union (arg1 a) (arg2 a).now r p };
  new_vars = record { free = λ κs a. tt; is = λ κs a r x p. ran.new_vars (arg1 a) (arg2 a) (arg3 a).now (arg3 x).now r p };
  error = record { free = λ κs a. tt; is = λ κs a r x p. ran.error r p };
  nil = record { free = λ κs a. tt; is = λ κs a r x p. ran.nil r p };
  force_kind = record { free = λ κs a. tt; is = λ κs a r x p. ran.force_kind (arg1 a) r p };
  unify = record { free = λ κs a. tt; is = λ κs a r x p. ran.unify (arg1 a) (arg2 a) r p };
  unify_recalling = record { free = λ κs a. tt; is = λ κs a r x p. ran.unify (arg2 a) (arg3 a) r p };
  import = record {
    free = λ κs a. tt;
    is = λ κs a r x p. ran.import (source_words a) (arg4 a).now (arg5 a) (arg6 a).now (arg6 x).now r p;
  };
  find = record { free = λ κs a. tt; is = λ κs a r x p. ran.find (arg1 a) r p };
  find_mut = record { free = λ κs a. tt; is = λ κs a r x p. ran.find_mut (arg1 a) r p };
  node = record { free = λ κs a. tt; is = λ κs a r x p. ran.node (arg1 a) r p };
  child = record { free = λ κs a. tt; is = λ κs a r x p. ran.child (arg1 a) (arg2 a) r p };
  child_name = record { free = λ κs a. tt; is = λ κs a r x p. ran.child_name (arg1 a) (arg2 a) r p };
  figures = record { free = λ κs a. tt; is = λ κs a r x p. ran.figures r p };
  export = record {
    free = λ κs a. tt;
    is = λ κs a r x p. ran.export (arg4 a) (arg5 a) (other_words a) (other_words x) (arg6 a).now (arg7 a).now (arg7 x).now r p;
  };
  unify_types = record { free = λ κs a. tt; is = λ κs a r x p. ran.unify_types (arg1 a).now (arg2 a).now (arg3 a) r p };
  unify_types_recalling = record { free = λ κs a. tt; is = λ κs a r x p. ran.unify_types (arg2 a).now (arg3 a).now (arg4 a) r p };
  unify_objects = record { free = λ κs a. tt; is = λ κs a r x p. ran.unify_objects (arg1 a).now (arg2 a).now (arg3 a) r p };
  unify_objects_recalling = record { free = λ κs a. tt; is = λ κs a r x p. ran.unify_objects (arg2 a).now (arg3 a).now (arg4 a) r p };
  unify_impl_type = record { free = λ κs a. tt; is = λ κs a r x p. ran.unify_impl_type (arg1 a) (arg2 a) r p };
  unify_impl_type_recalling = record { free = λ κs a. tt; is = λ κs a r x p. ran.unify_impl_type (arg2 a) (arg3 a) r p };
  unify_fn_sig = record { free = λ κs a. tt; is = λ κs a r x p. ran.unify_fn_sig (arg1 a).now (arg2 a) (arg3 a).now (arg4 a) r p };
  unify_fn_sig_recalling = record { free = λ κs a. tt; is = λ κs a r x p. ran.unify_fn_sig (arg2 a).now (arg3 a) (arg4 a).now (arg5 a) r p };
  finish_inference = record { free = λ κs a. tt; is = λ κs a r x p. ran.finish_inference r p };
  finish_inference_where = record { free = λ κs a. tt; is = λ κs a r x p. ran.finish_inference_where (arg1 a).now r p };
  find_related = record { free = λ κs a. tt; is = λ κs a r x p. ran.find_related (arg2 a) (arg1 a).now (arg1 x).now r p };
  self_inverse_param = record { free = λ κs a. tt; is = λ κs a r x p. ran.self_inverse_param (arg1 a) (arg2 a) r p };
  self_inverse = record { free = λ κs a. tt; is = λ κs a r x p. ran.self_inverse (arg1 a) r p };
  is_nil = record { free = λ κs a. tt; is = λ κs a r x p. ran.is_nil (arg1 a) r p };
  get_mod = record { free = λ κs a. tt; is = λ κs a r x p. ran.get_mod (arg1 a) r p };
  approx_eq = record { free = λ κs a. tt; is = λ κs a r x p. ran.approx_eq (arg1 a) (arg2 a) r p };
  show = record { free = λ κs a. tt; is = λ κs a r x p. ran.show (arg1 a) (arg2 a).now (arg2 x).now r p };
  show_impl_type = record { free = λ κs a. tt; is = λ κs a r x p. ran.show_impl_type (arg1 a) (arg2 a).now (arg2 x).now r p };
  show_part = record { free = λ κs a. tt; is = λ κs a r x p. ran.show_part (arg1 a) (arg2 a).now r.0.now r.1 p.0 };
  show_impl_type_part = record { free = λ κs a. tt; is = λ κs a r x p. ran.show_impl_type_part (arg1 a) (arg2 a).now r.0.now r.1 p.0 };
  opens_names = record {
    free = λ κs a. tt;
    is = λ κs a r x p q.
        let was : List ℕ = a.0.now in
        let n : ℕ = a.1.0 in
        let c : ℕ = a.1.1.0 in
        record { found = was; left = subst (λ (y : CodeAnswer (Unit {0})). NamesOpened (open_names_call n c (leb (book_words n c) (length was))) (done_reply y) was x.0.now) q p };
  };
  name_state = record { free = λ κs a. tt; is = λ κs a r x p. desk.name_state (arg2 a).now r p };
  return_to = record { free = λ κs a. tt; is = λ κs a r x p. desk.return_to (arg2 a).now r p };
  drop_name = record { free = λ κs a. tt; is = λ κs a r x p. desk.drop_name (arg2 a).now r p };
  reset = record { free = λ κs a. tt; is = λ κs a r x p. desk.reset r p };
}
