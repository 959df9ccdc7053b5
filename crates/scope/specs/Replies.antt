-- Every call's answer in one type, so that lists of calls can be run and their answers looked at. A refusal is its number alone.
use Rattle.std.specs.Prelude.{List, [], ◌∷◌, Bool, ℕ}
use Rattle.std.proofs.Math.Option.{Option}
use Rattle.scope.specs.Names.{Name}
use Rattle.scope.specs.Chart.{Env}
use Rattle.scope.specs.Types.{Ty}
use Rattle.scope.specs.Nodes.{Node, Store}
use Rattle.scope.specs.Answers.{Answer}
use Rattle.scope.specs.Force.{Forced, Mod}
use Rattle.scope.specs.Sound.{reads}
use Rattle.scope.specs.Calls.{Outcome, refused, done, Exported, Printed, find_call, find_mut_call, node_call, child_call, name_call, figures_call, new_call, new_struct_call, new_union_call}
use Rattle.scope.specs.Calls.{new_var_call, new_vars_call, error_call, nil_call, unify_call}
use Rattle.scope.specs.Calls.{unify_types_call, unify_objects_call, unify_impl_type_call, approx_eq_call, unify_fn_sig_call, force_kind_call}
use Rattle.scope.specs.Calls.{finish_inference_call, finish_where_call, find_related_call, self_inverse_call, is_nil_call, get_mod_call, import_call, export_call, show_call, show_impl_type_call}
use Rattle.scope.specs.Demand.{Maker, new, new_var, new_struct, new_union, new_vars, error, nil, Read, find, find_mut, export, node, child, name, figures, Later, unify_types, unify_objects}
use Rattle.scope.specs.Demand.{unify_impl_type, unify_fn_sig, finish_inference, finish_where, find_related, self_inverse, is_nil, get_mod, approx_eq, show, show_impl_type, Call, make, import}
use Rattle.scope.specs.Demand.{force_kind, unify, read, later, next}

-- an answer of any call
pub data Reply : Type 0 where
  number : ℕ → Reply
  type : Ty → Reply
  types : List Ty → Reply
  answer : Answer → Reply
  flag : Bool → Reply
  forced : Forced → Reply
  exported : Exported → Reply
  a_node : Node → Reply
  a_child : Option Ty → Reply
  a_name : Option Name → Reply
  a_store : Store → Reply
  marks : List ℕ → Reply
  mod_is : Mod → Reply
  text : List ℕ → Reply
  nothing : Reply

abbrev pub reply : {A : Type 0} → (A → Reply) → Outcome A → Reply
reply f (refused n) = number n
reply f (done a s) = f a

-- a printer's answer with the part that it hands back
abbrev pub printed : Printed → Reply
printed p = reply (λ n. text p.part) p.answer

-- each call's answer
abbrev pub reply_maker : Env → Store → Maker → Reply
reply_maker e s (new a) = reply type (new_call e (reads s) a)
reply_maker e s (new_var p) = reply type (new_var_call e (reads s) p)
reply_maker e s (new_struct n ts) = reply type (new_struct_call e (reads s) n ts)
reply_maker e s (new_union n ts) = reply type (new_union_call e (reads s) n ts)
reply_maker e s (new_vars p n h) = reply types (new_vars_call e (reads s) p n h)
reply_maker e s error = reply type (error_call e (reads s))
reply_maker e s nil = reply type (nil_call e (reads s))

abbrev pub reply_read : Env → Store → Read → Reply
reply_read e s (find t) = reply type (find_call e (reads s) t)
reply_read e s (find_mut t) = reply type (find_mut_call e (reads s) t)
reply_read e s (export n c b ts h) = reply exported (export_call e (reads s) n c b ts h)
reply_read e s (node t) = reply a_node (node_call e (reads s) t)
reply_read e s (child t j) = reply a_child (child_call e (reads s) t j)
reply_read e s (name t j) = reply a_name (name_call e (reads s) t j)
reply_read e s figures = reply a_store (figures_call e (reads s))

abbrev pub reply_later : Env → Store → Later → Reply
reply_later e s (unify_types xs ys i) = reply answer (unify_types_call e (reads s) xs ys i)
reply_later e s (unify_objects a b i) = reply answer (unify_objects_call e (reads s) a b i)
reply_later e s (unify_impl_type a b) = reply answer (unify_impl_type_call e (reads s) a b)
reply_later e s (unify_fn_sig xs r ys q) = reply answer (unify_fn_sig_call e (reads s) xs r ys q)
reply_later e s finish_inference = reply (λ u. nothing) (finish_inference_call e (reads s))
reply_later e s (finish_where bs) = reply (λ u. nothing) (finish_where_call e (reads s) bs)
reply_later e s (find_related t ms) = reply marks (find_related_call e (reads s) t ms)
reply_later e s (self_inverse t b) = reply flag (self_inverse_call e (reads s) t b)
reply_later e s (is_nil t) = reply flag (is_nil_call e (reads s) t)
reply_later e s (get_mod t) = reply mod_is (get_mod_call e (reads s) t)
reply_later e s (approx_eq a b) = reply flag (approx_eq_call e (reads s) a b)
reply_later e s (show t bs) = printed (show_call e (reads s) t bs)
reply_later e s (show_impl_type a bs) = printed (show_impl_type_call e (reads s) a bs)

abbrev pub reply_of : Env → Store → Call → Reply
reply_of e s (make m) = reply_maker e s m
reply_of e s (import l ts ps h) = reply types (import_call e (reads s) l ts ps h)
reply_of e s (force_kind t) = reply forced (force_kind_call e (reads s) t)
reply_of e s (unify a b) = reply answer (unify_call e (reads s) a b)
reply_of e s (read r) = reply_read e s r
reply_of e s (later c) = reply_later e s c

-- the answers of a list of calls, in order
unfoldable pub replies : Env → Store → List Call → List Reply
replies e s [] = []
replies e s (c ∷ cs) = reply_of e s c ∷ replies e (next e s c) cs
