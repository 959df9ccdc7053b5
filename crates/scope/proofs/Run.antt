-- A list of calls run to its answers and what it leaves, with every definition open to computation: what a table of examples is computed by. Assumes nothing.
use mathlib.Core.List.{List}
use Rattle.scope.specs.Chart.{Env}
use Rattle.scope.specs.Nodes.{Store}
use Rattle.scope.specs.Demand.{Call, after}
use Rattle.scope.specs.Replies.{Reply, replies}
use Rattle.scope.specs.Names as Names
use Rattle.scope.specs.Chart as Chart
use Rattle.scope.specs.Types as Types
use Rattle.scope.specs.Kinds as Kinds
use Rattle.scope.specs.Nodes as Nodes
use Rattle.scope.specs.Unify as Unify
use Rattle.scope.specs.Make as Make
use Rattle.scope.specs.Force as Force
use Rattle.scope.specs.Import as Import
use Rattle.scope.specs.Show as Show
use Rattle.scope.specs.Sound as Sound
use Rattle.scope.specs.Calls as Calls
use Rattle.scope.specs.Demand as Demand
use Rattle.scope.specs.States as States
use Rattle.scope.specs.StatesDemand.{Desk, StateCall, Ledgers, no_ledger, state_replies, after_desk, after_ledgers}

pub record Ran : Type 0 where
  pub replies : List Reply
  pub store : Store

unfoldable pub ran : Env → Store → List Call → Ran
unfolding replies Names.bytes Names.in_text Names.name_ok Names.eq_bytes Names.lt_bytes Names.ascending Chart.record_ok Chart.chart_ok Types.ty_of
    Types.word_of Kinds.rows Kinds.row_of Kinds.self_dual Kinds.flag_of Kinds.object_names_ok Kinds.names_ok Kinds.makeable Kinds.defined Kinds.flag_is
    Nodes.climb Nodes.find Nodes.compress Nodes.find_mut Nodes.kind Unify.zipped Unify.run_plan Unify.seek Unify.shared_names Unify.object_plan
    Unify.signature_plan Unify.kids_plan Unify.same_head Unify.crosses Unify.plan Unify.run Unify.occurs Unify.self_inverse_at Unify.self_inverse_of Unify.merge
    Unify.bind Unify.settle Unify.meet Unify.unify_f Unify.unify Unify.unify_types Unify.unify_objects Unify.unify_impl_type Unify.unify_fn_sig Make.new
    Make.new_var Make.new_vars Make.make_error Make.make_nil Force.force_kind Force.finish_where Force.finish_inference Force.related_f Force.find_related
    Force.is_nil Force.get_mod_f Force.get_mod Force.reset Import.copy_of Import.replaced Import.many Import.transfer Import.import Import.export Show.decimal_f
    Show.decimal Show.joined Show.entries Show.kind_pieces Show.pieces Show.render Show.show_f Show.show Show.show_impl_type Sound.rooted Sound.falls
    Sound.tree_size Sound.kind_sound Sound.room_sound Sound.shape_sound Sound.sound_store Calls.find_call Calls.find_mut_call Calls.node_call Calls.child_call
    Calls.name_call Calls.figures_call Calls.new_call Calls.new_struct_call Calls.new_union_call Calls.new_var_call Calls.new_vars_call Calls.error_call Calls.nil_call
    Calls.unify_call Calls.unify_types_call Calls.unify_objects_call Calls.unify_impl_type_call Calls.approx_eq_call Calls.unify_fn_sig_call Calls.force_kind_call
    Calls.finish_inference_call Calls.finish_where_call Calls.find_related_call Calls.self_inverse_call Calls.is_nil_call Calls.get_mod_call
    Calls.import_call Calls.export_call Calls.show_call Calls.show_impl_type_call Demand.after
ran e s cs = record { replies = replies e s cs; store = after e s cs }

-- the same with a names buffer, and with the ledgers
pub record RanStates : Type 0 where
  pub replies : List Reply
  pub desk : Desk
  pub ledgers : Ledgers

unfoldable pub ran_states : Env → Desk → List StateCall → RanStates
unfolding ran state_replies after_desk after_ledgers States.place_where States.book_sound States.open_names_call States.name_state_call States.return_to_call
    States.drop_name_call States.reset_names_call Demand.states_made Import.copies
ran_states e d cs = record { replies = state_replies e d cs; desk = after_desk e d cs; ledgers = after_ledgers e d no_ledger cs }
