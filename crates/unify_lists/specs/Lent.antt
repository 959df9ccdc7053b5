-- What a call begins with. What is asked of lent lists, objects, signatures and impl types: a sound store, pairs of types inside, and a memory m that holds only what is so.
use Rattle.std.specs.Prelude.{false, List, [], ◌∷◌, ℕ, ◌≤◌}
use Rattle.std.specs.Borrow.{Bor}
use Rattle.scope.specs.Limits.{MAX_LIST}
use Rattle.scope.specs.Names.{Texts}
use Rattle.scope.specs.Types.{Ty}
use Rattle.scope.specs.Unify.{Plan, after, run_plan, object_plan, impl_plan}
use Rattle.types.specs.Impls.{impl_means}
use Rattle.types.specs.declared.Impl.{Impl}
use Rattle.types.specs.declared.Inverted.{Inverted}
use Rattle.store.specs.Entries.{entry_count, entry_names, entry_types, types_in}
use Rattle.plan.specs.declared.Runs.{Runs}
use Rattle.chart.specs.declared.Env.{Env}
use Rattle.unify_enter.specs.declared.Fixed.{Fixed}
use Rattle.unify.specs.Asked.{Asked}

-- what stays as it is while the n nodes are unified whose children lie in ks
abbrev pub fixed_of : Env → Bor (List ℕ) → ℕ → Fixed
fixed_of e ks n = record { kids = ks; made = n; texts = e.texts }

-- two runs from the first word on, of na and of nb children
abbrev pub from_first : ℕ → ℕ → Inverted → Runs
from_first na nb inv = record { a = 0; na = na; b = 0; nb = nb; inv = inv }

-- what two signatures ask: their parameters, then their returns
abbrev pub sig_plan : List Ty → Ty → List Ty → Ty → Plan
sig_plan xs r ys q = after (run_plan false xs ys) (run_plan false (r ∷ []) (q ∷ []))

-- two lists, the second's types inverted if inv: pairs of types inside
pub record Lists (x : Texts) (ws ks m : List ℕ) (n : ℕ) (xs ys : List ℕ) (inv : Inverted) : Type 0 where
  pub asked : Asked x ws ks m n n (run_plan inv.0 (types_in xs) (types_in ys)).pairs

-- two objects: the same, and no more entries than a list may have
pub record Objects (x : Texts) (ws ks m : List ℕ) (n : ℕ) (xs ys : List ℕ) (inv : Inverted) : Type 0 where
  pub asked : Asked x ws ks m n n (object_plan x inv.0 (entry_names xs) (entry_types xs) (entry_names ys) (entry_types ys)).pairs
  pub first : entry_count xs ≤ MAX_LIST
  pub second : entry_count ys ≤ MAX_LIST

pub record Signatures (x : Texts) (ws ks m : List ℕ) (n : ℕ) (xs : List ℕ) (a : Ty) (ys : List ℕ) (b : Ty) : Type 0 where
  pub asked : Asked x ws ks m n n (sig_plan (types_in xs) a (types_in ys) b).pairs

pub record Impls (x : Texts) (ws ks m : List ℕ) (n : ℕ) (a b : Impl) : Type 0 where
  pub asked : Asked x ws ks m n n (impl_plan (impl_means a) (impl_means b)).pairs
