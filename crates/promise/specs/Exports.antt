-- What `export` promises: it answers types, written at the front of a lent list, and a store of its own in the destination's slices, whatever these held.
-- The source's words are only read.
use Rattle.std.specs.Prelude.{◌≡◌, true, false, List, map, ℕ, take, drop, Result}
use Rattle.scope.specs.Types.{ty_of}
use Rattle.scope.specs.Nodes.{Store}
use Rattle.scope.specs.Calls.{Outcome, Exported}
use Rattle.layout.specs.Words.{store_in}
use Rattle.store.specs.Holds.{Became}
use Rattle.promise.specs.Promise.{Reply, reply, outcome_by, answered, done_reply, AsFound}
use Rattle.refusals.specs.declared.Refusal.{Refusal}

-- the answer: the words at the front, and the fresh store
abbrev pub export_reply : Result (Unit {0}) Refusal → List ℕ → Store → Reply Exported
export_reply r ws s = reply (λ u. record { types = map ty_of ws; fresh = s }) r

-- out of the store s into the slices h ws ks, which then hold h' ws' ks'; the list was `out` and is now `out'`, and the n types of an answer are its
-- first n words. Words past the fresh store are as found; a refusal leaves every word as found
pub record ExportPromised (o : Outcome Exported) (r : Result (Unit {0}) Refusal) (n : ℕ) (s : Store) (h ws ks h' ws' ks' out out' : List ℕ) : Type 0 where
  pub outcome : o ≡ outcome_by (export_reply r (take n out') (store_in h' ws' ks')) s
  pub again : answered (done_reply r) ≡ true → Became h ws ks h' ws' ks' (store_in h' ws' ks')
  pub kept : answered (done_reply r) ≡ false → AsFound h ws ks h' ws' ks'
  pub rest : drop n out' ≡ drop n out
  pub list : answered (done_reply r) ≡ false → out' ≡ out
