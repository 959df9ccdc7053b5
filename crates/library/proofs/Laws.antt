-- A printer's length within as much of its buffer as is used is below every refusal's number.
-- Assumes nothing.
use mathlib.Core.Path.{◌≡◌, refl}
use mathlib.Core.Bool.{true}
use mathlib.Core.List.{List}
use Prim.Native.Nat.{ℕ, ◌≤◌}
use native.Mathlib.Omega.{arith}
use lib.ListN.{length, take}
use borrow.Author.Tests.{lt-ltb}
use Rattle.std.specs.Prelude.{Result, Ok, Err}
use Rattle.scope.specs.Chart.{Env}
use Rattle.scope.specs.Types.{Ty}
use Rattle.scope.specs.Nodes.{Store}
use Rattle.scope.specs.Unify.{ImplType}
use Rattle.scope.specs.Sound.{Lent}
use Rattle.scope.specs.Calls.{show_call, show_impl_type_call}
use Rattle.refusals.specs.declared.Refusal.{Refusal}
use Rattle.promise.specs.Prints.{count_reply, PrintPromised}
use Rattle.call_show.specs.Parts.{part_in}
use Rattle.call_show.proofs.Laws.{show_room, impl_room}
use Rattle.c_words.specs.Numbers.{REFUSED, count_low, counted}
use Rattle.c_words.proofs.Laws.{counted_low, counted_long}

low_count : (a : Result ℕ Refusal) (b e : List ℕ) (n : ℕ) → n ≡ counted (length b) → length e ≡ length (take n b) → part_in a (length e) ≤ length e → count_low a ≡ true
low_count (Ok m) b e n q l h = lt-ltb m REFUSED (omega (arith, h, counted_long b e n q l, q, counted_low (length b)))
low_count (Err r) b e n q l h = refl

-- e is what a printer's call r left of the front of a buffer b
module _ (x : Env) (l : Lent) (r : Result ℕ Refusal) (s : Store) (b e buf₀ : List ℕ) (n : ℕ) where
  pub show_low : (t : Ty) → n ≡ counted (length b) → length e ≡ length (take n b) → PrintPromised (show_call x l t buf₀) (count_reply r) s e → count_low r ≡ true
  show_low t p q o = low_count r b e n p q (show_room x l t buf₀ r s e o)

  pub impl_low : (a : ImplType) → n ≡ counted (length b) → length e ≡ length (take n b) → PrintPromised (show_impl_type_call x l a buf₀) (count_reply r) s e → count_low r ≡ true
  impl_low a p q o = low_count r b e n p q (impl_room x l a buf₀ r s e o)
