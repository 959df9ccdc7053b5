-- Words copied over others: the first n are the source's and those behind are as they were, or 0 where they were in use before. So words that were 0 from
-- the used ones on are 0 from the n-th on.
-- Assumes nothing.
use mathlib.Core.Path.{◌≡◌, ap, sym, ◌∙◌}
use mathlib.Core.List.{List, ◌++◌, append_assoc, append-nil}
use Prim.Native.Nat.{ℕ, ◌+◌, ◌-◌, ◌<◌, ◌≤◌}
use native.Mathlib.Omega.{arith}
use lib.ListN.{length, take, drop, replicate, length-append, length-drop, length-replicate, replicate-append-replicate, drop_of_length-le}
use lib.Seq.{take_at, drop_at, take_all, drop-drop, length-take-le}
use borrow.Rule.Slice.PartMut.{mid_of, put_mid}
use Rattle.layout.proofs.Lists.{drop_later}
use Rattle.make.specs.Header.{cleared}
use Rattle.make.proofs.Blank.{Blank, blank_tail, drop_cleared, length_cleared, blank_cleared}
use Rattle.keep.specs.Kept.{copied, replaced, Copyable, Replaceable}

module _ (n : ℕ) (from to : List ℕ) (r : Copyable n from to) where
  front : length (take n from) ≡ n
  front = length-take-le n from r.source

  pub length_copied : length (copied n from to) ≡ length to
  length_copied = simp (length-append, length-drop) (omega (arith, front, r.target))

  pub take_copied : take n (copied n from to) ≡ take n from
  take_copied = take_at (take n from) (drop n to) n front

  pub drop_copied : drop n (copied n from to) ≡ drop n to
  drop_copied = drop_at (take n from) (drop n to) n front

-- in place of words in use

module _ (used n : ℕ) (from to : List ℕ) (r : Replaceable used n from to) where
  over : Copyable n from (cleared to used)
  over = record { source = r.copyable.source; target = rw (length_cleared to used r.clearable) r.copyable.target }

  pub length_replaced : length (replaced used n from to) ≡ length to
  length_replaced = length_copied n from (cleared to used) over ∙ length_cleared to used r.clearable

  pub take_replaced : take n (replaced used n from to) ≡ take n from
  take_replaced = take_copied n from (cleared to used) over

  drop_replaced : drop n (replaced used n from to) ≡ drop n (cleared to used)
  drop_replaced = drop_copied n from (cleared to used) over

  -- words that were 0 from the used ones on are 0 from the n-th on
  pub blank_replaced : (e : ℕ) → Blank to used e → Blank (replaced used n from to) n e
  blank_replaced e z = blank_tail (cleared to used) (replaced used n from to) 0 n e (omega arith) drop_replaced (blank_cleared to used e z)

  -- words behind both are as they were
  pub replaced_later : (e : ℕ) → used ≤ e → n ≤ e → drop e (replaced used n from to) ≡ drop e to
  replaced_later e u l =
      drop_later n e (replaced used n from to) (cleared to used) l drop_replaced
      ∙ drop_later used e (cleared to used) to u (drop_cleared to used)

-- where not more words were in use, nothing is cleared
pub copied_replaced : (used n : ℕ) (from to : List ℕ) → used ≤ n → copied n from to ≡ replaced used n from to
copied_replaced used n from to u = ap (λ (l : List ℕ). take n from ++ l) (sym (drop_later used n (cleared to used) to u (drop_cleared to used)))

-- where more were, the others are cleared in a part of their own
clears_by : (n u : ℕ) (to : List ℕ) → drop n (cleared to (n + u)) ≡ cleared (drop n to) u
clears_by n u to =
    ap (λ (l : List ℕ). drop n (l ++ drop (n + u) to)) (sym (replicate-append-replicate n u 0))
    ∙ (ap (drop n) (append_assoc (replicate n 0) (replicate u 0) (drop (n + u) to))
    ∙ (drop_at (replicate n 0) (replicate u 0 ++ drop (n + u) to) n (length-replicate n 0)
    ∙ ap (λ (l : List ℕ). replicate u 0 ++ l) (sym (drop-drop u n to))))

part_by : (n u : ℕ) (from to : List ℕ) → Copyable n from to
    → put_mid n (length to - n) (copied n from to) (cleared (mid_of n (length to - n) (copied n from to)) u) ≡ replaced (n + u) n from to
part_by n u from to r =
    let long : length (drop n to) ≤ length to - n = omega (arith, length-drop n to) in
    rw (
      take_copied n from to r,
      drop_copied n from to r,
      take_all (length to - n) (drop n to) long,
      drop_of_length-le (drop n to) {i = length to - n} long,
      append-nil (cleared (drop n to) u),
      clears_by n u to,
    )

pub part_replaced : (used n : ℕ) (from to : List ℕ) → Replaceable used n from to → n < used → {ys ps : List ℕ} → ys ≡ copied n from to
    → ps ≡ cleared (mid_of n (length ys - n) ys) (used - n) → put_mid n (length ys - n) ys ps ≡ replaced used n from to
part_replaced used n from to r l q p =
    let z : n + (used - n) ≡ used = omega arith in
    rw (p, q, length_copied n from to r.copyable) (part_by n (used - n) from to r.copyable ∙ ap (λ (k : ℕ). replaced k n from to) z)
