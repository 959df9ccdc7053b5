-- The listed types as entries: as many, each without a name. So a kind whose row has no names, over these, is the kind over the list.
-- Assumes nothing.
use mathlib.Core.Path.{◌≡◌, refl}
use mathlib.Core.List.{List, [], ◌∷◌}
use Prim.Native.Nat.{ℕ, zero, suc, ◌+◌, ◌*◌, ◌<◌}
use native.Mathlib.Omega.{arith}
use lib.ListN.{length, get_or, take}
use lib.Seq.{take_all}
use Rattle.scope.specs.Kinds.{NO_NAMES, row_of}
use Rattle.scope.specs.Calls.{over}
use Rattle.layout.specs.Words.{child_words, slot_at}
use Rattle.store.specs.Entries.{entry_count, types_in}
use Rattle.lent_kind.specs.Lent.{given, plain_args, bare_slot}
use Rattle.lent_kind.proofs.ListLaws.{part_given}
use Rattle.tested_over.specs.Over.{entries_of}

entries_long : (ts : List ℕ) → length (entries_of ts) ≡ child_words (length ts)
unfolding entries_of
entries_long [] = refl
entries_long (w ∷ ts) = let e = entries_long ts in omega (arith, e)

pub entries_count : (ts : List ℕ) → entry_count (entries_of ts) ≡ length ts
entries_count ts = omega (arith, entries_long ts)

-- a word of a later entry
later : (w : ℕ) (es : List ℕ) (i k : ℕ) → get_or (w ∷ 0 ∷ 0 ∷ 0 ∷ es) (suc i * 4 + k) 0 ≡ get_or es (i * 4 + k) 0
later w es i k = let z : suc i * 4 + k ≡ suc (suc (suc (suc (i * 4 + k)))) = omega arith in rw z refl

pub entry_is : (ts : List ℕ) (i : ℕ) → i < length ts → slot_at (entries_of ts) i ≡ bare_slot (get_or ts i 0)
unfolding entries_of
entry_is [] i h = absurd (omega arith)
entry_is (w ∷ ts) zero h = refl
entry_is (w ∷ ts) (suc i) h =
    rw (later w (entries_of ts) i 0, later w (entries_of ts) i 1, later w (entries_of ts) i 2, later w (entries_of ts) i 3) (entry_is ts i (omega arith))

pub entries_given : (ts : List ℕ) (c n : ℕ) → (row_of c).names ≡ NO_NAMES → given (plain_args c n) (entries_of ts) ≡ over c n (types_in ts)
entries_given ts c n row =
    let e = entries_long ts in
    let all : take (child_words (length ts)) (entries_of ts) ≡ entries_of ts = take_all (child_words (length ts)) (entries_of ts) (omega (arith, e)) in
    rw all at (part_given ts (entries_of ts) (record { each = entry_is ts }) (omega (arith, e)) c n row refl)
