-- A names buffer just opened holds a book without a name.
-- Assumes nothing.
use mathlib.Core.Path.{◌≡◌, refl, ap}
use mathlib.Core.List.{List, [], ◌∷◌}
use mathlib.Core.Option.{Option, none, some}
use Prim.Native.Nat.{ℕ}
use native.Mathlib.Omega.{arith}
use lib.Dec.{leb}
use lib.ListN.{length}
use Rattle.scope.specs.Refusals.{first_broken, open_test}
use Rattle.scope.specs.States.{Book, blank, holds_none, opens, or_unopened, open_names_call}
use Rattle.book.specs.Words.{book_words, book_in}
use Rattle.theorem.specs.DeskSteps.{OpenedNames, NoName}

opened_book : (o : Option ℕ) (b b' : Book) → or_unopened o b ≡ opens b' → b' ≡ b
opened_book none b b' q = cc
opened_book (some n) b b' q = let z : ◌≡◌ {A = ℕ} 0 1 = cc in absurd (omega arith)

pub names_blank : (n c : ℕ) (bs : List ℕ) → OpenedNames n c bs → book_in bs ≡ blank n c
unfolding open_names_call
names_blank n c bs o = opened_book (first_broken (open_test n c (leb (book_words n c) (length o.found)) ∷ [])) (blank n c) (book_in bs) o.left.outcome

pub opened_names : (n c : ℕ) (bs : List ℕ) → OpenedNames n c bs → NoName bs
opened_names n c bs o = record { clean = (o.left.book refl).clean; none = ap holds_none (names_blank n c bs o) }
