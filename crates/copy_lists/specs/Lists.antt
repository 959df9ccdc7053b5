-- What copying a list of types asks and gives, and a remembered type, which is a list of one or none.
use Rattle.std.specs.Prelude.{◌≡◌, true, ℕ, ◌<◌, take, drop}
use Rattle.std.proofs.Math.Option.{Option}
use mathlib.Core.List.{List, map, Memᴰ}
use Rattle.scope.specs.Types.{Ty, ty_of}
use Rattle.scope.specs.Import.{first_of}
use Rattle.scope.proofs.CopyTable.{CopiedAll, copy_all, copy_f}
use Rattle.scope.proofs.CopyTableLaws.{Placed}
use Rattle.layout.specs.Words.{decode}
use Rattle.layout.specs.Words as words
use Rattle.layout.specs.Meaning.{remembered_means, remembered_fits, Clean}
use Rattle.layout.specs.Meaning.{Remembered}
use Rattle.layout.specs.declared.Nodes.{Nodes}
use Rattle.store.specs.Holds.{Room}
use Rattle.copy_type.specs.Words.{copying_at, Spared}

-- the types us are inside the source's n nodes; the store in h ws ks has room for all that their copies make
pub record AllCopyable (sw sk : List ℕ) (n : ℕ) (ps : Option (List Ty)) (h ws ks table : List ℕ) (us : List Ty) : Type 0 where
  pub made : ℕ
  pub source : Clean sw sk made n
  pub given : (t : Ty) → Memᴰ t us → t.idx < n
  pub clean : words.clean h ws ks ≡ true
  pub placed : Placed (copying_at h ws ks table)
  pub room : Room (copy_all (copy_f n (decode sw sk n) ps) (copying_at h ws ks table) us).to.dest 0 0

-- the same of the nodes that are lent
abbrev pub AllCopyableFrom : Nodes → Option (List Ty) → List ℕ → List ℕ → List ℕ → List ℕ → List Ty → Type 0
AllCopyableFrom s ps h ws ks table us = AllCopyable s.words.now s.kids.now s.made ps h ws ks table us

-- the copying m from h ws ks on left h' ws' ks' table', and its n types stand at the front of the list
pub record AllCopied (m : CopiedAll) (n : ℕ) (h ws ks h' ws' ks' table' out out' : List ℕ) : Type 0 where
  pub types : map ty_of (take n out') ≡ m.types
  pub rest : drop n out' ≡ drop n out
  pub to : copying_at h' ws' ks' table' ≡ m.to
  pub spared : Spared 0 h ws ks h' ws' ks'

-- the same of a type that is remembered: it may be remembered again
pub record RememberedCopied (m : CopiedAll) (h ws ks h' ws' ks' table' : List ℕ) (r : Remembered) : Type 0 where
  pub type : remembered_means r ≡ first_of m.types
  pub fits : remembered_fits r ≡ true
  pub to : copying_at h' ws' ks' table' ≡ m.to
  pub spared : Spared 0 h ws ks h' ws' ks'
