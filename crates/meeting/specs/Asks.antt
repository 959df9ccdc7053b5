-- What unifying asks of the words: n sound nodes over the children's words ks, which hold all their children, by some chart whose texts are the lent ones, and types inside. Every
-- call that unifies keeps this.
use Rattle.std.specs.Prelude.{◌≡◌, true, ℕ, ◌≤◌, ◌<◌, length}
use mathlib.Core.List.{List, Memᴰ}
use Rattle.scope.specs.Limits.{MAX_NODES, MAX_CHILDREN}
use Rattle.scope.specs.Names.{Texts}
use Rattle.scope.specs.Chart.{Env}
use Rattle.scope.specs.Types.{Ty}
use Rattle.scope.specs.Nodes.{at, is_root}
use Rattle.scope.proofs.SoundLaws.{SoundNodes}
use Rattle.layout.specs.Words.{child_words, decode}
use Rattle.layout.specs.Meaning.{Clean}
use Rattle.layout.specs.declared.Nodes.{Nodes}

pub record SoundWords (x : Texts) (ws ks : List ℕ) (n : ℕ) : Type 0 where
  pub env : Env
  pub lent : env.texts ≡ x
  pub children : ℕ
  pub clean : Clean ws ks children n
  pub few : children ≤ MAX_CHILDREN
  pub room : child_words children ≤ length ks
  pub small : n ≤ MAX_NODES
  pub sound : SoundNodes env (decode ws ks n)

-- two types inside
pub record Pair (x : Texts) (ws ks : List ℕ) (n : ℕ) (a b : Ty) : Type 0 where
  pub words : SoundWords x ws ks n
  pub first : a.idx < n
  pub second : b.idx < n

-- two types of roots
pub record Tops (x : Texts) (ws ks : List ℕ) (n : ℕ) (a b : Ty) : Type 0 where
  pub pair : Pair x ws ks n a b
  pub first : is_root (at (decode ws ks n) a.idx) ≡ true
  pub second : is_root (at (decode ws ks n) b.idx) ≡ true

-- the same of the nodes that are lent
abbrev pub TopsIn : Texts → Nodes → Ty → Ty → Type 0
TopsIn x s a b = Tops x s.words.now s.kids.now s.made a b

-- the same, whatever the texts are
pub record Roots (ws ks : List ℕ) (n : ℕ) (a b : Ty) : Type 0 where
  pub lent : Texts
  pub tops : Tops lent ws ks n a b

-- the same of the nodes that are lent
abbrev pub RootsIn : Nodes → Ty → Ty → Type 0
RootsIn s a b = Roots s.words.now s.kids.now s.made a b

-- pairs of types inside
abbrev pub Inside : ℕ → List (Ty × Ty) → Type 0
Inside n ps = (p : Ty × Ty) → Memᴰ p ps → (p.0.idx < n) × (p.1.idx < n)

pub record Pairs (x : Texts) (ws ks : List ℕ) (n : ℕ) (ps : List (Ty × Ty)) : Type 0 where
  pub words : SoundWords x ws ks n
  pub inside : Inside n ps
