-- What a node's readers take of it is what the store has there: its state, its size, and its kind with its inversion. Where the words are clean the
-- node that the code reads means the store's node, and each reader goes by the same cases as scope's.
-- Assumes nothing.
use mathlib.Core.Path.{◌≡◌, refl, ap, sym, ◌∙◌}
use mathlib.Core.Bool.{true}
use mathlib.Core.List.{List}
use Prim.Native.Nat.{ℕ}
use native.Mathlib.Omega.{arith}
use Rattle.scope.specs.Nodes.{state_of, size_of, kids_of, at}
use Rattle.scope.specs.Nodes as nodes
use Rattle.types.specs.declared.Inverted.{Inverted}
use Rattle.layout.specs.Words.{decode}
use Rattle.layout.specs.Meaning.{read_at, node_state, node_size, held_by, held_in, held_kids, kind_means, state_means, node_means, kind_fits, state_fits, node_fits, Clean}
use Rattle.layout.specs.declared.Kind.{Kind}
use Rattle.layout.specs.Meaning.{Held}
use Rattle.std.specs.Prelude.{Some, None}
use Rattle.layout.specs.declared.TypeState.{TypeState}
use Rattle.layout.specs.declared.TypeState.TheVariants.{Known, Unknown, InferenceFailed}
use Rattle.layout.specs.declared.TypeNode.{TypeNode}
use Rattle.layout.specs.declared.TypeNode.TheVariants.{Root, Child}
use Rattle.layout.proofs.Laws.{read_node, read_fits}

-- a node

pub state_node : (ks : List ℕ) (v : TypeNode) → state_means ks (node_state v) ≡ state_of (node_means ks v)
state_node ks (Root st z) = refl
state_node ks (Child t) = refl

pub size_node : (ks : List ℕ) (v : TypeNode) → node_size v ≡ size_of (node_means ks v)
size_node ks (Root st z) = refl
size_node ks (Child t) = refl

pub fits_node : (ks : List ℕ) (c : ℕ) (v : TypeNode) → node_fits ks c v ≡ true → state_fits ks c (node_state v) ≡ true
fits_node ks c (Root st z) h = h
fits_node ks c (Child t) h = refl

-- a state that holds a kind
pub held_state : (st : TypeState) (i : Inverted) (k : Kind) → held_by st ≡ Some (i, k) → st ≡ Known i k
held_state (Known j m) i k e = let p : ◌≡◌ {A = Inverted × Kind} (j, m) (i, k) = cc in ap (λ (h : Inverted × Kind). Known h.0 h.1) p
held_state (Unknown s) i k e = let z : ◌≡◌ {A = ℕ} 0 1 = cc in absurd (omega arith)
held_state InferenceFailed i k e = let z : ◌≡◌ {A = ℕ} 0 1 = cc in absurd (omega arith)

-- f of a state, by what the state holds

state_by : {A : Type 0} (ks : List ℕ) (f : nodes.State → A) (h : Held → A)
    → ((i : Inverted) (k : Kind) → f (nodes.Known i.0 (kind_means ks k)) ≡ h (Some (i, k)))
    → ((s : ℕ) → f (nodes.Unknown s) ≡ h None) → f nodes.InferenceFailed ≡ h None
    → (st : TypeState) → f (state_means ks st) ≡ h (held_by st)
state_by ks f h a b c (Known i k) = a i k
state_by ks f h a b c (Unknown s) = b s
state_by ks f h a b c InferenceFailed = c

-- what the code reads at i, where the words are clean

module _ (ws ks : List ℕ) (c n : ℕ) (cl : Clean ws ks c n) (i : ℕ) where
  pub state_read : state_means ks (node_state (read_at ws n i)) ≡ state_of (at (decode ws ks n) i)
  state_read = state_node ks (read_at ws n i) ∙ ap state_of (read_node ws ks c n cl i)

  pub size_read : node_size (read_at ws n i) ≡ size_of (at (decode ws ks n) i)
  size_read = size_node ks (read_at ws n i) ∙ ap size_of (read_node ws ks c n cl i)

  pub state_fits_lem : state_fits ks c (node_state (read_at ws n i)) ≡ true
  state_fits_lem = fits_node ks c (read_at ws n i) (read_fits ws ks c n cl i)

  module _ {r q : Held} (e : r ≡ held_in (read_at ws n i)) (s : r ≡ q) where
    -- what f takes of the node's state, h takes of what it holds
    pub held_by_lem : {A : Type 0} (f : nodes.State → A) (h : Held → A)
        → ((j : Inverted) (k : Kind) → f (nodes.Known j.0 (kind_means ks k)) ≡ h (Some (j, k)))
        → ((p : ℕ) → f (nodes.Unknown p) ≡ h None) → f nodes.InferenceFailed ≡ h None
        → f (state_of (at (decode ws ks n) i)) ≡ h q
    held_by_lem f h a b d =
        ap f (sym state_read) ∙ (state_by ks f h a b d (node_state (read_at ws n i)) ∙ ap h (sym e ∙ s))

    pub held_kids_lem : kids_of (state_of (at (decode ws ks n) i)) ≡ held_kids ks q
    held_kids_lem = held_by_lem kids_of (held_kids ks) (λ j k. refl) (λ p. refl) refl

  module _ {r : Held} {j : Inverted} {k : Kind} (e : r ≡ held_in (read_at ws n i)) (s : r ≡ Some (j, k)) where
    known : node_state (read_at ws n i) ≡ Known j k
    known = held_state (node_state (read_at ws n i)) j k (sym e ∙ s)

    pub held_known_lem : state_of (at (decode ws ks n) i) ≡ nodes.Known j.0 (kind_means ks k)
    held_known_lem = sym state_read ∙ ap (state_means ks) known

    -- a kind that was read may stand in a node
    pub held_fits : kind_fits ks c k ≡ true
    held_fits = ap (state_fits ks c) (sym known) ∙ state_fits_lem
