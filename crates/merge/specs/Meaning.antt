-- What merging two roots asks of the node words and does to them: scope's join, merge, bind and settle on the nodes that the words hold, whatever
-- their children's words ks are.
use Rattle.std.specs.Prelude.{◌≡◌, true, List, ℕ, ◌+◌, ◌<◌, ◌≤◌, length, drop}
use Rattle.scope.specs.Base.{xor}
use Rattle.scope.specs.Types.{Ty, flip}
use Rattle.scope.specs.Unify as scope
use Rattle.types.specs.Answers.{answer_of}
use Rattle.types.specs.declared.UnifyResult.{UnifyResult}
use Rattle.layout.specs.Words.{node_words, decode}
use Rattle.layout.specs.Meaning.{node_state, node_size, read_at, state_means, state_fits, Clean}
use Rattle.layout.specs.declared.TypeState.{TypeState}
use Rattle.layout.specs.declared.TypeState.TheVariants.{Known, Unknown, InferenceFailed}

-- what the code reads at i
abbrev pub state_at : List ℕ → ℕ → ℕ → TypeState
state_at ws n i = node_state (read_at ws n i)

abbrev pub size_at : List ℕ → ℕ → ℕ → ℕ
size_at ws n i = node_size (read_at ws n i)

-- the state of a root w that stays: the kind of the root l, as w's type sees it, or else its own state
abbrev pub taken : Ty → Ty → TypeState → TypeState → TypeState
taken w l own (Known j k) = Known (record { 0 = xor (flip l.inv w).inv j.0 }) k
taken w l own (Unknown s) = own
taken w l own InferenceFailed = own

-- n nodes have room in ws, and the sizes of two of them add up to a number of 32 bits; in a sound store all sizes together do
pub record Adds (ws : List ℕ) (n : ℕ) (a b : Ty) : Type 0 where
  pub room : node_words n ≤ length ws
  pub sizes : size_at ws n a.idx + size_at ws n b.idx < 4294967296

-- ws' after ws: the words past the n nodes are as they were; where ws was clean with c children in ks, so is ws', and it holds the nodes that scope says

pub record Joined (ws ws' : List ℕ) (n : ℕ) (w l : Ty) (st : TypeState) : Type 0 where
  pub tail : drop (node_words n) ws' ≡ drop (node_words n) ws
  pub clean : (ks : List ℕ) (c : ℕ) → Clean ws ks c n → state_fits ks c st ≡ true → Clean ws' ks c n
  pub nodes : (ks : List ℕ) (c : ℕ) → Clean ws ks c n → state_fits ks c st ≡ true
      → decode ws' ks n ≡ scope.join (decode ws ks n) w l (state_means ks st)

pub record Merged (ws ws' : List ℕ) (n : ℕ) (a b : Ty) (sa sb : TypeState) : Type 0 where
  pub tail : drop (node_words n) ws' ≡ drop (node_words n) ws
  pub clean : (ks : List ℕ) (c : ℕ) → Clean ws ks c n → state_fits ks c sa ≡ true → state_fits ks c sb ≡ true → Clean ws' ks c n
  pub nodes : (ks : List ℕ) (c : ℕ) → Clean ws ks c n → state_fits ks c sa ≡ true → state_fits ks c sb ≡ true
      → decode ws' ks n ≡ scope.merge (decode ws ks n) a b (state_means ks sa) (state_means ks sb)

-- scope's `bound`: two roots of which one has no kind, and neither occurs in the other
pub record Bound (ws ws' : List ℕ) (n : ℕ) (a b : Ty) : Type 0 where
  pub tail : drop (node_words n) ws' ≡ drop (node_words n) ws
  pub clean : (ks : List ℕ) (c : ℕ) → Clean ws ks c n → Clean ws' ks c n
  pub nodes : (ks : List ℕ) (c : ℕ) → Clean ws ks c n → decode ws' ks n ≡ scope.bound (decode ws ks n) a b

pub record Settled (ws ws' : List ℕ) (n : ℕ) (a b : Ty) (r q : UnifyResult) : Type 0 where
  pub tail : drop (node_words n) ws' ≡ drop (node_words n) ws
  pub clean : (ks : List ℕ) (c : ℕ) → Clean ws ks c n → Clean ws' ks c n
  pub nodes : (ks : List ℕ) (c : ℕ) → Clean ws ks c n → scope.settle (decode ws ks n) a b (answer_of r) ≡ scope.out (decode ws' ks n) (answer_of q)
