-- What unifying leaves: scope's nodes and answer, in words.
use Rattle.std.specs.Prelude.{◌≡◌, List, ℕ, drop}
use Rattle.scope.specs.Unify.{Out, out}
use Rattle.types.specs.Answers.{answer_of}
use Rattle.types.specs.declared.UnifyResult.{UnifyResult}
use Rattle.layout.specs.Words.{node_words, decode}
use Rattle.layout.specs.Meaning.{Clean}

-- ws' after ws holds o's nodes, and r is its answer; clean words stay clean, and the words past the n nodes are as they were
pub record Leaves (ws ks ws' : List ℕ) (n : ℕ) (o : Out) (r : UnifyResult) : Type 0 where
  pub same : o ≡ out (decode ws' ks n) (answer_of r)
  pub clean : (c : ℕ) → Clean ws ks c n → Clean ws' ks c n
  pub tail : drop (node_words n) ws' ≡ drop (node_words n) ws
