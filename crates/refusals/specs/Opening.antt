-- What is lent at opening: buffers that are long enough for the capacities.
use Rattle.std.specs.Prelude.{List, Bool, ◌&&◌, ℕ, leb, length}
use Rattle.layout.specs.Words.{HEAD_WORDS, node_words, child_words}

-- the header's words, and those of n nodes and c children
unfoldable pub enough : ℕ → ℕ → List ℕ → List ℕ → List ℕ → Bool
enough n c h ws ks = leb HEAD_WORDS (length h) && (leb (node_words n) (length ws) && leb (child_words c) (length ks))
