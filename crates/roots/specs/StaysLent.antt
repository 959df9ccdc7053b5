-- What stays of a finder that is asked: its nodes are those that it had, and its cache is the same slice and as long. Of a lent slice its type says the
-- last two; of a part of what is lent nothing does, and its ghost name alone does not say that it is as long.
use Rattle.std.specs.Prelude.{◌≡◌, length}
use Rattle.roots.specs.declared.Finder.{Finder}

pub record StaysLent (f f' : Finder) : Type 0 where
  pub nodes : f'.nodes ≡ f.nodes
  pub same : f'.cache.ghost_name ≡ f.cache.ghost_name
  pub long : length f'.cache.now ≡ length f.cache.now
