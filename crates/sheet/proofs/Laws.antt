-- What the program keeps, from one step to the next.
use Rattle.std.specs.Prelude.{List, [], ◌++◌, ℕ}
use Rattle.append.proofs.Laws.{so_far_start}
use Rattle.sheet_calls.specs.Store.{SheetStore}
use Rattle.sheet_feed.specs.Fed.{GoesOn}
use Rattle.sheet.specs.Holding.{Holding, Goes}

-- a line that begins
pub begins : (line : List ℕ) → Holding line 0
begins line = record { line₀ = line; bs = []; so_far = so_far_start line }

-- a line that goes on with all of a piece
pub goes_more : {h ws ks h' ws' ks' line line' piece : List ℕ} {at q : ℕ} → GoesOn h ws ks h' ws' ks' line at line' piece q → SheetStore h ws ks → Holding line at
    → Goes h' ws' ks' line' q
goes_more {piece = piece} g s w = record {
  store = rw (g.head, g.nodes, g.kids) s;
  holds = record { line₀ = w.line₀; bs = w.bs ++ piece; so_far = g.so_far w.line₀ w.bs w.so_far };
}
