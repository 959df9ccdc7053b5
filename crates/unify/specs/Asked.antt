-- What unifying asks beside a memory, and what it leaves there: `unify_enter` says it, and it is passed on.
pub use Rattle.unify_enter.specs.Asked.{Asked, Unified, nodes_in, AskedIn, UnifiedIn}
