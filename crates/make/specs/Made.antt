-- What a maker promises: its answer, and the store that the slices hold afterwards, are those of scope's maker.
use Rattle.std.specs.Prelude.{◌≡◌, true, List, ℕ, ◌+◌}
use Rattle.scope.specs.Types.{ty_of}
use Rattle.scope.specs.Nodes.{Unknown, Store}
use Rattle.scope.specs.Make.{Made, MadeAll, next_type, pushed}
use Rattle.scope.specs.Calls.{written}
use Rattle.types.specs.declared.«Type».{«Type»}
use Rattle.layout.specs.Words.{nodes_made, store_in}
use Rattle.layout.specs.Words as words
use Rattle.layout.specs.Meaning.{put_at, remembered_fits}
use Rattle.layout.specs.Meaning.{Remembered}
use Rattle.layout.specs.declared.TypeState.TheVariants as layout
use Rattle.layout.specs.declared.TypeNode.TheVariants.{Root}
use Rattle.store.specs.Holds.{Became}

-- a maker's answer t, and the slices afterwards, are those of m
pub record MadeIs (h ws ks h' ws' ks' : List ℕ) (t : «Type») (m : Made) : Type 0 where
  pub type : ty_of t.0 ≡ m.type
  pub store : Became h ws ks h' ws' ks' m.store

-- the types of m stand at the front of out
pub record MadeAllIs (h ws ks h' ws' ks' out out' : List ℕ) (m : MadeAll) : Type 0 where
  pub types : out' ≡ written m.types out
  pub store : Became h ws ks h' ws' ks' m.store

-- one Unknown more, with c children counted; where it stands
abbrev pub new_blank : Store → ℕ → ℕ → Made
new_blank s p c = record { type = next_type s; store = pushed s (Unknown p) c }

pub record BlankMade (h ws ks h' ws' : List ℕ) (p c : ℕ) (t : «Type») : Type 0 where
  pub made : MadeIs h ws ks h' ws' ks t (new_blank (store_in h ws ks) p c)
  pub node : t.0 ≡ nodes_made h
  pub nodes : ws' ≡ put_at ws (nodes_made h + 1) (nodes_made h) (Root (layout.Unknown p) 1)

-- the slices are clean, and the types are no number that means none
pub record Rememberable (h ws ks : List ℕ) (e z : Remembered) : Type 0 where
  pub clean : words.clean h ws ks ≡ true
  pub error : remembered_fits e ≡ true
  pub nil : remembered_fits z ≡ true
