-- What the code tests before it reads a store, and what any numbers are as a chart.
use Rattle.std.specs.Prelude.{List, [], ◌∷◌, Bool, ◌&&◌, ℕ, ◌%◌, eqb, leb, length}
use Rattle.scope.specs.Base.{pick}
use Rattle.scope.specs.Limits.{MAX_NODES, MAX_CHILDREN, NONE}
use Rattle.scope.specs.Chart.{Env, no_record}
use Rattle.names.specs.Place.{texts}
use Rattle.chart.specs.declared.Beside.{Beside}
use Rattle.chart.specs.declared.Env as lent
use Rattle.chart.specs.Words.{RECORD_WORDS}
use Rattle.chart.specs.Env.{env_of}
use Rattle.layout.specs.Words.{node_room, child_room}
use Rattle.clean.specs.Parts.{room_clean}

-- "Nodes 0 to 4,096; children over all nodes ever made 0 to 16,384"
abbrev pub within : List ℕ → Bool
within h = leb (node_room h) MAX_NODES && leb (child_room h) MAX_CHILDREN

-- the capacities are within the limits, no slice is too short for them, and no unused number is not zero
unfoldable pub readable : List ℕ → List ℕ → List ℕ → Bool
readable h ws ks = within h && room_clean h ws ks

-- the chart of numbers that are no whole records: one of a definition without a sort, which refusal 2 turns back
abbrev pub no_chart : Env
no_chart = record { records = no_record ∷ []; fn_trait = NONE; sigils = []; texts = texts [] [] }

-- what every call reads, of any numbers
unfoldable pub env_in : List ℕ → Beside → List ℕ → List ℕ → Env
env_in ws b rule text = pick (eqb (length ws % RECORD_WORDS) 0) (env_of ws b rule text) no_chart

abbrev pub env_lent : lent.Env → Env
env_lent l = env_in l.chart.now l.beside l.texts.rule.now l.texts.chart.now
