-- Two types before their children: what is known of their roots, and what is done with them or left to do.
use Rattle.std.specs.Prelude.{◌≡◌, List, [], ◌∷◌, ℕ, ◌-◌, drop}
use Rattle.scope.specs.Names.{Texts}
use Rattle.scope.specs.Types.{Ty, ty_of}
use Rattle.scope.specs.Unify.{meet, unify_f}
use Rattle.scope.proofs.Enough.{Enough}
use Rattle.layout.specs.Words.{node_words, decode}
use Rattle.layout.specs.Meaning.{Clean}
use Rattle.recall.specs.Memory.{clock_of}
use Rattle.heed.specs.Recalls.{Recalls, Since}
use Rattle.plan.specs.declared.Plan.{Plan}
use Rattle.meeting.specs.Asks.{Tops}
use Rattle.meeting.specs.Steps.{Stepped}
use Rattle.meeting.specs.Meets.{Met}
use Rattle.meeting.specs.declared.Steps.{Steps}
use Rattle.meeting.specs.Meets.{Meeting}
use Rattle.std.specs.declared.option.Option.TheVariants as meetings
use Rattle.unify_enter.specs.declared.Entered.{Entered}
use Rattle.unify_enter.specs.declared.Entered.TheVariants.{Done, Kids}
use Rattle.unify_enter.specs.Asked.{Unified}

-- ws₂ and the memory m₂ after the finds of p and q in ws: their roots' types are in the words a and b, and `unify` goes on there
pub record Climbed (x : Texts) (ws ks m ws₂ m₂ : List ℕ) (n d : ℕ) (p q : Ty) (a b : ℕ) : Type 0 where
  pub same : unify_f x n d (decode ws ks n) p q ≡ meet (unify_f x n (d - 1)) x n (decode ws₂ ks n) (ty_of a) (ty_of b)
  pub clean : (c : ℕ) → Clean ws ks c n → Clean ws₂ ks c n
  pub tail : drop (node_words n) ws₂ ≡ drop (node_words n) ws
  pub tops : Tops x ws₂ ks n (ty_of a) (ty_of b)
  pub deep : d ≡ 0 → ⊥
  pub enough : Enough n (decode ws₂ ks n) d ((ty_of a, ty_of b) ∷ [])
  pub recalls : Recalls x n (decode ws₂ ks n) m₂
  pub since : Since (clock_of m) (clock_of m₂) (decode ws ks n) (decode ws₂ ks n)

-- the same, and the roots ask for k
pub record AtRoots (x : Texts) (ws ks m ws₂ m₂ : List ℕ) (n d : ℕ) (p q : Ty) (a b : ℕ) (k : Meeting) : Type 0 where
  pub up : Climbed x ws ks m ws₂ m₂ n d p q a b
  pub met : Met x ws₂ ks n (ty_of a) (ty_of b) k

-- the same, and the roots ask for their children: the steps l, and the clock t before them
pub record Left (x : Texts) (ws ks m ws₂ m₂ : List ℕ) (n d : ℕ) (p q : Ty) (l : Steps) (t a b : ℕ) : Type 0 where
  pub plan : Plan
  pub roots : AtRoots x ws ks m ws₂ m₂ n d p q a b (meetings.Some plan)
  pub stepped : Stepped plan l
  pub began : t ≡ clock_of m₂

-- an answer is `unify`'s of p and q; or the children of their roots are left
abbrev pub Enters : (x : Texts) (ws ks m ws₂ m₂ : List ℕ) (n d : ℕ) (p q : Ty) → Entered → Type 0
Enters x ws ks m ws₂ m₂ n d p q (Done s) = Unified x ws ks m ws₂ m₂ n (unify_f x n d (decode ws ks n) p q) s
Enters x ws ks m ws₂ m₂ n d p q (Kids l t a b) = Left x ws ks m ws₂ m₂ n d p q l t a.0 b.0
