-- From what a call on the store of `sheet` promises, and from what is printed for its answer, to what the line prints and leaves. One law for each answer's type.
-- Assumes nothing.
use mathlib.Core.Path.{◌≡◌, refl, ap, sym, subst, ◌∙◌}
use mathlib.Core.Bool.{Bool, true, false}
use mathlib.Core.List.{List, [], ◌∷◌, ◌++◌}
use mathlib.Core.Option.{Option, none, some}
use Prim.Native.Nat.{ℕ}
use native.Mathlib.Omega.{arith}
use Rattle.std.specs.Prelude.{Result, Ok, Err}
use lib.Dec.{eqb, leb}
use lib.ListN.{length, take, drop}
use Rattle.scope.specs.Base.{pick}
use Rattle.scope.specs.Text.{text}
use Rattle.scope.specs.Limits.{SHEET_NODES, SHEET_CHILDREN}
use Rattle.scope.specs.Types.{Ty}
use Rattle.scope.specs.Kinds.{REF, NEVER, DEFAULT}
use Rattle.scope.specs.Nodes.{Store, with_nodes}
use Rattle.scope.specs.Answers.{Answer}
use Rattle.scope.specs.Sound.{reads, sound}
use Rattle.scope.specs.Show.{show}
use Rattle.scope.specs.Refusals.{SHORT}
use Rattle.scope.specs.Calls.{Outcome, refused, done, first_broken, lent_tests, outside, Printed, printed_text, or_unprinted, show_call}
use Rattle.scope.specs.Sheet.{Line, Said, sheet_env, sheet_store, sheet_buffer, answer_text, say_type, say_answer, say_done, say_text, sheet_line}
use Rattle.scope.specs.Force.{finish_inference}
use Rattle.scope.proofs.SoundKept.{opened_facts}
use Rattle.scope.proofs.SoundLaws.{SoundFacts, sound_facts, facts_sound}
use Rattle.layout.specs.Words.{store_in}
use Rattle.layout.proofs.StoreLaws.{lent_clean}
use Rattle.types.specs.declared.«Type».{«Type»}
use Rattle.store.specs.Holds.{Holds, Became}
use Rattle.refusals.specs.declared.Refusal.{Refusal}
use Rattle.store.proofs.Laws.{beyond_refl}
use Rattle.promise.specs.Promise.{Promised, AsFound, value, refusal, type_reply}
use Rattle.sheet_lines.specs.Meaning.{first_of, kind_line}
use Rattle.sheet_say.specs.Front.{Front}
use Rattle.sheet_say.specs.Texts.{refused_text, type_text}
use Rattle.sheet_calls.specs.Store.{SheetStore}
use Rattle.sheet_calls.specs.Ran.{line_leaves, Ran, Made}
use Rattle.sheet_calls.proofs.StoreLaws.{sheet_clean, sheet_reads}
use Rattle.sheet_calls.proofs.SoundLines.{line_sound}

-- slices that hold a sound store
pub held_sound : {h ws ks : List ℕ} {s : Store} → Holds h ws ks s → SoundFacts sheet_env s → SheetStore h ws ks
held_sound {h} {ws} {ks} {s} o f =
    record { sound = ap (sound sheet_env) (lent_clean h ws ks o.clean) ∙ facts_sound sheet_env (store_in h ws ks) (subst (λ (x : Store). SoundFacts sheet_env x) (sym o.is) f) }

-- the store before the first line
pub start_sound : {h₀ ws₀ ks₀ h ws ks : List ℕ} → Became h₀ ws₀ ks₀ h ws ks sheet_store → (store_in h ws ks ≡ sheet_store) × SheetStore h ws ks
start_sound b = (b.holds.is, held_sound b.holds (opened_facts sheet_env SHEET_NODES SHEET_CHILDREN (omega arith) (omega arith)))

-- finishing has nothing to refuse
abbrev pub finishing : Store → Outcome (Unit {0})
finishing s = done tt (with_nodes s (finish_inference s.nodes))

-- a printer leaves the store as found, whether it prints or is refused
text_store : (s : Store) (o : Option ℕ) (bs buffer part : List ℕ) → (say_text s part (or_unprinted o buffer (printed_text s bs buffer)).answer).store ≡ s
text_store s (some n) bs buffer part = refl
text_store s none bs buffer part = go (leb (length bs) (length buffer))
  where
    go : (b : Bool)
        → (say_text s part (pick {A = Printed} b (record { answer = done (length bs) s; buffer = bs ++ drop (length bs) buffer; part = bs })
        (record { answer = refused SHORT; buffer = take (length buffer) bs; part = take (length buffer) bs })).answer).store ≡ s
    go true = refl
    go false = refl

-- a line that makes a kind over types leaves the buffer as found
pub kind_leaves : (s : Store) (c : ℕ) (ts : List Ty) (out : List ℕ) → line_leaves s (kind_line c ts) out ≡ out
kind_leaves s c ts out = go (eqb c NEVER) (eqb c DEFAULT) (eqb c REF)
  where
    go : (a b d : Bool) → line_leaves s (pick a Line.never (pick b Line.default (pick d (Line.ref (first_of ts)) (Line.tuple ts)))) out ≡ out
    go true b d = refl
    go false true d = refl
    go false false true = refl
    go false false false = refl

-- a line by its meaning
pub ran_like : {s : Store} {l m : Line} {h ws ks h' ws' ks' out out' : List ℕ} {n : ℕ} → l ≡ m → Ran s l h ws ks h' ws' ks' out out' n
    → Ran s m h ws ks h' ws' ks' out out' n
ran_like {s} {h = h} {ws = ws} {ks = ks} {h' = h'} {ws' = ws'} {ks' = ks'} {out = out} {out' = out'} {n = n} e r =
    subst (λ (x : Line). Ran s x h ws ks h' ws' ks' out out' n) e r

pub show_store : (s : Store) (t : Ty) → (sheet_line s (Line.show t)).store ≡ s
unfolding sheet_line show_call
show_store s t =
    text_store s (first_broken (lent_tests sheet_env (reads s) ++ (outside s (t ∷ []) ∷ []))) (show sheet_env s.nodes t) sheet_buffer
    (show_call sheet_env (reads s) t sheet_buffer).part

module _ {h ws ks : List ℕ} (ok : SheetStore h ws ks) where
  abbrev s : Store
  s = store_in h ws ks

  pub store_facts : SoundFacts sheet_env s
  store_facts = sound_facts sheet_env s (ap (sound sheet_env) (sym (sheet_reads ok)) ∙ ok.sound)

  -- slices as they were hold the store that they held
  pub same_store : Became h ws ks h ws ks s
  same_store = record { holds = record { clean = sheet_clean ok; is = refl }; beyond = beyond_refl }

  found_store : {h' ws' ks' : List ℕ} → AsFound h ws ks h' ws' ks' → Became h ws ks h' ws' ks' s
  found_store f = rw (f.head, f.nodes, f.kids) same_store

  pub ran : (l : Line) {h' ws' ks' out out' : List ℕ} {n : ℕ} → Front (line_leaves s l out) out' n (sheet_line s l).bytes
      → Became h ws ks h' ws' ks' (sheet_line s l).store → Ran s l h ws ks h' ws' ks' out out' n
  ran l f b = record { printed = f; store = b; sound = held_sound b.holds (line_sound s store_facts l) }

  module _ {h' ws' ks' out out' : List ℕ} {n : ℕ} (l : Line) (leaves : line_leaves s l out ≡ out) where
    by_said : (d : Said) → sheet_line s l ≡ d → Front out out' n d.bytes → Became h ws ks h' ws' ks' d.store → Ran s l h ws ks h' ws' ks' out out' n
    by_said d e f b = ran l (rw (leaves, e) f) (rw e b)

    pub ran_type : (o : Outcome Ty) (a : Result «Type» Refusal) → sheet_line s l ≡ say_type s o → Promised o (type_reply a) h ws ks h' ws' ks' → Front out out' n (type_text a)
        → Ran s l h ws ks h' ws' ks' out out' n
    ran_type o (Ok t) e p f = by_said _ (e ∙ ap (say_type s) p.outcome) f (p.again refl)
    ran_type o (Err m) e p f = by_said _ (e ∙ ap (say_type s) p.outcome) f (found_store (p.kept refl))

    pub ran_answer : (o : Outcome Answer) {r : Answer} → sheet_line s l ≡ say_answer s o → Promised o (value r) h ws ks h' ws' ks' → Front out out' n (answer_text r)
        → Ran s l h ws ks h' ws' ks' out out' n
    ran_answer o e p f = by_said _ (e ∙ ap (say_answer s) p.outcome) f (p.again refl)

    pub ran_refused : (o : Outcome Answer) {m : ℕ} → sheet_line s l ≡ say_answer s o → Promised o (refusal m) h ws ks h' ws' ks' → Front out out' n (refused_text m)
        → Ran s l h ws ks h' ws' ks' out out' n
    ran_refused o e p f = by_said _ (e ∙ ap (say_answer s) p.outcome) f (found_store (p.kept refl))

    pub ran_done : (o : Outcome (Unit {0})) → sheet_line s l ≡ say_done s o → Promised o (value tt) h ws ks h' ws' ks' → Front out out' n (text "done")
        → Ran s l h ws ks h' ws' ks' out out' n
    ran_done o e p f = by_said _ (e ∙ ap (say_done s) p.outcome) f (p.again refl)

  pub made : (l : Line) {h' ws' ks' : List ℕ} (o : Outcome Ty) (a : Result «Type» Refusal) → sheet_line s l ≡ say_type s o → ((out : List ℕ) → line_leaves s l out ≡ out)
      → Promised o (type_reply a) h ws ks h' ws' ks' → Made s l h ws ks h' ws' ks' a
  made l o a says leaves p = record { outcome = o; says = says; leaves = leaves; promised = p }

  pub ran_made : (l : Line) {h' ws' ks' out out' : List ℕ} {n : ℕ} {a : Result «Type» Refusal} → Made s l h ws ks h' ws' ks' a → Front out out' n (type_text a)
      → Ran s l h ws ks h' ws' ks' out out' n
  ran_made l {out = out} {a = a} m f = ran_type l (m.leaves out) m.outcome a m.says m.promised f
