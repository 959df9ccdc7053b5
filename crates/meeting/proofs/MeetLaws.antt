-- What two roots ask for: one law for each way out of `same_node`, `without_kind`, `walk_roots` and `meet`. What the code reads means what the nodes hold, so
-- scope's `meet` picks the same; the children of sound kinds are inside.
-- Assumes nothing.
use mathlib.Core.Path.{◌≡◌, refl, ap, sym, subst, ◌∙◌}
use mathlib.Core.Bool.{Bool, true, false, not, ◌||◌, false≢true}
use mathlib.Core.List.{List, [], map, Memᴰ}
use mathlib.Core.Option.{Option, none, some}
use mathlib.Core.Logic.{◌⊎◌, inl, inr}
use Prim.Native.Nat.{ℕ, zero, suc, ◌+◌, ◌<◌, ◌≤◌}
use native.Mathlib.Omega.{arith}
use lib.Dec.{eqb}
use lib.ListN.{length}
use borrow.Author.Tests.{eq-eqb, ne_eqb, false-eqb, leb-true}
use Rattle.std.specs.Bool.{then_some}
use Rattle.scope.specs.Base.{pick, xor}
use Rattle.scope.specs.Limits.{MAX_CHILDREN}
use Rattle.scope.specs.Names.{Texts, Name, bytes_or, ascending}
use Rattle.scope.specs.Types.{Ty}
use Rattle.scope.specs.Kinds.{OBJECT}
use Rattle.scope.specs.Nodes.{Node, at, is_root, climb, find, kids_of, kind_of}
use Rattle.scope.specs.Nodes as nodes
use Rattle.scope.specs.Answers.{of_bool}
use Rattle.scope.specs.Answers as answers
use Rattle.scope.specs.Unify.{Out, out, state_in, kind_in, meet_kinds, meet, occurs, self_inverse_at, self_inverse_of, bound, bind, settle}
use Rattle.scope.specs.Unify as scope
use Rattle.scope.proofs.View.{view}
use Rattle.scope.proofs.View as Seen
use Rattle.scope.proofs.PlanLaws.{plan_left, plan_right}
use Rattle.scope.proofs.ImportKept.{sound_kids}
use Rattle.scope.proofs.Walks.{sound_walkable}
use Rattle.types.specs.Answers.{answer_of}
use Rattle.types.specs.declared.Inverted.{Inverted}
use Rattle.types.specs.declared.UnifyResult.{UnifyResult}
use Rattle.types.specs.declared.UnifyResult.TheVariants.{Failure}
use Rattle.layout.specs.Words.{child_words, decode}
use Rattle.layout.specs.Meaning.{read_at, kind_means, node_means, kind_fits, held_by, held_in}
use Rattle.layout.specs.declared.Kind.{Kind}
use Rattle.layout.specs.declared.TypeState.{TypeState}
use Rattle.layout.specs.declared.TypeState.TheVariants.{Known, Unknown, InferenceFailed}
use Rattle.layout.specs.declared.TypeNode.{TypeNode}
use Rattle.layout.specs.declared.TypeNode.TheVariants.{Root, Child}
use Rattle.layout.specs.Meaning.{Held}
use Rattle.std.specs.Prelude.{Some, None}
use Rattle.layout.proofs.Lists.{and_left}
use Rattle.layout.proofs.Laws.{length_decode, read_node}
use Rattle.layout.proofs.HeldLaws.{held_by_lem, held_kids_lem, held_known_lem, held_fits}
use Rattle.roots.proofs.Laws.{climb_root}
use Rattle.plan.specs.Meaning.{names_from, plan_means, Planned}
use Rattle.plan.specs.declared.Plan.{Plan}
use Rattle.plan.proofs.Laws.{object_names}
use Rattle.walk.specs.Asks.{Walks}
use Rattle.meeting.specs.Asks.{SoundWords, Pair, Tops}
use Rattle.meeting.specs.Steps.{Ascends}
use Rattle.meeting.specs.Meets.{does, walks, walked_by, Met, OneNode, Bare, bare_states, bare_nodes, bare_roots}
use Rattle.meeting.specs.Meets.{Walked}
use Rattle.meeting.proofs.StepLaws.{plan_spans, plan_ready, object_ascends}

pub words_walk : {x : Texts} {ws ks : List ℕ} {n : ℕ} → SoundWords x ws ks n → Walks ws ks n
words_walk {x} {ws} {ks} {n} w = record {
  stands = record { made = w.children; clean = w.clean };
  few = w.small;
  walkable = sound_walkable w.env (decode ws ks n) w.sound;
}

-- `same_node`

occurs_is : (n : ℕ) (ns : List Node) (x y : ℕ) {i : ℕ} {t v : Bool} → i ≡ x → t ≡ occurs n ns i y → t ≡ v → occurs n ns x y ≡ v
occurs_is n ns x y e f h = rw (← e, ← f) h

crossed_by : (a b : Ty) {i j v : Bool} → i ≡ a.inv → j ≡ b.inv → v ≡ xor i j → xor a.inv b.inv ≡ v
crossed_by a b e f g = rw (← e, ← f) (sym g)

-- what `bind` gives, where t says whether one root occurs in the other
or_left : (p q : Bool) → (p || q) ≡ false → p ≡ false
or_left true q e = e
or_left false q e = refl

-- what does not occur in another root has no other in it where it has no children
occurs_back : (n : ℕ) (ns : List Node) (x y : ℕ) → 0 < n → occurs n ns x y ≡ false → kids_of (nodes.state_of (at ns x)) ≡ [] → occurs n ns y x ≡ false
unfolding occurs
occurs_back zero ns x y h o k = absurd (omega arith)
occurs_back (suc f) ns x y h o k =
    let q : eqb y x ≡ false = or_left (eqb y x) _ o in
    rw (ne_eqb x y (λ g. false≢true (sym q ∙ eq-eqb y x (sym g))), k) refl

abbrev bind_if : List Node → Ty → Ty → Bool → Out
bind_if ns a b t = pick t (out ns answers.Failure) (out (bound ns a b) answers.Success)

module _ {ws ks : List ℕ} {n : ℕ} {a b : Ty} where
  pub same_crossed : {i j v s : Bool} {r : UnifyResult} → is_root (at (decode ws ks n) a.idx) ≡ true → i ≡ a.inv → j ≡ b.inv → v ≡ xor i j → v ≡ true
      → s ≡ self_inverse_of (decode ws ks n) a false → answer_of r ≡ of_bool s → OneNode ws ks n a b r
  unfolding self_inverse_of find
  same_crossed top e f g h es er = record {
    is = ap (λ (t : Bool). of_bool (not t || self_inverse_at false n (decode ws ks n) a.idx)) (crossed_by a b e f g ∙ h)
        ∙ (ap of_bool (at_root ∙ sym es) ∙ sym er);
  }
    where
      at_root : self_inverse_at false n (decode ws ks n) a.idx ≡ self_inverse_at false (length (decode ws ks n)) (decode ws ks n) (climb (length (decode ws ks n)) (decode ws ks n) a).idx
      at_root = rw (climb_root (length (decode ws ks n)) (decode ws ks n) a top, length_decode ws ks n) refl

  -- `without_kind`

  bare_by : (t : Bool) (m : Walked) → (occurs n (decode ws ks n) a.idx b.idx || occurs n (decode ws ks n) b.idx a.idx) ≡ t
      → bind_if (decode ws ks n) a b t ≡ walked_by (decode ws ks n) a b m → Bare ws ks n a b m
  unfolding bind
  bare_by t m e f = record { same = ap (bind_if (decode ws ks n) a b) e ∙ f }

  pub bare_first : {i : ℕ} {t : Bool} → i ≡ a.idx → t ≡ occurs n (decode ws ks n) i b.idx → t ≡ true → Bare ws ks n a b (Some Failure)
  bare_first e f h = bare_by true (Some Failure) (rw (← e, ← f, h) refl) refl

  module _ {i : ℕ} {t : Bool} (e : i ≡ a.idx) (f : t ≡ occurs n (decode ws ks n) i b.idx) (h : t ≡ false)
      {j : ℕ} {s : Bool} (e' : j ≡ b.idx) (f' : s ≡ occurs n (decode ws ks n) j a.idx) where
    bare_second : s ≡ true → Bare ws ks n a b (Some Failure)
    bare_second g =
        let ns : List Node = decode ws ks n in
        bare_by true (Some Failure) (rw (occurs_is n ns a.idx b.idx e f h, occurs_is n ns b.idx a.idx e' f' g) refl) refl

    bare_binds : s ≡ false → Bare ws ks n a b None
    bare_binds g =
        let ns : List Node = decode ws ks n in
        bare_by false None (rw (occurs_is n ns a.idx b.idx e f h, occurs_is n ns b.idx a.idx e' f' g) refl) refl

    pub bare_back : (v : Bool) → s ≡ v → Bare ws ks n a b (then_some v Failure)
    bare_back true g = bare_second g
    bare_back false g = bare_binds g

  pub bare_alone : {x : Texts} {i : ℕ} {t : Bool} {h : Held} → Pair x ws ks n a b → i ≡ a.idx → t ≡ occurs n (decode ws ks n) i b.idx → t ≡ false
      → h ≡ held_in (read_at ws n i) → h ≡ None → Bare ws ks n a b None
  bare_alone {i = i} p e f g u v =
      let ns : List Node = decode ws ks n in
      let o : occurs n ns a.idx b.idx ≡ false = occurs_is n ns a.idx b.idx e f g in
      let k : kids_of (nodes.state_of (at ns a.idx)) ≡ [] =
      subst (λ (j : ℕ). kids_of (nodes.state_of (at ns j)) ≡ []) e (held_kids_lem ws ks p.words.children n p.words.clean i u v) in
      bare_by false None (rw (o, occurs_back n ns a.idx b.idx (omega (arith, p.first)) o k) refl) refl

-- `meet`

-- the kind of a root as a type t of it sees it, by what the code holds of it
abbrev seen : List ℕ → Ty → Held → Option (Bool × nodes.Kind)
seen ks t (Some (i, k)) = some (xor i.0 t.inv, kind_means ks k)
seen ks t None = none

bare_second_kind : (u : List Node → Ty → Ty → Out) (x : Texts) (n : ℕ) (ns : List Node) (a b : Ty) (k : Option (Bool × nodes.Kind))
    → meet_kinds u x n ns a b k none ≡ bind n ns a b
bare_second_kind u x n ns a b none = refl
bare_second_kind u x n ns a b (some k) = refl

module _ {x : Texts} {ws ks : List ℕ} {n : ℕ} {a b : Ty} (pre : Tops x ws ks n a b) where
  abbrev r : SoundWords x ws ks n
  r = pre.pair.words

  abbrev ns : List Node
  ns = decode ws ks n

  -- what the code reads of the root of a type t
  module _ (t : Ty) {i : ℕ} {h q : Held} (ei : i ≡ t.idx) (eh : h ≡ held_in (read_at ws n i)) (eq : h ≡ q) where
    there : h ≡ held_in (read_at ws n t.idx)
    there = eh ∙ ap (λ (j : ℕ). held_in (read_at ws n j)) ei

    kind_read : kind_in ns t ≡ seen ks t q
    kind_read = held_by_lem ws ks r.children n r.clean t.idx there eq (kind_of t) (seen ks t) (λ j k. refl) (λ p. refl) refl

    kids_there : {j : Inverted} {k : Kind} → q ≡ Some (j, k) → (y : Ty) → Memᴰ y (kind_means ks k).kids → Memᴰ y (kids_of (state_in ns t))
    kids_there e y w = rw (held_kids_lem ws ks r.children n r.clean t.idx there (eq ∙ e)) w

    kids_inside : {j : Inverted} {k : Kind} → q ≡ Some (j, k) → (y : Ty) → Memᴰ y (kind_means ks k).kids → y.idx < n
    kids_inside e y w = omega (arith, length_decode ws ks n, sound_kids r.env r.sound t.idx y (kids_there e y w))

    -- where a kind's children lie, and an object's names
    kind_made_lem : {j : Inverted} {k : Kind} → q ≡ Some (j, k) → k.first + k.count ≤ r.children
    unfolding kind_fits
    kind_made_lem e = leb-true _ _ (and_left _ _ (held_fits ws ks r.children n r.clean t.idx there (eq ∙ e)))

    kind_spans : {j : Inverted} {k : Kind} → q ≡ Some (j, k) → k.first + k.count ≤ MAX_CHILDREN
    kind_spans e = omega (arith, kind_made_lem e, r.few)

    kind_lies : {j : Inverted} {k : Kind} → q ≡ Some (j, k) → child_words (k.first + k.count) ≤ length ks
    kind_lies e = omega (arith, kind_made_lem e, r.room)

    kind_ascends : {j : Inverted} {k : Kind} → q ≡ Some (j, k) → k.code ≡ OBJECT → Ascends x ks k.first k.count
    unfolding view kind_means
    kind_ascends {j} {k} e c =
        let f = r.sound.kinds t.idx j.0 (kind_means ks k) (ap Seen.seen (held_known_lem ws ks r.children n r.clean t.idx there (eq ∙ e))) in
        let g = object_ascends r.env.texts (kind_means ks k).head (length (kind_means ks k).kids) f.made.made c in
        let l = subst (λ (ms : List (Option Name)). ascending (map (bytes_or r.env.texts) ms) ≡ true) (object_names ks k c) g in
        record { names = subst (λ (y : Texts). ascending (map (bytes_or y) (names_from ks k.first k.count)) ≡ true) r.lent l }

  pub met_same : {i j : ℕ} → i ≡ a.idx → j ≡ b.idx → true ≡ eqb i j → Met x ws ks n a b None
  unfolding meet
  met_same e f g = record {
    same = λ u. rw (← e, ← f, ← g) refl;
    inside = λ p m. elim m [ ];
    left = λ p m. elim m [ ];
    ready = tt;
    kinds = tt;
  }

  module _ {i j : ℕ} (e : i ≡ a.idx) (f : j ≡ b.idx) (g : false ≡ eqb i j) where
    two : false ≡ eqb a.idx b.idx
    two = rw (← e, ← f) g

    abbrev meets : (List Node → Ty → Ty → Out) → Option (Bool × nodes.Kind) → Option (Bool × nodes.Kind) → Out
    meets u k m = meet_kinds u x n ns a b k m

    apart : (u : List Node → Ty → Ty → Out) → meet u x n ns a b ≡ meets u (kind_in ns a) (kind_in ns b)
    unfolding meet
    apart u = rw (← two) refl

    walks_apart : walks n ns a b ≡ bind n ns a b
    walks_apart = rw (← two) refl

    bare_met : ((u : List Node → Ty → Ty → Out) → meets u (kind_in ns a) (kind_in ns b) ≡ bind n ns a b) → Met x ws ks n a b None
    bare_met h = record {
      same = λ u. apart u ∙ (h u ∙ sym walks_apart);
      inside = λ p w. elim w [ ];
      left = λ p w. elim w [ ];
      ready = tt;
      kinds = tt;
    }

    pub met_bare_first : {h : Held} → h ≡ held_in (read_at ws n i) → h ≡ None → Met x ws ks n a b None
    met_bare_first p q = bare_met (λ u. ap (λ (k : Option (Bool × nodes.Kind)). meets u k (kind_in ns b)) (kind_read a e p q))

    pub met_bare_second : {h : Held} → h ≡ held_in (read_at ws n j) → h ≡ None → Met x ws ks n a b None
    met_bare_second p q = bare_met (λ u. ap (meets u (kind_in ns a)) (kind_read b f p q) ∙ bare_second_kind u x n ns a b (kind_in ns a))

    -- two kinds, and whether their inversions differ
    module _ {h h' : Held} {c d : Inverted} {k m : Kind} (eh : h ≡ held_in (read_at ws n i)) (ek : h ≡ Some (c, k))
        (eg : h' ≡ held_in (read_at ws n j)) (em : h' ≡ Some (d, m)) {va vb s t v : Bool} (ea : va ≡ a.inv) (es : s ≡ xor c.0 va)
        (eb : vb ≡ b.inv) (et : t ≡ xor d.0 vb) (ev : v ≡ xor s t) {p : Plan} (pl : Planned x k m v p) where
      crossed : v ≡ xor (xor c.0 a.inv) (xor d.0 b.inv)
      crossed = rw (← ea, ← eb, ← es, ← et) ev

      planned : plan_means ks x p ≡ scope.plan x (kind_means ks k) (kind_means ks m) (xor (xor c.0 a.inv) (xor d.0 b.inv))
      planned = pl.means ks ∙ ap (scope.plan x (kind_means ks k) (kind_means ks m)) crossed

      pub met_kids : Met x ws ks n a b (Some p)
      met_kids = record {
        same = λ u. apart u ∙ rw (kind_read a e eh ek, kind_read b f eg em)
            (ap (λ (l : scope.Plan). settle (does u ns l).nodes a b (does u ns l).answer) (sym planned));
        inside = λ q w.
            let l = subst (λ (l : scope.Plan). Memᴰ q l.pairs) (pl.means ks) w in
            let y = plan_right x (kind_means ks k) (kind_means ks m) v q l in
            (kids_inside a e eh ek refl q.0 (plan_left x (kind_means ks k) (kind_means ks m) v q l), rw y.2 (kids_inside b f eg em refl y.0 y.1));
        left = λ q w.
            let l = subst (λ (l : scope.Plan). Memᴰ q l.pairs) (pl.means ks) w in
            kids_there a e eh ek refl q.0 (plan_left x (kind_means ks k) (kind_means ks m) v q l);
        ready = (
          plan_spans k m p pl.over (kind_spans a e eh ek refl) (kind_spans b f eg em refl),
          plan_ready k m x ks p pl.over (kind_lies a e eh ek refl) (kind_lies b f eg em refl) (kind_ascends b f eg em refl),
        );
        kinds = record {
          apart = false-eqb a.idx b.idx two;
          seen = (xor c.0 a.inv, kind_means ks k);
          other = (xor d.0 b.inv, kind_means ks m);
          first = kind_read a e eh ek;
          second = kind_read b f eg em;
          plan = planned;
        };
      }

-- what it is that two roots are so

abbrev root_node : TypeNode → Bool
root_node (Root s z) = true
root_node (Child t) = false

record BareFacts (t : Bool) (u v : TypeNode) : Type 0 where
  apart : t ≡ false
  first : root_node u ≡ true
  second : root_node v ≡ true
  none : (held_in u ≡ None) ⊎ (held_in v ≡ None)

states_facts : (s t : TypeState) → bare_states s t ≡ true → (held_by s ≡ None) ⊎ (held_by t ≡ None)
states_facts (Known i k) (Known j m) e = absurd (false≢true e)
states_facts (Known i k) (Unknown p) e = inr refl
states_facts (Known i k) InferenceFailed e = inr refl
states_facts (Unknown p) t e = inl refl
states_facts InferenceFailed t e = inl refl

nodes_facts : (t : Bool) (u v : TypeNode) → bare_nodes t u v ≡ true → BareFacts t u v
nodes_facts true u v e = absurd (false≢true e)
nodes_facts false (Child t) v e = absurd (false≢true e)
nodes_facts false (Root s y) (Child t) e = absurd (false≢true e)
nodes_facts false (Root s y) (Root t z) e = record { apart = refl; first = refl; second = refl; none = states_facts s t e }

root_means : (ks : List ℕ) (v : TypeNode) → root_node v ≡ true → is_root (node_means ks v) ≡ true
root_means ks (Root s z) e = refl
root_means ks (Child t) e = absurd (false≢true e)

module _ {x : Texts} {ws ks : List ℕ} {n : ℕ} {a b : Ty} (p : Pair x ws ks n a b) (e : bare_roots ws n a.idx b.idx ≡ true) where
  facts : BareFacts (eqb a.idx b.idx) (read_at ws n a.idx) (read_at ws n b.idx)
  facts = nodes_facts (eqb a.idx b.idx) (read_at ws n a.idx) (read_at ws n b.idx) e

  root_there : (i : ℕ) → root_node (read_at ws n i) ≡ true → is_root (at (decode ws ks n) i) ≡ true
  root_there i h = ap is_root (sym (read_node ws ks p.words.children n p.words.clean i)) ∙ root_means ks (read_at ws n i) h

  pub bare_tops : Tops x ws ks n a b
  bare_tops = record { pair = p; first = root_there a.idx facts.first; second = root_there b.idx facts.second }

  pub bare_meets : Met x ws ks n a b None
  bare_meets = go facts.none
    where
      go : (held_in (read_at ws n a.idx) ≡ None) ⊎ (held_in (read_at ws n b.idx) ≡ None) → Met x ws ks n a b None
      go (inl h) = met_bare_first bare_tops refl refl (sym facts.apart) refl h
      go (inr h) = met_bare_second bare_tops refl refl (sym facts.apart) refl h
