-- Merging in words: what a put of one node after another makes of the nodes that the words hold, and what the code's states mean. A law's premises are
-- what the callees ensure; each holds whatever the children's words are.
-- Assumes nothing.
use mathlib.Core.Path.{◌≡◌, refl, ap, ap₂, sym, ◌∙◌}
use mathlib.Core.Bool.{Bool, true, false, false≢true}
use mathlib.Core.List.{List}
use mathlib.Core.Option.{none}
use Prim.Native.Nat.{ℕ, ◌+◌, ◌<◌, ◌≤◌}
use lib.Dec.{ltb}
use lib.ListN.{length, set}
use borrow.Author.Tests.{lt-ltb, le-ltb}
use Rattle.scope.specs.Base.{xor}
use Rattle.scope.specs.Types.{Ty, ty_of, flip}
use Rattle.scope.specs.Nodes as nodes
use Rattle.scope.specs.Answers as answers
use Rattle.scope.specs.Unify as scope
use Rattle.scope.proofs.ViewLaws.{xor_twice, xor_comm}
use denote.Enum.Bare.{sameb}
use Rattle.std.specs.Option.{is_some}
use Rattle.types.specs.contracts.UnifyResult.{the_type}
use Rattle.types.specs.declared.«Type».{«Type»}
use Rattle.types.specs.declared.Inverted.{Inverted}
use Rattle.types.specs.declared.UnifyResult.{UnifyResult}
use Rattle.types.specs.declared.UnifyResult.TheVariants.{Success, Failure, Indeterminate}
use Rattle.types.proofs.Laws.{inverted_eq}
use Rattle.layout.specs.Words.{node_words, decode}
use Rattle.layout.specs.Meaning.{read_at, put_at, held_by, held_in, state_means, state_fits, kind_means, Clean}
use Rattle.layout.specs.Meaning.{Held}
use Rattle.std.specs.Prelude.{Some}
use Rattle.layout.specs.declared.Kind.{Kind}
use Rattle.layout.specs.declared.TypeState.{TypeState}
use Rattle.layout.specs.declared.TypeState.TheVariants.{Known, Unknown, InferenceFailed}
use Rattle.layout.specs.declared.TypeNode.{TypeNode}
use Rattle.layout.specs.declared.TypeNode.TheVariants.{Root, Child}
use Rattle.layout.proofs.Laws.{length_put, tail_put, decode_put, clean_put}
use Rattle.layout.proofs.HeldLaws.{held_state, state_read, size_read, state_fits_lem}
use Rattle.merge.specs.Meaning.{state_at, size_at, taken, Joined, Merged, Bound, Settled}

-- states: as a type of its root sees it, and back; the first that has a kind, or else the second; what a staying root takes, from those that the two types see and its own

abbrev turned : Bool → TypeState → TypeState
turned i (Known j k) = Known (record { 0 = xor i j.0 }) k
turned i (Unknown s) = Unknown s
turned i InferenceFailed = InferenceFailed

abbrev first_known : TypeState → TypeState → TypeState
first_known (Known i k) b = Known i k
first_known (Unknown s) b = b
first_known InferenceFailed b = b

abbrev kept_of : Bool → TypeState → TypeState → TypeState → TypeState
kept_of i sa sb own = turned i (first_known sa (first_known sb own))

turned_known : (r : Inverted) (i : Bool) (j : Inverted) (k : Kind) → r.0 ≡ xor i j.0 → Known r k ≡ turned i (Known j k)
turned_known r i j k e = ap (λ (x : Inverted). Known x k) (inverted_eq r (record { 0 = xor i j.0 }) e)

turned_twice : (i : Bool) (st : TypeState) → turned i (turned i st) ≡ st
turned_twice i (Known j k) = sym (turned_known j i (record { 0 = xor i j.0 }) k (sym (xor_twice i j.0)))
turned_twice i (Unknown s) = refl
turned_twice i InferenceFailed = refl

turned_fits : (ks : List ℕ) (c : ℕ) (i : Bool) (st : TypeState) → state_fits ks c (turned i st) ≡ state_fits ks c st
turned_fits ks c i (Known j k) = refl
turned_fits ks c i (Unknown s) = refl
turned_fits ks c i InferenceFailed = refl

first_fits : (ks : List ℕ) (c : ℕ) (a b : TypeState) → state_fits ks c a ≡ true → state_fits ks c b ≡ true → state_fits ks c (first_known a b) ≡ true
first_fits ks c (Known i k) b f g = f
first_fits ks c (Unknown s) b f g = g
first_fits ks c InferenceFailed b f g = g

-- `join`: one put after the other

module _ (ws : List ℕ) (n : ℕ) (w l : Ty) (st : TypeState) (room : node_words n ≤ length ws) (p : «Type») (link : ty_of p.0 ≡ flip l.inv w) where
  abbrev stays : TypeNode
  stays = Root st (size_at ws n w.idx + size_at ws n l.idx)

  abbrev once : List ℕ
  once = put_at ws n w.idx stays

  once_room : node_words n ≤ length once
  once_room = rw (length_put ws n room w.idx stays) room

  module _ (ks : List ℕ) (c : ℕ) (cl : Clean ws ks c n) (fits : state_fits ks c st ≡ true) where
    once_nodes : decode once ks n
        ≡ set (decode ws ks n) w.idx (nodes.Root (state_means ks st) (nodes.size_of (nodes.at (decode ws ks n) w.idx) + nodes.size_of (nodes.at (decode ws ks n) l.idx)))
    once_nodes =
        rw (← size_read ws ks c n cl w.idx, ← size_read ws ks c n cl l.idx) (decode_put ws n room w.idx stays ks c fits)

    twice_nodes : decode (put_at once n l.idx (Child p)) ks n ≡ scope.join (decode ws ks n) w l (state_means ks st)
    twice_nodes =
        decode_put once n once_room l.idx (Child p) ks c refl
        ∙ (ap (λ (t : Ty). set (decode once ks n) l.idx (nodes.Child t)) link
        ∙ ap (λ (ns : List nodes.Node). set ns l.idx (nodes.Child (flip l.inv w))) once_nodes)

  pub twice : Joined ws (put_at once n l.idx (Child p)) n w l st
  twice = record {
    tail = tail_put once n once_room l.idx (Child p) ∙ tail_put ws n room w.idx stays;
    clean = λ ks c cl f. clean_put once ks c n (clean_put ws ks c n cl w.idx stays f) l.idx (Child p) refl;
    nodes = twice_nodes;
  }

-- `merge`: which root stays

module _ (ws ws' : List ℕ) (n : ℕ) (a b : Ty) (sa sb : TypeState) (y z : ℕ) (ey : y ≡ size_at ws n b.idx) (ez : z ≡ size_at ws n a.idx) where
  test_read : (ks : List ℕ) (c : ℕ) → Clean ws ks c n
      → ltb (nodes.size_of (nodes.at (decode ws ks n) b.idx)) (nodes.size_of (nodes.at (decode ws ks n) a.idx)) ≡ ltb y z
  test_read ks c cl = rw (← size_read ws ks c n cl b.idx, ← size_read ws ks c n cl a.idx, ey, ez)

  pub merge_first : y < z → Joined ws ws' n a b sa → Merged ws ws' n a b sa sb
  unfolding scope.merge
  merge_first h j = record {
    tail = j.tail;
    clean = λ ks c cl f g. j.clean ks c cl f;
    nodes = λ ks c cl f g. rw (test_read ks c cl, lt-ltb y z h) (j.nodes ks c cl f);
  }

  pub merge_second : z ≤ y → Joined ws ws' n b a sb → Merged ws ws' n a b sa sb
  unfolding scope.merge
  merge_second h j = record {
    tail = j.tail;
    clean = λ ks c cl f g. j.clean ks c cl g;
    nodes = λ ks c cl f g. rw (test_read ks c cl, le-ltb y z h) (j.nodes ks c cl g);
  }

-- `bind`: each root comes with the kind of either, or its own state

module _ (ks : List ℕ) (ns : List nodes.Node) (w a b : Ty) (own : TypeState) (e : state_means ks own ≡ scope.state_in ns w) where
  kept_second : (sb : TypeState) → state_means ks (turned w.inv (first_known (turned b.inv sb) (turned w.inv own))) ≡ scope.kept ns w none (nodes.kind_of b (state_means ks sb))
  kept_second (Known j k) = ap (λ (c : Bool). nodes.Known (xor w.inv c) (kind_means ks k)) (xor_comm b.inv j.0)
  kept_second (Unknown s) = ap (state_means ks) (turned_twice w.inv own) ∙ e
  kept_second InferenceFailed = ap (state_means ks) (turned_twice w.inv own) ∙ e

  kept_means : (sa sb : TypeState)
      → state_means ks (kept_of w.inv (turned a.inv sa) (turned b.inv sb) (turned w.inv own))
      ≡ scope.kept ns w (nodes.kind_of a (state_means ks sa)) (nodes.kind_of b (state_means ks sb))
  kept_means (Known j k) sb = ap (λ (c : Bool). nodes.Known (xor w.inv c) (kind_means ks k)) (xor_comm a.inv j.0)
  kept_means (Unknown s) sb = kept_second sb
  kept_means InferenceFailed sb = kept_second sb

kept_fits : (ks : List ℕ) (c : ℕ) (i : Bool) (sa sb own : TypeState) → state_fits ks c sa ≡ true → state_fits ks c sb ≡ true → state_fits ks c own ≡ true
    → state_fits ks c (kept_of i sa sb own) ≡ true
kept_fits ks c i sa sb own f g h =
    turned_fits ks c i (first_known sa (first_known sb own)) ∙ first_fits ks c sa (first_known sb own) f (first_fits ks c sb own g h)

-- what is taken is what is kept: of a root with a kind that is first its own, of any other the other's kind or else its own state

xor_between : (p q r : Bool) → xor q (xor p r) ≡ xor (xor p q) r
xor_between false false r = refl
xor_between false true r = refl
xor_between true false r = refl
xor_between true true false = refl
xor_between true true true = refl

keeps_own : (i : Bool) (st sb : TypeState) → true ≡ is_some (held_by st) → kept_of i (turned i st) sb (turned i st) ≡ st
keeps_own i (Known j k) sb e = turned_twice i (Known j k)
keeps_own i (Unknown s) sb e = cc
keeps_own i InferenceFailed sb e = cc

takes_known : (i : Bool) (w l : Ty) (j : Inverted) (k : Kind) → i ≡ l.inv → turned w.inv (turned i (Known j k)) ≡ Known (record { 0 = xor (flip l.inv w).inv j.0 }) k
takes_known i w l j k e = rw e (ap (λ (b : Bool). Known (record { 0 = b }) k) (xor_between l.inv w.inv j.0))

takes_first : (a b : Ty) (sa sb : TypeState) → false ≡ is_some (held_by sa) → kept_of a.inv (turned a.inv sa) (turned b.inv sb) (turned a.inv sa) ≡ taken a b sa sb
takes_first a b (Known h k) sb e = cc
takes_first a b (Unknown s) (Known j k) e = takes_known b.inv a b j k refl
takes_first a b (Unknown s) (Unknown t) e = refl
takes_first a b (Unknown s) InferenceFailed e = refl
takes_first a b InferenceFailed (Known j k) e = takes_known b.inv a b j k refl
takes_first a b InferenceFailed (Unknown t) e = refl
takes_first a b InferenceFailed InferenceFailed e = refl

takes_second : (a b : Ty) (sa sb : TypeState) → kept_of b.inv (turned a.inv sa) (turned b.inv sb) (turned b.inv sb) ≡ taken b a sb sa
takes_second a b (Known j k) sb = takes_known a.inv b a j k refl
takes_second a b (Unknown s) (Known h k) = turned_twice b.inv (Known h k)
takes_second a b (Unknown s) (Unknown t) = refl
takes_second a b (Unknown s) InferenceFailed = refl
takes_second a b InferenceFailed (Known h k) = turned_twice b.inv (Known h k)
takes_second a b InferenceFailed (Unknown t) = refl
takes_second a b InferenceFailed InferenceFailed = refl

-- `take`: one put after the other

pub take_known : {ws ws₁ ws₂ : List ℕ} {n : ℕ} {w l : Ty} {z i j m : ℕ} {b x : Bool} (p : «Type») {r v : Inverted} {k : Kind} {h : Held} → node_words n ≤ length ws
    → z ≡ size_at ws n w.idx + size_at ws n l.idx → m ≡ l.idx → h ≡ held_in (read_at ws n m) → h ≡ Some (v, k) → b ≡ l.inv → ty_of p.0 ≡ flip b w
    → x ≡ (ty_of p.0).inv → r.0 ≡ xor x v.0 → i ≡ w.idx → j ≡ l.idx → ws₁ ≡ put_at ws n i (Root (Known r k) z) → ws₂ ≡ put_at ws₁ n j (Child p)
    → Joined ws ws₂ n w l (taken w l (state_at ws n w.idx) (state_at ws n l.idx))
take_known {ws} {ws₁} {ws₂} {n} {w} {l} {z} {i} {j} {m} {b} {x} p {r} {v} {k} room ez em eh fh eb ep ex er ei ej e₁ e₂ =
    let t : state_at ws n l.idx ≡ Known v k = held_state (state_at ws n l.idx) v k (ap (λ (a : ℕ). held_in (read_at ws n a)) (sym em) ∙ (sym eh ∙ fh)) in
    let q : ty_of p.0 ≡ flip l.inv w = ep ∙ ap (λ (d : Bool). flip d w) eb in
    let u : r.0 ≡ xor (flip l.inv w).inv v.0 = er ∙ ap (λ (d : Bool). xor d v.0) (ex ∙ ap (λ (a : Ty). a.inv) q) in
    let f : Known r k ≡ Known (record { 0 = xor (flip l.inv w).inv v.0 }) k = ap (λ (y : Inverted). Known y k) (inverted_eq r (record { 0 = xor (flip l.inv w).inv v.0 }) u) in
    rw (e₂, e₁, ei, ej, ez, t, ← f) (twice ws n w l (Known r k) room p q)

-- what a type sees at its root
abbrev seen : List ℕ → ℕ → Ty → TypeState
seen ws n a = turned a.inv (state_at ws n a.idx)

module _ (ws ks : List ℕ) (c n : ℕ) (cl : Clean ws ks c n) where
  seen_fits : (a : Ty) → state_fits ks c (seen ws n a) ≡ true
  seen_fits a = turned_fits ks c a.inv (state_at ws n a.idx) ∙ state_fits_lem ws ks c n cl a.idx

  kept_read : (w a b : Ty) → state_means ks (kept_of w.inv (seen ws n a) (seen ws n b) (seen ws n w))
      ≡ scope.kept (decode ws ks n) w (scope.kind_in (decode ws ks n) a) (scope.kind_in (decode ws ks n) b)
  kept_read w a b =
      kept_means ks (decode ws ks n) w a b (state_at ws n w.idx) (state_read ws ks c n cl w.idx) (state_at ws n a.idx) (state_at ws n b.idx)
      ∙ rw (state_read ws ks c n cl a.idx, state_read ws ks c n cl b.idx)

  kept_reads : (w a b : Ty) → state_fits ks c (kept_of w.inv (seen ws n a) (seen ws n b) (seen ws n w)) ≡ true
  kept_reads w a b = kept_fits ks c w.inv (seen ws n a) (seen ws n b) (seen ws n w) (seen_fits a) (seen_fits b) (seen_fits w)

module _ (ws ws' : List ℕ) (n : ℕ) (a b : Ty) where
  bound : Merged ws ws' n a b (kept_of a.inv (seen ws n a) (seen ws n b) (seen ws n a)) (kept_of b.inv (seen ws n a) (seen ws n b) (seen ws n b))
      → Bound ws ws' n a b
  bound m = record {
    tail = m.tail;
    clean = λ ks c cl. m.clean ks c cl (kept_reads ws ks c n cl a a b) (kept_reads ws ks c n cl b a b);
    nodes = λ ks c cl.
        m.nodes ks c cl (kept_reads ws ks c n cl a a b) (kept_reads ws ks c n cl b a b)
        ∙ ap₂ (scope.merge (decode ws ks n) a b) (kept_read ws ks c n cl a a b) (kept_read ws ks c n cl b a b);
  }

  -- `bind`: b stays, or a with a kind, or a without one

  pub bind_second : {y z : ℕ} → y ≡ size_at ws n b.idx → z ≡ size_at ws n a.idx → z ≤ y
      → Joined ws ws' n b a (taken b a (state_at ws n b.idx) (state_at ws n a.idx)) → Bound ws ws' n a b
  bind_second ey ez h j = bound (merge_second ws ws' n a b _ _ _ _ ey ez h (rw (takes_second a b (state_at ws n a.idx) (state_at ws n b.idx)) j))

  module _ {y z m : ℕ} {h : Held} (ey : y ≡ size_at ws n b.idx) (ez : z ≡ size_at ws n a.idx) (less : y < z) (em : m ≡ a.idx) (eh : h ≡ held_in (read_at ws n m)) where
    seen_held : {t : Bool} → t ≡ is_some h → t ≡ is_some (held_in (read_at ws n a.idx))
    seen_held f = f ∙ ap is_some (eh ∙ ap (λ (i : ℕ). held_in (read_at ws n i)) em)

    pub bind_known : true ≡ is_some h → Joined ws ws' n a b (state_at ws n a.idx) → Bound ws ws' n a b
    bind_known f j =
        bound (merge_first ws ws' n a b _ _ _ _ ey ez less (rw (keeps_own a.inv (state_at ws n a.idx) (turned b.inv (state_at ws n b.idx)) (seen_held f)) j))

    pub bind_first : false ≡ is_some h → Joined ws ws' n a b (taken a b (state_at ws n a.idx) (state_at ws n b.idx)) → Bound ws ws' n a b
    bind_first f j =
        bound (merge_first ws ws' n a b _ _ _ _ ey ez less (rw (takes_first a b (state_at ws n a.idx) (state_at ws n b.idx) (seen_held f)) j))

  -- `settle`: "Only Success merges"

  pub settle_merges : (r : UnifyResult) → true ≡ sameb the_type r Success → Merged ws ws' n a b (state_at ws n a.idx) (state_at ws n b.idx) → Settled ws ws' n a b r r
  unfolding scope.settle
  settle_merges Success e m = record {
    tail = m.tail;
    clean = λ ks c cl. m.clean ks c cl (state_fits_lem ws ks c n cl a.idx) (state_fits_lem ws ks c n cl b.idx);
    nodes = λ ks c cl.
        rw (← state_read ws ks c n cl a.idx, ← state_read ws ks c n cl b.idx)
        (ap (λ (ns : List nodes.Node). scope.out ns answers.Success) (sym (m.nodes ks c cl (state_fits_lem ws ks c n cl a.idx) (state_fits_lem ws ks c n cl b.idx))));
  }
  settle_merges Failure e m = absurd (false≢true (sym e))
  settle_merges Indeterminate e m = absurd (false≢true (sym e))

pub settle_stays : {ws : List ℕ} {n : ℕ} {a b : Ty} (r : UnifyResult) → false ≡ sameb the_type r Success → Settled ws ws n a b r r
unfolding scope.settle
settle_stays Success e = absurd (false≢true e)
settle_stays Failure e = record { tail = refl; clean = λ ks c cl. cl; nodes = λ ks c cl. refl }
settle_stays Indeterminate e = record { tail = refl; clean = λ ks c cl. cl; nodes = λ ks c cl. refl }
