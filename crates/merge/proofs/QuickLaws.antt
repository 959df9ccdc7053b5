-- Merging over words: in clean words another size word is another size, and two roots without kinds merge as scope's `bound` says. One law for each way out.
-- Assumes nothing.
use mathlib.Core.Path.{◌≡◌, refl, ap, ap₂, sym, ◌∙◌}
use mathlib.Core.Bool.{Bool, true, false, not, ◌||◌, false≢true}
use mathlib.Core.List.{List}
use mathlib.Core.Option.{none}
use Prim.Native.Nat.{ℕ, ◌+◌, ◌*◌, ◌<◌, ◌≤◌}
use native.Mathlib.Omega.{arith}
use lib.Dec.{eqb, ltb}
use lib.ListN.{length, get_or, drop, set, length-map, length-set, length-drop}
use lib.Seq.{length-take-le}
use borrow.Author.Tests.{eq-eqb, eqb-true, lt-ltb}
use Rattle.scope.specs.Base.{pick}
use Rattle.scope.specs.Limits.{NONE}
use Rattle.scope.specs.Types.{Ty, ty_of, flip}
use Rattle.scope.specs.Kinds.{TUPLE}
use Rattle.scope.specs.Nodes as nodes
use Rattle.scope.specs.Unify as scope
use Rattle.types.specs.declared.«Type».{«Type»}
use Rattle.layout.specs.Words.{node_words, decode, slots}
use Rattle.layout.specs.Meaning.{cell_in, words_of, cell_of, cell_words, paste_at, read_at, put_at, node_state, held_in, kind_means, node_means, state_means, Clean}
use Rattle.layout.specs.declared.Kind.{Kind}
use Rattle.layout.specs.declared.TypeState.{TypeState}
use Rattle.layout.specs.declared.TypeState.TheVariants.{Known, Unknown, InferenceFailed}
use Rattle.layout.specs.declared.TypeNode.{TypeNode}
use Rattle.layout.specs.declared.TypeNode.TheVariants.{Root, Child}
use Rattle.layout.proofs.Lists.{drop_past}
use Rattle.layout.proofs.ChildLaws.{length_slots}
use Rattle.layout.proofs.Cells.{words_back, clean_words, says}
use Rattle.layout.proofs.Laws.{tail_put, put_past, read_node}
use Rattle.layout.proofs.HeldLaws.{state_read, state_fits_lem}
use Rattle.merge.specs.Quick.{Bare}
use Rattle.merge.specs.declared.Rank.{Rank}
use Rattle.merge.specs.declared.Rank.TheVariants as rank
use Rattle.std.specs.Prelude.{Some, None, ◌&&◌, ◌⊎◌}
use Rattle.std.proofs.Common.{inl, inr}
use Rattle.merge.specs.Meaning.{state_at, size_at, Joined, Merged, Bound}
use Rattle.roots.specs.Nil.{nil_by}
use Rattle.merge.specs.Quick.{bare_in, bare_within, bare_node, rank_in, lone_node, nil_node, Resized, Sums, Quick, Tried, OneNil}
use Rattle.merge.proofs.Laws.{twice}

-- a size alone

cell_read : (ws ks : List ℕ) (c n : ℕ) → Clean ws ks c n → (i : ℕ) → i < n → cell_words ws i ≡ words_of (cell_of (read_at ws n i))
unfolding read_at
cell_read ws ks c n cl i h =
    let r : node_words n ≤ length ws = cl.room in
    let k : length (cell_words ws i) ≡ 12 = length-take-le 12 (drop (i * 12) ws) (simp length-drop (omega arith)) in
    let s = says ks c (cell_in (cell_words ws i)) (sym (clean_words ws ks c i) ∙ cl.each i h) in
    rw (lt-ltb i n h) (sym (ap words_of s.back ∙ words_back (cell_words ws i) k))

module _ (ws : List ℕ) (n i z : ℕ) (room : node_words n ≤ length ws) where
  pub resized_past : n ≤ i → Resized ws ws n i z
  resized_past h = record { tail = refl; put = λ ks c cl. sym (put_past ws n room i (Root (state_at ws n i) z) h) }

  module _ (h : i < n) where
    cell_length : length (cell_words ws i) ≡ 12
    cell_length = length-take-le 12 (drop (i * 12) ws) (simp length-drop (omega arith))

    paste_tail : (p : List ℕ) → length p ≡ 12 → drop (node_words n) (paste_at ws i p) ≡ drop (node_words n) ws
    paste_tail p k = drop_past (i * 12) 12 ws p k (omega arith) (n * 12) (omega arith)

    -- the words p after a clean node's
    module _ (p : List ℕ → List ℕ) (long : (s : List ℕ) → length (p s) ≡ length s) (ws' : List ℕ) (q : ws' ≡ paste_at ws i (p (cell_words ws i))) where
      resized_by : ((v : TypeNode) → cell_words ws i ≡ words_of (cell_of v) → p (words_of (cell_of v)) ≡ words_of (cell_of (Root (node_state v) z))) → Resized ws ws' n i z
      unfolding put_at
      resized_by f = record {
        tail = ap (drop (node_words n)) q ∙ paste_tail (p (cell_words ws i)) (long (cell_words ws i) ∙ cell_length);
        put = λ ks c cl.
            let e = cell_read ws ks c n cl i h in
            rw (lt-ltb i n h) (q ∙ ap (paste_at ws i) (ap p e ∙ f (read_at ws n i) e));
      }

    root_words : (v : TypeNode) → (get_or (set (words_of (cell_of v)) 2 z) 0 0 ≡ 0 → ⊥) → set (words_of (cell_of v)) 2 z ≡ words_of (cell_of (Root (node_state v) z))
    root_words (Root (Known j k) y) f = refl
    root_words (Root (Unknown s) y) f = refl
    root_words (Root InferenceFailed y) f = refl
    root_words (Child t) f = absurd (f refl)

    child_words : (v : TypeNode) → get_or (set (words_of (cell_of v)) 2 z) 0 0 ≡ 0 → set (set (set (words_of (cell_of v)) 2 z) 0 1) 1 NONE ≡ words_of (cell_of (Root (node_state v) z))
    child_words (Root (Known j k) y) f = absurd (omega arith)
    child_words (Root (Unknown s) y) f = absurd (omega arith)
    child_words (Root InferenceFailed y) f = absurd (omega arith)
    child_words (Child t) f = refl

    pub resized_root : {ws' : List ℕ} → (get_or (set (cell_words ws i) 2 z) 0 0 ≡ 0 → ⊥) → ws' ≡ paste_at ws i (set (cell_words ws i) 2 z) → Resized ws ws' n i z
    resized_root {ws'} t q =
        resized_by (λ s. set s 2 z) (λ s. length-set s 2 z) ws' q (λ v e. root_words v (λ g. t (ap (λ (s : List ℕ). get_or (set s 2 z) 0 0) e ∙ g)))

    pub resized_child : {ws' : List ℕ} → get_or (set (cell_words ws i) 2 z) 0 0 ≡ 0 → ws' ≡ paste_at ws i (set (set (set (cell_words ws i) 2 z) 0 1) 1 NONE) → Resized ws ws' n i z
    resized_child {ws'} t q =
        resized_by (λ s. set (set (set s 2 z) 0 1) 1 NONE) (λ s. length-set (set (set s 2 z) 0 1) 1 NONE ∙ (length-set (set s 2 z) 0 1 ∙ length-set s 2 z)) ws' q
        (λ v e. child_words v (ap (λ (s : List ℕ). get_or (set s 2 z) 0 0) (sym e) ∙ t))

-- `hang`: as `join`, with the root's own state

pub hang_law : (ws ws₁ ws₂ : List ℕ) (n : ℕ) (w l : Ty) (z i j : ℕ) (b : Bool) (p : «Type») → Sums ws n w l z → length ws₁ ≡ length ws
    → b ≡ l.inv → ty_of p.0 ≡ flip b w → i ≡ w.idx → j ≡ l.idx → Resized ws ws₁ n i z → ws₂ ≡ put_at ws₁ n j (Child p)
    → Joined ws ws₂ n w l (state_at ws n w.idx)
hang_law ws ws₁ ws₂ n w l z i j b p s k eb ep ei ej r e =
    let st : TypeState = state_at ws n w.idx in
    let t = twice ws n w l st s.room p (ep ∙ ap (λ (d : Bool). flip d w) eb) in
    let f : (ks : List ℕ) (c : ℕ) → Clean ws ks c n → ws₂ ≡ put_at (put_at ws n w.idx (Root st (size_at ws n w.idx + size_at ws n l.idx))) n l.idx (Child p) =
    λ ks c cl. e ∙ rw (ej, r.put ks c cl, ei, s.sum) refl in
    record {
      tail = ap (drop (node_words n)) e ∙ (tail_put ws₁ n (rw k s.room) j (Child p) ∙ r.tail);
      clean = λ ks c cl g. rw (f ks c cl) (t.clean ks c cl g);
      nodes = λ ks c cl g. rw (f ks c cl) (t.nodes ks c cl g);
    }

-- roots without kinds

bare_of : (t : Bool) (p : Bare) (y : ℕ) → Some y ≡ pick t p None → p ≡ Some y
bare_of true p y e = sym e
bare_of false p y e = let f : ◌≡◌ {A = ℕ} 0 1 = cc in absurd (omega arith)

bare_means : (ks : List ℕ) (v : TypeNode) (z : ℕ) → bare_in v ≡ Some z → bare_node (node_means ks v) ≡ true
bare_means ks (Root (Known i k) y) z e = let f : ◌≡◌ {A = ℕ} 0 1 = cc in absurd (omega arith)
bare_means ks (Root (Unknown s) y) z e = refl
bare_means ks (Root InferenceFailed y) z e = refl
bare_means ks (Child t) z e = let f : ◌≡◌ {A = ℕ} 0 1 = cc in absurd (omega arith)

bare_lone : (v : nodes.Node) → bare_node v ≡ true → lone_node v ≡ true
bare_lone (nodes.Root (nodes.Known i k) z) e = cc
bare_lone (nodes.Root (nodes.Unknown s) z) e = refl
bare_lone (nodes.Root nodes.InferenceFailed z) e = refl
bare_lone (nodes.Child u) e = cc

pub bare_none : (t : Ty) (v : nodes.Node) → bare_node v ≡ true → nodes.kind_of t (nodes.state_of v) ≡ none
bare_none t (nodes.Root (nodes.Known i k) z) e = cc
bare_none t (nodes.Root (nodes.Unknown s) z) e = refl
bare_none t (nodes.Root nodes.InferenceFailed z) e = refl
bare_none t (nodes.Child u) e = cc

kept_bare : (ns : List nodes.Node) (w a b : Ty) → bare_node (nodes.at ns a.idx) ≡ true → bare_node (nodes.at ns b.idx) ≡ true
    → scope.kept ns w (scope.kind_in ns a) (scope.kind_in ns b) ≡ scope.state_in ns w
kept_bare ns w a b f g = ap₂ (scope.kept ns w) (bare_none a (nodes.at ns a.idx) f) (bare_none b (nodes.at ns b.idx) g)

module _ (ws : List ℕ) (n : ℕ) (a b : Ty) (y z : ℕ) (here : bare_in (read_at ws n a.idx) ≡ Some y) (there : bare_in (read_at ws n b.idx) ≡ Some z) where
  module _ (ks : List ℕ) (c : ℕ) (cl : Clean ws ks c n) where
    bare_first : bare_node (nodes.at (decode ws ks n) a.idx) ≡ true
    bare_first = ap bare_node (sym (read_node ws ks c n cl a.idx)) ∙ bare_means ks (read_at ws n a.idx) y here

    bare_second : bare_node (nodes.at (decode ws ks n) b.idx) ≡ true
    bare_second = ap bare_node (sym (read_node ws ks c n cl b.idx)) ∙ bare_means ks (read_at ws n b.idx) z there

    kept_own : (w : Ty) → state_means ks (state_at ws n w.idx) ≡ scope.kept (decode ws ks n) w (scope.kind_in (decode ws ks n) a) (scope.kind_in (decode ws ks n) b)
    kept_own w = state_read ws ks c n cl w.idx ∙ sym (kept_bare (decode ws ks n) w a b bare_first bare_second)

  bare_quick : (ws' : List ℕ) → (a.idx ≡ b.idx → ⊥) → Merged ws ws' n a b (state_at ws n a.idx) (state_at ws n b.idx) → Quick ws ws' n a b
  bare_quick ws' h m = record {
    apart = h;
    first = λ ks c cl. bare_lone (nodes.at (decode ws ks n) a.idx) (bare_first ks c cl);
    second = λ ks c cl. bare_lone (nodes.at (decode ws ks n) b.idx) (bare_second ks c cl);
    bare = λ ks c cl. rw (bare_first ks c cl) refl;
    bound = record {
      tail = m.tail;
      clean = λ ks c cl. m.clean ks c cl (state_fits_lem ws ks c n cl a.idx) (state_fits_lem ws ks c n cl b.idx);
      nodes = λ ks c cl.
          m.nodes ks c cl (state_fits_lem ws ks c n cl a.idx) (state_fits_lem ws ks c n cl b.idx)
          ∙ ap₂ (scope.merge (decode ws ks n) a b) (kept_own ks c cl a) (kept_own ks c cl b);
    };
  }

-- what was read at the number i of a type's node
read_bare : (ws : List ℕ) (n : ℕ) {i j y : ℕ} → i ≡ j → Some y ≡ bare_within ws n i → bare_in (read_at ws n j) ≡ Some y
read_bare ws n {i} {j} {y} ei e = ap (λ (k : ℕ). bare_in (read_at ws n k)) (sym ei) ∙ bare_of (ltb i n) (bare_in (read_at ws n i)) y e

pub tried_merged : {ws ws' : List ℕ} {n : ℕ} {a b : Ty} {i j y z : ℕ} → i ≡ a.idx → j ≡ b.idx → true ≡ not (eqb i j) → Some y ≡ bare_within ws n i
    → Some z ≡ bare_within ws n j → Merged ws ws' n a b (state_at ws n a.idx) (state_at ws n b.idx) → Tried ws ws' n a b true
tried_merged {ws} {ws'} {n} {a} {b} {i} {j} {y} {z} ei ej h e f m = record {
  merged = λ t. bare_quick ws n a b y z (read_bare ws n ei e) (read_bare ws n ej f) ws' (λ q. false≢true (sym (rw (eq-eqb i j (ei ∙ (q ∙ sym ej))) at h))) m;
  stays = λ t. let z : ◌≡◌ {A = ℕ} 0 1 = cc in absurd (omega arith);
}

-- `slight`: one root has a kind without children, and one has no kind

or-true : (p : Bool) {q : Bool} → q ≡ true → (p || q) ≡ true
or-true true e = refl
or-true false e = e

no_kids : (ks : List ℕ) (k : Kind) → eqb k.count 0 ≡ true → eqb (length (kind_means ks k).kids) 0 ≡ true
unfolding kind_means
no_kids ks k e = rw (length-map (slots ks k.first k.count) (λ s. ty_of s.type), length_slots ks k.first k.count) e

bare_lone_apart : rank.Bare ≡ rank.Lone → ⊥
bare_lone_apart e = let z : ◌≡◌ {A = ℕ} 0 1 = cc in absurd (omega arith)

bare_more : rank.Bare ≡ rank.More → ⊥
bare_more e = let z : ◌≡◌ {A = ℕ} 0 1 = cc in absurd (omega arith)

lone_more : rank.Lone ≡ rank.More → ⊥
lone_more e = let z : ◌≡◌ {A = ℕ} 0 1 = cc in absurd (omega arith)

rank_lone : (ks : List ℕ) (v : TypeNode) → rank_in v ≡ rank.Lone → lone_node (node_means ks v) ≡ true
rank_lone ks (Root (Known i k) z) e = by_count (eqb k.count 0) refl e
  where
    by_count : (t : Bool) → eqb k.count 0 ≡ t → pick t rank.Lone rank.More ≡ rank.Lone → eqb (length (kind_means ks k).kids) 0 ≡ true
    by_count true t h = no_kids ks k t
    by_count false t h = absurd (lone_more (sym h))
rank_lone ks (Root (Unknown s) z) e = refl
rank_lone ks (Root InferenceFailed z) e = refl
rank_lone ks (Child t) e = absurd (lone_more (sym e))

rank_bare : (ks : List ℕ) (v : TypeNode) → rank_in v ≡ rank.Bare → bare_node (node_means ks v) ≡ true
rank_bare ks (Root (Known i k) z) e = by_count (eqb k.count 0) e
  where
    by_count : (t : Bool) → pick t rank.Lone rank.More ≡ rank.Bare → ◌≡◌ {A = Bool} false true
    by_count true h = absurd (bare_lone_apart (sym h))
    by_count false h = absurd (bare_more (sym h))
rank_bare ks (Root (Unknown s) z) e = refl
rank_bare ks (Root InferenceFailed z) e = refl
rank_bare ks (Child t) e = absurd (bare_more (sym e))

module _ (ws ks : List ℕ) (c n : ℕ) (cl : Clean ws ks c n) (i : ℕ) where
  ranked_bare : rank_in (read_at ws n i) ≡ rank.Bare → bare_node (nodes.at (decode ws ks n) i) ≡ true
  ranked_bare e = ap bare_node (sym (read_node ws ks c n cl i)) ∙ rank_bare ks (read_at ws n i) e

  ranked_lone : (rank_in (read_at ws n i) ≡ rank.Bare) ⊎ (rank_in (read_at ws n i) ≡ rank.Lone) → lone_node (nodes.at (decode ws ks n) i) ≡ true
  ranked_lone (inl e) = bare_lone (nodes.at (decode ws ks n) i) (ranked_bare e)
  ranked_lone (inr e) = ap lone_node (sym (read_node ws ks c n cl i)) ∙ rank_lone ks (read_at ws n i) e

-- of two nodes' ranks one is Bare and the other Lone
abbrev Mixed : Rank → Rank → Type 0
Mixed x y = ((x ≡ rank.Bare) × (y ≡ rank.Lone)) ⊎ ((x ≡ rank.Lone) × (y ≡ rank.Bare))

pub tried_slight : {ws ws₁ ws' : List ℕ} {n : ℕ} {a b : Ty} {r : Bool} → Tried ws ws₁ n a b r → r ≡ false
    → Mixed (rank_in (read_at ws₁ n a.idx)) (rank_in (read_at ws₁ n b.idx)) → Bound ws₁ ws' n a b → Tried ws ws' n a b true
tried_slight {ws} {ws₁} {ws'} {n} {a} {b} t f h m = record {
  merged = λ e. rw (← t.stays f) merges;
  stays = λ e. let z : ◌≡◌ {A = ℕ} 0 1 = cc in absurd (omega arith);
}
  where
    same : a.idx ≡ b.idx → rank_in (read_at ws₁ n a.idx) ≡ rank_in (read_at ws₁ n b.idx)
    same e = ap (λ (i : ℕ). rank_in (read_at ws₁ n i)) e

    go : Mixed (rank_in (read_at ws₁ n a.idx)) (rank_in (read_at ws₁ n b.idx)) → Quick ws₁ ws' n a b
    go (inl (p, q)) = record {
      apart = λ e. bare_lone_apart (sym p ∙ (same e ∙ q));
      first = λ ks c cl. ranked_lone ws₁ ks c n cl a.idx (inl p);
      second = λ ks c cl. ranked_lone ws₁ ks c n cl b.idx (inr q);
      bare = λ ks c cl. rw (ranked_bare ws₁ ks c n cl a.idx p) refl;
      bound = m;
    }
    go (inr (p, q)) = record {
      apart = λ e. bare_lone_apart (sym q ∙ (sym (same e) ∙ p));
      first = λ ks c cl. ranked_lone ws₁ ks c n cl a.idx (inr p);
      second = λ ks c cl. ranked_lone ws₁ ks c n cl b.idx (inl q);
      bare = λ ks c cl. or-true (bare_node (nodes.at (decode ws₁ ks n) a.idx)) (ranked_bare ws₁ ks c n cl b.idx q);
      bound = m;
    }

    merges : Quick ws₁ ws' n a b
    merges = go h

-- `one_nil`

both_picked : (b c : Bool) → b && c ≡ true → pick b c false ≡ true
both_picked true c e = e
both_picked false c e = e

nil_means : (ks : List ℕ) (v : TypeNode) → nil_by (held_in v) ≡ true → nil_node (node_means ks v) ≡ true
unfolding kind_means
nil_means ks (Root (Known i k) z) e =
    rw (length-map (slots ks k.first k.count) (λ s. ty_of s.type), length_slots ks k.first k.count) (both_picked (eqb k.code TUPLE) (eqb k.count 0) e)
nil_means ks (Root (Unknown s) z) e = e
nil_means ks (Root InferenceFailed z) e = e
nil_means ks (Child t) e = e

pub one_nil : {ws : List ℕ} {n : ℕ} {a b : Ty} {i j : ℕ} {r : Bool} → i ≡ a.idx → j ≡ b.idx → true ≡ eqb i j
    → r ≡ nil_by (held_in (read_at ws n i)) → OneNil ws n a b r
one_nil {ws} {n} {a} {b} {i} {j} ei ej same f = record {
  one = λ q. sym ei ∙ (eqb-true i j (sym same) ∙ ej);
  nil = λ q ks c cl.
      ap nil_node (sym (read_node ws ks c n cl a.idx))
      ∙ nil_means ks (read_at ws n a.idx) (ap (λ (m : ℕ). nil_by (held_in (read_at ws n m))) (sym ei) ∙ (sym f ∙ q));
}
