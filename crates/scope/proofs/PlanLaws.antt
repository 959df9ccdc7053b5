-- What the theory uses of `plan`, for two kinds that can be made. Assumes nothing.
use mathlib.Core.Path.{◌≡◌, refl, sym, ap, subst, ◌∙◌}
use mathlib.Core.List.Memᴰ
use mathlib.Core.List.{List, [], ◌∷◌, map, Memᴰ}
use mathlib.Core.Bool.{Bool, true, false, not, ◌&&◌, ◌||◌, true≢false, and-eq-true_iff}
use mathlib.Core.Option.{Option}
use mathlib.Core.Logic.{◌≢◌, ◌⊎◌, inl, inr}
use Prim.Native.Nat.{ℕ}
use native.Mathlib.Omega.{arith}
use lib.Dec.{eqb, ltb, leb}
use lib.ListN.{length}
use borrow.Author.Tests.{eqb-true, eqb-false, eq-eqb, ne_eqb}
use Rattle.scope.specs.Base.{pick, all}
use Rattle.scope.specs.Limits.{MAX_WIDTH, KINDS}
use Rattle.scope.specs.Names.{Texts, Name, bytes_or, named, eq_bytes, ascending}
use Rattle.scope.specs.Chart.{Env}
use Rattle.scope.specs.Types.{Ty, flip}
use Rattle.scope.specs.Kinds.{Head, Row, row_of, shape_fits, flex_ok, number_ok, flag_of, self_dual, object_names_ok, names_ok, makeable, defined, flag_is, OBJECT, CLOSURE, KEY, DEFAULT}
use Rattle.scope.specs.Nodes.{Kind}
use Rattle.scope.specs.Answers.{Success, Failure, Indeterminate}
use Rattle.scope.specs.Unify.{Plan, answers, zipped, run_plan, object_plan, signature_plan, kids_plan, first_name, same_head, crosses, is_error, plan}
use Rattle.scope.specs.Trees.{TreeHead, has_names, tree_head, tree_dual, trees, Val, val, vals, build, invert_if}
use Rattle.scope.proofs.TestLaws.{eq_bool_lem}
use Rattle.scope.proofs.NameLaws.{eq_bytes_lem, bytes_eq}
use Rattle.scope.proofs.PairLaws.{Betweens, between_nil, between_pick, run_between, signature_between, shared_between, whole}
use Rattle.scope.proofs.PairLaws.{run_whole, run_lengths, signature_whole, signature_lengths, shared_whole, object_names}
use Rattle.scope.proofs.TreeLaws.{invert_dual, invert_mark, val_flip, trees_vals, trees_inverts_if, inverts_if, inverts_if_cons, fcons_head, fcons_tail, node_mark, node_kids, build_heads}

-- a kind that 4 and 5 let through, with the chart's flag
pub record Makeable (e : Env) (k : Kind) : Type 0 where
  pub made : makeable e.texts k.head (length k.kids) ≡ true
  pub def : defined e k.head ≡ true
  pub flag : flag_is e k.head ≡ true

-- the flag is the chart's, so the tree's self-duality is the kind's
pub dual_tree : (e : Env) (k : Kind) → Makeable e k → tree_dual e (tree_head e.texts k.head) ≡ self_dual k.head
unfolding tree_dual tree_head self_dual flag_is
dual_tree e k o = rw (eq_bool_lem k.head.dual (flag_of e k.head.code k.head.number) o.flag)

plan_between : (x : Texts) (k m : Kind) (i : Bool) → Betweens i k.kids m.kids (plan x k m i).pairs
unfolding plan kids_plan object_plan
plan_between x k m i =
    between_pick (is_error k.head || is_error m.head) (answers Indeterminate) _ between_nil
    (between_pick (same_head x k.head m.head && (not i || crosses k.head)) (kids_plan x i k m) (answers Failure)
    (between_pick (eqb k.head.code OBJECT) (object_plan x i k.head.names k.kids m.head.names m.kids) _
    (shared_between x i k.head.names k.kids m.head.names m.kids)
    (between_pick (eqb k.head.code CLOSURE) (signature_plan i k.kids m.kids) (run_plan i k.kids m.kids)
    (signature_between i k.kids m.kids) (run_between i k.kids m.kids)))
    between_nil)

-- each pair's first type is a child of the first kind
pub plan_left : (x : Texts) (k m : Kind) (i : Bool) (p : Ty × Ty) → Memᴰ p (plan x k m i).pairs → Memᴰ p.0 k.kids
plan_left x k m i p w = (plan_between x k m i p w).left

-- and its second is a child of the second, inverted if i
pub plan_right : (x : Texts) (k m : Kind) (i : Bool) (p : Ty × Ty) → Memᴰ p (plan x k m i).pairs
    → (y : Ty) × Memᴰ y m.kids × (p.1 ≡ flip i y)
plan_right x k m i p w = let b = plan_between x k m i p w in (b.other, b.right, b.turned)

-- where nothing answers against it: the same head as trees have it, all children in order, and the inversions agree or the kind is self-dual
pub record Agrees (x : Texts) (k m : Kind) (i : Bool) (l : Plan) : Type 0 where
  pub heads : tree_head x k.head ≡ tree_head x m.head
  pub codes : k.head.code ≡ m.head.code
  pub duals : self_dual k.head ≡ self_dual m.head
  pub lengths : length k.kids ≡ length m.kids
  pub pairs : l.pairs ≡ zipped i k.kids m.kids
  pub crossed : i ≡ true → crosses k.head ≡ true

-- what can be made of an Object's and a Key's names
pub names_made : (x : Texts) (h : Head) (n : ℕ) → makeable x h n ≡ true → names_ok x (row_of h.code).names h.names n ≡ true
unfolding makeable
names_made x h n q =
    let r : Row = row_of h.code in
    let fn : Bool = flex_ok h.code h.flex && number_ok r.number h.number in
    let ns : Bool = names_ok x r.names h.names n in
    let q₁ = ((and-eq-true_iff (ltb h.code KINDS) (leb n MAX_WIDTH && (shape_fits r.shape n && (ns && fn)))).0 q).1 in
    let q₂ = ((and-eq-true_iff (leb n MAX_WIDTH) (shape_fits r.shape n && (ns && fn))).0 q₁).1 in
    let q₃ = ((and-eq-true_iff (shape_fits r.shape n) (ns && fn)).0 q₂).1 in
    ((and-eq-true_iff ns fn).0 q₃).0

object_made : (x : Texts) (h : Head) (n : ℕ) → makeable x h n ≡ true → h.code ≡ OBJECT
    → (length h.names ≡ n) × (ascending (map (bytes_or x) h.names) ≡ true)
unfolding names_ok row_of object_names_ok
object_made x h n q c =
    let w : (eqb (length h.names) n && object_names_ok x h.names) ≡ true
    = subst (λ (d : ℕ). names_ok x (row_of d).names h.names n ≡ true) c (names_made x h n q) in
    let p = (and-eq-true_iff (eqb (length h.names) n) (object_names_ok x h.names)).0 w in
    (eqb-true (length h.names) n p.0, ((and-eq-true_iff (all (named x) h.names) (ascending (map (bytes_or x) h.names))).0 p.1).1)

key_made : (x : Texts) (h : Head) (n : ℕ) → makeable x h n ≡ true → h.code ≡ KEY → length h.names ≡ 1
unfolding names_ok row_of
key_made x h n q c =
    let w : (eqb (length h.names) 1 && all (named x) h.names) ≡ true
    = subst (λ (d : ℕ). names_ok x (row_of d).names h.names n ≡ true) c (names_made x h n q) in
    eqb-true (length h.names) 1 ((and-eq-true_iff (eqb (length h.names) 1) (all (named x) h.names)).0 w).0

-- equal heads of trees
tree_names : (x : Texts) (h : Head) → has_names h.code ≡ true → (tree_head x h).names ≡ map (bytes_or x) h.names
unfolding tree_head
tree_names x h d = rw d

head_codes : (x : Texts) (h l : Head) → tree_head x h ≡ tree_head x l → h.code ≡ l.code
unfolding tree_head
head_codes x h l q = ap (λ (t : TreeHead). t.code) q

head_names : (x : Texts) (h l : Head) → tree_head x h ≡ tree_head x l → has_names h.code ≡ true → map (bytes_or x) h.names ≡ map (bytes_or x) l.names
head_names x h l q d =
    sym (tree_names x h d) ∙ ap (λ (t : TreeHead). t.names) q ∙ tree_names x l (subst (λ (c : ℕ). has_names c ≡ true) (head_codes x h l q) d)

has_names_lem : (c : ℕ) → has_names c ≡ true → (c ≡ OBJECT) ⊎ (c ≡ KEY)
has_names_lem c d = go (eqb c OBJECT) refl d
  where
    go : (b : Bool) → eqb c OBJECT ≡ b → (b || eqb c KEY) ≡ true → (c ≡ OBJECT) ⊎ (c ≡ KEY)
    go true q d = inl (eqb-true c OBJECT q)
    go false q d = inr (eqb-true c KEY d)

heads_equal : (x : Texts) (h l : Head) → h.code ≡ l.code → h.number ≡ l.number
    → (has_names h.code ≡ true → map (bytes_or x) h.names ≡ map (bytes_or x) l.names) → tree_head x h ≡ tree_head x l
unfolding tree_head
heads_equal x h l c n f = λ j. record { code = c j; number = n j; names = names (has_names h.code) refl j }
  where
    names : (b : Bool) → has_names h.code ≡ b → (tree_head x h).names ≡ (tree_head x l).names
    names true d = rw (d, ← c, d) (f d)
    names false d = rw (d, ← c, d)

-- a Key's name is its first
first_names : (x : Texts) (ns ms : List (Option Name)) → map (bytes_or x) ns ≡ map (bytes_or x) ms → first_name x ns ≡ first_name x ms
first_names x [] [] q = refl
first_names x [] (m ∷ ms) q = let z : ◌≡◌ {A = ℕ} 0 1 = cc in absurd (omega arith)
first_names x (n ∷ ns) [] q = let z : ◌≡◌ {A = ℕ} 0 1 = cc in absurd (omega arith)
first_names x (n ∷ ns) (m ∷ ms) q = cc

only_names : (x : Texts) (ns ms : List (Option Name)) → length ns ≡ 1 → length ms ≡ 1 → first_name x ns ≡ first_name x ms
    → map (bytes_or x) ns ≡ map (bytes_or x) ms
only_names x [] ms p r q = absurd (omega arith)
only_names x (n ∷ ns) [] p r q = absurd (omega arith)
only_names x (n ∷ n' ∷ ns) (m ∷ ms) p r q = absurd (omega arith)
only_names x (n ∷ []) (m ∷ m' ∷ ms) p r q = absurd (omega arith)
only_names x (n ∷ []) (m ∷ []) p r q = ap (λ (b : List ℕ). b ∷ []) q

record SameHeads (x : Texts) (h l : Head) : Type 0 where
  codes : h.code ≡ l.code
  numbers : h.number ≡ l.number
  keys : h.code ≡ KEY → first_name x h.names ≡ first_name x l.names

same_heads : (x : Texts) (h l : Head) → same_head x h l ≡ true → SameHeads x h l
unfolding same_head
same_heads x h l s =
    let key : Bool = not (eqb h.code KEY) || eq_bytes (first_name x h.names) (first_name x l.names) in
    let p = (and-eq-true_iff (eqb h.code l.code) (eqb h.number l.number && key)).0 s in
    let r = (and-eq-true_iff (eqb h.number l.number) key).0 p.1 in
    record {
      codes = eqb-true h.code l.code p.0;
      numbers = eqb-true h.number l.number r.0;
      keys = λ k. eq_bytes_lem (first_name x h.names) (first_name x l.names) (rw (eq-eqb h.code KEY k) at r.1);
    }

heads_same : (x : Texts) (h l : Head) → tree_head x h ≡ tree_head x l → same_head x h l ≡ true
unfolding same_head tree_head
heads_same x h l q =
    rw (eq-eqb h.code l.code (head_codes x h l q), eq-eqb h.number l.number (ap (λ (t : TreeHead). t.number) q))
    (go (eqb h.code KEY) refl)
  where
    go : (b : Bool) → eqb h.code KEY ≡ b → (not b || eq_bytes (first_name x h.names) (first_name x l.names)) ≡ true
    go true k = bytes_eq (first_names x h.names l.names (head_names x h l q (rw (eqb-true h.code KEY k))))
    go false k = refl

-- the children of kinds with equal heads and lengths: all pairs
kids_whole : (x : Texts) (k m : Kind) (i : Bool) → makeable x k.head (length k.kids) ≡ true → makeable x m.head (length m.kids) ≡ true
    → tree_head x k.head ≡ tree_head x m.head → length k.kids ≡ length m.kids → kids_plan x i k m ≡ whole i k.kids m.kids
unfolding kids_plan object_plan
kids_whole x k m i mk mm q e = go (eqb k.head.code OBJECT) (eqb k.head.code CLOSURE) refl
  where
    object : k.head.code ≡ OBJECT → object_plan x i k.head.names k.kids m.head.names m.kids ≡ whole i k.kids m.kids
    object c =
        let ok = object_made x k.head (length k.kids) mk c in
        let om = object_made x m.head (length m.kids) mm (sym (head_codes x k.head m.head q) ∙ c) in
        let ns = head_names x k.head m.head q (rw c) in
        let w = shared_whole x i k.head.names k.kids m.head.names m.kids ns om.1 ok.0 om.0 in
        rw (w, eq-eqb (length k.kids) (length m.kids) e)

    go : (b c : Bool) → eqb k.head.code OBJECT ≡ b
        → pick b (object_plan x i k.head.names k.kids m.head.names m.kids) (pick c (signature_plan i k.kids m.kids) (run_plan i k.kids m.kids)) ≡ whole i k.kids m.kids
    go true c o = object (eqb-true k.head.code OBJECT o)
    go false true o = signature_whole i k.kids m.kids e
    go false false o = run_whole i k.kids m.kids e

-- and back, where nothing answers against it
record SameKids (x : Texts) (k m : Kind) : Type 0 where
  lengths : length k.kids ≡ length m.kids
  names : k.head.code ≡ OBJECT → map (bytes_or x) k.head.names ≡ map (bytes_or x) m.head.names

kids_same : (x : Texts) (k m : Kind) (i : Bool) → makeable x k.head (length k.kids) ≡ true → makeable x m.head (length m.kids) ≡ true
    → k.head.code ≡ m.head.code → (kids_plan x i k m).base ≡ Success → SameKids x k m
unfolding kids_plan
kids_same x k m i mk mm q b = go (eqb k.head.code OBJECT) (eqb k.head.code CLOSURE) refl b
  where
    go : (o c : Bool) → eqb k.head.code OBJECT ≡ o
        → (pick o (object_plan x i k.head.names k.kids m.head.names m.kids) (pick c (signature_plan i k.kids m.kids) (run_plan i k.kids m.kids))).base ≡ Success
        → SameKids x k m
    go true c o b =
        let code = eqb-true k.head.code OBJECT o in
        let ok = object_made x k.head (length k.kids) mk code in
        let om = object_made x m.head (length m.kids) mm (sym q ∙ code) in
        let s = object_names x i k.head.names k.kids m.head.names m.kids ok.0 om.0 ok.1 om.1 b in
        record { lengths = s.lengths; names = λ c. s.names }
    go false true o b = record { lengths = signature_lengths i k.kids m.kids b; names = λ c. absurd (eqb-false k.head.code OBJECT o c) }
    go false false o b = record { lengths = run_lengths i k.kids m.kids b; names = λ c. absurd (eqb-false k.head.code OBJECT o c) }

-- an Object's names and a Key's, where both are alike
same_names : (x : Texts) (k m : Kind) → makeable x k.head (length k.kids) ≡ true → makeable x m.head (length m.kids) ≡ true
    → SameHeads x k.head m.head → SameKids x k m → has_names k.head.code ≡ true
    → map (bytes_or x) k.head.names ≡ map (bytes_or x) m.head.names
same_names x k m mk mm s t d = go (has_names_lem k.head.code d)
  where
    go : (k.head.code ≡ OBJECT) ⊎ (k.head.code ≡ KEY) → map (bytes_or x) k.head.names ≡ map (bytes_or x) m.head.names
    go (inl o) = t.names o
    go (inr o) =
        let nk = key_made x k.head (length k.kids) mk o in
        let nm = key_made x m.head (length m.kids) mm (sym s.codes ∙ o) in
        only_names x k.head.names m.head.names nk nm (s.keys o)

-- what a plan is
data Planned (x : Texts) (k m : Kind) (i : Bool) : Plan → Type 0 where
  stopped : Planned x k m i (answers Indeterminate)
  apart : (same_head x k.head m.head && (not i || crosses k.head)) ≡ false → Planned x k m i (answers Failure)
  alike : same_head x k.head m.head ≡ true → (i ≡ true → crosses k.head ≡ true) → Planned x k m i (kids_plan x i k m)

planned : (x : Texts) (k m : Kind) (i : Bool) → Planned x k m i (plan x k m i)
unfolding plan
planned x k m i = go (is_error k.head || is_error m.head) (same_head x k.head m.head && (not i || crosses k.head)) refl
  where
    cross : (not i || crosses k.head) ≡ true → i ≡ true → crosses k.head ≡ true
    cross h t = rw t at h

    go : (b c : Bool) → (same_head x k.head m.head && (not i || crosses k.head)) ≡ c
        → Planned x k m i (pick b (answers Indeterminate) (pick c (kids_plan x i k m) (answers Failure)))
    go true c q = stopped
    go false true q = let h = (and-eq-true_iff (same_head x k.head m.head) (not i || crosses k.head)).0 q in alike h.0 (cross h.1)
    go false false q = apart q

pub plan_success : (e : Env) (k m : Kind) (i : Bool) → Makeable e k → Makeable e m → (plan e.texts k m i).base ≡ Success
    → Agrees e.texts k m i (plan e.texts k m i)
plan_success e k m i ok om b = go (planned e.texts k m i) b
  where
    go : {l : Plan} → Planned e.texts k m i l → l.base ≡ Success → Agrees e.texts k m i l
    go stopped b = let z : ◌≡◌ {A = ℕ} 0 1 = cc in absurd (omega arith)
    go (apart h) b = let z : ◌≡◌ {A = ℕ} 0 1 = cc in absurd (omega arith)
    go (alike h c) b =
        let s = same_heads e.texts k.head m.head h in
        let t = kids_same e.texts k m i ok.made om.made s.codes b in
        let q = heads_equal e.texts k.head m.head s.codes s.numbers (same_names e.texts k m ok.made om.made s t) in
        record {
          heads = q;
          codes = s.codes;
          duals = sym (dual_tree e k ok) ∙ ap (tree_dual e) q ∙ dual_tree e m om;
          lengths = t.lengths;
          pairs = ap (λ (l : Plan). l.pairs) (kids_whole e.texts k m i ok.made om.made q t.lengths);
          crossed = c;
        }

-- equal trees' children, where the inversions agree or the kind is self-dual
build_vals : (e : Env) (v : Val) (k m : Kind) (i : Bool) → Makeable e k → build e v k ≡ invert_if e i (build e v m) → (i ≡ true → crosses k.head ≡ true)
    → vals e v k.kids ≡ inverts_if e i (vals e v m.kids)
unfolding build crosses
build_vals e v k m false ok q c = node_kids q
build_vals e v k m true ok q c =
    let d : self_dual k.head ≡ true = ((and-eq-true_iff (self_dual k.head) (not (eqb k.head.code DEFAULT))).0 (c refl)).0 in
    let t : tree_dual e (tree_head e.texts m.head) ≡ true = sym (ap (tree_dual e) (build_heads e v k m true q)) ∙ dual_tree e k ok ∙ d in
    node_kids (q ∙ invert_dual e (tree_head e.texts m.head) false (vals e v m.kids) t)

vals_lengths : (e : Env) (v : Val) (i : Bool) (xs ys : List Ty) → vals e v xs ≡ inverts_if e i (vals e v ys) → length xs ≡ length ys
vals_lengths e v i xs ys q = sym (trees_vals e v xs) ∙ ap trees q ∙ trees_inverts_if e i (vals e v ys) ∙ trees_vals e v ys

zipped_equal : (e : Env) (v : Val) (i : Bool) (xs ys : List Ty) → vals e v xs ≡ inverts_if e i (vals e v ys)
    → (p : Ty × Ty) → Memᴰ p (zipped i xs ys) → val e v p.0 ≡ val e v p.1
unfolding zipped
zipped_equal e v i [] ys q p w = absurd (Memᴰ.not-nil w)
zipped_equal e v i (x ∷ xs) [] q p w = absurd (Memᴰ.not-nil w)
zipped_equal e v i (x ∷ xs) (y ∷ ys) q p (Memᴰ.head h) =
    ap (λ (z : Ty × Ty). val e v z.0) h ∙ fcons_head (q ∙ inverts_if_cons e i (val e v y) (vals e v ys)) ∙ sym (val_flip e v i y)
    ∙ sym (ap (λ (z : Ty × Ty). val e v z.1) h)
zipped_equal e v i (x ∷ xs) (y ∷ ys) q p (Memᴰ.tail w) = zipped_equal e v i xs ys (fcons_tail (q ∙ inverts_if_cons e i (val e v y) (vals e v ys))) p w

-- equal trees: all children in order, where the inversions agree or the kind is self-dual
trees_whole : (e : Env) (v : Val) (k m : Kind) (i : Bool) → Makeable e k → Makeable e m → build e v k ≡ invert_if e i (build e v m)
    → (i ≡ true → crosses k.head ≡ true) → kids_plan e.texts i k m ≡ whole i k.kids m.kids
trees_whole e v k m i ok om q c =
    kids_whole e.texts k m i ok.made om.made (build_heads e v k m i q) (vals_lengths e v i k.kids m.kids (build_vals e v k m i ok q c))

-- equal trees have equal pairs, whatever the plan's answer
pub plan_equal : (e : Env) (v : Val) (k m : Kind) (i : Bool) → Makeable e k → Makeable e m
    → build e v k ≡ invert_if e i (build e v m) → (p : Ty × Ty) → Memᴰ p (plan e.texts k m i).pairs → val e v p.0 ≡ val e v p.1
plan_equal e v k m i ok om q p w = go (planned e.texts k m i) w
  where
    go : {l : Plan} → Planned e.texts k m i l → Memᴰ p l.pairs → val e v p.0 ≡ val e v p.1
    go stopped w = absurd (Memᴰ.not-nil w)
    go (apart h) w = absurd (Memᴰ.not-nil w)
    go (alike h c) w = zipped_equal e v i k.kids m.kids (build_vals e v k m i ok q c) p
        (subst (λ (l : Plan). Memᴰ p l.pairs) (trees_whole e v k m i ok om q c) w)

-- kinds that are not self-dual have no tree equal to another's inverse
crosses_of : (e : Env) (v : Val) (k m : Kind) (i : Bool) → Makeable e k → k.head.code ≢ DEFAULT → build e v k ≡ invert_if e i (build e v m)
    → (not i || crosses k.head) ≡ true
unfolding crosses build
crosses_of e v k m false ok nd q = refl
crosses_of e v k m true ok nd q = go (self_dual k.head) refl
  where
    go : (b : Bool) → self_dual k.head ≡ b → (b && not (eqb k.head.code DEFAULT)) ≡ true
    go true d = rw (ne_eqb k.head.code DEFAULT nd)
    go false d = node_mark (q ∙ invert_mark e (tree_head e.texts m.head) false (vals e v m.kids)
        (sym (ap (tree_dual e) (build_heads e v k m true q)) ∙ dual_tree e k ok ∙ d))

-- a plan that starts from Failure has no equal trees, unless by a Default
pub plan_fail : (e : Env) (v : Val) (k m : Kind) (i : Bool) → Makeable e k → Makeable e m → k.head.code ≢ DEFAULT
    → (plan e.texts k m i).base ≡ Failure → build e v k ≡ invert_if e i (build e v m) → ⊥
plan_fail e v k m i ok om nd b q = go (planned e.texts k m i) b
  where
    go : {l : Plan} → Planned e.texts k m i l → l.base ≡ Failure → ⊥
    go stopped b = let z : ◌≡◌ {A = ℕ} 0 1 = cc in omega arith
    go (apart h) b = true≢false (sym ((and-eq-true_iff (same_head e.texts k.head m.head) (not i || crosses k.head)).1
        (heads_same e.texts k.head m.head (build_heads e v k m i q), crosses_of e v k m i ok nd q)) ∙ h)
    go (alike h c) b = let w : kids_plan e.texts i k m ≡ whole i k.kids m.kids = trees_whole e v k m i ok om q c in
        let z : ◌≡◌ {A = ℕ} 0 1 = cc (ap (λ (l : Plan). l.base) w) in omega arith
