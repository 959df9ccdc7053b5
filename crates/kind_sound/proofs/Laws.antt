-- What the tests of kinds and nodes read: of the environment the chart's records and the texts, of a kind's children in `defined` and `flag_is` nothing, of
-- the nodes only how many there are. And a node with more than 255 children is not sound, so its width may be tested before all else.
-- Assumes nothing.
use mathlib.Core.Path.{◌≡◌, refl, ap, subst, fun_ext}
use mathlib.Core.Bool.{Bool, true, ◌&&◌}
use mathlib.Core.List.{List, []}
use Prim.Native.Nat.{ℕ, ◌≤◌}
use native.Mathlib.Omega.{arith}
use lib.Dec.{ltb, leb}
use lib.ListN.{length}
use borrow.Author.Tests.{leb-true}
use Rattle.scope.specs.Base.{all}
use Rattle.scope.specs.Limits.{MAX_WIDTH, KINDS}
use Rattle.scope.specs.Chart.{Env}
use Rattle.scope.specs.Types.{Ty}
use Rattle.scope.specs.Names.{Texts}
use Rattle.scope.specs.Kinds.{Head, row_of, shape_fits, names_ok, flex_ok, number_ok, makeable, defined, flag_of, flag_is}
use Rattle.scope.specs.Nodes as nodes
use Rattle.scope.specs.Sound.{in_store, kind_sound, node_sound}
use Rattle.names.specs.Place.{texts_by}
use Rattle.chart.specs.Words.{records_of}
use Rattle.chart.specs.Env.{env_of, chart_in, chart_alone, chart_lent}
use Rattle.chart.specs.declared.Beside.{Beside}
use Rattle.chart.specs.declared.Env as lent
use Rattle.layout.specs.Meaning.{cell_of, kind_means, node_means}
use Rattle.layout.specs.declared.Kind.{Kind}
use Rattle.layout.specs.declared.TypeState.TheVariants.{Known, Unknown, InferenceFailed}
use Rattle.layout.specs.declared.TypeNode.{TypeNode}
use Rattle.layout.specs.declared.TypeNode.TheVariants.{Root, Child}
use Rattle.layout.proofs.Lists.{and_left, and_right}
use Rattle.layout.proofs.ChildLaws.{length_kids}

-- what is read of the environment

module _ (e e' : Env) (same : e.records ≡ e'.records) where
  defined_by : (h h' : Head) → h.code ≡ h'.code → h.number ≡ h'.number → defined e h ≡ defined e' h'
  unfolding defined
  defined_by h h' c n = rw (same, c, n)

  -- the chart's flag of a code and a number
  pub flag_reads : (c n : ℕ) → flag_of e c n ≡ flag_of e' c n
  unfolding flag_of
  flag_reads c n = rw same

  flag_by : (h h' : Head) → h.code ≡ h'.code → h.number ≡ h'.number → h.dual ≡ h'.dual → flag_is e h ≡ flag_is e' h'
  unfolding flag_is
  flag_by h h' c n d = rw (c, n, d, flag_reads h'.code h'.number)

-- a kind's definition and flag are read in the chart's records alone, whatever stands beside them, and not in its children
module _ (e : Env) (ws : List ℕ) (same : e.records ≡ records_of ws) (ks : List ℕ) (k : Kind) where
  pub defined_chart : defined e (kind_means ks k).head ≡ defined (chart_alone ws) (kind_means [] k).head
  unfolding kind_means
  defined_chart = defined_by e (chart_alone ws) same (kind_means ks k).head (kind_means [] k).head refl refl

  pub flag_chart : flag_is e (kind_means ks k).head ≡ flag_is (chart_alone ws) (kind_means [] k).head
  unfolding kind_means
  flag_chart = flag_by e (chart_alone ws) same (kind_means ks k).head (kind_means [] k).head refl refl refl

-- the tests of a kind, one after the other

pub made_tests : (x : Texts) (ks : List ℕ) (k : Kind) (n : ℕ)
    → makeable x (kind_means ks k).head n
    ≡ (ltb k.code KINDS
    && (leb n MAX_WIDTH
    && (shape_fits (row_of k.code).shape n
    && (names_ok x (row_of k.code).names (kind_means ks k).head.names n
    && (flex_ok k.code k.flex && number_ok (row_of k.code).number k.number)))))
unfolding makeable kind_means
made_tests x ks k n = refl

pub kind_tests : (l : lent.Env) (ks : List ℕ) (k : Kind) (ns : List nodes.Node)
    → kind_sound (chart_lent l) ns (kind_means ks k)
    ≡ (makeable (texts_by l.texts) (kind_means ks k).head k.count
    && (defined (chart_alone l.chart.now) (kind_means [] k).head
    && (flag_is (chart_alone l.chart.now) (kind_means [] k).head && all (in_store ns) (kind_means ks k).kids)))
unfolding kind_sound
kind_tests l ks k ns =
    rw (length_kids ks k, defined_chart (chart_lent l) l.chart.now refl ks k, flag_chart (chart_lent l) l.chart.now refl ks k)

-- what is read of the nodes

inside_length : (ns ns' : List nodes.Node) → length ns ≡ length ns' → (ts : List Ty) → all (in_store ns) ts ≡ all (in_store ns') ts
inside_length ns ns' e ts = ap (λ (n : ℕ). all (λ (t : Ty). ltb t.idx n) ts) e

module _ (e e' : Env) (ns ns' : List nodes.Node) (same : e.records ≡ e'.records) (texts' : e.texts ≡ e'.texts) (len : length ns ≡ length ns') where
  -- a kind's test reads the records, the texts and the number of nodes
  kind_sound_reads : (k : nodes.Kind) → kind_sound e ns k ≡ kind_sound e' ns' k
  unfolding kind_sound
  kind_sound_reads k = cc (defined_by e e' same k.head k.head refl refl, flag_by e e' same k.head k.head refl refl refl, inside_length ns ns' len k.kids)

  node_sound_reads : (v : nodes.Node) → node_sound e ns v ≡ node_sound e' ns' v
  node_sound_reads (nodes.Root (nodes.Known i k) z) = kind_sound_reads k
  node_sound_reads (nodes.Root (nodes.Unknown s) z) = refl
  node_sound_reads (nodes.Root nodes.InferenceFailed z) = refl
  node_sound_reads (nodes.Child t) = ap (ltb t.idx) len

-- the children of a sound kind are inside
pub kind_inside : (e : Env) (ns : List nodes.Node) (k : nodes.Kind) → kind_sound e ns k ≡ true → all (in_store ns) k.kids ≡ true
unfolding kind_sound
kind_inside e ns k h =
    let f : Bool = flag_is e k.head in
    and_right f _ (and_right (defined e k.head) _ (and_right (makeable e.texts k.head (length k.kids)) _ h))

-- the nodes' test does not look at what stands beside the chart
pub nodes_beside : (ws : List ℕ) (b : Beside) (rule text : List ℕ) (ns : List nodes.Node)
    → all (node_sound (env_of ws b rule text) ns) ns ≡ all (node_sound (chart_in ws rule text) ns) ns
nodes_beside ws b rule text ns =
    let same = node_sound_reads (env_of ws b rule text) (chart_in ws rule text) ns ns refl refl refl in
    ap (λ (p : nodes.Node → Bool). all p ns) (fun_ext same)

-- "255 children a kind"

made_narrow : (e : Env) (ns : List nodes.Node) (k : nodes.Kind) → kind_sound e ns k ≡ true → length k.kids ≤ MAX_WIDTH
unfolding kind_sound makeable
made_narrow e ns k h =
    let m : Bool = makeable e.texts k.head (length k.kids) in
    leb-true (length k.kids) MAX_WIDTH (and_left (leb (length k.kids) MAX_WIDTH) _ (and_right (ltb k.head.code KINDS) _ (and_left m _ h)))

-- a node without a kind has no words for children
pub sound_narrow : (e : Env) (ks : List ℕ) (ns : List nodes.Node) (v : TypeNode) → node_sound e ns (node_means ks v) ≡ true → (cell_of v).count ≤ MAX_WIDTH
sound_narrow e ks ns (Root (Known i k) z) h = subst (λ (n : ℕ). n ≤ MAX_WIDTH) (length_kids ks k) (made_narrow e ns (kind_means ks k) h)
sound_narrow e ks ns (Root (Unknown s) z) h = omega arith
sound_narrow e ks ns (Root InferenceFailed z) h = omega arith
sound_narrow e ks ns (Child t) h = omega arith
