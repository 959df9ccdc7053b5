-- A node's twelve words as a cell: the cell is known by its fields, scope's cell at i is made of the words at i, and a cell that scope reads as a
-- node is read as the same node by the code. Every law of nodes goes through `node_words_lem` and `clean_words`, which speak of the words at i alone.
-- Assumes nothing.
use mathlib.Core.Path.{◌≡◌, refl, ap, sym, ◌∙◌, subst}
use mathlib.Core.Bool.{Bool, true, false, ◌&&◌}
use mathlib.Core.Option.{none, some}
use mathlib.Core.List.{List, [], ◌∷◌}
use Prim.Native.Nat.{ℕ, zero, suc, ◌+◌, ◌*◌, ◌-◌, ◌<◌, ◌≤◌}
use native.Mathlib.Omega.{arith}
use lib.Dec.{eqb, leb, leb-zero}
use lib.ListN.{length, get_or, take, drop, length-drop}
use lib.Seq.{sets, get_or-take, get_or-drop, length-take-le, ext_get_or}
use borrow.Rule.Slice.PartMut.{put_mid}
use native.Mathlib.Nat.{add-sub_cancel_left}
use borrow.Author.Tests.{eq-eqb, ne_eqb, lt-ltb, eqb-true, eqb-false, leb-true}
use Rattle.scope.specs.Base.{pick, is_some, or_else}
use Rattle.scope.specs.Limits.{NONE}
use Rattle.scope.specs.Types.{ty_of}
use Rattle.scope.specs.Nodes as nodes
use Rattle.scope.specs.Sound.{zeros, node_in, kind_bare, names_clean, kind_in}
use Rattle.layout.specs.Words.{node_words, node_field, slot_at, cell_at, node_at, node_clean}
use Rattle.layout.specs.Meaning.{flag_word, cell_by, cell_in, words_of, node_of, plain_cell, cell_of, cell_kind, cell_words, paste_at}
use Rattle.layout.specs.Meaning.{read_at, put_at, held_in, cell_means, kind_cell, kind_means, node_means, kind_fits, node_fits, type_of}
use Rattle.layout.specs.declared.Cell.{Cell}
use Rattle.layout.specs.declared.Kind.{Kind}
use Rattle.std.specs.Prelude.{Some, None}
use Rattle.layout.specs.declared.TypeState.TheVariants.{Known, Unknown, InferenceFailed}
use Rattle.layout.specs.declared.TypeNode.{TypeNode}
use Rattle.layout.specs.declared.TypeNode.TheVariants.{Root, Child}
use Rattle.layout.proofs.Lists.{sets_all, and_both, and_left, and_right, length_from, get_from}

-- children: a part's words, and zeros past the end

-- field k of node i is word k of its part
pub field_word : (ws : List ℕ) (i k : ℕ) → k < 12 → get_or (cell_words ws i) k 0 ≡ node_field ws i k
field_word ws i k h = rw (get_or-take 12 (drop (i * 12) ws) k 0 h, get_or-drop)

-- cells that agree in each field are one
pub cell_ext : (f g : ℕ → ℕ) → ((k : ℕ) → k < 12 → f k ≡ g k) → cell_by f ≡ cell_by g
cell_ext f g h = rw (
  h 0 (omega arith),
  h 1 (omega arith),
  h 2 (omega arith),
  h 3 (omega arith),
  h 4 (omega arith),
  h 5 (omega arith),
  h 6 (omega arith),
  h 7 (omega arith),
  h 8 (omega arith),
  h 9 (omega arith),
  h 10 (omega arith),
  h 11 (omega arith),
)

-- twelve words are those of their cell
pub words_back : (s : List ℕ) → length s ≡ 12 → words_of (cell_in s) ≡ s
words_back s e =
    ext_get_or 0 (words_of (cell_in s)) s (sym e) (λ k h. get_from (λ (j : ℕ). get_or s j 0) 0 12 k 0 h ∙ ap (λ (j : ℕ). get_or s j 0) (omega arith))

cell_fields : (ws : List ℕ) (i : ℕ) → cell_in (cell_words ws i) ≡ cell_by (node_field ws i)
cell_fields ws i = cell_ext (λ k. get_or (cell_words ws i) k 0) (node_field ws i) (field_word ws i)

-- the node that a cell says, and whether it may stand in a store with c children
abbrev pub cell_node : List ℕ → Cell → nodes.Node
cell_node ks x = or_else (node_in (cell_means ks x)) (nodes.Root (nodes.Unknown NONE) 0)

abbrev pub cell_first : Cell → ℕ
cell_first x = pick (eqb x.tag 3) x.link 0

abbrev pub cell_clean : List ℕ → ℕ → Cell → Bool
cell_clean ks c x = leb (cell_first x + x.count) c && is_some (node_in (cell_means ks x))

pub node_words_lem : (ws ks : List ℕ) (i : ℕ) → node_at ws ks i ≡ cell_node ks (cell_in (cell_words ws i))
unfolding node_at cell_at
node_words_lem ws ks i = sym (ap (cell_node ks) (cell_fields ws i))

pub clean_words : (ws ks : List ℕ) (c i : ℕ) → node_clean ws ks c i ≡ cell_clean ks c (cell_in (cell_words ws i))
unfolding node_clean cell_at
clean_words ws ks c i = sym (ap (cell_clean ks c) (cell_fields ws i))

pub cell_words_lem : (ws ks : List ℕ) (i : ℕ) → cell_at ws ks i ≡ cell_means ks (cell_in (cell_words ws i))
unfolding cell_at
cell_words_lem ws ks i = sym (ap (cell_means ks) (cell_fields ws i))

-- what a clean cell says is what the code reads in it, and the code could have written it
pub record Says (ks : List ℕ) (c : ℕ) (x : Cell) : Type 0 where
  pub node : node_in (cell_means ks x) ≡ some (node_means ks (node_of x))
  pub fits : node_fits ks c (node_of x) ≡ true
  pub back : cell_of (node_of x) ≡ x

-- the same cell with a tag that is known
abbrev pub retag : ℕ → Cell → Cell
retag t x = record {
  tag = t;
  link = x.link;
  size = x.size;
  inv = x.inv;
  code = x.code;
  number = x.number;
  dual = x.dual;
  flex = x.flex;
  name = x.name;
  count = x.count;
}

some_by : (b : Bool) (v : nodes.Node) → is_some (pick b (some v) none) ≡ true → pick b (some v) none ≡ some v
some_by true v e = refl
some_by false v e = cc

some_true : (b : Bool) (v : nodes.Node) → is_some (pick b (some v) none) ≡ true → b ≡ true
some_true true v e = refl
some_true false v e = e

-- flags, and zeros

flag_back : (b : Bool) → eqb (flag_word b) 1 ≡ b
flag_back true = refl
flag_back false = refl

flag_small : (b : Bool) → leb (flag_word b) 1 ≡ true
flag_small true = refl
flag_small false = refl

flag_by : (b : Bool) (w : ℕ) → eqb w 1 ≡ b → w ≤ 1 → flag_word b ≡ w
flag_by true w q h = sym (eqb-true w 1 q)
flag_by false w q h = let z : w ≡ 1 → ⊥ = eqb-false w 1 q in omega arith

flag_word_lem : (w : ℕ) → leb w 1 ≡ true → flag_word (eqb w 1) ≡ w
flag_word_lem w h = flag_by (eqb w 1) w refl (leb-true w 1 h)

zeros_get : (l : List ℕ) → zeros l ≡ true → (k : ℕ) → get_or l k 0 ≡ 0
zeros_get [] e k = refl
zeros_get (x ∷ l) e zero = eqb-true x 0 (and_left (eqb x 0) (zeros l) e)
zeros_get (x ∷ l) e (suc k) = zeros_get l (and_right (eqb x 0) (zeros l) e) k

-- a cell without a kind has zeros for one
module _ (ks : List ℕ) (t : ℕ) (x : Cell) where
  abbrev fields_of : List ℕ
  fields_of = x.inv ∷ x.code ∷ x.number ∷ x.dual ∷ x.flex ∷ []

  abbrev name_words : List ℕ
  name_words = x.name.text ∷ x.name.start ∷ x.name.len ∷ []

  abbrev no_kids : Bool
  no_kids = eqb (length (cell_means ks (retag t x)).kids) 0

  bare_cell : kind_bare (cell_means ks (retag t x)) ≡ true → plain_cell t x.link x.size ≡ retag t x
  bare_cell h =
      let p : (zeros name_words && no_kids) ≡ true = and_right (zeros fields_of) (zeros name_words && no_kids) h in
      let f = zeros_get fields_of (and_left (zeros fields_of) (zeros name_words && no_kids) h) in
      let g = zeros_get name_words (and_left (zeros name_words) no_kids p) in
      let n : x.count ≡ 0 =
      sym (length_from (slot_at ks) (cell_first (retag t x)) x.count) ∙ eqb-true (length (cell_means ks (retag t x)).kids) 0 (and_right (zeros name_words) no_kids p) in
      rw (f 0, f 1, f 2, f 3, f 4, g 0, g 1, g 2, n)

module _ (ks : List ℕ) (c : ℕ) (x : Cell) where
  -- the two halves of cell_clean
  abbrev roomy : Cell → Type 0
  roomy y = leb (cell_first y + y.count) c ≡ true

  abbrev read : Cell → Type 0
  read y = is_some (node_in (cell_means ks y)) ≡ true

  says_child : roomy (retag 0 x) → read (retag 0 x) → Says ks c (retag 0 x)
  unfolding node_in node_of
  says_child r h =
      let b : Bool = kind_bare (cell_means ks (retag 0 x)) in
      let v : nodes.Node = nodes.Child (ty_of x.link) in
      let t : (eqb x.size 0 && b) ≡ true = some_true (eqb x.size 0 && b) v h in
      record {
        node = some_by (eqb x.size 0 && b) v h;
        fits = refl;
        back = ap (plain_cell 0 x.link) (sym (eqb-true x.size 0 (and_left (eqb x.size 0) b t))) ∙ bare_cell ks 0 x (and_right (eqb x.size 0) b t);
      }

  says_unknown : roomy (retag 1 x) → read (retag 1 x) → Says ks c (retag 1 x)
  unfolding node_in node_of
  says_unknown r h =
      let b : Bool = kind_bare (cell_means ks (retag 1 x)) in
      let v : nodes.Node = nodes.Root (nodes.Unknown x.link) x.size in
      record { node = some_by b v h; fits = refl; back = bare_cell ks 1 x (some_true b v h) }

  says_failed : roomy (retag 2 x) → read (retag 2 x) → Says ks c (retag 2 x)
  unfolding node_in node_of
  says_failed r h =
      let b : Bool = kind_bare (cell_means ks (retag 2 x)) in
      let v : nodes.Node = nodes.Root nodes.InferenceFailed x.size in
      let t : (eqb x.link 0 && b) ≡ true = some_true (eqb x.link 0 && b) v h in
      record {
        node = some_by (eqb x.link 0 && b) v h;
        fits = refl;
        back = ap (λ (l : ℕ). plain_cell 2 l x.size) (sym (eqb-true x.link 0 (and_left (eqb x.link 0) b t)))
            ∙ bare_cell ks 2 x (and_right (eqb x.link 0) b t);
      }

  abbrev names_ok : Bool
  names_ok = names_clean (cell_means ks (retag 3 x))

  abbrev known_ok : Bool
  known_ok = leb x.inv 1 && (leb x.dual 1 && names_ok)

  abbrev known_node : nodes.Node
  known_node = nodes.Root (nodes.Known (eqb x.inv 1) (kind_in (cell_means ks (retag 3 x)))) x.size

  says_known : roomy (retag 3 x) → read (retag 3 x) → Says ks c (retag 3 x)
  unfolding node_in node_of kind_means kind_fits
  says_known r h =
      let o : known_ok ≡ true = some_true known_ok known_node h in
      let i : leb x.inv 1 ≡ true = and_left (leb x.inv 1) (leb x.dual 1 && names_ok) o in
      let p : (leb x.dual 1 && names_ok) ≡ true = and_right (leb x.inv 1) (leb x.dual 1 && names_ok) o in
      record {
        node = some_by known_ok known_node h;
        fits = and_both (leb (x.link + x.count) c) names_ok r (and_right (leb x.dual 1) names_ok p);
        back = rw (flag_word_lem x.inv i, flag_word_lem x.dual (and_left (leb x.dual 1) names_ok p));
      }

  says_tag : (t : ℕ) → eqb x.tag t ≡ true → (roomy (retag t x) → read (retag t x) → Says ks c (retag t x)) → roomy x → read x → Says ks c x
  says_tag t q =
      subst (λ (n : ℕ). (roomy (retag n x) → read (retag n x) → Says ks c (retag n x)) → roomy x → read x → Says ks c x)
      (eqb-true x.tag t q) (λ k. k)

  -- a cell whose tag is none of the four says nothing
  says_none : eqb x.tag 0 ≡ false → eqb x.tag 1 ≡ false → eqb x.tag 2 ≡ false → eqb x.tag 3 ≡ false → is_some (node_in (cell_means ks x)) ≡ false
  unfolding node_in
  says_none p q r s = rw (p, q, r, s)

  says_by : (o p q r : Bool) → eqb x.tag 0 ≡ o → eqb x.tag 1 ≡ p → eqb x.tag 2 ≡ q → eqb x.tag 3 ≡ r → roomy x → read x → Says ks c x
  says_by true p q r e f g h = says_tag 0 e says_child
  says_by false true q r e f g h = says_tag 1 f says_unknown
  says_by false false true r e f g h = says_tag 2 g says_failed
  says_by false false false true e f g h = says_tag 3 h says_known
  says_by false false false false e f g h = λ k l. let z : ◌≡◌ {A = ℕ} 0 1 = cc (says_none e f g h) in absurd (omega arith)

  pub says : cell_clean ks c x ≡ true → Says ks c x
  says h =
      let a : Bool = leb (cell_first x + x.count) c in
      let b : Bool = is_some (node_in (cell_means ks x)) in
      says_by (eqb x.tag 0) (eqb x.tag 1) (eqb x.tag 2) (eqb x.tag 3) refl refl refl refl (and_left a b h) (and_right a b h)

-- a node that fits is said by its own cell

pub cell_says : (ks : List ℕ) (c : ℕ) (v : TypeNode) → node_fits ks c v ≡ true → node_in (cell_means ks (cell_of v)) ≡ some (node_means ks v)
unfolding node_in kind_means kind_fits
cell_says ks c (Child t) h = refl
cell_says ks c (Root (Unknown s) z) h = refl
cell_says ks c (Root InferenceFailed z) h = refl
cell_says ks c (Root (Known i k) z) h =
    rw (flag_small i.0, flag_small k.dual, flag_back i.0, flag_back k.dual, and_right (leb (k.first + k.count) c) (names_clean (kind_cell ks k)) h)

cell_room : (ks : List ℕ) (c : ℕ) (v : TypeNode) → node_fits ks c v ≡ true → leb (cell_first (cell_of v) + (cell_of v).count) c ≡ true
unfolding kind_fits
cell_room ks c (Child t) h = leb-zero c
cell_room ks c (Root (Unknown s) z) h = leb-zero c
cell_room ks c (Root InferenceFailed z) h = leb-zero c
cell_room ks c (Root (Known i k) z) h = and_left (leb (k.first + k.count) c) (names_clean (kind_cell ks k)) h

pub cell_clean_lem : (ks : List ℕ) (c : ℕ) (v : TypeNode) → node_fits ks c v ≡ true → cell_clean ks c (cell_of v) ≡ true
cell_clean_lem ks c v h =
    and_both (leb (cell_first (cell_of v) + (cell_of v).count) c) (is_some (node_in (cell_means ks (cell_of v)))) (cell_room ks c v h) (ap is_some (cell_says ks c v h))

-- `node_at` and `held_at`: what the words at i are read as, by their tag

node_child : (c : Cell) → c.tag ≡ 0 → Child (type_of c.link) ≡ node_of c
unfolding node_of
node_child c t = rw (eq-eqb c.tag 0 t)

node_unknown : (c : Cell) → c.tag ≡ 1 → Root (Unknown c.link) c.size ≡ node_of c
unfolding node_of
node_unknown c t = rw t

node_failed : (c : Cell) → c.tag ≡ 2 → Root InferenceFailed c.size ≡ node_of c
unfolding node_of
node_failed c t = rw t

module _ (c : Cell) (zero : c.tag ≡ 0 → ⊥) (one : c.tag ≡ 1 → ⊥) (two : c.tag ≡ 2 → ⊥) where
  node_known : Root (Known (record { 0 = eqb c.inv 1 }) (cell_kind c)) c.size ≡ node_of c
  unfolding node_of
  node_known = rw (ne_eqb c.tag 0 zero, ne_eqb c.tag 1 one, ne_eqb c.tag 2 two)

held_low : (c : Cell) (m : ℕ) → c.tag ≡ m → m ≤ 2 → None ≡ held_in (node_of c)
held_low c zero t h = ap held_in (node_child c t)
held_low c (suc zero) t h = ap held_in (node_unknown c t)
held_low c (suc (suc zero)) t h = ap held_in (node_failed c t)
held_low c (suc (suc (suc m))) t h = absurd (omega arith)

module _ (ws : List ℕ) (n i : ℕ) (h : i < n) {c : Cell} (e : c ≡ cell_in (cell_words ws i)) where
  read_cell : node_of c ≡ read_at ws n i
  unfolding read_at
  read_cell = rw (lt-ltb i n h) (ap node_of e)

  pub read_child : c.tag ≡ 0 → Child (type_of c.link) ≡ read_at ws n i
  read_child t = node_child c t ∙ read_cell

  pub read_unknown : c.tag ≡ 1 → Root (Unknown c.link) c.size ≡ read_at ws n i
  read_unknown t = node_unknown c t ∙ read_cell

  pub read_failed : c.tag ≡ 2 → Root InferenceFailed c.size ≡ read_at ws n i
  read_failed t = node_failed c t ∙ read_cell

  pub read_known : {k : Kind} → (c.tag ≡ 0 → ⊥) → (c.tag ≡ 1 → ⊥) → (c.tag ≡ 2 → ⊥) → k ≡ cell_kind c → Root (Known (record { 0 = eqb c.inv 1 }) k) c.size ≡ read_at ws n i
  read_known x y z f = rw f (node_known c x y z ∙ read_cell)

  pub held_none : c.tag ≤ 2 → None ≡ held_in (read_at ws n i)
  held_none t = held_low c c.tag refl t ∙ ap held_in read_cell

  pub held_kind : {k : Kind} → 2 < c.tag → k ≡ cell_kind c → Some ((record { 0 = eqb c.inv 1 }), k) ≡ held_in (read_at ws n i)
  held_kind t f = rw f (ap held_in (node_known c (λ q. omega arith) (λ q. omega arith) (λ q. omega arith) ∙ read_cell))

-- `put_node`: the words of a cell over the whole part of node i
pub put_words : (ws : List ℕ) (n i : ℕ) → node_words n ≤ length ws → i < n → {c : Cell} (v : TypeNode) → c ≡ cell_of v
    → put_mid (i * 12) (i * 12 + 12 - i * 12) ws (sets (take (i * 12 + 12 - i * 12) (drop (i * 12) ws)) 0 (words_of c)) ≡ put_at ws n i v
unfolding put_at
put_words ws n i room h {c} v e =
    let k : length (cell_words ws i) ≡ 12 = length-take-le 12 (drop (i * 12) ws) (simp length-drop (omega arith)) in
    rw (lt-ltb i n h, add-sub_cancel_left) (ap (paste_at ws i) (sets_all (cell_words ws i) (words_of c) k ∙ ap words_of e))
