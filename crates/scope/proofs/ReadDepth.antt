-- The depths that `get_mod` and `show` start with are enough: on a sound store any depth from the node count on gives the same answer and the same
-- text, since each goes from a root to a child of its kind. Assumes nothing.
use mathlib.Core.Path.{◌≡◌, refl, sym, ap, ap₂, ◌∙◌}
use mathlib.Core.List.{List, [], ◌∷◌, ◌++◌, map, Memᴰ}
use mathlib.Core.Bool.{Bool, true, false, not, ◌&&◌, false≢true}
use mathlib.Core.Option.{Option}
use Prim.Native.Nat.{ℕ, zero, suc, ◌≤◌, ◌<◌}
use native.Mathlib.Omega.{arith}
use lib.Dec.{eqb}
use lib.ListN.{length, get_or}
use Rattle.scope.specs.Base.{pick, xor, front, last}
use Rattle.scope.specs.Text.{text}
use Rattle.scope.specs.Names.{Texts, Name, bytes}
use Rattle.scope.specs.Chart.{Env, record_at, TRAIT_FN_SORT}
use Rattle.scope.specs.Types.{Ty, flip}
use Rattle.scope.specs.Kinds.{Head, REF, self_dual}
use Rattle.scope.specs.Nodes.{Kind, State, Known, Unknown, InferenceFailed, Node, at, state_of, state_at, find, kids_of}
use Rattle.scope.specs.Unify.{first_name}
use Rattle.scope.specs.Force.{Mod, mod_of_ref, mod_of_kind, mod_of_state, get_mod_f, get_mod, is_nil}
use Rattle.scope.specs.Show.{Piece, fixed, sub, joined, commas, params, tuple, entries, object, arrow, signature, closure}
use Rattle.scope.specs.Show.{function, if_const, defined_name, kind_pieces, state_pieces, pieces, render, show_f, show}
use Rattle.scope.specs.Sound.{falls}
use Rattle.scope.proofs.TestLaws.{all_of, of-all}
use Rattle.scope.proofs.PairLaws.{front_in, last_in}
use Rattle.scope.proofs.Paths.{find_idx, find_inside}
use Rattle.scope.proofs.Falls.{good_falls}
use Rattle.scope.proofs.SoundLaws.{SoundNodes, nodes_held}

-- one depth further down, fewer than f steps are left
falls_kid : (f : ℕ) (ns : List Node) (t c : Ty) → falls (suc f) ns (find ns t).idx ≡ true
    → Memᴰ c (kids_of (state_at ns t)) → falls f ns (find ns c).idx ≡ true
unfolding falls
falls_kid f ns t c h m = of-all (λ c. falls f ns (find ns c).idx) (kids_of (state_at ns t)) h m

falls_none : (ns : List Node) (r : ℕ) → falls zero ns r ≡ true → ⊥
unfolding falls
falls_none ns r h = false≢true h

falls_more : (ns : List Node) (f f' r : ℕ) → f ≤ f' → falls f ns r ≡ true → falls f' ns r ≡ true
unfolding falls
falls_more ns zero f' r q h = absurd (falls_none ns r h)
falls_more ns (suc f) zero r q h = absurd (omega arith)
falls_more ns (suc f) (suc f') r q h = all_of (λ c. falls f' ns (find ns c).idx) (kids_of (state_of (at ns r)))
    (λ c m. falls_more ns f f' (find ns c).idx (omega arith) (of-all (λ c. falls f ns (find ns c).idx) (kids_of (state_of (at ns r))) h m))

-- `get_mod`
mod_depth : (e : Env) (ns : List Node) (f f' : ℕ) (t : Ty) → falls f ns (find ns t).idx ≡ true → falls f' ns (find ns t).idx ≡ true
    → get_mod_f e f ns t ≡ get_mod_f e f' ns t
unfolding get_mod_f
mod_depth e ns zero f' t h h' = absurd (falls_none ns (find ns t).idx h)
mod_depth e ns (suc f) zero t h h' = absurd (falls_none ns (find ns t).idx h')
mod_depth e ns (suc f) (suc f') t h h' = go (state_at ns t) (λ c m. mod_depth e ns f f' c (falls_kid f ns t c h m) (falls_kid f' ns t c h' m))
  where
    go : (st : State) → ((c : Ty) → Memᴰ c (kids_of st) → get_mod_f e f ns c ≡ get_mod_f e f' ns c)
        → mod_of_state e (get_mod_f e f ns) st ≡ mod_of_state e (get_mod_f e f' ns) st
    go (Unknown p) ih = refl
    go InferenceFailed ih = refl
    go (Known i k) ih = at (eqb k.head.code REF)
      where
        ref : (ts : List Ty) → ((c : Ty) → Memᴰ c ts → get_mod_f e f ns c ≡ get_mod_f e f' ns c) → mod_of_ref (get_mod_f e f ns) ts ≡ mod_of_ref (get_mod_f e f' ns) ts
        ref [] ih = refl
        ref (t ∷ ts) ih = ih t (Memᴰ.head refl)

        at : (b : Bool) → ◌≡◌ {A = Mod} (elim b [ true ↦ mod_of_ref (get_mod_f e f ns) k.kids | false ↦ mod_of_kind e (get_mod_f e f ns) k ])
            (elim b [ true ↦ mod_of_ref (get_mod_f e f' ns) k.kids | false ↦ mod_of_kind e (get_mod_f e f' ns) k ])
        at true = ref k.kids ih
        at false = refl

-- each type to be shown has Q
abbrev Subs : (Ty → Type 0) → List Piece → Type 0
Subs Q [] = Unit {0}
Subs Q (fixed bs ∷ ps) = Subs Q ps
Subs Q (sub t ∷ ps) = Q t × Subs Q ps

render_same : (g g' : Ty → List ℕ) (ps : List Piece) → Subs (λ t. g t ≡ g' t) ps → render g ps ≡ render g' ps
unfolding render
render_same g g' [] h = refl
render_same g g' (fixed bs ∷ ps) h = ap (λ (xs : List ℕ). bs ++ xs) (render_same g g' ps h)
render_same g g' (sub t ∷ ps) h = ap₂ ◌++◌ h.0 (render_same g g' ps h.1)

module _ (Q : Ty → Type 0) where
  -- a list of types, inverted or not
  abbrev All : List Ty → Type 0
  All ts = (i : Bool) (t : Ty) → Memᴰ t ts → Q (flip i t)

  subs_append : (ps qs : List Piece) → Subs Q ps → Subs Q qs → Subs Q (ps ++ qs)
  subs_append [] qs a b = b
  subs_append (fixed bs ∷ ps) qs a b = subs_append ps qs a b
  subs_append (sub t ∷ ps) qs a b = (a.0, subs_append ps qs a.1 b)

  subs_pick : (b : Bool) (ps qs : List Piece) → Subs Q ps → Subs Q qs → Subs Q (pick b ps qs)
  subs_pick true ps qs x y = x
  subs_pick false ps qs x y = y

  -- items
  abbrev Items : List (List Piece) → Type 0
  Items [] = Unit {0}
  Items (x ∷ xs) = Subs Q x × Items xs

  subs_joined : (xs : List (List Piece)) → Items xs → Subs Q (joined xs)
  unfolding joined
  subs_joined [] h = tt
  subs_joined (x ∷ []) h = h.0
  subs_joined (x ∷ y ∷ ys) h = subs_append x _ h.0 (subs_joined (y ∷ ys) h.1)

  all_tail : (t : Ty) (ts : List Ty) → All (t ∷ ts) → All ts
  all_tail t ts h i u m = h i u (Memᴰ.tail m)

  subs_commas : (i : Bool) (ts : List Ty) → All ts → Subs Q (commas i ts)
  subs_commas i ts h = subs_joined (map (λ t. sub (flip i t) ∷ []) ts) (items ts h)
    where
      items : (ts : List Ty) → ((i : Bool) (t : Ty) → Memᴰ t ts → Q (flip i t)) → Items (map (λ t. sub (flip i t) ∷ []) ts)
      items [] h = tt
      items (t ∷ ts) h = ((h i t (Memᴰ.head refl), tt), items ts (λ i u m. h i u (Memᴰ.tail m)))

  items_entries : (x : Texts) (i : Bool) (ns : List (Option Name)) (ts : List Ty) → All ts → Items (entries x i ns ts)
  unfolding entries
  items_entries x i [] ts h = tt
  items_entries x i (n ∷ ns) [] h = tt
  items_entries x i (n ∷ ns) (t ∷ ts) h = ((h i t (Memᴰ.head refl), tt), items_entries x i ns ts (all_tail t ts h))

  subs_params : (i : Bool) (ts : List Ty) → All ts → Subs Q (params i ts)
  subs_params i [] h = tt
  subs_params i (t ∷ ts) h = subs_append (commas i (t ∷ ts)) _ (subs_commas i (t ∷ ts) h) tt

  subs_object : (x : Texts) (i : Bool) (ns : List (Option Name)) (ts : List Ty) → All ts → Subs Q (object x i ns ts)
  subs_object x i ns [] h = tt
  subs_object x i ns (t ∷ ts) h = subs_append (joined (entries x i ns (t ∷ ts))) _ (subs_joined (entries x i ns (t ∷ ts)) (items_entries x i ns (t ∷ ts) h)) tt

  subs_arrow : (nil : Ty → Bool) (ts : List Ty) → All ts → Subs Q (arrow nil ts)
  subs_arrow nil [] h = tt
  subs_arrow nil (t ∷ ts) h = subs_pick (nil t) [] _ tt (h false t (Memᴰ.head refl), tt)

  subs_signature : (x : Texts) (nil : Ty → Bool) (ns : List (Option Name)) (ts : List Ty) → All ts → Subs Q (signature x nil ns ts)
  subs_signature x nil ns ts h = subs_append (joined (entries x false ns (front ts))) _
      (subs_joined (entries x false ns (front ts)) (items_entries x false ns (front ts) (λ i t m. h i t (front_in ts t m))))
      (subs_arrow nil (last ts) (λ i t m. h i t (last_in ts t m)))

  subs_if_const : (e : Env) (nil : Ty → Bool) (i : Bool) (k : Head) (ts : List Ty) → All ts → Subs Q (if_const e nil i k ts)
  subs_if_const e nil i k [] h = tt
  subs_if_const e nil i k (t ∷ []) h = tt
  subs_if_const e nil i k (t ∷ u ∷ us) h =
      (h i t (Memᴰ.head refl), subs_pick (nil u) [] _ tt (h i u (Memᴰ.tail (Memᴰ.head refl)), tt))

  subs_at : (pss : List (List Piece)) (n : ℕ) → Items pss → Subs Q (get_or pss n [])
  subs_at [] n h = tt
  subs_at (ps ∷ pss) zero h = h.0
  subs_at (ps ∷ pss) (suc n) h = subs_at pss n h.1

  subs_kind : (e : Env) (nil : Ty → Bool) (i : Bool) (k : Kind) → All k.kids → Subs Q (kind_pieces e nil i k)
  unfolding kind_pieces
  subs_kind e nil i k h =
      let ts : List Ty = k.kids in
      let p = subs_params i ts h in
      let f = subs_pick (eqb (record_at e k.head.number).sort TRAIT_FN_SORT)
      (fixed (text "fn ") ∷ fixed (bytes e.texts (record_at e (record_at e k.head.number).trait).path) ∷ fixed (text "::")
      ∷ fixed (bytes e.texts (record_at e k.head.number).name) ∷ [])
      (fixed (text "fn ") ∷ fixed (bytes e.texts (record_at e k.head.number).path) ∷ []) tt tt in
      let s = subs_signature e.texts nil k.head.names ts h in
      let q = subs_if_const e nil i k.head ts h in
      let c = subs_commas i ts h in
      let t = subs_append (commas i ts) (fixed (pick (eqb (length ts) 1) (text ",)") (text ")")) ∷ []) c tt in
      let o = subs_object e.texts i k.head.names ts h in
      subs_at
      ((fixed (first_name e.texts k.head.names) ∷ [])
      ∷ tuple i ts
      ∷ object e.texts i k.head.names ts
      ∷ defined_name e i k.head ts
      ∷ defined_name e i k.head ts
      ∷ defined_name e i k.head ts
      ∷ defined_name e i k.head ts
      ∷ function e (record_at e k.head.number)
      ∷ closure e nil k.head ts
      ∷ (fixed (text "&") ∷ commas i ts)
      ∷ (fixed (text ".") ∷ fixed (first_name e.texts k.head.names) ∷ [])
      ∷ if_const e nil i k.head ts
      ∷ (fixed (text "!") ∷ [])
      ∷ (fixed (text "_") ∷ [])
      ∷ (fixed (text "??") ∷ [])
      ∷ [])
      k.head.code
      (tt, (t, (o, (p, (p, (p, (p, (f, (s, (c, (tt, (q, (tt, (tt, (tt, tt)))))))))))))))

-- the types that a type's text shows are children of its root's kind
subs_pieces : (Q : Ty → Type 0) (e : Env) (ns : List Node) (t : Ty)
    → ((i : Bool) (c : Ty) → Memᴰ c (kids_of (state_at ns t)) → Q (flip i c)) → Subs Q (pieces e ns t)
unfolding pieces
subs_pieces Q e ns t h = go (state_at ns t) h
  where
    go : (st : State) → ((i : Bool) (c : Ty) → Memᴰ c (kids_of st) → Q (flip i c)) → Subs Q (state_pieces e (is_nil ns) (find ns t) st)
    go (Unknown p) h = tt
    go InferenceFailed h = tt
    go (Known j k) h = subs_pick Q (xor j (find ns t).inv && not (self_dual k.head)) _ _ (subs_kind Q e (is_nil ns) false k h)
        (subs_kind Q e (is_nil ns) (xor j (find ns t).inv) k h)

-- `show`
show_depth : (e : Env) (ns : List Node) (f f' : ℕ) (t : Ty) → falls f ns (find ns t).idx ≡ true → falls f' ns (find ns t).idx ≡ true
    → show_f e f ns t ≡ show_f e f' ns t
unfolding show_f
show_depth e ns zero f' t h h' = absurd (falls_none ns (find ns t).idx h)
show_depth e ns (suc f) zero t h h' = absurd (falls_none ns (find ns t).idx h')
show_depth e ns (suc f) (suc f') t h h' = render_same (show_f e f ns) (show_f e f' ns) (pieces e ns t)
    (subs_pieces (λ t. show_f e f ns t ≡ show_f e f' ns t) e ns t
    (λ i c m. show_depth e ns f f' (flip i c) (same f i c (falls_kid f ns t c h m)) (same f' i c (falls_kid f' ns t c h' m))))
  where
    same : (f : ℕ) (i : Bool) (c : Ty) → falls f ns (find ns c).idx ≡ true → falls f ns (find ns (flip i c)).idx ≡ true
    same f i c h = rw (find_idx ns (flip i c) ∙ sym (find_idx ns c)) h

module _ (e : Env) {ns : List Node} (ok : SoundNodes e ns) (t : Ty) (ht : t.idx < length ns) (f : ℕ) (h : length ns ≤ f) where
  falling : falls (length ns) ns (find ns t).idx ≡ true
  falling = good_falls ns ok.forest ok.good (nodes_held ok) (find ns t).idx (find_inside ok.forest t ht)

  further : falls f ns (find ns t).idx ≡ true
  further = falls_more ns (length ns) f (find ns t).idx h falling

  pub get_mod_depth : get_mod_f e f ns t ≡ get_mod e ns t
  unfolding get_mod
  get_mod_depth = mod_depth e ns f (length ns) t further falling

  pub show_text_depth : show_f e f ns t ≡ show e ns t
  unfolding show
  show_text_depth = show_depth e ns f (length ns) t further falling
