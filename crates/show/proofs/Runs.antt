-- Items with commas between them are written one after another, each with what stands before it: a run of children, one after its definition's name, a
-- tuple, an object, a signature, an if const. Assumes nothing.
use mathlib.Core.Path.{◌≡◌, refl, sym, ap, subst, ◌∙◌}
use mathlib.Core.Bool.{Bool, true, false}
use mathlib.Core.List.{List, [], ◌∷◌, ◌++◌, map, append_assoc, append-nil}
use Prim.Native.Nat.{ℕ, zero, suc, ◌+◌, ◌-◌, ◌≤◌, ◌<◌}
use native.Mathlib.Nat.{add-zero, zero-add}
use native.Mathlib.Numerals.{add-one}
use native.Mathlib.Omega.{arith}
use borrow.Author.Tests.{ne_eqb, lt-ltb, le-ltb}
use lib.Dec.{eqb, ltb}
use lib.ListN.{length, length-map}
use Rattle.scope.specs.Base.{pick, from, front, last}
use Rattle.scope.specs.Text.{text}
use Rattle.scope.specs.Names.{Texts, bytes}
use Rattle.scope.specs.Chart.{Env, record_at}
use Rattle.scope.specs.Types.{Ty, flip, ty_of}
use Rattle.scope.specs.Kinds.{Head}
use Rattle.scope.specs.Sound.{slot_name}
use Rattle.scope.specs.Show.{Piece, fixed, sub, render, joined, commas, params, tuple, object, entries, signature, if_const, name_or_dots}
use Rattle.layout.specs.Words.{slot_at, slots}
use Rattle.layout.proofs.ChildLaws.{front_slots}
use Rattle.layout.proofs.ChildLaws.{length_slots}
use Rattle.show_names.specs.Names.{comma, label}
use Rattle.show.specs.Level.{children}

pub render_append : (g : Ty → List ℕ) (ps qs : List Piece) → render g (ps ++ qs) ≡ render g ps ++ render g qs
unfolding render
render_append g [] qs = refl
render_append g (fixed bs ∷ ps) qs = rw (append_assoc, render_append g ps qs)
render_append g (sub t ∷ ps) qs = rw (append_assoc, render_append g ps qs)

suc_zero : (m : ℕ) → eqb (suc m) 0 ≡ false
suc_zero m = ne_eqb (suc m) 0 (λ h. omega arith)

pub comma_suc : (m : ℕ) → comma (suc m) ≡ text ", "
comma_suc m = rw (suc_zero m)

pub map-map : {A B C : Type 0} (f : B → C) (h : A → B) (l : List A) → map f (map h l) ≡ map (λ x. f (h x)) l
map-map f h [] = refl
map-map f h (x ∷ l) = rw (map-map f h l)

-- the last child apart
children_last : (gap item : ℕ → List ℕ) (close : List ℕ) (n j : ℕ) → children gap item close (suc n) j ≡ children gap item (gap (j + n) ++ (item (j + n) ++ close)) n j
unfolding children
children_last gap item close zero j = ap (λ (k : ℕ). gap k ++ (item k ++ close)) (sym (add-zero j))
children_last gap item close (suc n) j =
    let s : j + suc n ≡ suc j + n = omega arith in
    ap (λ (z : List ℕ). gap j ++ (item j ++ z)) (children_last gap item close n (suc j) ∙ ap (λ (k : ℕ). children gap item (gap k ++ (item k ++ close)) n (suc j)) (sym s))

-- a run of items, each at its place
module _ (g : Ty → List ℕ) (F : ℕ → List Piece) (gap item : ℕ → List ℕ) (close : List ℕ) (a N : ℕ)
    (more : (m : ℕ) → suc m < N → text ", " ++ render g (F (a + suc m)) ≡ gap (suc m) ++ item (suc m)) where
  -- after the first
  joined_more : (n j : ℕ) → suc j + n ≤ N → render g (joined (F (a + j) ∷ map F (from (a + suc j) n))) ++ close ≡ render g (F (a + j)) ++ children gap item close n (suc j)
  unfolding joined children render
  joined_more zero j h = refl
  joined_more (suc n) j h =
      let s : suc (a + suc j) ≡ a + suc (suc j) = omega arith in
      let rest : List Piece = joined (F (a + suc j) ∷ map F (from (a + suc (suc j)) n)) in
      let ih : render g rest ++ close ≡ render g (F (a + suc j)) ++ children gap item close n (suc (suc j)) = joined_more n (suc j) (omega arith) in
      ap (λ (z : ℕ). render g (joined (F (a + j) ∷ F (a + suc j) ∷ map F (from z n))) ++ close) s
      ∙ ap (λ (z : List ℕ). z ++ close) (render_append g (F (a + j)) (fixed (text ", ") ∷ rest))
      ∙ append_assoc (render g (F (a + j))) (text ", " ++ render g rest) close
      ∙ ap (λ (z : List ℕ). render g (F (a + j)) ++ z)
      (append_assoc (text ", ") (render g rest) close
      ∙ ap (λ (z : List ℕ). text ", " ++ z) ih
      ∙ sym (append_assoc (text ", ") (render g (F (a + suc j))) (children gap item close n (suc (suc j))))
      ∙ ap (λ (z : List ℕ). z ++ children gap item close n (suc (suc j))) (more j (omega arith))
      ∙ append_assoc (gap (suc j)) (item (suc j)) (children gap item close n (suc (suc j))))

  pub joined_run : (n : ℕ) → n ≤ N → (0 < N → render g (F (a + 0)) ≡ gap 0 ++ item 0) → render g (joined (map F (from a n))) ++ close ≡ children gap item close n 0
  unfolding joined children render
  joined_run zero h first = refl
  joined_run (suc n) h first =
      let z : a ≡ a + 0 = omega arith in
      let s : suc a ≡ a + 1 = omega arith in
      ap (λ (y : ℕ). render g (joined (F y ∷ map F (from (suc a) n))) ++ close) z
      ∙ ap (λ (y : ℕ). render g (joined (F (a + 0) ∷ map F (from y n))) ++ close) s
      ∙ joined_more n 0 (omega arith)
      ∙ ap (λ (y : List ℕ). y ++ children gap item close n 1) (first (omega arith))
      ∙ append_assoc (gap 0) (item 0) (children gap item close n 1)

-- children of a kind, from their place a on
module _ (g : Ty → List ℕ) (x : Texts) (i : Bool) (ks : List ℕ) (a : ℕ) where
  abbrev pub kid : ℕ → List ℕ
  kid j = g (flip i (ty_of (slot_at ks (a + j)).type))

  abbrev pub tys : ℕ → List Ty
  tys n = map (λ s. ty_of s.type) (slots ks a n)

  module _ (gap : ℕ → List ℕ) (plain : (j : ℕ) → gap j ≡ comma j) where
    pub commas_run : (close : List ℕ) (n : ℕ) → render g (commas i (tys n)) ++ close ≡ children gap kid close n 0
    unfolding render
    commas_run close n =
        let F : ℕ → List Piece = λ m. sub (flip i (ty_of (slot_at ks m).type)) ∷ [] in
        let e : map (λ t. sub (flip i t) ∷ []) (tys n) ≡ map F (from a n) = rw (map-map, map-map) in
        rw e (joined_run g F gap kid close a n (λ m h. rw (append-nil, plain (suc m), comma_suc m)) n (omega arith) (λ h. rw (append-nil, plain 0)))

    pub params_run : (n : ℕ) → render g (params i (tys n)) ≡ pick (eqb n 0) [] (text "[") ++ children gap kid (pick (eqb n 0) [] (text "]")) n 0
    unfolding render children
    params_run zero = refl
    params_run (suc n) =
        subst (λ (b : Bool). render g (params i (tys (suc n))) ≡ pick b [] (text "[") ++ children gap kid (pick b [] (text "]")) (suc n) 0) (sym (suc_zero n))
        (ap (λ (z : List ℕ). text "[" ++ z) (render_append g (commas i (tys (suc n))) (fixed (text "]") ∷ []) ∙ commas_run (text "]") (suc n)))

    pub tuple_run : (n : ℕ) → render g (tuple i (tys n)) ≡ text "(" ++ children gap kid (pick (eqb n 1) (text ",)") (text ")")) n 0
    unfolding render
    tuple_run n =
        let l : length (tys n) ≡ n = length-map (slots ks a n) (λ s. ty_of s.type) ∙ length_slots ks a n in
        ap (λ (z : List ℕ). text "(" ++ z)
        (render_append g (commas i (tys n)) (fixed (pick (eqb (length (tys n)) 1) (text ",)") (text ")")) ∷ []) ∙ rw (append-nil, l) (commas_run (pick (eqb n 1) (text ",)") (text ")")) n))

  entries_map : (b n : ℕ)
      → entries x i (map slot_name (slots ks b n)) (map (λ s. ty_of s.type) (slots ks b n))
      ≡ map (λ m. fixed (name_or_dots x (slot_name (slot_at ks m))) ∷ fixed (text ": ") ∷ sub (flip i (ty_of (slot_at ks m).type)) ∷ []) (from b n)
  unfolding entries
  entries_map b zero = refl
  entries_map b (suc n) = rw (entries_map (suc b) n)

  module _ (gap : ℕ → List ℕ) (N : ℕ) (named : (j : ℕ) → j < N → gap j ≡ comma j ++ label x (slot_at ks (a + j))) where
    labelled : (m : ℕ) → label x (slot_at ks (a + m)) ++ kid m ≡ name_or_dots x (slot_name (slot_at ks (a + m))) ++ (text ": " ++ kid m)
    labelled m = append_assoc (name_or_dots x (slot_name (slot_at ks (a + m)))) (text ": ") (kid m)

    entries_run : (close : List ℕ) (n : ℕ) → n ≤ N → render g (joined (entries x i (map slot_name (slots ks a n)) (tys n))) ++ close ≡ children gap kid close n 0
    unfolding render
    entries_run close n h =
        let E : ℕ → List Piece = λ m. fixed (name_or_dots x (slot_name (slot_at ks m))) ∷ fixed (text ": ") ∷ sub (flip i (ty_of (slot_at ks m).type)) ∷ [] in
        rw (entries_map a n)
        (joined_run g E gap kid close a N
        (λ m h. rw (append-nil, named (suc m) h, comma_suc m) (ap (λ (z : List ℕ). text ", " ++ z) (sym (labelled (suc m)))))
        n h (λ h. rw (append-nil, named 0 h) (sym (labelled 0))))

    pub object_run : (n : ℕ) → n ≤ N
        → render g (object x i (map slot_name (slots ks a n)) (tys n)) ≡ pick (eqb n 0) (text "{}") (text "{ ") ++ children gap kid (pick (eqb n 0) [] (text " }")) n 0
    unfolding render children
    object_run zero h = refl
    object_run (suc n) h =
        subst
        (λ (b : Bool). render g (object x i (map slot_name (slots ks a (suc n))) (tys (suc n)))
        ≡ pick b (text "{}") (text "{ ") ++ children gap kid (pick b [] (text " }")) (suc n) 0)
        (sym (suc_zero n))
        (ap (λ (z : List ℕ). text "{ " ++ z)
        (render_append g (joined (entries x i (map slot_name (slots ks a (suc n))) (tys (suc n)))) (fixed (text " }") ∷ []) ∙ entries_run (text " }") (suc n) h))

front_run : (ks : List ℕ) (b n : ℕ) → front (map (λ s. ty_of s.type) (slots ks b (suc n))) ≡ map (λ s. ty_of s.type) (slots ks b n)
front_run ks b zero = refl
front_run ks b (suc n) = ap (λ (z : List Ty). ty_of (slot_at ks b).type ∷ z) (front_run ks (suc b) n)

last_run : (ks : List ℕ) (b n : ℕ) → last (map (λ s. ty_of s.type) (slots ks b (suc n))) ≡ ty_of (slot_at ks (b + n)).type ∷ []
last_run ks b zero = rw (add-zero b)
last_run ks b (suc n) =
    let s : b + suc n ≡ suc b + n = omega arith in
    last_run ks (suc b) n ∙ rw s

-- a signature: its parameters, then its return unless that is nil
module _ (g : Ty → List ℕ) (x : Texts) (nil : Ty → Bool) (ks : List ℕ) (a : ℕ) (gap : ℕ → List ℕ) where
  signature_bare : render g (signature x nil (map slot_name (front (slots ks a 0))) (tys g x false ks a 0)) ≡ text "()"
  unfolding render joined entries
  signature_bare = refl

  module _ (n : ℕ) (named : (j : ℕ) → j < n → gap j ≡ comma j ++ label x (slot_at ks (a + j))) (ret : gap n ≡ text ") -> ") where
    abbrev written : List ℕ
    written = render g (signature x nil (map slot_name (front (slots ks a (suc n)))) (tys g x false ks a (suc n)))

    abbrev listed : List Piece
    listed = joined (entries x false (map slot_name (slots ks a n)) (tys g x false ks a n))

    signature_nil : nil (ty_of (slot_at ks (a + n)).type) ≡ true → written ≡ text "(" ++ children gap (kid g x false ks a) (text ")") n 0
    unfolding render
    signature_nil h =
        rw (front_slots ks a n, front_run ks a n, last_run ks a n, h)
        (ap (λ (z : List ℕ). text "(" ++ z) (render_append g listed (fixed (text ")") ∷ []) ∙ entries_run g x false ks a gap n named (text ")") n (omega arith)))

    signature_ret : nil (ty_of (slot_at ks (a + n)).type) ≡ false → written ≡ text "(" ++ children gap (kid g x false ks a) [] (suc n) 0
    unfolding render
    signature_ret h =
        let close : List ℕ = text ") -> " ++ (kid g x false ks a n ++ []) in
        rw (front_slots ks a n, front_run ks a n, last_run ks a n, h, children_last gap (kid g x false ks a) [] n 0, zero-add n, ret)
        (ap (λ (z : List ℕ). text "(" ++ z)
        (render_append g listed (fixed (text ")") ∷ fixed (text " -> ") ∷ sub (ty_of (slot_at ks (a + n)).type) ∷ []) ∙ entries_run g x false ks a gap n named close n (omega arith)))

  -- by the number of children; of the return b says whether it is nil
  abbrev seen : Bool → ℕ → ℕ
  seen b n = pick (eqb n 0) 0 (pick b (n - 1) n)

  pub signature_run : (n : ℕ) → ((j : ℕ) → j + 1 < n → gap j ≡ comma j ++ label x (slot_at ks (a + j))) → ((j : ℕ) → j + 1 ≡ n → gap j ≡ text ") -> ")
      → (b : Bool) → nil (ty_of (slot_at ks (a + (n - 1))).type) ≡ b
      → render g (signature x nil (map slot_name (front (slots ks a n))) (tys g x false ks a n))
      ≡ text "(" ++ children gap (kid g x false ks a) (pick (ltb (seen b n) n) (text ")") (pick (eqb n 0) (text ")") [])) (seen b n) 0
  unfolding children
  signature_run zero named ret b h = signature_bare
  signature_run (suc n) named ret true h =
      let s : suc n - 1 ≡ n = omega arith in
      let w : nil (ty_of (slot_at ks (a + n)).type) ≡ true = rw s at h in
      rw (suc_zero n, s, lt-ltb n (suc n) (omega arith)) (signature_nil n (λ j l. named j (omega arith)) (ret n (omega arith)) w)
  signature_run (suc n) named ret false h =
      let s : suc n - 1 ≡ n = omega arith in
      let w : nil (ty_of (slot_at ks (a + n)).type) ≡ false = rw s at h in
      rw suc_zero
      (subst
      (λ (b : Bool). written n (λ j l. named j (omega arith)) (ret n (omega arith)) ≡ text "(" ++ children gap (kid g x false ks a) (pick b (text ")") []) (suc n) 0)
      (sym (le-ltb (suc n) (suc n) (omega arith)))
      (signature_ret n (λ j l. named j (omega arith)) (ret n (omega arith)) w))

-- if const: one or both of two
module _ (g : Ty → List ℕ) (e : Env) (nil : Ty → Bool) (i : Bool) (h : Head) (ks : List ℕ) (a : ℕ) (gap : ℕ → List ℕ)
    (first : gap 0 ≡ []) (second : gap 1 ≡ text " } else { ") (n : ℕ) where
  abbrev path : List ℕ
  path = bytes e.texts (record_at e h.number).path

  if_const_one : nil (ty_of (slot_at ks (a + 1)).type) ≡ true
      → render g (if_const e nil i h (tys g e.texts i ks a (suc (suc n)))) ≡ (text "if const " ++ (path ++ text " { ")) ++ children gap (kid g e.texts i ks a) (text " }") 1 0
  unfolding render children
  if_const_one w =
      let s : suc a ≡ a + 1 = omega arith in
      rw (s, w, first, append_assoc path, add-zero a)

  if_const_two : nil (ty_of (slot_at ks (a + 1)).type) ≡ false
      → render g (if_const e nil i h (tys g e.texts i ks a (suc (suc n)))) ≡ (text "if const " ++ (path ++ text " { ")) ++ children gap (kid g e.texts i ks a) (text " }") 2 0
  unfolding render children
  if_const_two w =
      let s : suc a ≡ a + 1 = omega arith in
      rw (s, w, first, second, append_assoc path, add-zero a)

module _ (g : Ty → List ℕ) (e : Env) (nil : Ty → Bool) (i : Bool) (h : Head) (ks : List ℕ) (a : ℕ) (gap : ℕ → List ℕ)
    (first : gap 0 ≡ []) (second : gap 1 ≡ text " } else { ") where
  pub if_const_run : (n : ℕ) (b : Bool) → nil (ty_of (slot_at ks (a + 1)).type) ≡ b
      → render g (if_const e nil i h (tys g e.texts i ks a n))
      ≡ pick (ltb n 2) [] (text "if const " ++ (bytes e.texts (record_at e h.number).path ++ text " { "))
      ++ children gap (kid g e.texts i ks a) (pick (ltb n 2) [] (text " }")) (pick (ltb n 2) 0 (pick b 1 2)) 0
  unfolding render children
  if_const_run zero b w = refl
  if_const_run (suc zero) b w = refl
  if_const_run (suc (suc n)) true w = rw (le-ltb (suc (suc n)) 2 (omega arith)) (if_const_one g e nil i h ks a gap first second n w)
  if_const_run (suc (suc n)) false w = rw (le-ltb (suc (suc n)) 2 (omega arith)) (if_const_two g e nil i h ks a gap first second n w)

pub children_next : (gap item : ℕ → List ℕ) (close : List ℕ) (m j : ℕ) → j < m → children gap item close (m - j) j ≡ gap j ++ (item j ++ children gap item close (m - (j + 1)) (j + 1))
unfolding children
children_next gap item close m j h =
    let s : m - j ≡ suc (m - (j + 1)) = omega arith in
    rw (s, add-one j)

pub children_end : (gap item : ℕ → List ℕ) (close : List ℕ) (m j : ℕ) → m ≤ j → children gap item close (m - j) j ≡ close
unfolding children
children_end gap item close m j h =
    let s : m - j ≡ 0 = omega arith in
    rw s
