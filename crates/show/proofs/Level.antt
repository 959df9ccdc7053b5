-- A kind's pieces, written out, are its level: by the fifteen codes, each of which says what stands before, between and after its children.
-- Assumes nothing.
use mathlib.Core.Path.{◌≡◌, refl, sym, ap, ◌∙◌}
use mathlib.Core.Bool.{Bool, true, false, not}
use mathlib.Core.List.{List, [], ◌∷◌, ◌++◌, append_assoc, append-nil}
use Prim.Native.Nat.{ℕ, zero, suc, ◌+◌, ◌-◌, ◌<◌}
use native.Mathlib.Omega.{arith}
use borrow.Author.Tests.{eq-eqb, ne_eqb, le-ltb}
use lib.Dec.{eqb}
use Rattle.scope.specs.Base.{pick}
use Rattle.scope.specs.Text.{text}
use Rattle.scope.specs.Names.{bytes}
use Rattle.scope.specs.Chart.{Env, record_at, sigil_at, TRAIT_FN_SORT}
use Rattle.scope.specs.Types.{Ty, ty_of}
use Rattle.scope.specs.Kinds.{PARAM, TUPLE, OBJECT, OPAQUE, STRUCT, ENUM, UNION, FN, CLOSURE, REF, KEY, IF_CONST, NEVER, DEFAULT, ERROR, row_of, rows, self_dual}
use Rattle.scope.specs.Show.{Piece, fixed, render, decimal, known_pieces, commas, defined_name, kind_pieces}
use Rattle.layout.specs.Words.{slot_at}
use Rattle.layout.specs.Meaning.{kind_means}
use Rattle.layout.specs.declared.Kind.{Kind}
use Rattle.names.proofs.InWords.{name_bytes}
use Rattle.show_names.specs.Names.{comma, entry_text, defined_text}
use Rattle.show_parts.specs.Parts.{gap_of, lead_of, end_of, close_of, fixed_of, dual_of}
use Rattle.show.specs.Level.{children, kid_of, shown_of, level_of}
use Rattle.show.proofs.Runs.{tys, kid, commas_run, params_run, tuple_run, object_run, signature_run, if_const_run}

-- the pieces, written out, are the level
abbrev Levelled : (Ty → List ℕ) → Env → (Ty → Bool) → List ℕ → Bool → Kind → Type 0
Levelled g e nil ks i k =
    render g (kind_pieces e nil i (kind_means ks k))
    ≡ lead_of e k ++ children (gap_of e.texts ks k) (λ j. g (kid_of ks k i j)) (close_of k (shown_of nil ks k)) (shown_of nil ks k) 0

-- a kind's pieces, by its code: k with the code c
module _ (g : Ty → List ℕ) (e : Env) (nil : Ty → Bool) (ks : List ℕ) (k : Kind) where
  abbrev of_code : ℕ → Kind
  of_code c = record {
    code = c;
    number = k.number;
    dual = k.dual;
    flex = k.flex;
    name = k.name;
    first = k.first;
    count = k.count;
  }

  abbrev gap : ℕ → ℕ → List ℕ
  gap c = gap_of e.texts ks (of_code c)

  abbrev Level-of : Bool → ℕ → Type 0
  Level-of i c = Levelled g e nil ks i (of_code c)

  level_param : (i : Bool) → Level-of i PARAM
  unfolding kind_pieces kind_means lead_of end_of shown_of row_of rows render children
  level_param i = rw name_bytes

  gap_tuple : (j : ℕ) → gap TUPLE j ≡ comma j
  unfolding gap_of
  gap_tuple j = refl

  level_tuple : (i : Bool) → Level-of i TUPLE
  unfolding kind_pieces kind_means lead_of fixed_of end_of shown_of row_of rows
  level_tuple i = tuple_run g e.texts i ks k.first (gap TUPLE) gap_tuple k.count

  gap_object : (j : ℕ) → j < k.count → gap OBJECT j ≡ entry_text e.texts ks k j
  unfolding gap_of
  gap_object j h = refl

  level_object : (i : Bool) → Level-of i OBJECT
  unfolding kind_pieces kind_means lead_of fixed_of end_of shown_of row_of rows
  level_object i = object_run g e.texts i ks k.first (gap OBJECT) k.count gap_object k.count (omega arith)

  gap_defined : (c : ℕ) → eqb c OBJECT ≡ false → eqb c CLOSURE ≡ false → eqb c IF_CONST ≡ false → (j : ℕ) → gap c j ≡ comma j
  unfolding gap_of
  gap_defined c p q r j = rw (p, q, r)

  defined_run : (i : Bool) (c : ℕ) → eqb c OBJECT ≡ false → eqb c CLOSURE ≡ false → eqb c IF_CONST ≡ false
      → render g (defined_name e i (kind_means ks (of_code c)).head (tys g e.texts i ks k.first k.count))
      ≡ defined_text e k ++ children (gap c) (kid g e.texts i ks k.first) (pick (eqb k.count 0) [] (text "]")) k.count 0
  unfolding kind_means render
  defined_run i c p q r =
      rw append_assoc
      (ap (λ (z : List ℕ). bytes e.texts (record_at e k.number).name ++ z)
      (params_run g e.texts i ks k.first (gap c) (gap_defined c p q r) k.count))

  level_opaque : (i : Bool) → Level-of i OPAQUE
  unfolding kind_pieces kind_means lead_of end_of shown_of
  level_opaque i = defined_run i OPAQUE refl refl refl

  level_struct : (i : Bool) → Level-of i STRUCT
  unfolding kind_pieces kind_means lead_of end_of shown_of
  level_struct i = defined_run i STRUCT refl refl refl

  level_enum : (i : Bool) → Level-of i ENUM
  unfolding kind_pieces kind_means lead_of end_of shown_of
  level_enum i = defined_run i ENUM refl refl refl

  level_union : (i : Bool) → Level-of i UNION
  unfolding kind_pieces kind_means lead_of end_of shown_of
  level_union i = defined_run i UNION refl refl refl

  function_by : (b : Bool) (x y z u v : List ℕ)
      → render g (pick b (fixed x ∷ fixed y ∷ fixed z ∷ fixed u ∷ []) (fixed x ∷ fixed v ∷ [])) ≡ pick b (x ++ (y ++ (z ++ u))) (x ++ v) ++ []
  unfolding render
  function_by true x y z u v = simp append-nil
  function_by false x y z u v = simp append-nil

  level_fn : (i : Bool) → Level-of i FN
  unfolding kind_pieces kind_means lead_of end_of shown_of render children
  level_fn i = function_by (eqb (record_at e k.number).sort TRAIT_FN_SORT) _ _ _ _ _

  gap_parameter : (j : ℕ) → j + 1 < k.count → gap CLOSURE j ≡ entry_text e.texts ks k j
  unfolding gap_of
  gap_parameter j h = rw (ne_eqb (j + 1) k.count (λ w. omega arith))

  gap_return : (j : ℕ) → j + 1 ≡ k.count → gap CLOSURE j ≡ text ") -> "
  unfolding gap_of
  gap_return j h = rw (eq-eqb (j + 1) k.count h)

  level_closure : Level-of false CLOSURE
  unfolding kind_pieces kind_means lead_of end_of shown_of row_of rows render
  level_closure =
      let sigil : List ℕ = bytes e.texts (sigil_at e k.flex) in
      let b : Bool = nil (ty_of (slot_at ks (k.first + (k.count - 1))).type) in
      rw (
        signature_run g e.texts nil ks k.first (gap CLOSURE) k.count gap_parameter gap_return b refl,
        append_assoc sigil,
        append_assoc (decimal k.number),
      )

  level_ref : (i : Bool) → Level-of i REF
  unfolding kind_pieces kind_means lead_of fixed_of end_of shown_of render
  level_ref i =
      ap (λ (z : List ℕ). text "&" ++ z)
      (sym (append-nil (render g (commas i (tys g e.texts i ks k.first k.count))))
      ∙ commas_run g e.texts i ks k.first (gap REF) (gap_defined REF refl refl refl) [] k.count)

  level_key : (i : Bool) → Level-of i KEY
  unfolding kind_pieces kind_means lead_of end_of shown_of row_of rows render children
  level_key i = rw name_bytes

  gap_first : gap IF_CONST 0 ≡ []
  unfolding gap_of
  gap_first = refl

  gap_second : gap IF_CONST 1 ≡ text " } else { "
  unfolding gap_of
  gap_second = refl

  level_if_const : (i : Bool) → Level-of i IF_CONST
  unfolding kind_pieces kind_means lead_of end_of shown_of
  level_if_const i =
      let second : Bool = nil (ty_of (slot_at ks (k.first + 1)).type) in
      if_const_run g e nil i (kind_means ks (of_code IF_CONST)).head ks k.first (gap IF_CONST) gap_first gap_second k.count second refl

  level_never : (i : Bool) → Level-of i NEVER
  unfolding kind_pieces kind_means lead_of fixed_of end_of shown_of render children
  level_never i = refl

  level_default : (i : Bool) → Level-of i DEFAULT
  unfolding kind_pieces kind_means lead_of fixed_of end_of shown_of render children
  level_default i = refl

  level_error : (i : Bool) → Level-of i ERROR
  unfolding kind_pieces kind_means lead_of fixed_of end_of shown_of render children
  level_error i = refl

  pieces_none : (i : Bool) (c : ℕ) → kind_pieces e nil i (kind_means ks (of_code (suc (suc (suc (suc (suc (suc (suc (suc (suc (suc (suc (suc (suc (suc (suc c))))))))))))))))) ≡ []
  unfolding kind_pieces kind_means
  pieces_none i c = refl

  level_other : (i : Bool) (c : ℕ) → ERROR < c → kind_pieces e nil i (kind_means ks (of_code c)) ≡ [] → Level-of i c
  unfolding lead_of fixed_of end_of shown_of render children
  level_other i c h z = rw z (search (ne_eqb, le-ltb, arith))

  -- a Closure's children are never inverted
  level_by : (i : Bool) (c : ℕ) → (c ≡ CLOSURE → i ≡ false) → Level-of i c
  level_by i zero f = level_param i
  level_by i (suc zero) f = level_tuple i
  level_by i (suc (suc zero)) f = level_object i
  level_by i (suc (suc (suc zero))) f = level_opaque i
  level_by i (suc (suc (suc (suc zero)))) f = level_struct i
  level_by i (suc (suc (suc (suc (suc zero))))) f = level_enum i
  level_by i (suc (suc (suc (suc (suc (suc zero)))))) f = level_union i
  level_by i (suc (suc (suc (suc (suc (suc (suc zero))))))) f = level_fn i
  level_by i (suc (suc (suc (suc (suc (suc (suc (suc zero)))))))) f = rw (f refl) level_closure
  level_by i (suc (suc (suc (suc (suc (suc (suc (suc (suc zero))))))))) f = level_ref i
  level_by i (suc (suc (suc (suc (suc (suc (suc (suc (suc (suc zero)))))))))) f = level_key i
  level_by i (suc (suc (suc (suc (suc (suc (suc (suc (suc (suc (suc zero))))))))))) f = level_if_const i
  level_by i (suc (suc (suc (suc (suc (suc (suc (suc (suc (suc (suc (suc zero)))))))))))) f = level_never i
  level_by i (suc (suc (suc (suc (suc (suc (suc (suc (suc (suc (suc (suc (suc zero))))))))))))) f = level_default i
  level_by i (suc (suc (suc (suc (suc (suc (suc (suc (suc (suc (suc (suc (suc (suc zero)))))))))))))) f = level_error i
  level_by i (suc (suc (suc (suc (suc (suc (suc (suc (suc (suc (suc (suc (suc (suc (suc c))))))))))))))) f = level_other i _ (omega arith) (pieces_none i c)

level_kind : (g : Ty → List ℕ) (e : Env) (nil : Ty → Bool) (ks : List ℕ) (i : Bool) (k : Kind) → (k.code ≡ CLOSURE → i ≡ false) → Levelled g e nil ks i k
level_kind g e nil ks i k f = level_by g e nil ks k i k.code f

closure_plain : (k : Kind) → k.code ≡ CLOSURE → dual_of k ≡ false
unfolding row_of rows
closure_plain k h = rw h

-- by whether the kind is self-dual
turned_by : (g : Ty → List ℕ) (P : Bool → List Piece) (L : Bool → List ℕ) (d : Bool)
    → (d ≡ true → render g (P true) ≡ L true) → render g (P false) ≡ L false
    → render g (pick (not d) (fixed (text "~") ∷ P false) (P true)) ≡ pick (not d) (text "~") [] ++ L d
unfolding render
turned_by g P L true a b = a refl
turned_by g P L false a b = ap (λ (z : List ℕ). text "~" ++ z) b

-- one level's text is its pieces', written out
pub level_is : (g : Ty → List ℕ) (e : Env) (nil : Ty → Bool) (ks : List ℕ) (i : Bool) (k : Kind)
    → render g (known_pieces e nil i (kind_means ks k)) ≡ level_of g e nil ks i k
unfolding level_of self_dual kind_means
level_is g e nil ks true k =
    turned_by g (λ b. kind_pieces e nil b (kind_means ks k))
    (λ b. lead_of e k ++ children (gap_of e.texts ks k) (λ j. g (kid_of ks k b j)) (close_of k (shown_of nil ks k)) (shown_of nil ks k) 0)
    (dual_of k) (λ d. level_kind g e nil ks true k (λ h. sym d ∙ closure_plain k h)) (level_kind g e nil ks false k (λ h. refl))
level_is g e nil ks false k = level_kind g e nil ks false k (λ h. refl)
