-- One level is written child after child: what is left to write gives, appended, what the whole gives. A type's text is the level of the kind that its
-- root has, or its root's number.
-- Assumes nothing.
use mathlib.Core.Path.{◌≡◌, refl, ap, sym, ◌∙◌, subst}
use mathlib.Core.Bool.{Bool, not, ◌&&◌}
use mathlib.Core.List.{List, ◌++◌, append_assoc, append-nil}
use Prim.Native.Nat.{ℕ, zero, suc, ◌+◌, ◌-◌, ◌≤◌, ◌<◌}
use native.Mathlib.Omega.{arith}
use Rattle.scope.specs.Base.{xor}
use Rattle.scope.specs.Chart.{Env}
use Rattle.scope.specs.Types.{Ty, flip, ty_of}
use Rattle.scope.specs.Nodes.{State, Node, at, state_of, find}
use Rattle.scope.specs.Nodes as nodes
use Rattle.scope.specs.Force.{is_nil}
use Rattle.scope.specs.Show.{render, state_pieces, pieces, show_f, show}
use Rattle.layout.specs.Words.{slot_at, decode}
use Rattle.layout.specs.Meaning.{slot_means, kind_means, state_means, node_state, node_means, read_at}
use Rattle.layout.specs.declared.Slot.{Slot}
use Rattle.layout.specs.declared.Kind.{Kind}
use Rattle.layout.specs.declared.TypeState.TheVariants.{Known, Unknown, InferenceFailed}
use Rattle.layout.specs.declared.TypeNode.{TypeNode}
use Rattle.layout.specs.declared.TypeNode.TheVariants.{Root, Child}
use Rattle.layout.proofs.Laws.{read_node, length_decode}
use Rattle.layout.proofs.HeldLaws.{state_node, held_state}
use Rattle.types.specs.declared.Inverted.{Inverted}
use Rattle.roots.specs.Found.{Found}
use Rattle.walk.specs.Asks.{Stands}
use Rattle.append.specs.declared.Out.{Out}
use Rattle.append.specs.Appended.{Puts}
use Rattle.append.proofs.Laws.{puts_none, puts_then}
use Rattle.layout.specs.Meaning.{Held}
use Rattle.std.specs.Prelude.{Some, None}
use Rattle.show_names.specs.Names.{unknown_text}
use Rattle.show_parts.specs.Parts.{gap_of, lead_of, close_of, dual_of, sign_of, tilde_of}
use Rattle.show.specs.Level.{children, kid_of, shown_of, inner_of, level_of}
use Rattle.layout.specs.Meaning.{held_in}
use Rattle.show.proofs.Level.{level_is}
use Rattle.show.proofs.Runs.{children_next, children_end}

-- before child j of m: what is left gives the whole
pub record Turn (gap item : ℕ → List ℕ) (close : List ℕ) (m : ℕ) (out₀ out : Out) (j : ℕ) : Type 0 where
  pub within : j ≤ m
  pub goes : (out' : Out) → Puts out out' (children gap item close (m - j) j) → Puts out₀ out' (children gap item close m 0)

module _ (gap item : ℕ → List ℕ) (close : List ℕ) (m : ℕ) where
  pub turn_next : {out₀ out out₁ out₂ : Out} {j : ℕ}
      → Turn gap item close m out₀ out j → j < m → Puts out out₁ (gap j) → Puts out₁ out₂ (item j) → Turn gap item close m out₀ out₂ (j + 1)
  turn_next {j = j} t h a b = record {
    within = omega arith;
    goes = λ out' d. t.goes out' (rw (children_next gap item close m j h) (puts_then a (puts_then b d)));
  }

  pub turn_end : {out₀ out out' : Out} {j : ℕ} → Turn gap item close m out₀ out j → m ≤ j → Puts out out' close → Puts out₀ out' (children gap item close m 0)
  turn_end {out' = out'} {j = j} t h a = t.goes out' (rw (children_end gap item close m j h) a)

-- a node by what the code reads of it
state_known : (ks : List ℕ) (v : TypeNode) (i : Inverted) (k : Kind) → held_in v ≡ Some (i, k) → state_of (node_means ks v) ≡ nodes.Known i.0 (kind_means ks k)
state_known ks v i k e = sym (state_node ks v) ∙ ap (state_means ks) (held_state (node_state v) i k e)

state_unknown : (g : Ty → List ℕ) (e : Env) (nil : Ty → Bool) (r : Ty) (ks : List ℕ) (v : TypeNode)
    → held_in v ≡ None → render g (state_pieces e nil r (state_of (node_means ks v))) ≡ unknown_text r
unfolding render
state_unknown g e nil r ks (Root (Known j m) z) h = let z : ◌≡◌ {A = ℕ} 0 1 = cc in absurd (omega arith)
state_unknown g e nil r ks (Root (Unknown s) z) h = rw append-nil
state_unknown g e nil r ks (Root InferenceFailed z) h = rw append-nil
state_unknown g e nil r ks (Child t) h = rw append-nil

pub show_shallow : (e : Env) (depth : ℕ) (ns : List Node) (t : Ty) (out : Out) → depth ≡ 0 → Puts out out (show_f e depth ns t)
unfolding show_f
show_shallow e depth ns t out h = rw h (puts_none out)

one_level : (e : Env) (depth : ℕ) (ns : List Node) (t : Ty) → (depth ≡ 0 → ⊥) → show_f e depth ns t ≡ render (show_f e (depth - 1) ns) (pieces e ns t)
unfolding show_f
one_level e zero ns t h = absurd (h refl)
one_level e (suc d) ns t h =
    let z : suc d - 1 ≡ d = omega arith in
    rw z

module _ {ws ks : List ℕ} {n : ℕ} (st : Stands ws ks n) (e : Env) (depth : ℕ) (t : ℕ) where
  abbrev ns : List Node
  ns = decode ws ks n

  show_step : (depth ≡ 0 → ⊥) → show_f e depth ns (ty_of t) ≡ render (show_f e (depth - 1) ns) (pieces e ns (ty_of t))
  show_step h = one_level e depth ns (ty_of t) h

  module _ (deep : depth ≡ 0 → ⊥) (root i : ℕ) (f : Found ws n t root) (ie : i ≡ (ty_of root).idx) (q : Held) (held : q ≡ held_in (read_at ws n i)) where
    read_state : state_of (at ns (find ns (ty_of t)).idx) ≡ state_of (node_means ks (read_at ws n i))
    read_state =
        ap (λ (u : Ty). state_of (at ns u.idx)) (sym (f.root ks)) ∙ ap (λ (m : ℕ). state_of (at ns m)) (sym ie) ∙ ap state_of (sym (read_node ws ks st.made n st.clean i))

    pub show_unknown : q ≡ None → show_f e depth ns (ty_of t) ≡ unknown_text (ty_of root)
    unfolding pieces
    show_unknown h =
        show_step deep
        ∙ ap (λ (s : State). render (show_f e (depth - 1) ns) (state_pieces e (is_nil ns) (find ns (ty_of t)) s)) read_state
        ∙ ap (λ (u : Ty). render (show_f e (depth - 1) ns) (state_pieces e (is_nil ns) u (state_of (node_means ks (read_at ws n i))))) (sym (f.root ks))
        ∙ state_unknown (show_f e (depth - 1) ns) e (is_nil ns) (ty_of root) ks (read_at ws n i) (sym held ∙ h)

    -- what the code writes for a kind: b is whether it is inverted, d whether its children are, m how many are shown
    abbrev written : Kind → Bool → Bool → ℕ → List ℕ
    written k b d m =
        tilde_of b k ++ (lead_of e k ++ children (gap_of e.texts ks k) (λ j. show_f e (depth - 1) ns (kid_of ks k d j)) (close_of k m) m 0)

    pub show_known : (inv : Inverted) (k : Kind) → q ≡ Some (inv, k) → (b d : Bool) (m : ℕ)
        → b ≡ xor inv.0 (ty_of root).inv → d ≡ inner_of b k → m ≡ shown_of (is_nil ns) ks k → show_f e depth ns (ty_of t) ≡ written k b d m
    unfolding pieces level_of
    show_known inv k h b d m eb ed em =
        let below : Ty → List ℕ = show_f e (depth - 1) ns in
        let state = read_state ∙ state_known ks (read_at ws n i) inv k (sym held ∙ h) in
        show_step deep
        ∙ ap (λ (s : State). render below (state_pieces e (is_nil ns) (find ns (ty_of t)) s)) state
        ∙ ap (λ (u : Ty). render below (state_pieces e (is_nil ns) u (nodes.Known inv.0 (kind_means ks k)))) (sym (f.root ks))
        ∙ level_is below e (is_nil ns) ks (xor inv.0 (ty_of root).inv) k
        ∙ ap (λ (c : Bool). level_of below e (is_nil ns) ks c k) (sym eb)
        ∙ ap (λ (c : Bool). written k b c (shown_of (is_nil ns) ks k)) (sym ed)
        ∙ ap (λ (c : ℕ). written k b d c) (sym em)

-- a ~ or none and what stands before the children, then the rest
pub level_put : {out out₁ out₂ : Out} (lead rest : List ℕ) (k : Kind) (b d : Bool) → d ≡ dual_of k
    → Puts out out₁ (sign_of (b && not d) ++ lead) → Puts out₁ out₂ rest → Puts out out₂ (tilde_of b k ++ (lead ++ rest))
level_put {out} {out₁} {out₂} lead rest k b d e x z =
    subst (λ (c : Bool). Puts out out₂ (sign_of (b && not c) ++ (lead ++ rest))) e (rw (← append_assoc (sign_of (b && not d)) lead rest) (puts_then x z))

-- child j, as it was read and inverted
pub kid_shown : {out out' : Out} (g : Ty → List ℕ) (ks : List ℕ) (k : Kind) (d : Bool) (j : ℕ) (s : Slot) (u : ℕ)
    → ty_of u ≡ flip d (ty_of s.ty.0) → slot_means s ≡ slot_at ks (k.first + j) → Puts out out' (g (ty_of u)) → Puts out out' (g (kid_of ks k d j))
kid_shown {out} {out'} g ks k d j s u a b h =
    subst (λ (t : Ty). Puts out out' (g t)) (a ∙ ap (λ w. flip d (ty_of w.type)) b) h

-- as deep as there are nodes
pub show_whole : (e : Env) (ws ks : List ℕ) (n : ℕ) (t : Ty) → show_f e n (decode ws ks n) t ≡ show e (decode ws ks n) t
unfolding show
show_whole e ws ks n t = ap (λ (m : ℕ). show_f e m (decode ws ks n) t) (sym (length_decode ws ks n))
