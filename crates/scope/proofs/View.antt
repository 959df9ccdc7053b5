-- The theory's view of a store: each node's root with its parity, each root's kind if it has one, each root's size. `find_mut` changes none of
-- them, and spans and failed marks are no part of them. `unify` over a view, one level down as an argument. Assumes nothing.
use mathlib.Core.Path.{◌≡◌}
use mathlib.Core.List.{List, [], ◌∷◌, Memᴰ}
use mathlib.Core.Bool.{Bool, true, false, not, ◌&&◌, ◌||◌}
use Prim.Native.Nat.{ℕ, zero, suc, ◌+◌}
use native.Mathlib.Decide.{ℕ_discrete, dec_lt}
use lib.Dec.{eqb}
use Rattle.scope.specs.Base.{pick, xor, all, any}
use Rattle.scope.specs.Names.{Texts}
use Rattle.scope.specs.Types.{Ty, ty, flip}
use Rattle.scope.specs.Kinds.{self_dual, PARAM}
use Rattle.scope.specs.Nodes.{Kind, State, Known, Unknown, InferenceFailed, Node, at, state_of, size_of, find}
use Rattle.scope.specs.Answers.{Answer, Success, Failure, Indeterminate, both, of_bool}
use Rattle.scope.specs.Unify.{Plan, plan}

-- a kind with its inversion, or none
pub data VState : Type 0 where
  unknown : VState
  known : Bool → Kind → VState

pub record View : Type 0 where
  pub rep : ℕ → Ty
  pub st : ℕ → VState
  pub sz : ℕ → ℕ

abbrev pub sel {ℓ ℓ'} : {A : Type ℓ} {B : Type ℓ'} → Dec A → B → B → B
sel (yes a) x y = x
sel (no n) x y = y

abbrev pub root_of : View → Ty → Ty
root_of g t = flip t.inv (g.rep t.idx)

-- w stays, l becomes its child: l's own tree is w's, inverted by i; w's state is now k
unfoldable pub link : View → ℕ → ℕ → Bool → VState → View
link g w l i k = record {
  rep = λ n. sel (ℕ_discrete (g.rep n).idx l) (ty (xor (g.rep n).inv i) w) (g.rep n);
  st = λ n. sel (ℕ_discrete n w) k (sel (ℕ_discrete n l) unknown (g.st n));
  sz = λ n. sel (ℕ_discrete n w) (g.sz w + g.sz l) (sel (ℕ_discrete n l) 0 (g.sz n));
}

-- a root a has a child whose root is x
pub record Kid (g : View) (a x : ℕ) : Type 0 where
  pub inv : Bool
  pub kind : Kind
  pub kid : Ty
  pub top : g.rep a ≡ ty false a
  pub state : g.st a ≡ known inv kind
  pub mem : Memᴰ kid kind.kids
  pub to : (g.rep kid.idx).idx ≡ x

pub data Below (g : View) : ℕ → ℕ → Type 0 where
  one : {a x : ℕ} → Kid g a x → Below g a x
  more : {a y x : ℕ} → Kid g a y → Below g y x → Below g a x

-- nothing contains itself, as accessibility
pub data Fin (g : View) : ℕ → Type 0 where
  fin : {a : ℕ} → ((x : ℕ) → Kid g a x → Fin g x) → Fin g a

pub record Good (g : View) : Type 0 where
  pub idem : (n : ℕ) → g.rep (g.rep n).idx ≡ ty false (g.rep n).idx
  pub wf : (a : ℕ) → Fin g a

pub record Out : Type 0 where
  pub view : View
  pub answer : Answer

abbrev pub out : View → Answer → Out
out g r = record { view = g; answer = r }

unfoldable pub run : (View → Ty → Ty → Out) → View → Answer → List (Ty × Ty) → Out
run u g r [] = out g r
run u g r (p ∷ ps) = let o : Out = u g p.0 p.1 in run u o.view (both r o.answer) ps

abbrev pub occurs_st : (Ty → Bool) → VState → Bool
occurs_st t unknown = false
occurs_st t (known i k) = any t k.kids

unfoldable pub occurs : ℕ → View → ℕ → ℕ → Bool
occurs zero g x y = true
occurs (suc f) g x y = sel (ℕ_discrete y x) true (occurs_st (λ c. occurs f g x (g.rep c.idx).idx) (g.st y))

abbrev pub self_st : Bool → (Ty → Bool) → VState → Bool
self_st param t unknown = false
self_st param t (known i k) = pick (eqb k.head.code PARAM) param (self_dual k.head && all t k.kids)

unfoldable pub self_inverse : Bool → ℕ → View → ℕ → Bool
self_inverse param zero g a = false
self_inverse param (suc f) g a = self_st param (λ c. self_inverse param f g (g.rep c.idx).idx) (g.st a)

-- w stays, l becomes its child
abbrev pub join : View → Ty → Ty → VState → View
join g w l k = link g w.idx l.idx (xor l.inv w.inv) k

abbrev pub turn : Bool → VState → VState
turn i unknown = unknown
turn i (known j k) = known (xor i j) k

abbrev pub or_st : VState → VState → VState
or_st unknown b = b
or_st (known i k) b = known i k

-- the state that the staying root w takes: a's kind, or b's
abbrev pub kept : View → Ty → Ty → Ty → VState
kept g w a b = turn w.inv (or_st (turn a.inv (g.st a.idx)) (turn b.inv (g.st b.idx)))

abbrev pub same : ℕ → View → Ty → Ty → Bool
same f g a b = not (xor a.inv b.inv) || self_inverse false f g a.idx

abbrev pub bind : ℕ → View → Ty → Ty → Bool → Out
bind f g a b true = out g Failure
bind f g a b false = sel (dec_lt (g.sz b.idx) (g.sz a.idx))
    (out (join g a b (kept g a a b)) Success)
    (out (join g b a (kept g b a b)) Success)

abbrev pub close : View → Ty → Ty → Answer → Out
close h a b Success = sel (dec_lt (h.sz b.idx) (h.sz a.idx))
    (out (join h a b (h.st a.idx)) Success)
    (out (join h b a (h.st b.idx)) Success)
close h a b Failure = out h Failure
close h a b Indeterminate = out h Indeterminate

abbrev pub meet_st : (View → Ty → Ty → Out) → Texts → ℕ → View → Ty → Ty → VState → VState → Out
meet_st u x f g a b unknown sb = bind f g a b (occurs f g a.idx b.idx || occurs f g b.idx a.idx)
meet_st u x f g a b (known i k) unknown = bind f g a b (occurs f g a.idx b.idx || occurs f g b.idx a.idx)
meet_st u x f g a b (known i k) (known j m) =
    let l : Plan = plan x k m (xor (xor i a.inv) (xor j b.inv)) in
    let o : Out = run u g l.base l.pairs in
    close o.view a b o.answer

unfoldable pub meet : (View → Ty → Ty → Out) → Texts → ℕ → View → Ty → Ty → Out
meet u x f g a b =
    sel (ℕ_discrete a.idx b.idx) (out g (of_bool (same f g a b))) (meet_st u x f g a b (g.st a.idx) (g.st b.idx))

-- n is the node count: the depth of `occurs` and `self_inverse`, and what unify is started with
unfoldable pub unify : Texts → ℕ → ℕ → View → Ty → Ty → Out
unify x n zero g p q = out g Failure
unify x n (suc f) g p q = meet (unify x n f) x n g (root_of g p) (root_of g q)

-- the view of a store's nodes
abbrev pub seen : State → VState
seen (Known i k) = known i k
seen (Unknown p) = unknown
seen InferenceFailed = unknown

unfoldable pub view : List Node → View
view ns = record {
  rep = λ n. find ns (ty false n);
  st = λ n. seen (state_of (at ns n));
  sz = λ n. size_of (at ns n);
}
