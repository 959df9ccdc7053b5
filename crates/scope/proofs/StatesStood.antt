-- On lists without the calls on names, the ledger is every pair asked and every node made, and the second half with named states is the one that stood.
-- Assumes nothing.
use mathlib.Core.Path.{◌≡◌, refl, sym, ap, subst, ◌∙◌}
use mathlib.Core.List.Memᴰ
use mathlib.Core.List.{List, [], ◌∷◌, ◌++◌, map, append_assoc, append-nil, Memᴰ}
use mathlib.Core.Bool.{true}
use mathlib.Core.Option.{Option, none, some}
use mathlib.Core.Logic.{◌⊎◌, inl, inr}
use Prim.Native.Nat.{◌+◌, ◌<◌}
use native.Mathlib.Omega.{arith}
use lib.ListN.{length}
use Rattle.scope.specs.Chart.{Env}
use Rattle.scope.specs.Types.{Ty}
use Rattle.scope.specs.Nodes.{Store}
use Rattle.scope.specs.Answers.{Answer, Success}
use Rattle.scope.specs.Sound.{reads, rooted}
use Rattle.scope.specs.Calls.{unify_call}
use Rattle.scope.specs.States.{Book}
use Rattle.scope.specs.Demand.{Call, given, next, after, nodes_made, sizes, Contains, SecondHalf}
use Rattle.scope.specs.Demand as Demand
use Rattle.scope.specs.StatesDemand.{call, Desk, desk, after_desk, Pair, pair, answered, pairs_by, Ledgers, entered, no_ledger, after_ledgers, StatesHalf, StatesHalfStood}

-- a pair that a list asked, with its answer
pub record Asked (e : Env) (s : Store) (cs : List Call) (p : Pair) : Type 0 where
  pub before : List Call
  pub later : List Call
  pub list : cs ≡ before ++ (Demand.unify p.a p.b ∷ later)
  pub is : given (unify_call e (reads (after e s before)) p.a p.b) ≡ some p.answer

-- the pairs that a list asks, in order
pairs_of : Env → Store → List Call → List Pair
pairs_of e s [] = []
pairs_of e s (c ∷ cs) = pairs_by e s c ++ pairs_of e (next e s c) cs

-- store and book, nodes made, pairs asked
desk_stood : (e : Env) (s : Store) (b : Book) (cs : List Call) → after_desk e (desk s b) (map call cs) ≡ desk (after e s cs) b
unfolding after_desk after
desk_stood e s b [] = refl
desk_stood e s b (c ∷ cs) = desk_stood e (next e s c) b cs

made_stood : (e : Env) (s : Store) (b : Book) (g : Ledgers) (cs : List Call)
    → (after_ledgers e (desk s b) g (map call cs)).present.made ≡ g.present.made + nodes_made e s cs
unfolding after_ledgers nodes_made
made_stood e s b g [] = omega arith
made_stood e s b g (c ∷ cs) = omega (arith, made_stood e (next e s c) b (record { present = entered e s g.present c; saved = g.saved }) cs)

pairs_stood : (e : Env) (s : Store) (b : Book) (g : Ledgers) (cs : List Call)
    → (after_ledgers e (desk s b) g (map call cs)).present.pairs ≡ g.present.pairs ++ pairs_of e s cs
unfolding after_ledgers pairs_of
pairs_stood e s b g [] = sym (append-nil g.present.pairs)
pairs_stood e s b g (c ∷ cs) =
    pairs_stood e (next e s c) b (record { present = entered e s g.present c; saved = g.saved }) cs
    ∙ append_assoc g.present.pairs (pairs_by e s c) (pairs_of e (next e s c) cs)

-- the pair of one call
by_asked : (e : Env) (s : Store) (c : Call) (cs : List Call) (p : Pair) → Memᴰ p (pairs_by e s c) → Asked e s (c ∷ cs) p
unfolding after
by_asked e s (Demand.make k) cs p m = elim m [ ]
by_asked e s (Demand.import l ts ps h) cs p m = elim m [ ]
by_asked e s (Demand.force_kind t) cs p m = elim m [ ]
by_asked e s (Demand.read q) cs p m = elim m [ ]
by_asked e s (Demand.later q) cs p m = elim m [ ]
by_asked e s (Demand.unify a b) cs p m = go (given (unify_call e (reads s) a b)) refl m
  where
    go : (o : Option Answer) → given (unify_call e (reads s) a b) ≡ o → Memᴰ p (answered a b o) → Asked e s (Demand.unify a b ∷ cs) p
    go none q m = elim m [ ]
    go (some z) q m = subst (Asked e s (Demand.unify a b ∷ cs)) (sym (Memᴰ.eq_of_singleton m)) (record { before = []; later = cs; list = refl; is = q })

pairs_asked : (e : Env) (s : Store) (cs : List Call) (p : Pair) → Memᴰ p (pairs_of e s cs) → Asked e s cs p
unfolding pairs_of after
pairs_asked e s [] p m = elim m [ ]
pairs_asked e s (c ∷ cs) p m = go (Memᴰ.append_cases (pairs_by e s c) m) (pairs_asked e (next e s c) cs p)
  where
    go : Memᴰ p (pairs_by e s c) ⊎ Memᴰ p (pairs_of e (next e s c) cs) → (Memᴰ p (pairs_of e (next e s c) cs) → Asked e (next e s c) cs p)
        → Asked e s (c ∷ cs) p
    go (inl m) ih = by_asked e s c cs p m
    go (inr m) ih = let a = ih m in record { before = c ∷ a.before; later = a.later; list = ap {B = List Call} (λ r. c ∷ r) a.list; is = a.is }

-- and back: what is asked is among them
asked_pairs : (e : Env) (s : Store) (before later : List Call) (a b : Ty) (z : Answer) → given (unify_call e (reads (after e s before)) a b) ≡ some z
    → Memᴰ (pair a b z) (pairs_of e s (before ++ (Demand.unify a b ∷ later)))
unfolding pairs_of after
asked_pairs e s [] later a b z q =
    Memᴰ.append_left {s = answered a b (given (unify_call e (reads s) a b))} (pairs_of e (next e s (Demand.unify a b)) later) (rw q (Memᴰ.head refl))
asked_pairs e s (c ∷ before) later a b z q = Memᴰ.append_right (pairs_by e s c) (asked_pairs e (next e s c) before later a b z q)

pub states_stood : StatesHalfStood
states_stood e s b cs = (to, back)
  where
    end : (after_desk e (desk s b) (map call cs)).store ≡ after e s cs
    end = ap (λ (d : Desk). d.store) (desk_stood e s b cs)

    -- the ledger's pairs are those that the list asked
    pairs : (after_ledgers e (desk s b) no_ledger (map call cs)).present.pairs ≡ pairs_of e s cs
    pairs = pairs_stood e s b no_ledger cs

    made : (after_ledgers e (desk s b) no_ledger (map call cs)).present.made ≡ nodes_made e s cs
    made = omega (arith, made_stood e s b no_ledger cs)

    to : StatesHalf e s b (map call cs) → SecondHalf e s cs
    to h = record {
      again = λ before later x y q w.
          subst (λ (z : Store). given (unify_call e (reads z) x y) ≡ some Success) end
          (h.again x y (rw pairs (subst (λ (zs : List Call). Memᴰ (pair x y Success) (pairs_of e s zs)) (sym q) (asked_pairs e s before later x y Success w))));
      added = ap (λ (z : Store). sizes z.nodes) (sym end) ∙ h.added ∙ made;
      apart = λ a w. h.apart a (subst (λ (z : Store). Contains z.nodes a a) (sym end) w);
      twelve = λ i w. subst (λ (z : Store). i < length z.nodes → rooted 12 z.nodes i ≡ true) end (h.twelve i) w;
    }

    back : SecondHalf e s cs → StatesHalf e s b (map call cs)
    back h = record {
      again = λ x y m.
          let p = pairs_asked e s cs (pair x y Success) (subst (Memᴰ (pair x y Success)) pairs m) in
          subst (λ (z : Store). given (unify_call e (reads z) x y) ≡ some Success) (sym end) (h.again p.before p.later x y p.list p.is);
      added = ap (λ (z : Store). sizes z.nodes) end ∙ h.added ∙ sym made;
      apart = λ a w. h.apart a (subst (λ (z : Store). Contains z.nodes a a) end w);
      twelve = λ i w. subst (λ (z : Store). i < length z.nodes → rooted 12 z.nodes i ≡ true) (sym end) (h.twelve i) w;
    }
