-- A plan asks for at most as many pairs as the first kind has children, and a kind of a sound store has at most 255. Assumes nothing.
use mathlib.Core.List.{List, [], ◌∷◌}
use mathlib.Core.Bool.{Bool, true, false, not, ◌&&◌, ◌||◌}
use mathlib.Core.Option.{Option, none, some}
use Prim.Native.Nat.{ℕ, ◌+◌, ◌≤◌}
use native.Mathlib.Omega.{arith}
use lib.Dec.{eqb, ltb, leb}
use lib.ListN.{length, length-append}
use borrow.Author.Tests.{leb-true}
use Rattle.scope.specs.Base.{pick, front, last}
use Rattle.scope.specs.Limits.{MAX_WIDTH, KINDS}
use Rattle.scope.specs.Names.{Texts, Name, bytes_or}
use Rattle.scope.specs.Chart.{Env}
use Rattle.scope.specs.Types.{Ty}
use Rattle.scope.specs.Kinds.{makeable, OBJECT, CLOSURE}
use Rattle.scope.specs.Nodes.{Kind}
use Rattle.scope.specs.Answers.{Failure, Indeterminate}
use Rattle.scope.specs.Unify.{Plan, answers, zipped, run_plan, signature_plan, seek, shared, shared_names, object_plan, kids_plan, is_error, same_head, crosses, plan}
use Rattle.scope.proofs.TestLaws.{and_left, and_right}
use Rattle.scope.proofs.PlanLaws.{Makeable}

pick_width : (c : Bool) (l m : Plan) (n : ℕ) → length l.pairs ≤ n → length m.pairs ≤ n → length (pick c l m).pairs ≤ n
pick_width true l m n h g = h
pick_width false l m n h g = g

zipped_width : (i : Bool) (xs ys : List Ty) → length (zipped i xs ys) ≤ length xs
unfolding zipped
zipped_width i [] ys = omega arith
zipped_width i (x ∷ xs) [] = omega arith
zipped_width i (x ∷ xs) (y ∷ ys) = omega (arith, zipped_width i xs ys)

run_width : (i : Bool) (xs ys : List Ty) → length (run_plan i xs ys).pairs ≤ length xs
unfolding run_plan
run_width i xs ys = pick_width (eqb (length xs) (length ys)) _ (answers Failure) (length xs) (zipped_width i xs ys) (omega arith)

front_last : (xs : List Ty) → length (front xs) + length (last xs) ≤ length xs
front_last [] = omega arith
front_last (x ∷ []) = omega arith
front_last (x ∷ y ∷ ys) = omega (arith, front_last (y ∷ ys))

signature_width : (i : Bool) (xs ys : List Ty) → length (signature_plan i xs ys).pairs ≤ length xs
unfolding signature_plan
signature_width i xs ys =
    let l : Plan = run_plan i (front xs) (front ys) in
    let m : Plan = run_plan i (last xs) (last ys) in
    omega (arith, length-append l.pairs m.pairs, run_width i (front xs) (front ys), run_width i (last xs) (last ys), front_last xs)

shared_width : (i : Bool) (t : Ty) (o : Option Ty) → length (shared i t o).pairs ≤ 1
shared_width i t none = omega arith
shared_width i t (some u) = omega arith

names_width : (x : Texts) (i : Bool) (ns : List (Option Name)) (ts : List Ty) (ms : List (Option Name)) (us : List Ty)
    → length (shared_names x i ns ts ms us).pairs ≤ length ts
unfolding shared_names
names_width x i [] ts ms us = omega arith
names_width x i (n ∷ ns) [] ms us = omega arith
names_width x i (n ∷ ns) (t ∷ ts) ms us =
    let o : Option Ty = seek x (bytes_or x n) ms us in
    omega (arith, length-append (shared i t o).pairs (shared_names x i ns ts ms us).pairs, shared_width i t o, names_width x i ns ts ms us)

kids_width : (x : Texts) (i : Bool) (k m : Kind) → length (kids_plan x i k m).pairs ≤ length k.kids
unfolding kids_plan object_plan
kids_width x i k m =
    pick_width (eqb k.head.code OBJECT) _ _ (length k.kids) (names_width x i k.head.names k.kids m.head.names m.kids)
    (pick_width (eqb k.head.code CLOSURE) _ _ (length k.kids) (signature_width i k.kids m.kids) (run_width i k.kids m.kids))

plan_width : (x : Texts) (k m : Kind) (i : Bool) → length (plan x k m i).pairs ≤ length k.kids
unfolding plan
plan_width x k m i =
    pick_width (is_error k.head || is_error m.head) (answers Indeterminate) _ (length k.kids) (omega arith)
    (pick_width (same_head x k.head m.head && (not i || crosses k.head)) (kids_plan x i k m) (answers Failure) (length k.kids) (kids_width x i k m) (omega arith))

made_width : (e : Env) (k : Kind) → Makeable e k → length k.kids ≤ MAX_WIDTH
unfolding makeable
made_width e k o =
    let n : ℕ = length k.kids in
    leb-true n MAX_WIDTH (and_left (leb n MAX_WIDTH) _ (and_right (ltb k.head.code KINDS) _ o.made))

pub plan_narrow : (e : Env) (k m : Kind) (i : Bool) → Makeable e k → length (plan e.texts k m i).pairs ≤ MAX_WIDTH
plan_narrow e k m i o = omega (arith, plan_width e.texts k m i, made_width e k o)
