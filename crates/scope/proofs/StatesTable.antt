-- Named states by example, and each of their refusals, computed over the definitions. A case is a list of calls on a fresh store with a fresh names buffer,
-- what they answer, and the store and the names afterwards. Assumes nothing.
use mathlib.Core.Path.{◌≡◌, refl}
use mathlib.Core.List.{List, [], ◌∷◌, ◌++◌, map}
use mathlib.Core.Bool.{true, false}
use mathlib.Core.Option.{none, some}
use Prim.Native.Nat.{ℕ, suc}
use lib.ListN.{replicate}
use Rattle.scope.specs.Text.{text}
use Rattle.scope.specs.Limits.{MAX_NODES, MAX_CHILDREN, MAX_STATE_NAME, SIGILS}
use Rattle.scope.specs.Kinds.{NEVER, TUPLE, ERROR}
use Rattle.scope.specs.Nodes.{Unknown, InferenceFailed, Node, Root, Child, Store, opened, with_nodes, with_made, remembering}
use Rattle.scope.specs.Answers.{Success, Failure}
use Rattle.scope.specs.Force.{with_reports, forced_error}
use Rattle.scope.specs.Sound.{stray, reads}
use Rattle.scope.specs.Refusals.{UNOPENABLE, BAD_CHART, UNSOUND, UNHELD, NO_PLACE, Outcome, refused, done}
use Rattle.scope.specs.States.{Place, Book, LentBook, stray_book, reads_book, blank, with_places, unopened, opens, open_names_call, return_to_call, reset_names_call}
use Rattle.scope.specs.Demand.{make, unify, force_kind, read, error, nil, node}
use Rattle.scope.specs.Replies.{Reply, number, answer, forced, a_node, nothing}
use Rattle.scope.specs.StatesDemand.{StateCall, call, naming, name, return_to, drop, reset, Desk, desk, pair, Ledger}
use Rattle.scope.proofs.Run.{ran_states}
use Rattle.scope.proofs.Table.{env, t, made, var, a_var, plain, known, tuple, a_tuple}
use Rattle.scope.proofs.Refusals as Refusals

pub record Case : Type 0 where
  pub calls : List StateCall
  pub replies : List Reply
  pub store : Store
  pub names : List (List ℕ)

-- a place's name, and none where it is free
pub name_of : Place → List ℕ
name_of none = []
name_of (some h) = h.name

pub fresh : Desk
fresh = desk (opened 8 8) (blank 8 8)

pub done_by : Case → Case
done_by c =
    let r = ran_states env fresh c.calls in
    record { calls = c.calls; replies = r.replies; store = r.desk.store; names = map name_of r.desk.book.places }

-- calls on names, and names behind which the rest of the places are free
pub save : List ℕ → StateCall
save n = naming (name n)

pub back : List ℕ → StateCall
back n = naming (return_to n)

pub lose : List ℕ → StateCall
lose n = naming (drop n)

pub free : ℕ → List (List ℕ)
free n = replicate n []

-- names of one letter, and a name of so many bytes
pub long : ℕ → List ℕ
long n = replicate n 97

pub letters : List (List ℕ)
letters = text "a" ∷ text "b" ∷ text "c" ∷ text "d" ∷ text "e" ∷ text "f" ∷ text "g" ∷ text "h" ∷ []

-- a store of these nodes and so many children
pub holding : List Node → ℕ → Store
holding ns c = with_made (opened 8 8) ns c

pub cases : List Case
cases =
    -- "A scheduler tries a rule, sees Failure, and is left with its bindings": it returns, and the binding is gone
    record {
      calls =
          call var
          ∷ call (plain NEVER)
          ∷ call (plain TUPLE)
          ∷ call (tuple (t 1 ∷ t 0 ∷ []))
          ∷ call (tuple (t 2 ∷ t 1 ∷ []))
          ∷ save (text "try")
          ∷ call (unify (t 3) (t 4))
          ∷ call (read (node (t 0)))
          ∷ call (tuple (t 0 ∷ []))
          ∷ back (text "try")
          ∷ call (read (node (t 0)))
          ∷ [];
      replies =
          made 0
          ∷ made 1
          ∷ made 2
          ∷ made 3
          ∷ made 4
          ∷ nothing
          ∷ answer Failure
          ∷ a_node (Child (t 1))
          ∷ made 5
          ∷ nothing
          ∷ a_node a_var
          ∷ [];
      store = holding (a_var ∷ known NEVER ∷ known TUPLE ∷ a_tuple (t 1 ∷ t 0 ∷ []) ∷ a_tuple (t 2 ∷ t 1 ∷ []) ∷ []) 4;
      names = text "try" ∷ free 7;
    }
    -- "a ninth with 13", and nothing changes; "Naming again under a held name replaces it", also when eight are held
    ∷ record {
      calls = map save letters ++ (call var ∷ save (text "i") ∷ save (text "c") ∷ back (text "b") ∷ back (text "c") ∷ []);
      replies = replicate 8 nothing ++ (made 0 ∷ number NO_PLACE ∷ nothing ∷ nothing ∷ nothing ∷ []);
      store = holding (a_var ∷ []) 0;
      names = letters;
    }
    -- "dropping a name makes its place usable"; a dropped name is unheld
    ∷ record {
      calls = map save letters ++ (lose (text "c") ∷ back (text "c") ∷ lose (text "c") ∷ save (text "i") ∷ save (text "c") ∷ []);
      replies = replicate 8 nothing ++ (nothing ∷ number UNHELD ∷ number UNHELD ∷ nothing ∷ number NO_PLACE ∷ []);
      store = opened 8 8;
      names = text "a" ∷ text "b" ∷ text "i" ∷ text "d" ∷ text "e" ∷ text "f" ∷ text "g" ∷ text "h" ∷ [];
    }
    -- "names of 1 to 255 bytes"; a wrong length is 12 in all three calls
    ∷ record {
      calls =
          save []
          ∷ save (long (suc MAX_STATE_NAME))
          ∷ save (long MAX_STATE_NAME)
          ∷ back []
          ∷ back (long (suc MAX_STATE_NAME))
          ∷ lose []
          ∷ lose (long (suc MAX_STATE_NAME))
          ∷ [];
      replies = number UNHELD ∷ number UNHELD ∷ nothing ∷ number UNHELD ∷ number UNHELD ∷ number UNHELD ∷ number UNHELD ∷ [];
      store = opened 8 8;
      names = long MAX_STATE_NAME ∷ free 7;
    }
    -- "12 first": a ninth of a wrong length
    ∷ record {
      calls = map save letters ++ (save [] ∷ save (long (suc MAX_STATE_NAME)) ∷ []);
      replies = replicate 8 nothing ++ (number UNHELD ∷ number UNHELD ∷ []);
      store = opened 8 8;
      names = letters;
    }
    -- names of one length are apart, and a held name is returned to twice
    ∷ record {
      calls =
          call var
          ∷ call var
          ∷ save (text "a")
          ∷ call (unify (t 0) (t 1))
          ∷ save (text "b")
          ∷ back (text "a")
          ∷ call (read (node (t 0)))
          ∷ call (force_kind (t 1))
          ∷ back (text "a")
          ∷ call (read (node (t 1)))
          ∷ back (text "b")
          ∷ [];
      replies =
          made 0
          ∷ made 1
          ∷ nothing
          ∷ answer Success
          ∷ nothing
          ∷ nothing
          ∷ a_node a_var
          ∷ forced (forced_error (some 7))
          ∷ nothing
          ∷ a_node a_var
          ∷ nothing
          ∷ [];
      store = with_reports (holding (Child (t 1) ∷ Root (Unknown 7) 2 ∷ []) 0) 1;
      names = text "a" ∷ text "b" ∷ free 6;
    }
    -- "the report count does not go back": the node does, and forcing it counts again
    ∷ record {
      calls = call var ∷ save (text "a") ∷ call (force_kind (t 0)) ∷ back (text "a") ∷ call (read (node (t 0))) ∷ call (force_kind (t 0)) ∷ [];
      replies = made 0 ∷ nothing ∷ forced (forced_error (some 7)) ∷ nothing ∷ a_node a_var ∷ forced (forced_error (some 7)) ∷ [];
      store = with_reports (holding (Root InferenceFailed 1 ∷ []) 0) 2;
      names = text "a" ∷ free 7;
    }
    -- "the remembered error and nil types": an error type made before stays remembered, a nil type made since is forgotten, "and every capacity figure"
    ∷ record {
      calls = call (make error) ∷ save (text "a") ∷ call (make nil) ∷ call (tuple (t 0 ∷ [])) ∷ back (text "a") ∷ call (make error) ∷ [];
      replies = made 0 ∷ nothing ∷ made 1 ∷ made 2 ∷ nothing ∷ made 0 ∷ [];
      store = remembering (holding (known ERROR ∷ []) 0) (some (t 0)) none;
      names = text "a" ∷ free 7;
    }
    -- "`reset` drops all names" and "frees all"; the report count "outlives `reset`"
    ∷ record {
      calls = call var ∷ save (text "a") ∷ save (text "b") ∷ call (force_kind (t 0)) ∷ naming reset ∷ back (text "a") ∷ save (text "b") ∷ [];
      replies = made 0 ∷ nothing ∷ nothing ∷ forced (forced_error (some 7)) ∷ nothing ∷ number UNHELD ∷ nothing ∷ [];
      store = with_reports (opened 8 8) 1;
      names = text "b" ∷ free 7;
    }
    ∷ []

-- 8: a return to the name a, which the first of eight places holds with the store s, where the second place is p and n more are free
pub book_with : Store → Place → ℕ → Book
book_with s p n = with_places (blank 8 8) (some (record { name = text "a"; store = s }) ∷ p ∷ replicate n none)

pub plain_book : Book
plain_book = book_with (opened 8 8) none 6

pub second : List ℕ → Store → LentBook
second n s = reads_book (book_with (opened 8 8) (some (record { name = n; store = s })) 6)

pub unsound : Store
unsound = with_nodes (opened 8 8) (Root (Unknown 0) 2 ∷ [])

pub returns : LentBook → Outcome Book
returns k = return_to_call env (reads (opened 8 8)) k (text "a")

-- what each of these books is refused with, tested wherever the unsound place lies; the last one is sound
pub refusals : List (Outcome Book)
refusals =
    returns stray_book
    -- made for other capacities, more or fewer places
    ∷ returns (reads_book (record { node_room = 9; child_room = 8; places = plain_book.places }))
    ∷ returns (reads_book (record { node_room = 8; child_room = 9; places = plain_book.places }))
    ∷ returns (reads_book (book_with (opened 8 8) none 5))
    ∷ returns (reads_book (book_with (opened 8 8) none 7))
    -- a name of no byte, one of 256, two equal names
    ∷ returns (second [] (opened 8 8))
    ∷ returns (second (long (suc MAX_STATE_NAME)) (opened 8 8))
    ∷ returns (second (text "a") (opened 8 8))
    -- a held store that is unsound or has other capacities
    ∷ returns (second (text "b") unsound)
    ∷ returns (second (text "b") (opened 8 7))
    -- 8 of the store, and 8 of the book before 12
    ∷ return_to_call env stray (reads_book plain_book) (text "a")
    ∷ return_to_call env (reads (opened 8 8)) stray_book []
    -- `reset` tests them too
    ∷ reset_names_call env stray (reads_book plain_book)
    ∷ reset_names_call env (reads (opened 8 8)) stray_book
    ∷ reset_names_call env (reads (opened 8 8)) (second (text "b") unsound)
    -- 2 before 8
    ∷ return_to_call (Refusals.env 2 SIGILS) stray stray_book []
    ∷ returns (reads_book plain_book)
    ∷ []

pub answers : List (Outcome Book)
answers = replicate 15 (refused UNSOUND) ++ (refused BAD_CHART ∷ done plain_book (opened 8 8) ∷ [])

-- "the ones behind the named state when it was named, and the ones since the return": the pair and the node in between are gone
pub asked : Ledger
asked =
    (ran_states env fresh
    (call var
    ∷ call var
    ∷ call (unify (t 0) (t 1))
    ∷ save (text "a")
    ∷ call var
    ∷ call (unify (t 1) (t 2))
    ∷ back (text "a")
    ∷ call (unify (t 0) (t 2))
    ∷ call (plain NEVER)
    ∷ call (unify (t 2) (t 0))
    ∷ [])).ledgers.present

-- the table, the refusals, 1 at an opening, and the ledger
pub states_hold : (map done_by cases ≡ cases)
    × (refusals ≡ answers)
    × (open_names_call (suc MAX_NODES) 0 true ≡ unopened UNOPENABLE)
    × (open_names_call 0 (suc MAX_CHILDREN) true ≡ unopened UNOPENABLE)
    × (open_names_call MAX_NODES MAX_CHILDREN false ≡ unopened UNOPENABLE)
    × (open_names_call MAX_NODES MAX_CHILDREN true ≡ opens (blank MAX_NODES MAX_CHILDREN))
    × (asked ≡ record { pairs = pair (t 0) (t 1) Success ∷ pair (t 2) (t 0) Success ∷ []; made = 3 })
unfolding ran_states name_of fresh done_by save back lose free long letters holding cases book_with plain_book second unsound returns refusals answers asked
    env t made var a_var plain known tuple a_tuple Refusals.env
states_hold = (refl, refl, refl, refl, refl, refl, refl)
