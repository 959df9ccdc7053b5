-- What `transfer` keeps of an import under way: the destination's old nodes, one new root for each source root in the mapping, and each of them that
-- is not still open is a copy. Assumes nothing.
use mathlib.Core.Path.{◌≡◌, refl, sym, ap, subst, ◌∙◌}
use mathlib.Core.List.Memᴰ
use mathlib.Core.List.{List, [], ◌∷◌, Memᴰ}
use mathlib.Core.Bool.{Bool, true, false≢true}
use mathlib.Core.Option.{Option, none, some}
use mathlib.Core.Logic.{◌⊎◌, inl, inr}
use Prim.Native.Nat.{ℕ, zero, suc, ◌+◌, ◌≤◌, ◌<◌}
use native.Mathlib.Omega.{arith}
use native.Mathlib.Decide.{ℕ_discrete}
use lib.ListN.{length, set, length-append, length-set, get_or-append}
use lib.Seq.{get_or-append_seam, get_or-set_same, get_or-set_other}
use Rattle.scope.specs.Limits.{NONE}
use Rattle.scope.specs.Types.{Ty, ty, flip}
use Rattle.scope.specs.Nodes.{Kind, State, Known, Unknown, InferenceFailed, Node, Root, Store, at, state_of, state_at, find, kids_of}
use Rattle.scope.specs.Make.{push}
use Rattle.scope.specs.Sound.{falls}
use Rattle.scope.specs.Import.{Work, Moved, MovedAll, copy_of, Replaced, keep, missing_entry, entry, replaced, span_of, begun, ended, many, copied, lacking, fresh, place, transfer, start, import}
use Rattle.scope.proofs.TestLaws.{of-all}
use Rattle.scope.proofs.Extend.{Extends}
use Rattle.scope.proofs.Mapping.{Rest, Source, held, Tally, tnil, tcons, Maps, copy_maps, tally_range, tally_uniq}

-- a root's state with its children moved
abbrev pub copy_state : State → List Ty → State
copy_state (Known i k) ts = Known i (record { head = k.head; kids = ts })
copy_state (Unknown p) ts = Unknown p
copy_state InferenceFailed ts = Unknown NONE

module _ (ns : List Node) (ps : Option (List Ty)) where
  -- the root n is copied because of a type
  pub data Reach (n : ℕ) : Ty → Type 0 where
    here : {t : Ty} → replaced ps (state_at ns t) ≡ keep → (find ns t).idx ≡ n → Reach n t
    below : {t : Ty} (c : Ty) → replaced ps (state_at ns t) ≡ keep → Memᴰ c (kids_of (state_at ns t)) → Reach n c → Reach n t

  -- what the source type c became: its root's copy, its Param's entry; or an entry was missing
  pub data Became (w : Work) (c c' : Ty) : Type 0 where
    as_copy : (n : ℕ) → Maps w.mapping (find ns c).idx n → c' ≡ ty (find ns c).inv n → Became w c c'
    as_entry : (t : Ty) → replaced ps (state_at ns c) ≡ entry t → c' ≡ flip (find ns c).inv t → Became w c c'
    lost : w.missing ≡ true → Became w c c'

  pub data BecameAll (w : Work) : List Ty → List Ty → Type 0 where
    bnil : BecameAll w [] []
    bcons : {c c' : Ty} {cs cs' : List Ty} → Became w c c' → BecameAll w cs cs' → BecameAll w (c ∷ cs) (c' ∷ cs')

  -- the node n is the root r's copy
  pub record Filled (w : Work) (r n : ℕ) : Type 0 where
    pub kids : List Ty
    pub node : at w.dest.nodes n ≡ Root (copy_state (state_of (at ns r)) kids) 1
    pub became : BecameAll w (kids_of (state_of (at ns r))) kids

  -- the mapping grows, and what was missing stays missing
  record Later (w w' : Work) : Type 0 where
    maps : (r n : ℕ) → Maps w.mapping r n → Maps w'.mapping r n
    lacks : w.missing ≡ true → w'.missing ≡ true

  later_refl : (w : Work) → Later w w
  later_refl w = record { maps = λ r n m. m; lacks = λ h. h }

  later_trans : {u v w : Work} → Later u v → Later v w → Later u w
  later_trans p q = record { maps = λ r n m. q.maps r n (p.maps r n m); lacks = λ h. q.lacks (p.lacks h) }

  became_later : {w w' : Work} {c c' : Ty} → Later w w' → Became w c c' → Became w' c c'
  became_later l (as_copy n m e) = as_copy n (l.maps _ n m) e
  became_later l (as_entry t q e) = as_entry t q e
  became_later l (lost h) = lost (l.lacks h)

  became_all_later : {w w' : Work} {cs cs' : List Ty} → Later w w' → BecameAll w cs cs' → BecameAll w' cs cs'
  became_all_later l bnil = bnil
  became_all_later l (bcons b bs) = bcons (became_later l b) (became_all_later l bs)

  filled_later : {w w' : Work} {r n : ℕ} → Later w w' → at w'.dest.nodes n ≡ at w.dest.nodes n → Filled w r n → Filled w' r n
  filled_later l q f = record { kids = f.kids; node = q ∙ f.node; became = became_all_later l f.became }

  module _ (s : Store) where
    -- an import into s under way; the nodes of os are open
    pub record Ok (os : List ℕ) (w : Work) : Type 0 where
      pub ext : Extends s.nodes w.dest.nodes
      pub tally : Tally (length s.nodes) w.mapping
      pub len : length w.dest.nodes ≡ length s.nodes + length w.mapping
      pub full : (r n : ℕ) → Maps w.mapping r n → Memᴰ n os ⊎ Filled w r n
      pub below : (r n : ℕ) → Maps w.mapping r n → r < length ns
      pub kept : (r n : ℕ) → Maps w.mapping r n → replaced ps (state_of (at ns r)) ≡ keep
      pub children : w.dest.children ≡ s.children + held ns w.mapping
      pub rest : Rest s w.dest

    record Post (os : List ℕ) (w : Work) (t : Ty) (m : Moved) : Type 0 where
      ok : Ok os m.work
      later : Later w m.work
      became : Became m.work t m.type
      reach : (r n : ℕ) → Maps m.work.mapping r n → Maps w.mapping r n ⊎ Reach r t

    pub record PostAll (os : List ℕ) (w : Work) (ts : List Ty) (m : MovedAll) : Type 0 where
      pub ok : Ok os m.work
      later : Later w m.work
      pub became : BecameAll m.work ts m.types
      pub reach : (r n : ℕ) → Maps m.work.mapping r n → Maps w.mapping r n ⊎ ((t : Ty) × Memᴰ t ts × Reach r t)

    many_ok : (g : Work → Ty → Moved) (Q : Ty → Type 0) → ((os : List ℕ) (w : Work) (t : Ty) → Ok os w → Q t → Post os w t (g w t))
        → (os : List ℕ) (w : Work) (ts : List Ty) → Ok os w → ((t : Ty) → Memᴰ t ts → Q t) → PostAll os w ts (many g w ts)
    unfolding many
    many_ok g Q ih os w [] ok q = record { ok = ok; later = later_refl w; became = bnil; reach = λ r n m. inl m }
    many_ok g Q ih os w (t ∷ ts) ok q =
        let p = ih os w t ok (q t (Memᴰ.head refl)) in
        glue p (many_ok g Q ih os (g w t).work ts p.ok (λ u m. q u (Memᴰ.tail m)))
      where
        b : MovedAll
        b = many g (g w t).work ts

        glue : Post os w t (g w t) → PostAll os (g w t).work ts b → PostAll os w (t ∷ ts) (record { work = b.work; types = (g w t).type ∷ b.types })
        glue p p' = record {
          ok = p'.ok;
          later = later_trans p.later p'.later;
          became = bcons (became_later p'.later p.became) p'.became;
          reach = reach;
        }
          where
            first : (r n : ℕ) → Maps w.mapping r n ⊎ Reach r t → Maps w.mapping r n ⊎ ((u : Ty) × Memᴰ u (t ∷ ts) × Reach r u)
            first r n (inl m) = inl m
            first r n (inr h) = inr (t, Memᴰ.head refl, h)

            then : (r n : ℕ) → Maps (g w t).work.mapping r n ⊎ ((u : Ty) × Memᴰ u ts × Reach r u)
                → Maps w.mapping r n ⊎ ((u : Ty) × Memᴰ u (t ∷ ts) × Reach r u)
            then r n (inl m) = first r n (p.reach r n m)
            then r n (inr h) = inr (h.0, Memᴰ.tail h.1, h.2)

            reach : (r n : ℕ) → Maps b.work.mapping r n → Maps w.mapping r n ⊎ ((u : Ty) × Memᴰ u (t ∷ ts) × Reach r u)
            reach r n m = then r n (p'.reach r n m)

    -- one more root in the mapping, its node open
    begun_later : (w : Work) (r : ℕ) (st : State) → Later w (begun w r st)
    begun_later w r st = record { maps = λ q n m. Memᴰ.tail m; lacks = λ h. h }

    begun_ok : (os : List ℕ) (w : Work) (r : ℕ) (st : State) → state_of (at ns r) ≡ st → r < length ns → replaced ps st ≡ keep → copy_of w.mapping r ≡ none
        → Ok os w → Ok (length w.dest.nodes ∷ os) (begun w r st)
    begun_ok os w r st e lt k c ok = record {
      ext = record {
        len = omega (arith, grown, ok.ext.len);
        old = λ n q. old n (omega (arith, ok.ext.len)) ∙ ok.ext.old n q;
        new = λ n q p. new n q (ℕ_discrete n (length d)) p;
      };
      tally = tcons c ok.len ok.tally;
      len = omega (arith, grown, ok.len);
      full = full;
      below = below;
      kept = kept;
      children = omega (arith, ok.children, ap (λ (x : State). length (kids_of x)) e);
      rest = record { node_room = ok.rest.node_room; child_room = ok.rest.child_room; error = ok.rest.error; nil = ok.rest.nil; reports = ok.rest.reports };
    }
      where
        d : List Node
        d = w.dest.nodes

        u : State
        u = Unknown (span_of st)

        grown : length (push d u) ≡ suc (length d)
        grown = length-append d (Root u 1 ∷ []) ∙ omega arith

        old : (n : ℕ) → n < length d → at (push d u) n ≡ at d n
        old n q = get_or-append d (Root u 1 ∷ []) (Root (Unknown NONE) 0) n q

        new : (n : ℕ) → length s.nodes ≤ n → Dec (n ≡ length d) → n < length (push d u) → (x : State) × (at (push d u) n ≡ Root x 1)
        new n q (yes h) p = (u, ap (at (push d u)) h ∙ get_or-append_seam d (Root u 1) [] (Root (Unknown NONE) 0))
        new n q (no h) p = let lt : n < length d = omega (arith, grown) in let z = ok.ext.new n q lt in (z.0, old n lt ∙ z.1)

        full : (q n : ℕ) → Maps ((r, length d) ∷ w.mapping) q n → Memᴰ n (length d ∷ os) ⊎ Filled (begun w r st) q n
        full q n (Memᴰ.head h) = inl (Memᴰ.head (ap (λ (z : ℕ × ℕ). z.1) h))
        full q n (Memᴰ.tail m) = go (ok.full q n m)
          where
            go : Memᴰ n os ⊎ Filled w q n → Memᴰ n (length d ∷ os) ⊎ Filled (begun w r st) q n
            go (inl h) = inl (Memᴰ.tail h)
            go (inr f) = inr (filled_later (begun_later w r st) (old n (omega (arith, (tally_range ok.tally q n m).1, ok.len))) f)

        below : (q n : ℕ) → Maps ((r, length d) ∷ w.mapping) q n → q < length ns
        below q n (Memᴰ.head h) = let z : q ≡ r = ap (λ (z : ℕ × ℕ). z.0) h in omega arith
        below q n (Memᴰ.tail m) = ok.below q n m

        kept : (q n : ℕ) → Maps ((r, length d) ∷ w.mapping) q n → replaced ps (state_of (at ns q)) ≡ keep
        kept q n (Memᴰ.head h) = ap (λ (z : ℕ × ℕ). replaced ps (state_of (at ns z.0))) h ∙ ap (replaced ps) e ∙ k
        kept q n (Memᴰ.tail m) = ok.kept q n m

    -- an open node takes a state
    ended_later : (w : Work) (n : ℕ) (st : State) → Later w (ended w n st)
    ended_later w n st = record { maps = λ r m x. x; lacks = λ h. h }

    ended_ok : (os : List ℕ) (w : Work) (n : ℕ) (st : State) → length s.nodes ≤ n → n < length w.dest.nodes → Ok (n ∷ os) w → Ok (n ∷ os) (ended w n st)
    ended_ok os w n st lo hi ok = record {
      ext = record {
        len = omega (arith, length-set d n x, ok.ext.len);
        old = λ m q. get_or-set_other d n m x (Root (Unknown NONE) 0) (λ e. absurd (omega arith)) ∙ ok.ext.old m q;
        new = λ m q p. new m q (ℕ_discrete m n) (omega (arith, length-set d n x));
      };
      tally = ok.tally;
      len = length-set d n x ∙ ok.len;
      full = λ r m p. full r m p (ℕ_discrete m n);
      below = ok.below;
      kept = ok.kept;
      children = ok.children;
      rest = record { node_room = ok.rest.node_room; child_room = ok.rest.child_room; error = ok.rest.error; nil = ok.rest.nil; reports = ok.rest.reports };
    }
      where
        d : List Node
        d = w.dest.nodes

        x : Node
        x = Root st 1

        new : (m : ℕ) → length s.nodes ≤ m → Dec (m ≡ n) → m < length d → (y : State) × (at (set d n x) m ≡ Root y 1)
        new m q (yes h) p = (st, ap (at (set d n x)) h ∙ get_or-set_same d n x (Root (Unknown NONE) 0) hi)
        new m q (no h) p = let z = ok.ext.new m q p in (z.0, get_or-set_other d n m x (Root (Unknown NONE) 0) h ∙ z.1)

        full : (r m : ℕ) → Maps w.mapping r m → Dec (m ≡ n) → Memᴰ m (n ∷ os) ⊎ Filled (ended w n st) r m
        full r m p (yes h) = inl (Memᴰ.head h)
        full r m p (no h) = go (ok.full r m p)
          where
            go : Memᴰ m (n ∷ os) ⊎ Filled w r m → Memᴰ m (n ∷ os) ⊎ Filled (ended w n st) r m
            go (inl o) = inl o
            go (inr f) = inr (filled_later (ended_later w n st) (get_or-set_other d n m x (Root (Unknown NONE) 0) h) f)

    -- a node that is a copy is no longer open
    shut : (os : List ℕ) (w : Work) (r n : ℕ) → Maps w.mapping r n → Filled w r n → Ok (n ∷ os) w → Ok os w
    shut os w r n h f ok = record {
      ext = ok.ext;
      tally = ok.tally;
      len = ok.len;
      full = λ q m p. full q m p (ok.full q m p);
      below = ok.below;
      kept = ok.kept;
      children = ok.children;
      rest = ok.rest;
    }
      where
        full : (q m : ℕ) → Maps w.mapping q m → Memᴰ m (n ∷ os) ⊎ Filled w q m → Memᴰ m os ⊎ Filled w q m
        full q m p (inr g) = inr g
        full q m p (inl o) = go (Memᴰ.cases_cons o)
          where
            go : (m ≡ n) ⊎ Memᴰ m os → Memᴰ m os ⊎ Filled w q m
            go (inr o) = inl o
            go (inl e) =
                let z : r ≡ q = tally_uniq ok.tally r q n h (subst (Maps w.mapping q) e p) in
                inr (subst (λ (a : ℕ). Filled w a m) z (subst (Filled w r) (sym e) f))

    lacking_later : (w : Work) → Later w (lacking w)
    lacking_later w = record { maps = λ r n m. m; lacks = λ h. refl }

    lacking_ok : (os : List ℕ) (w : Work) → Ok os w → Ok os (lacking w)
    lacking_ok os w ok = record {
      ext = ok.ext;
      tally = ok.tally;
      len = ok.len;
      full = λ r n m. full r n (ok.full r n m);
      below = ok.below;
      kept = ok.kept;
      children = ok.children;
      rest = ok.rest;
    }
      where
        full : (r n : ℕ) → Memᴰ n os ⊎ Filled w r n → Memᴰ n os ⊎ Filled (lacking w) r n
        full r n (inl o) = inl o
        full r n (inr f) = inr (filled_later (lacking_later w) refl f)

    -- one level down, for types of which Q holds
    module _ (g : Work → Ty → Moved) (Q : Ty → Type 0) (ih : (os : List ℕ) (w : Work) (t : Ty) → Ok os w → Q t → Post os w t (g w t)) (os : List ℕ) (w : Work)
        (t : Ty) (ok : Ok os w) (lt : (find ns t).idx < length ns) (kids : (c : Ty) → Memᴰ c (kids_of (state_at ns t)) → Q c) where
      -- a root without kind
      plain_ok : (st : State) → state_at ns t ≡ st → copy_state st [] ≡ Unknown (span_of st) → kids_of st ≡ [] → replaced ps st ≡ keep
          → copy_of w.mapping (find ns t).idx ≡ none
          → Post os w t (record { work = begun w (find ns t).idx st; type = ty (find ns t).inv (length w.dest.nodes) })
      plain_ok st e u z k c =
          let r : ℕ = (find ns t).idx in
          let n : ℕ = length w.dest.nodes in
          let m : Maps ((r, n) ∷ w.mapping) r n = Memᴰ.head refl in
          let f : Filled (begun w r st) r n = record {
            kids = [];
            node = get_or-append_seam w.dest.nodes (Root (Unknown (span_of st)) 1) [] (Root (Unknown NONE) 0)
                ∙ ap (λ (x : State). Root x 1) (sym u ∙ ap (λ (x : State). copy_state x []) (sym e));
            became = subst (λ (xs : List Ty). BecameAll (begun w r st) xs []) (sym z ∙ ap kids_of (sym e)) bnil;
          } in
          record {
            ok = shut os (begun w r st) r n m f (begun_ok os w r st e lt k c ok);
            later = begun_later w r st;
            became = as_copy n m refl;
            reach = reach;
          }
        where
          reach : (q n : ℕ) → Maps (((find ns t).idx, length w.dest.nodes) ∷ w.mapping) q n → Maps w.mapping q n ⊎ Reach q t
          reach q n (Memᴰ.head h) = inr (here (ap (replaced ps) e ∙ k) (sym (ap (λ (z : ℕ × ℕ). z.0) h)))
          reach q n (Memᴰ.tail m) = inl m

      known_ok : (i : Bool) (k : Kind) → state_at ns t ≡ Known i k → replaced ps (Known i k) ≡ keep
          → copy_of w.mapping (find ns t).idx ≡ none → Post os w t (copied g w (find ns t) (Known i k))
      known_ok i k e kp c = fill (many_ok g Q ih (n ∷ os) w₁ k.kids (begun_ok os w r (Known i k) e lt kp c ok)
          (λ x m. kids x (subst (λ (st : State). Memᴰ x (kids_of st)) (sym e) m)))
        where
          r : ℕ
          r = (find ns t).idx

          n : ℕ
          n = length w.dest.nodes

          w₁ : Work
          w₁ = begun w (find ns t).idx (Known i k)

          b : MovedAll
          b = many g w₁ k.kids

          st : State
          st = Known i (record { head = k.head; kids = b.types })

          fill : PostAll (n ∷ os) w₁ k.kids b → Post os w t (record { work = ended b.work n st; type = ty (find ns t).inv n })
          fill p =
              let m : Maps b.work.mapping r n = p.later.maps r n (Memᴰ.head refl) in
              let h = tally_range p.ok.tally r n m in
              let hi : n < length b.work.dest.nodes = omega (arith, h.1, p.ok.len) in
              let f : Filled (ended b.work n st) r n = record {
                kids = b.types;
                node = get_or-set_same b.work.dest.nodes n (Root st 1) (Root (Unknown NONE) 0) hi
                    ∙ ap (λ (x : State). Root (copy_state x b.types) 1) (sym e);
                became = subst (λ (x : State). BecameAll (ended b.work n st) (kids_of x) b.types) (sym e)
                    (became_all_later (ended_later b.work n st) p.became);
              } in
              record {
                ok = shut os (ended b.work n st) r n m f (ended_ok os b.work n st h.0 hi p.ok);
                later = later_trans (later_trans (begun_later w r (Known i k)) p.later) (ended_later b.work n st);
                became = as_copy n m refl;
                reach = λ q a x. again q a (p.reach q a x);
              }
            where
              first : (q a : ℕ) → Maps (((find ns t).idx, length w.dest.nodes) ∷ w.mapping) q a → Maps w.mapping q a ⊎ Reach q t
              first q a (Memᴰ.head h) = inr (here (ap (replaced ps) e ∙ kp) (sym (ap (λ (z : ℕ × ℕ). z.0) h)))
              first q a (Memᴰ.tail m) = inl m

              again : (q a : ℕ) → Maps (((find ns t).idx, length w.dest.nodes) ∷ w.mapping) q a ⊎ ((c : Ty) × Memᴰ c k.kids × Reach q c)
                  → Maps w.mapping q a ⊎ Reach q t
              again q a (inl m) = first q a m
              again q a (inr z) = inr (below z.0 (ap (replaced ps) e ∙ kp) (subst (λ (x : State). Memᴰ z.0 (kids_of x)) (sym e) z.1) z.2)

      copied_ok : (st : State) → state_at ns t ≡ st → replaced ps st ≡ keep → copy_of w.mapping (find ns t).idx ≡ none
          → Post os w t (copied g w (find ns t) st)
      copied_ok (Known i k) e kp c = known_ok i k e kp c
      copied_ok (Unknown p) e kp c = plain_ok (Unknown p) e refl refl kp c
      copied_ok InferenceFailed e kp c = plain_ok InferenceFailed e refl refl kp c

      fresh_ok : (st : State) → state_at ns t ≡ st → (u : Replaced) → replaced ps st ≡ u → copy_of w.mapping (find ns t).idx ≡ none
          → Post os w t (fresh g w (find ns t) st u)
      fresh_ok st e keep q c = copied_ok st e q c
      fresh_ok st e missing_entry q c = record { ok = lacking_ok os w ok; later = lacking_later w; became = lost refl; reach = λ r n m. inl m }
      fresh_ok st e (entry u) q c = record { ok = ok; later = later_refl w; became = as_entry u (ap (replaced ps) e ∙ q) refl; reach = λ r n m. inl m }

      place_ok : (st : State) → state_at ns t ≡ st → (o : Option ℕ) → copy_of w.mapping (find ns t).idx ≡ o
          → Post os w t (place g w (find ns t) st (replaced ps st) o)
      place_ok st e (some n) q = record {
        ok = ok;
        later = later_refl w;
        became = as_copy n (copy_maps w.mapping (find ns t).idx n q) refl;
        reach = λ r a m. inl m;
      }
      place_ok st e none q = fresh_ok st e (replaced ps st) refl q

    -- a type of the source, and f levels are enough
    record Able (f : ℕ) (t : Ty) : Type 0 where
      in_source : t.idx < length ns
      enough : falls f ns (find ns t).idx ≡ true

    transfer_ok : Source ns → (f : ℕ) (os : List ℕ) (w : Work) (t : Ty) → Ok os w → Able f t → Post os w t (transfer f ns ps w t)
    unfolding transfer falls
    transfer_ok src zero os w t ok a = absurd (false≢true a.enough)
    transfer_ok src (suc f) os w t ok a =
        place_ok (transfer f ns ps) (Able f) (λ os w t ok a. transfer_ok src f os w t ok a) os w t ok (src.inside t a.in_source)
        (λ c m. record {
          in_source = src.kids (find ns t).idx c m;
          enough = of-all (λ (c : Ty). falls f ns (find ns c).idx) (kids_of (state_at ns t)) a.enough m;
        })
        (state_at ns t) refl (copy_of w.mapping (find ns t).idx) refl

    -- types of the source, in order
    pub transfers_ok : Source ns → (os : List ℕ) (w : Work) (ts : List Ty) → Ok os w → ((t : Ty) → Memᴰ t ts → t.idx < length ns)
        → PostAll os w ts (many (transfer (length ns) ns ps) w ts)
    transfers_ok src os w ts ok h =
        many_ok (transfer (length ns) ns ps) (Able (length ns)) (transfer_ok src (length ns)) os w ts ok
        (λ t m. record { in_source = h t m; enough = src.falling (find ns t).idx (src.inside t (h t m)) })

    pub start_ok : Ok [] (start s)
    start_ok = record {
      ext = record { len = omega arith; old = λ n q. refl; new = λ n q p. absurd (omega arith) };
      tally = tnil;
      len = omega arith;
      full = λ r n m. absurd (Memᴰ.not-nil m);
      below = λ r n m. absurd (Memᴰ.not-nil m);
      kept = λ r n m. absurd (Memᴰ.not-nil m);
      children = omega arith;
      rest = record { node_room = refl; child_room = refl; error = refl; nil = refl; reports = refl };
    }

    -- what `import` leaves
    pub import_ok : Source ns → (ts : List Ty) → ((t : Ty) → Memᴰ t ts → t.idx < length ns) → PostAll [] (start s) ts (import ns ps s ts)
    unfolding import
    import_ok src ts h = transfers_ok src [] (start s) ts start_ok h
