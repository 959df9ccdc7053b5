-- A printer that its tests turn back leaves its buffer as found; one that they let pass writes its text as far as there is room. From what the tests tell, and
-- from the text that the core appended to nothing, to what every printer promises.
-- Assumes nothing.
use mathlib.Core.Path.{◌≡◌, refl, ap, sym, ◌∙◌}
use mathlib.Core.Bool.{Bool}
use mathlib.Core.List.{List, [], ◌∷◌, ◌++◌}
use mathlib.Core.Option.{Option, none, some}
use Prim.Native.Nat.{ℕ, ◌≤◌, ◌<◌}
use native.Mathlib.Omega.{arith}
use native.Mathlib.Decide.{dec_lt}
use lib.ListN.{length}
use borrow.Author.Tests.{lt-ltb, le-ltb, le-leb, lt-leb}
use Rattle.scope.specs.Chart.{Env}
use Rattle.scope.specs.Types.{Ty}
use Rattle.scope.specs.Nodes.{Node, Store}
use Rattle.scope.specs.Unify.{ImplType}
use Rattle.scope.specs.Show.{show, show_impl_type}
use Rattle.scope.specs.Calls.{Printed, or_unprinted, printed_text, show_call, show_impl_type_call, first_broken, store_of, lent_tests, outside, impl_tests}
use Rattle.append.specs.Appended.{SoFar, Appended}
use Rattle.append.proofs.Laws.{so_far_start, so_far_length, so_far_fits, so_far_full}
use Rattle.chart.specs.declared.Env as declared
use Rattle.chart.specs.Env.{env_of, chart_alone}
use Rattle.layout.specs.Words.{children_made, decode, store_in, lent_of}
use Rattle.layout.specs.Meaning.{header_in}
use Rattle.layout.specs.declared.Header.{Header}
use Rattle.layout.proofs.Laws.{length_decode}
use Rattle.walk.specs.Asks.{Stands}
use Rattle.sound.specs.Tests.{env_lent}
use Rattle.promise.specs.Promise.{Reply, refusal, Tested, TypesTested}
use Rattle.promise.specs.Prints.{PrintPromised}
use Rattle.promise.proofs.Laws.{lent_env, lent_store, call_passed, tested_next, none_listed}
use Rattle.promise.proofs.ReadLaws.{read_passed, read_clean, nodes_read}
use Rattle.lent_tests.specs.Given.{one_impl_tests, FirstOf}
use Rattle.lent_tests.proofs.Laws.{defined_alone}
use Rattle.call_show.specs.Ends.{end_reply}

-- a text that is whole, in the buffer buf₀ that now is buf
pub text_whole : (s : Store) (buf₀ : List ℕ) {buf : List ℕ} {end : ℕ} (bs : List ℕ) → SoFar buf₀ buf end bs
    → PrintPromised (printed_text s bs buf₀) (end_reply (length buf) end) s buf
text_whole s buf₀ {buf} {end} bs p = go (dec_lt (length buf) end)
  where
    go : Dec (length buf < end) → PrintPromised (printed_text s bs buf₀) (end_reply (length buf) end) s buf
    go (yes h) =
        let e = so_far_full p h in
        rw (lt-ltb (length buf) end h, lt-leb (length bs) (length buf₀) e.1) (record { outcome = refl; buffer = sym e.0 })
    go (no h) =
        let l : end ≤ length buf = omega (arith, h) in
        let e = so_far_fits p l in
        let k : length bs ≤ length buf₀ = omega (arith, so_far_length p, e.1, l) in
        rw (le-ltb (length buf) end l, le-leb (length bs) (length buf₀) k, e.1) (record { outcome = refl; buffer = sym e.0 })

-- a printer: its tests, and its text by the store that is lent

module _ (e : Env) (h ws ks : List ℕ) (us : Store → List (Bool × ℕ)) (f : Store → List ℕ) (buf : List ℕ) where
  abbrev broken : Option ℕ
  broken = first_broken (lent_tests e (lent_of h ws ks) ++ us (store_of (lent_of h ws ks)))

  abbrev printer : Printed
  printer = or_unprinted broken buf (printed_text (store_of (lent_of h ws ks)) (f (store_of (lent_of h ws ks))) buf)

  pub print_back : {n : ℕ} → broken ≡ some n → PrintPromised printer (refusal n) (store_in h ws ks) buf
  print_back q = rw q (record { outcome = refl; buffer = refl })

  pub print_done : broken ≡ none → {buf' : List ℕ} {end : ℕ} {r : Reply ℕ} {text : List ℕ} → f (store_in h ws ks) ≡ text → Appended buf 0 buf' end text
      → r ≡ end_reply (length buf') end → PrintPromised printer r (store_in h ws ks) buf'
  print_done q {buf'} {end} {r} {text} p a w =
      let s : store_of (lent_of h ws ks) ≡ store_in h ws ks = lent_store e h ws ks (call_passed e h ws ks (us (store_of (lent_of h ws ks))) q) in
      let t : PrintPromised (printed_text (store_in h ws ks) text buf) (end_reply (length buf') end) (store_in h ws ks) buf' =
      text_whole (store_in h ws ks) buf text (a.keeps buf [] (so_far_start buf)) in
      rw (q, s, p, w) t

-- what a call reads that its tests do not turn back

pub read_stands : {e : Env} {h ws ks : List ℕ} {ts : List Ty} → TypesTested e h ws ks ts none → {x : Header} → x ≡ header_in h → Stands ws ks x.nodes
read_stands {h = h} q g = record { made = children_made h; clean = read_clean q g }

-- with what is lent

module _ (l : declared.Env) where
  abbrev env : Env
  env = env_lent l

  abbrev whole : Env
  whole = env_of l.chart.now l.beside l.texts.rule.now l.texts.chart.now

  module _ {h ws ks : List ℕ} {ts : List Ty} (q : TypesTested env h ws ks ts none) {x : Header} (g : x ≡ header_in h) where
    read_text : (f : Env → List Node → List ℕ) → f env (store_in h ws ks).nodes ≡ f whole (decode ws ks x.nodes)
    read_text f = ap (λ (y : Env). f y (store_in h ws ks).nodes) (lent_env l h ws ks (read_passed q)) ∙ ap (f whole) (nodes_read q g)

  -- `show`

  module _ {h ws ks : List ℕ} (t : Ty) (buf : List ℕ) where
    pub show_back : {n : ℕ} → TypesTested env h ws ks (t ∷ []) (some n) → PrintPromised (show_call env (lent_of h ws ks) t buf) (refusal n) (store_in h ws ks) buf
    unfolding show_call
    show_back q = print_back env h ws ks (λ s. outside s (t ∷ []) ∷ []) (λ s. show env s.nodes t) buf q.first

    pub show_done : TypesTested env h ws ks (t ∷ []) none → {x : Header} → x ≡ header_in h → {buf' : List ℕ} {end : ℕ} {r : Reply ℕ}
        → Appended buf 0 buf' end (show whole (decode ws ks x.nodes) t) → r ≡ end_reply (length buf') end
        → PrintPromised (show_call env (lent_of h ws ks) t buf) r (store_in h ws ks) buf'
    unfolding show_call
    show_done q g a w =
        print_done env h ws ks (λ s. outside s (t ∷ []) ∷ []) (λ s. show env s.nodes t) buf q.first (read_text q g (λ e ns. show e ns t)) a w

  -- `show_impl_type`

  module _ (a : ImplType) {h ws ks : List ℕ} (q : Tested env h ws ks) (buf : List ℕ) {x : Header} (g : x ≡ header_in h) where
    abbrev tests : Store → List (Bool × ℕ)
    tests s = impl_tests env s (a ∷ [])

    abbrev words : Store → List ℕ
    words s = show_impl_type env s.nodes a

    own_first : {o : Option ℕ} → FirstOf x.nodes (one_impl_tests (chart_alone l.chart.now) a) o
        → first_broken (lent_tests env (lent_of h ws ks) ++ tests (store_of (lent_of h ws ks))) ≡ o
    unfolding one_impl_tests
    own_first t =
        let s : Store = store_in h ws ks in
        let long : length s.nodes ≡ x.nodes = ap length (nodes_read (none_listed q) g) ∙ length_decode ws ks x.nodes in
        tested_next q tests
        ∙ (ap (λ (y : Env). first_broken (impl_tests y s (a ∷ []))) (lent_env l h ws ks q.passed)
        ∙ rw (defined_alone l.chart.now l.beside l.texts.rule.now l.texts.chart.now a) (t.code s long))

    pub impl_back : {n : ℕ} → FirstOf x.nodes (one_impl_tests (chart_alone l.chart.now) a) (some n)
        → PrintPromised (show_impl_type_call env (lent_of h ws ks) a buf) (refusal n) (store_in h ws ks) buf
    unfolding show_impl_type_call
    impl_back t = print_back env h ws ks tests words buf (own_first t)

    pub impl_done : FirstOf x.nodes (one_impl_tests (chart_alone l.chart.now) a) none → {buf' : List ℕ} {end : ℕ} {o : Reply ℕ}
        → Appended buf 0 buf' end (show_impl_type whole (decode ws ks x.nodes) a) → o ≡ end_reply (length buf') end
        → PrintPromised (show_impl_type_call env (lent_of h ws ks) a buf) o (store_in h ws ks) buf'
    unfolding show_impl_type_call
    impl_done t p w = print_done env h ws ks tests words buf (own_first t) (read_text (none_listed q) g (λ e ns. show_impl_type e ns a)) p w
