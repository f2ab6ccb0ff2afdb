-- A client goes, and its rings one by one.
use Rattle.rk_core.proofs.Words.{◌≡◌, ℕ, Bool, true, false, cond, not, ◌&&◌, ◌||◌, refl, sym, ap, ◌∙◌, Option, Some, None, nat_eq, option_map_or, nat_cmp_total}
use Rattle.rk_core.proofs.Words.{both_ways, Context, kept_where, Key, is_building, Ring, is_linked, has_link, is_shared, without_client, World, tidied}
use Rattle.rk_core.proofs.Words.{context_of, is_ring, goes_with, rings_without, gone, stays, StayBut, removed_if, without_if, session_goes, get_removed}
use Rattle.rk_core.proofs.Words.{get_kept_where}
use Rattle.std.specs.FinMap as map
use Rattle.rk_core.proofs.LinksAndNames.LinksAfter.{Rings, links_kept, has_key}
use Rattle.rk_core.proofs.Vanishing.OneByOne.{same_keys, get_tidied, all_stay, stays_by}
use Rattle.rk_core.proofs.Vanishing.WhichMayVanish.{still_stays}

get_removed_if : (o : Option ℕ) (rings : Rings) (q : ℕ) → map.get (removed_if o rings) q ≡ cond (is_ring o q) None (map.get rings q)
get_removed_if None rings q = refl
get_removed_if (Some ring) rings q = get_removed rings ring q

-- ---- what vanished before vanishes all the same

fewer_links : (w : World) (o : Option ℕ) (q k : ℕ) → is_linked (without_if o w).rings q k ≡ true → is_linked w.rings q k ≡ true
fewer_links w o q k h = by_ring (is_ring o q) (map.get w.rings q) (sym (ap (has_key k) (get_removed_if o w.rings q)) ∙ h)
  where
    by_ring : (b : Bool) (r : Option Ring) → has_key k (cond b None r) ≡ true → has_key k r ≡ true
    by_ring true r h = absurd (both_ways false refl h)
    by_ring false r h = h

not_stays : (w : World) (o : Option ℕ) (k : ℕ) → stays w k ≡ false → stays (without_if o w) k ≡ false
not_stays w o k h = by_test (stays (without_if o w) k) refl
  where
    by_test : (b : Bool) → stays (without_if o w) k ≡ b → stays (without_if o w) k ≡ false
    by_test true t = absurd (both_ways _ h (still_stays (without_if o w) w k (links_kept (without_if o w).rings w.rings k (λ q. fewer_links w o q k)) refl t))
    by_test false t = t

none_or_none : (b : Bool) → ◌≡◌ {A = Option Key} (cond b None None) None
none_or_none true = refl
none_or_none false = refl

without_tidied : (w : World) (o : Option ℕ) → tidied (without_if o (tidied w)) ≡ tidied (without_if o w)
without_tidied w o = λ i. record (without_if o w) {
  keys =
      same_keys (tidied (without_if o (tidied w))).keys (tidied (without_if o w)).keys
      (λ q. get_tidied (without_if o (tidied w)) q ∙ by_test q (stays w q) refl ∙ sym (get_tidied (without_if o w) q)) i;
}
  where
    by_test : (q : ℕ) (b : Bool) → stays w q ≡ b → cond (stays (without_if o (tidied w)) q) (map.get (tidied w).keys q) None
        ≡ cond (stays (without_if o w) q) (map.get w.keys q) None
    by_test q true t =
        let same : map.get (tidied w).keys q ≡ map.get w.keys q = get_tidied w q ∙ ap (λ b. cond b (map.get w.keys q) None) t in
        λ i. cond (stays_by (without_if o (tidied w)) (without_if o w) q refl same i) (same i) None
    by_test q false t =
        ap (λ x. cond (stays (without_if o (tidied w)) q) x None) (get_tidied w q ∙ ap (λ b. cond b (map.get w.keys q) None) t)
        ∙ none_or_none (stays (without_if o (tidied w)) q)
        ∙ ap (λ b. cond b (map.get w.keys q) None) (sym (not_stays w o q t))

-- ---- which rings go

session_is : (shared : Bool) (ring q : ℕ) → is_ring (session_goes shared ring) q ≡ (nat_eq ring q && not shared)
session_is true ring q = never (nat_eq ring q)
  where
    never : (b : Bool) → false ≡ (b && false)
    never true = refl
    never false = refl
session_is false ring q = always (nat_eq ring q)
  where
    always : (b : Bool) → b ≡ (b && true)
    always true = refl
    always false = refl

those_left : (x y z : Bool) (o : Option Ring) → cond z None (cond y None (cond x None o)) ≡ cond (option_map_or (λ _. not (x || y || z)) o false) o None
those_left true true true None = refl
those_left true true true (Some r) = refl
those_left true true false None = refl
those_left true true false (Some r) = refl
those_left true false true None = refl
those_left true false true (Some r) = refl
those_left true false false None = refl
those_left true false false (Some r) = refl
those_left false true true None = refl
those_left false true true (Some r) = refl
those_left false true false None = refl
those_left false true false (Some r) = refl
those_left false false true None = refl
those_left false false true (Some r) = refl
those_left false false false None = refl
those_left false false false (Some r) = refl

same_rings : (m n : Rings) → ((q : ℕ) → map.get m q ≡ map.get n q) → m ≡ n
same_rings m n h = map.same_map nat_cmp_total map.nat_cmp-IsAntisymmetric m n h

rings_go : (w : World) (n : ℕ) (c : Context) → context_of w n ≡ Some c
    → removed_if (session_goes (is_shared w.sessions n c.session) c.session) (removed_if c.process (removed_if c.thread w.rings)) ≡ rings_without n w
rings_go w n c is = same_rings _ _ (λ q.
    get_removed_if (session_goes (is_shared w.sessions n c.session) c.session) (removed_if c.process (removed_if c.thread w.rings)) q
    ∙ (λ i. cond (session_is (is_shared w.sessions n c.session) c.session q i) None
    ((get_removed_if c.process (removed_if c.thread w.rings) q ∙ ap (cond (is_ring c.process q) None) (get_removed_if c.thread w.rings q)) i))
    ∙ those_left (is_ring c.thread q) (is_ring c.process q) (nat_eq c.session q && not (is_shared w.sessions n c.session)) (map.get w.rings q)
    ∙ ap (λ (o : Option Context). cond (option_map_or (λ _. not (option_map_or (λ (x : Context). goes_with w n x q) o false)) (map.get w.rings q) false)
    (map.get w.rings q) None) (sym is)
    ∙ sym (get_kept_where (λ ring r. not (option_map_or (λ (x : Context). goes_with w n x ring) (context_of w n) false)) w.rings q))

none_go : (w : World) (n : ℕ) → context_of w n ≡ None → rings_without n w ≡ w.rings
none_go w n none = same_rings _ _ (λ q.
    get_kept_where (λ ring r. not (option_map_or (λ (x : Context). goes_with w n x ring) (context_of w n) false)) w.rings q
    ∙ ap (λ (o : Option Context). cond (option_map_or (λ _. not (option_map_or (λ (x : Context). goes_with w n x q) o false)) (map.get w.rings q) false)
    (map.get w.rings q) None) none
    ∙ all_kept (map.get w.rings q))
  where
    all_kept : (o : Option Ring) → cond (option_map_or (λ _. true) o false) o None ≡ o
    all_kept None = refl
    all_kept (Some r) = refl

-- ---- the client goes

-- a client without a context takes nothing with it
pub leaves_alone : (w : World) (n : ℕ) → context_of w n ≡ None → StayBut (λ k. false) w
    → ◌≡◌ {A = World} (record w { sessions = without_client n w.sessions }) (tidied (gone n w))
leaves_alone w n none tidy =
    (λ i. record (sym (all_stay w tidy) i) { sessions = without_client n w.sessions })
    ∙ (λ i. record w {
      keys = kept_where (λ k one. has_link (sym (none_go w n none) i) k || is_building one) w.keys;
      rings = sym
          (none_go w n none) i;
      sessions = without_client n w.sessions;
    })

-- a client with a context takes its thread and process rings with it, and a session ring that it shares with none
pub leaves_with : (w w1 w2 w3 : World) (n : ℕ) (c : Context) (session : Option ℕ) → context_of w n ≡ Some c → w1 ≡ tidied (without_if c.thread w)
    → w2 ≡ tidied (without_if c.process w1) → w3 ≡ tidied (without_if session w2)
    → session ≡ session_goes (is_shared w.sessions n c.session) c.session
    → ◌≡◌ {A = World} (record w3 { sessions = without_client n w3.sessions }) (tidied (gone n w))
leaves_with w w1 w2 w3 n c session is one two three goes =
    let last : Option ℕ = session_goes (is_shared w.sessions n c.session) c.session in
    let u : World = without_if last (without_if c.process (without_if c.thread w)) in
    let all : w3 ≡ tidied u =
    three ∙ (λ i. tidied (without_if (goes i) (two i))) ∙ without_tidied (without_if c.process w1) last
    ∙ ap (λ (v : World). tidied (without_if last (without_if c.process v))) one
    ∙ sym (without_tidied (without_if c.process (tidied (without_if c.thread w))) last)
    ∙ ap (λ (v : World). tidied (without_if last v)) (without_tidied (without_if c.thread w) c.process)
    ∙ without_tidied (without_if c.process (without_if c.thread w)) last in
    let rings : u.rings ≡ rings_without n w = rings_go w n c is in
    (λ i. record (all i) { sessions = without_client n (all i).sessions })
    ∙ (λ i. record w { keys = kept_where (λ k one. has_link (rings i) k || is_building one) w.keys; rings = rings i; sessions = without_client n w.sessions })
