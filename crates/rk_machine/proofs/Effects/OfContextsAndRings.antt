-- What a step is to the clients' contexts, the rings and the authorities.
use Rattle.rk_machine.proofs.Words.{◌≡◌, ℕ, ◌∙◌, ◌⊎◌, ◌&&◌, Bool, true, false, cond, refl, ap, sym, inl, inr, subst, List, option_map_or, Option, Some, None}
use Rattle.rk_machine.proofs.Words.{nat_eq, unwrap_or, nat_le, Context, Errno, SessionId, Client, Ask, Rings, Negative, without_link, without_links}
use Rattle.rk_machine.proofs.Words.{session_changed, spent, with_construction, with_context, with_wait, with_setting, with_assumed, Sessions, unspent}
use Rattle.rk_machine.proofs.Words.{new_session, Authority, Plain, Piped, Negating, Session, Asker, asker_of, Event, is_done, Root, goes, starter_in, hello_in}
use Rattle.rk_machine.proofs.Words.{unlinked_in, cleared_in, query, subject_of, Query, context_of, goes_with, World, tidied, Answer, Done, Start, Refused}
use Rattle.rk_machine.proofs.Words.{Asked, true_false, was_some, none_is, and_false}
use Rattle.std.specs.FinMap as map
use Rattle.rk_names.specs.declared.errors.KeyError.TheVariants as error
use Rattle.rk_message.specs.declared.ask.AskOf.TheVariants as ask
use Rattle.rk_machine.proofs.Effects.KindsOfStep.{Effect, authority_for, refused, still, took, came, went, greets, begins, joins, links, unlinks, marks, tells}
use Rattle.rk_machine.proofs.Effects.KindsOfStep.{sets, adds, assumes, concludes, ran_plain, ran_piped, negates, failed, finished}
use Rattle.rk_machine.proofs.Effects.HelloChanges.{greeted_sessions}
use Rattle.rk_machine.proofs.Effects.AuthoritiesAfter.{unspent_changed, unspent_launched, unspent_concluded, unspent_ended, unspent_issued}
use Rattle.rk_machine.proofs.Effects.RingsAfter.{kind_at, kind_linked, kind_dropped}
use Rattle.rk_machine.proofs.Effects.ContextsAfter.{context_at, context_kept, context_announced, context_ended, context_came, context_given, context_gone}
use Rattle.rk_machine.proofs.Effects.WhoActs.{no_context}
use Rattle.rk_machine.proofs.Effects.HelloMakesRings.{Sound, Made, made_all, greeted_as}

-- what a HELLO that gives this context is answered
abbrev pub root_in : Context → Root
root_in c = record { uid = c.uid; gid = c.gid; thread = unwrap_or c.thread 0; process = unwrap_or c.process 0; session = c.session }

-- the ring goes with client n
abbrev pub goes_in : World → ℕ → ℕ → Bool
goes_in w n ring = option_map_or (λ c. goes_with w n c ring) (context_of w n) false

-- the step is no answered HELLO, and no client goes
pub record IsCalm (e : Event) (a : Answer) : Type 0 where
  pub hello : (n : ℕ) → hello_in n e a ≡ None
  pub gone : (n : ℕ) → (is_done a && goes e (Client n)) ≡ false

-- the step starts no construction
abbrev pub NoStart : Event → Answer → Type 0
NoStart e a = (k : ℕ) → starter_in k e a ≡ None

-- each ring is there or not as before, and of the same kind
abbrev pub SameRings : World → World → Type 0
SameRings old new = (r : ℕ) → kind_at new r ≡ kind_at old r

-- each client has the context that it had
abbrev pub SameContexts : World → World → Type 0
SameContexts old new = (n : ℕ) → context_at new.sessions n ≡ context_at old.sessions n

-- each authority that is unspent now was so before
abbrev pub NoNewAuthority : World → World → Type 0
NoNewAuthority old new = (k : ℕ) (one : Authority) → unspent new.sessions k ≡ Some one → unspent old.sessions k ≡ Some one

-- what a step is to contexts, rings and authorities, in few cases
pub data Move (old : World) (e : Event) (a : Answer) (new : World) : Type 0 where
  -- nothing of it
  rests : IsCalm e a → NoStart e a → SameRings old new → SameContexts old new → NoNewAuthority old new → Move old e a new
  -- a construction starts, in the asker's context and at its depth
  one_starts : (t : SessionId) (x : Ask) (asker : Asker) (k : ℕ) (q : Query) (callout : List ℕ) (authority : Authority) → e ≡ Asked t x
      → a ≡ Start k (subject_of old k q callout)
      → asker_of old t ≡ Some asker → nat_le 9 asker.depth ≡ false → q.context ≡ asker.context → authority.context ≡ asker.context
      → authority.depth ≡ asker.depth → SameRings old new → SameContexts old new
      → ((j : ℕ) → unspent new.sessions j ≡ cond (nat_eq k j) (Some authority) (unspent old.sessions j)) → Move old e a new
  -- client n gets its context
  one_comes : (n : ℕ) (c : Context) → ((m : ℕ) → hello_in m e a ≡ cond (nat_eq n m) (Some (root_in c)) None)
      → ((m : ℕ) → (is_done a && goes e (Client m)) ≡ false) → NoStart e a
      → context_at old.sessions n ≡ None → ((m : ℕ) → context_at new.sessions m ≡ cond (nat_eq n m) (Some c) (context_at old.sessions m))
      → (Sound old → Made c old new) → NoNewAuthority old new → Move old e a new
  -- client n goes
  one_goes : (n : ℕ) → ((m : ℕ) → hello_in m e a ≡ None) → ((m : ℕ) → (is_done a && goes e (Client m)) ≡ nat_eq n m) → NoStart e a
      → ((m : ℕ) → context_at new.sessions m ≡ cond (nat_eq n m) None (context_at old.sessions m))
      → ((r : ℕ) → kind_at new r ≡ cond (goes_in old n r) None (kind_at old r)) → NoNewAuthority old new → Move old e a new

-- ---- the list's side

abbrev pub is_rings : Answer → Bool
is_rings (Done (Rings thread process session user)) = true
is_rings _ = false

no_hello : (n : ℕ) (e : Event) (a : Answer) → is_rings a ≡ false → hello_in n e a ≡ None
no_hello n (Asked (Client m) (ask.Hello hello)) (Done (Rings thread process session user)) h = absurd (true_false h)
no_hello n _ _ h = refl

no_starter : (k : ℕ) (e : Event) (error : Errno) → starter_in k e (Refused error) ≡ None
no_starter k (Asked t x) error = refl
no_starter k _ error = refl

calm : (e y : Event) (a z : Answer) → e ≡ y → a ≡ z → ((n : ℕ) → hello_in n y z ≡ None) → ((n : ℕ) → (is_done z && goes y (Client n)) ≡ false) → IsCalm e a
calm e y a z ev ra hello gone = record {
  hello = λ n. (λ i. hello_in n (ev i) (ra i)) ∙ hello n;
  gone = λ n. (λ i. is_done (ra i) && goes (ev i) (Client n)) ∙ gone n;
}

-- an ask that is not answered Rings
pub calm_asked : (e : Event) (a z : Answer) (t : SessionId) (x : Ask) → e ≡ Asked t x → a ≡ z → is_rings z ≡ false → IsCalm e a
calm_asked e a z t x ev ra other = calm e (Asked t x) a z ev ra (λ n. no_hello n (Asked t x) z other) (λ n. and_false (is_done z) false refl)

-- what is no ask, and not the end of a client
calm_else : (e y : Event) (a : Answer) → e ≡ y → ((n : ℕ) → hello_in n y a ≡ None) → ((n : ℕ) → goes y (Client n) ≡ false) → IsCalm e a
calm_else e y a ev hello gone = calm e y a a ev refl hello (λ n. and_false (is_done a) (goes y (Client n)) (gone n))

not_started : (e y : Event) (a z : Answer) → e ≡ y → a ≡ z → ((k : ℕ) → starter_in k y z ≡ None) → NoStart e a
not_started e y a z ev ra none k = (λ i. starter_in k (ev i) (ra i)) ∙ none k

-- ---- the world's side

module _ (old new mid : World) (w : new ≡ mid) where
  rings_at : SameRings old mid → SameRings old new
  rings_at h r = ap (λ (v : World). kind_at v r) w ∙ h r

  contexts_at : SameContexts old mid → SameContexts old new
  contexts_at h n = ap (λ (v : World). context_at v.sessions n) w ∙ h n

  authorities_at : ((k : ℕ) → unspent mid.sessions k ≡ unspent old.sessions k) → NoNewAuthority old new
  authorities_at h k one is = sym (h k) ∙ ap (λ (v : World). unspent v.sessions k) (sym w) ∙ is

  spent_at : (q : ℕ) → ((k : ℕ) → unspent mid.sessions k ≡ cond (nat_eq q k) None (unspent old.sessions k)) → NoNewAuthority old new
  spent_at q h k one is = was_some (nat_eq q k) (unspent old.sessions k) one (sym (h k) ∙ ap (λ (v : World). unspent v.sessions k) (sym w) ∙ is)

  -- sessions are left
  in_rings : (e : Event) (a : Answer) → IsCalm e a → NoStart e a → SameRings old mid → mid.sessions ≡ old.sessions → Move old e a new
  in_rings e a quiet none rings same =
      rests quiet none (rings_at rings) (contexts_at (λ n. ap (λ (s : Sessions). context_at s n) same))
      (authorities_at (λ k. ap (λ (s : Sessions). unspent s k) same))

  -- one session is changed, and not its context
  in_session : (e : Event) (a : Answer) → IsCalm e a → NoStart e a → (id : SessionId) (f : Session → Session) → ((s : Session) → (f s).context ≡ s.context)
      → SameRings old mid
      → mid.sessions ≡ session_changed id f old.sessions → Move old e a new
  in_session e a quiet none id f keeps rings same =
      rests quiet none (rings_at rings) (contexts_at (λ n. ap (λ (s : Sessions). context_at s n) same ∙ context_kept id f keeps old.sessions n))
      (authorities_at (λ k. ap (λ (s : Sessions). unspent s k) same ∙ unspent_changed id f old.sessions k))

-- a context that is made, where a session gets it
made_as : (old new mid : World) (c : Context) {a : Sessions} → new ≡ record mid { sessions = a } → Made c old mid → Made c old new
made_as old new mid c {a} w h =
    subst (λ (v : World). Made c old v) (sym w) (record {
      grown = record {
        sound = record { zero = h.grown.sound.zero; drawn = h.grown.sound.drawn };
        stays = h.grown.stays;
        made = h.grown.made;
        keeps = h.grown.keeps;
      };
      lives = h.lives;
      thread_new = h.thread_new;
      process_new = h.process_new;
    })

-- ---- each step

unlinked : (old new : World) (e : Event) (a : Answer) (ring : Option ℕ) (k : ℕ) → IsCalm e a → NoStart e a
    → (new ≡ tidied (unlinked_in ring k old)) ⊎ (new ≡ tidied (cleared_in ring old)) → Move old e a new
unlinked old new e a ring k quiet none (inl w) = in_rings old new _ w e a quiet none (kind_linked ring (without_link k) (λ r. refl) old.rings) refl
unlinked old new e a ring k quiet none (inr w) = in_rings old new _ w e a quiet none (kind_linked ring without_links (λ r. refl) old.rings) refl

-- every step is one of the moves of contexts, rings and authorities
pub move : (old : World) (now : ℕ) (e : Event) (a : Answer) (new : World) → Effect old now e a new → Move old e a new
move old now e a new (refused error ra w free) =
    in_rings old new old w e a (calm e e a _ refl ra (λ n. no_hello n e (Refused error) refl) (λ n. refl))
    (not_started e e a _ refl ra (λ k. no_starter k e error)) (λ r. refl) refl
move old now e a new (still t wait ev is ready ra w) =
    in_rings old new old w e a (calm_else e _ a ev (λ n. refl) (λ n. refl)) (not_started e _ a a ev refl (λ k. refl)) (λ r. refl) refl
move old now e a new (took t wait outcome ev is ready ra w) =
    in_session old new _ w e a (calm_else e _ a ev (λ n. refl) (λ n. refl)) (not_started e _ a a ev refl (λ k. refl)) t (with_wait None) (λ s. refl)
    (λ r. refl) refl
move old now e a new (came n ev fresh ra w) =
    rests (calm_else e _ a ev (λ n. refl) (λ n. refl)) (not_started e _ a a ev refl (λ k. refl)) (rings_at old new _ w (λ r. refl))
    (contexts_at old new _ w (λ m. context_came n old.sessions m (none_is (map.get old.sessions.clients n) fresh))) (authorities_at old new _ w (λ k. refl))
move old now e a new (went n ev there ra w) =
    one_goes n (λ m. ap (λ y. hello_in m y a) ev) (λ m. (λ i. is_done (ra i) && goes (ev i) (Client m))) (not_started e _ a a ev refl (λ k. refl))
    (λ m. ap (λ (v : World). context_at v.sessions m) w ∙ context_gone n old.sessions m)
    (λ r. ap (λ (v : World). kind_at v r) w ∙ kind_dropped (goes_in old n) old.rings r) (authorities_at old new _ w (λ k. refl))
move old now e a new (greets n hello ev can none joined h) =
    let c : Context = greeted_as hello h.0 h.1 h.2 h.3 in
    let same : h.4.sessions ≡ old.sessions = greeted_sessions hello old h.4 h.0 h.1 h.2 h.3 h.5 in
    one_comes n c (λ m. (λ i. hello_in m (ev i) (h.6.0 i))) (λ m. (λ i. is_done (h.6.0 i) && goes (ev i) (Client m)))
    (not_started e _ a _ ev h.6.0 (λ k. refl)) (no_context old n none)
    (λ m. ap (λ (v : World). context_at v.sessions m) h.6.1 ∙ ap (λ (s : Sessions). context_at (session_changed (Client n) (with_context c) s) m) same
    ∙ context_given n c old.sessions m can.there)
    (λ sound. made_as old new h.4 c h.6.1 (made_all hello old h.4 h.0 h.1 h.2 h.3 h.5 sound joined))
    (authorities_at old new _ h.6.1 (λ k. unspent_changed (Client n) (with_context c) h.4.sessions k ∙ ap (λ (s : Sessions). unspent s k) same))
move old now e a new (begins t asker typ description callout r ring k ev can is depth fresh ra w) =
    let authority : Authority = authority_for asker typ description now callout ring in
    one_starts t _ asker k (query asker typ description now) callout authority ev ra is depth refl refl refl
    (rings_at old new _ w (kind_linked (Some ring) _ (λ r. refl) old.rings))
    (contexts_at old new _ w (context_kept t _ (λ s. refl) (with_construction k authority old.sessions)))
    (λ j. ap (λ (v : World). unspent v.sessions j) w ∙ unspent_changed t _ (with_construction k authority old.sessions) j
    ∙ unspent_issued k authority old.sessions j)
move old now e a new (joins t x ring k ev asks can building apart ra w) =
    in_session old new _ w e a (calm_asked e a _ t x ev ra refl) (not_started e _ a _ ev ra (λ k. refl)) t _ (λ s. refl)
    (kind_linked ring _ (λ r. refl) old.rings) refl
move old now e a new (links t x ring k n ev completes_none not_assume ra w) =
    in_rings old new _ w e a (calm_asked e a _ t x ev ra refl) (not_started e _ a _ ev ra (λ k. refl)) (kind_linked ring _ (λ r. refl) old.rings) refl
move old now e a new (unlinks t x ring k ev completes_none not_assume ra w) =
    unlinked old new e a ring k (calm_asked e a _ t x ev ra refl) (not_started e _ a _ ev ra (λ k. refl)) w
move old now e a new (marks t x k f ev completes_none not_assume mild ra w) =
    in_rings old new _ w e a (calm_asked e a _ t x ev ra refl) (not_started e _ a _ ev ra (λ k. refl)) (λ r. refl) refl
move old now e a new (tells t x bytes ev ra w) =
    in_rings old new old w e a (calm_asked e a _ t x ev ra refl) (not_started e _ a _ ev ra (λ k. refl)) (λ r. refl) refl
move old now e a new (sets t x setting n ev completes_none not_assume can ra w) =
    in_session old new _ w e a (calm_asked e a _ t x ev ra refl) (not_started e _ a _ ev ra (λ k. refl)) t (with_setting setting) (λ s. refl) (λ r. refl) refl
move old now e a new (adds t asker typ description payload r ring k ev fresh ra w) =
    in_rings old new _ w e a (calm_asked e a _ t _ ev ra refl) (not_started e _ a _ ev ra (λ k. refl)) (kind_linked (Some ring) _ (λ r. refl) old.rings) refl
move old now e a new (assumes t key ev can none ra w) =
    in_session old new _ w e a (calm_asked e a _ t _ ev ra refl) (not_started e _ a _ ev ra (λ k. refl)) t (with_assumed _) (λ s. refl) (λ r. refl) refl
move old now e a new (concludes t x asker ring k condition end ev which can is own final ra w) =
    rests (calm_asked e a _ t x ev ra refl) (not_started e _ a _ ev ra (λ k. refl)) (rings_at old new _ w (kind_linked ring _ (λ r. refl) old.rings))
    (contexts_at old new _ w (context_announced now k _ (spent k old.sessions))) (spent_at old new _ w k (unspent_concluded now k _ old.sessions))
move old now e a new (ran_plain k st ev is launches ra w) =
    rests (calm_else e _ a ev (λ n. refl) (λ n. refl)) (not_started e _ a a ev refl (λ k. refl)) (rings_at old new _ w (λ r. refl))
    (contexts_at old new _ w (λ n. refl)) (authorities_at old new _ w (unspent_launched k (Plain new_session) old.sessions))
move old now e a new (ran_piped k ev is ra w) =
    rests (calm_else e _ a ev (λ n. refl) (λ n. refl)) (not_started e _ a a ev refl (λ k. refl)) (rings_at old new _ w (λ r. refl))
    (contexts_at old new _ w (λ n. refl)) (authorities_at old new _ w (unspent_launched k Piped old.sessions))
move old now e a new (negates k how payload ev is fails ra w) =
    rests (calm_else e _ a ev (λ n. refl) (λ n. refl)) (not_started e _ a a ev refl (λ k. refl)) (rings_at old new _ w (λ r. refl))
    (contexts_at old new _ w (λ n. refl)) (authorities_at old new _ w (unspent_launched k Negating old.sessions))
move old now e a new (failed k st ev is launches ra w) =
    rests (calm_else e _ a ev (λ n. refl) (λ n. refl)) (not_started e _ a a ev refl (λ k. refl)) (rings_at old new _ w (λ r. refl))
    (contexts_at old new _ w (context_ended now k (Negative error.NoKey) old)) (spent_at old new _ w k (unspent_ended now k (Negative error.NoKey) old))
move old now e a new (finished k how payload st condition ev is running final ra w) =
    rests (calm_else e _ a ev (λ n. refl) (λ n. refl)) (not_started e _ a a ev refl (λ k. refl)) (rings_at old new _ w (λ r. refl))
    (contexts_at old new _ w (context_ended now k condition old)) (spent_at old new _ w k (unspent_ended now k condition old))
