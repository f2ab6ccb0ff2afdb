-- Who stands in the slots, and who waits for whom.
use Rattle.std.specs.Prelude.{◌≡◌, ◌≤◌, ◌⊎◌, ◌+◌, ◌==◌, ℕ, Bool, false, Option, Some, None, is_some, option_map, option_and_then, unwrap_or, if◌then◌else◌}
use Rattle.std.specs.Prelude.{map as list_map}
use Rattle.std.specs.Ordering.{nat_cmp}
use Rattle.std.specs.FinMap as map
use Rattle.rk_names.specs.declared.numbers.SessionId.{SessionId}
use Rattle.rk_names.specs.declared.numbers.SessionId.TheVariants as id
use Rattle.rk_table.specs.Stored.{Stored, places}
use Rattle.rk_auth.specs.declared.session.Session.{Session}
use Rattle.rk_auth.specs.declared.session.Outcome.{Outcome}
use Rattle.rk_auth.specs.declared.construction.Construction.{Construction}
use Rattle.rk_auth.specs.declared.construction.Stage.TheVariants as stage
use Rattle.rk_auth.specs.declared.slot.Slot.{Slot}
use Rattle.rk_auth.specs.declared.slot.Standing.{Standing}
use Rattle.rk_auth.specs.declared.slot.Standing.TheVariants as standing
use Rattle.rk_auth.specs.Sessions.{new_session, handler_in, waited_key}
use Rattle.rk_auth.specs.Changes.{in_handler, told}
use Rattle.rk_auth.specs.Chains.{standing_at, home_at, names, AreChained}

-- ---- who stands there

-- by which name one knows who stands there; nobody has none
abbrev pub who_of : Standing → Option SessionId
who_of standing.Nobody = None
who_of (standing.Client n s) = Some (id.Client n)
who_of (standing.Construction k c) = Some (id.Handler k)

-- the key for which the session of who stands there waits, if it does
abbrev pub waited_of : Standing → Option ℕ
waited_of standing.Nobody = None
waited_of (standing.Client n s) = waited_key s
waited_of (standing.Construction k c) = option_and_then waited_key (handler_in c.stage)

-- the key for which who stands there waits, if anybody does
abbrev pub waited_in : Option Standing → Option ℕ
waited_in o = option_and_then waited_of o

-- who stands at the place: `None` for no slot, `Some None` for the slot that is nobody's
abbrev pub who_at : map.FinMap nat_cmp Slot → ℕ → Option (Option SessionId)
who_at m q = option_map who_of (standing_at m q)

-- the session of the client who stands there
abbrev pub client_of : Option Standing → Session
client_of (Some (standing.Client n s)) = s
client_of _ = new_session

-- the construction that stands there
abbrev pub construction_of : Option Standing → Construction
construction_of (Some (standing.Construction k c)) = c
construction_of _ = record { stage = stage.Starting; authority = None }

-- the session of client n, if it is he who stands there
abbrev pub client_named : ℕ → Option Standing → Option Session
client_named n (Some (standing.Client own s)) = if own == n then Some s else None
client_named n _ = None

-- the construction of key k, if it is that which stands there
abbrev pub construction_named : ℕ → Option Standing → Option Construction
construction_named k (Some (standing.Construction own c)) = if own == k then Some c else None
construction_named k _ = None

-- ---- changes of who stands there

-- the session is changed by f, if there is one
abbrev pub in_session : (Session → Session) → Standing → Standing
in_session f standing.Nobody = standing.Nobody
in_session f (standing.Client n s) = standing.Client n (f s)
in_session f (standing.Construction k c) = standing.Construction k (in_handler f c)

-- the construction is changed by f, if there is one
abbrev pub in_construction : (Construction → Construction) → Standing → Standing
in_construction f standing.Nobody = standing.Nobody
in_construction f (standing.Client n s) = standing.Client n s
in_construction f (standing.Construction k c) = standing.Construction k (f c)

-- who stands there gets the outcome of the key, if meant
abbrev pub option_told : ℕ → Outcome → Bool → Option Standing → Option Standing
option_told k outcome meant o = if meant then option_map (in_session (told k outcome)) o else o

-- ---- names and their slots

-- what one sees by the names of an index
abbrev pub seen : {V : Type 0} → (Option Standing → V) → map.FinMap nat_cmp Slot → map.FinMap nat_cmp ℕ → map.FinMap nat_cmp V
seen pick m index = map.from_entries (list_map (λ e. (e.0, pick (standing_at m e.1))) (map.entries index))

-- the slot of a session
abbrev pub place_of : map.FinMap nat_cmp ℕ → map.FinMap nat_cmp ℕ → SessionId → Option ℕ
place_of clients constructions (id.Client n) = map.get clients n
place_of clients constructions (id.Handler k) = map.get constructions k

-- the slot that heads those who wait for the key
abbrev pub home_for : map.FinMap nat_cmp ℕ → ℕ → ℕ → ℕ
home_for constructions nobody k = unwrap_or (map.get constructions k) nobody

-- the chain is headed by that slot
abbrev pub same_home : Option ℕ → Option ℕ → Bool
same_home None o = false
same_home (Some h) o = names o h

-- who waits stands in a chain: in that of the construction for which it waits, or in nobody's, where the construction came later or is gone
pub record IsTied (m : map.FinMap nat_cmp Slot) (constructions : map.FinMap nat_cmp ℕ) (nobody : ℕ) : Type 0 where
  pub chained : AreChained m
  pub waits : (q : ℕ) → is_some (home_at m q) ≡ is_some (waited_in (standing_at m q))
  pub homes : (q h : ℕ) → home_at m q ≡ Some h → (h ≡ nobody) ⊎ (option_and_then (map.get constructions) (waited_in (standing_at m q)) ≡ Some h)
  pub heads : (k i : ℕ) → map.get constructions k ≡ Some i → who_at m i ≡ Some (Some (id.Handler k))
  pub nobody_there : who_at m nobody ≡ Some None

-- the slots, the indices of their names, and how many constructions there are places for
pub record AreSeated (slots : Stored Slot) (clients constructions : Stored ℕ) (nobody reserved : ℕ) : Type 0 where
  pub tied : IsTied slots.facts constructions.facts nobody
  pub names : (n i : ℕ) → map.get clients.facts n ≡ Some i → who_at slots.facts i ≡ Some (Some (id.Client n))
  pub few : map.len clients.facts ≤ 64
  pub in_clients : 64 ≤ places clients
  pub fits : map.len constructions.facts ≤ reserved
  pub in_constructions : reserved ≤ places constructions
  pub in_slots : 64 + reserved ≤ slots.room + map.len clients.facts + map.len constructions.facts

-- those in the chain of home, and then those in the chain of nobody, got the outcome of the key
pub record AreBothTold (m n : map.FinMap nat_cmp Slot) (home : Option ℕ) (nobody k : ℕ) (outcome : Outcome) : Type 0 where
  pub chained : AreChained n
  pub homes : (q : ℕ) → home_at n q ≡ home_at m q
  pub standing : (q : ℕ) → standing_at n q ≡ option_told k outcome (same_home (Some nobody) (home_at m q)) (option_told k outcome (same_home home (home_at m q)) (standing_at m q))
