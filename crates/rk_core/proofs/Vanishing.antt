-- Keys without a link vanish, one by one.
pub mod OneByOne
pub mod WhichMayVanish
pub mod ClearedRing
pub mod LeavingClient
