-- All laws together.
pub mod EachEffectiveOrMisuse
pub mod KeepsLaws
