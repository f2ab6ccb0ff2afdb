-- What is found in maps, options and tests of refusals, whatever the step.
pub mod Options
pub mod Refusals
pub mod InMaps
pub mod AllEntries
