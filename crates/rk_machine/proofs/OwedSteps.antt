-- What is owed, and what each step changes of it.
pub mod WeightsOfMaps
pub mod OwedAfter
pub mod OwedByStep
pub mod ConstructionsCounted
pub mod EachRecorded
