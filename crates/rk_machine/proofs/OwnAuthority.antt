-- Own authority: a completion is its own handler's.
pub mod EachOwn
