-- No circle of waits, and no deep chain of starts.
pub mod NeverCircle
pub mod NeverDeep
