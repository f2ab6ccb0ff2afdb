-- One outcome: all who wait on a key are answered alike.
pub mod WhatACollectFinds
pub mod WhoIsTold
pub mod OutcomeOfAKey
pub mod EachOutcome
