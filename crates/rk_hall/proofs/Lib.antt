pub mod WhatIsSeen
pub mod Receipts
pub mod Starts
pub mod Crossing
pub mod LedgerNames
pub mod HandedIn
