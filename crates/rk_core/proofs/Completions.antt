-- An ask that completes a key.
pub mod CompletionByParts
