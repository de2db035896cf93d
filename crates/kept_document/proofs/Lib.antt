mod AsBox
pub mod CommitAnswers
pub mod DeepChanges
pub mod DeepRuns
pub mod Handles
pub mod Refusals
pub mod RenamedTexts
pub mod RewrittenTexts
