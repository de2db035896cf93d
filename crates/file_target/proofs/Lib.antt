pub mod FileLemmas
pub mod CallLemmas
