pub mod MentionLemmas
pub mod WordLemmas
