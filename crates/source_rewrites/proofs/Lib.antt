pub mod RewriteLemmas
pub mod CommandLemmas
pub mod MemberLemmas
