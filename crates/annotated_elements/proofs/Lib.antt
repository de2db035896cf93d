pub mod FollowLemmas
pub mod EndLemmas
pub mod PickLemmas
pub mod FoundLemmas
pub mod GroupLemmas
pub mod AnnotatedLemmas
