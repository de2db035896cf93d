pub mod FloorLemmas
pub mod PlaceLemmas
pub mod DifferenceLemmas
pub mod ChangeLemmas
