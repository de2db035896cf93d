pub mod Roots
pub mod Inserted
pub mod Recorded
pub mod ChangedRanges
pub mod Unchanged
pub mod RangedErrors
pub mod Accepted
