pub mod Bytes
pub mod LineLemmas
pub mod ColumnLemmas
pub mod PlaceLemmas
pub mod EncodeLemmas
pub mod IndexLemmas
pub mod Bounds
