mod ChangeListLemmas
pub mod ListLemmas
pub mod KnownLemmas
pub mod WriteLemmas
pub mod ShowLemmas
pub mod RowLemmas
pub mod Orders
pub mod PlanLemmas
pub mod RenameLemmas
pub mod DiffLemmas
pub mod WordLemmas
pub mod ReadLemmas
