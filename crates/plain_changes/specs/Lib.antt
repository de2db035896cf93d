pub mod LeafChanges
