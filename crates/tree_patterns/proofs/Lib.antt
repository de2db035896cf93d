pub mod Stacks
pub mod LeafLists
