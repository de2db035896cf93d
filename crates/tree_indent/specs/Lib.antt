pub mod Shifted
pub mod Laws
pub mod Indented
pub mod Mapped
