-- Segments and the hashes that they cover, own and give away.
pub mod Owners
pub mod Tops
pub mod LeafOwners
pub mod Parts
pub mod Chains
