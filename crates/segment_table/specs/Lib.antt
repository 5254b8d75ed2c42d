pub mod Claims
pub mod Owner
pub mod Media
pub mod Stores
pub mod Pairs
pub use Rattle.sound_image.specs.Records
pub use Rattle.sound_image.specs.Rules
pub use Rattle.sound_image.specs.Segments
