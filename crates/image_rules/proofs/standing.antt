-- Records where they are looked for, and what is repaired.
pub mod HeadRules
pub mod KeyRules
pub mod Twins
pub mod CleanSegments
pub mod SoundSegments
