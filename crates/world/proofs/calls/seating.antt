-- Views that are cut in two or joined.
pub mod Moving
