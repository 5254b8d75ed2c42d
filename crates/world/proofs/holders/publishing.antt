-- What the holder of a split knows of words, and what it has to know to make the side live and to open the segment.
pub mod Shown
pub mod Sides
pub mod Copied
pub mod Publishing
pub mod Opening
