-- Each step may be taken: the store that makes the insert, the stores of its note, and the draw.
pub mod Few
pub mod Filled
pub mod Stored
pub mod Publishing
pub mod Noting
pub mod Drawn
