-- What a view knows of the newest words and of a medium beside them, and what it has to know for its stores.
pub mod Beside
pub mod Backing
pub mod Known
pub mod Owing
pub mod Placing
pub mod stash
pub mod Moving
pub mod Changing
pub mod Holders
pub mod Preparing
pub mod Drawing
pub mod Repaying
