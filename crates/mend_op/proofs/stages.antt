pub mod Placing
pub mod Partly
pub mod Clearing
pub mod Mending
pub mod Mended
pub mod Noting
