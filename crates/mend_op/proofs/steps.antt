pub mod Loading
pub mod Heads
pub mod Finishing
pub mod Storing
pub mod Renewing
pub mod Giving
