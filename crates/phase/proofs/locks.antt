-- What the holder of locks may do and knows.
pub mod Holding
pub mod Taking
pub mod Giving
pub mod Replying
pub mod Knowing
pub mod Storing
pub mod Making
pub mod Finding
pub mod Choosing
