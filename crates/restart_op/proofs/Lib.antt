pub mod images
pub mod restarts
pub mod Currents
pub mod Opened
pub mod closes
pub mod Quiet
