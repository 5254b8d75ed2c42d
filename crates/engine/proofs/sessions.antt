-- A core that holds is good, and its runs are sessions.
pub mod Cut
pub mod Causing
pub mod Goodness
pub mod Alone
pub mod Different
pub mod CutSession
pub mod CloseSession
