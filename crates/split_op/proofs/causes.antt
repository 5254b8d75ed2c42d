-- Why a split ends: what it remembers, and the cause of what it decides.
pub mod Recalling
pub mod ByCause
pub mod Holding
