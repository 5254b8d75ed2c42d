pub mod Within
pub mod MendIsPart
pub mod Going
pub mod ByCause
