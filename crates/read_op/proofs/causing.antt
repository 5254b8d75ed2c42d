-- Of a get, by what each end comes: in a world, and whatever values its events find.
pub mod Causing
pub mod Loading
pub mod Anywhere
