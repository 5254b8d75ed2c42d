-- What is so in whatever a cut may leave: owners, live segments, facts.
pub mod Owning
pub mod Lasting
pub mod Saying
pub mod Seated
pub mod Readying
