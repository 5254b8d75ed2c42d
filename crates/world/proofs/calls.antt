-- The kinds of step of calls keep what holds, part by part; all kinds put together.
pub mod leaving
pub mod reading
pub mod mildly
pub mod standing
pub mod seating
pub mod deeds
