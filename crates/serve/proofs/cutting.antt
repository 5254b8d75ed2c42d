-- What callers were told by the time of a cut.
pub mod AtCut
pub mod CutToSession
