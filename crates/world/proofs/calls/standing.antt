-- Each kind of step of a caller keeps what is said of the structure; and each kind of step keeps the invariant.
pub mod Structure
pub mod Every
