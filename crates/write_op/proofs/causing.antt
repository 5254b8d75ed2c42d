-- What a change remembers, and by what each of its outcomes comes.
pub mod Recalling
pub mod Told
pub mod Unchanged
pub mod Deciding
pub mod ByCause
pub mod Telling
pub mod Anywhere
pub mod Kinds
pub mod Others
pub mod Inside
