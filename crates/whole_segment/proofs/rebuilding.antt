-- Notes that are made anew: what the words say, and that they are exact.
pub mod Rebuilt
pub mod NotesByWords
pub mod Noting
pub mod Written
