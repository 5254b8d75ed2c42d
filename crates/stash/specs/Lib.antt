pub mod NoteSlots
pub mod Exact
pub mod Segment
pub mod Noted
