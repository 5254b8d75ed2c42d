-- The kinds of step that who has a segment whole may take too; and what each step leaves as it was.
pub mod Calm
pub mod Mildly
pub mod Leaving
pub mod Good
pub mod Well
