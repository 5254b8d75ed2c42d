-- What all proofs rest on: lists of a view, seats, words of the image, tables, entries.
pub mod Grounds
pub mod Structures
pub mod Tables
pub mod Lists
pub mod Seats
pub mod Entries
pub mod NotedLists
