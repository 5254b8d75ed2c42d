-- The events of the device and what its cut may leave, against the views.
pub mod Ties
pub mod Worlds
