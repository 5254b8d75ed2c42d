mod Streams
mod Lines
