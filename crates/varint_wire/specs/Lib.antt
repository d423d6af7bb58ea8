pub mod Varint
pub mod ShortestSpellings
pub mod Reading
pub mod Held
