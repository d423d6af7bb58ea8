pub mod Pieces
pub mod Calls
pub mod Buffered
pub mod Readings
pub mod Puts
pub mod ManyStores
