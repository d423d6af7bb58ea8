pub mod AheadStores
pub mod Apart
pub mod Streams
