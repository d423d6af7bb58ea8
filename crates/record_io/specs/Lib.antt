pub mod Outside
pub mod FaultCounts
pub mod Seen
pub mod Buffers
pub mod Calls
pub mod Puts
pub mod Edge
pub mod ManyStores
