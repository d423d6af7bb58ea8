pub mod CodedLists
pub mod Ones
pub mod Rising
pub mod RunLists
pub mod RunPlaces
pub mod Sorted
mod Values
