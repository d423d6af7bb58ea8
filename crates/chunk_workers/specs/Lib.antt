pub mod Coded
pub mod InOrder
pub mod RunPlaces
pub mod Runs
pub mod Seats
