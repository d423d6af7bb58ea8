pub mod Groups
pub mod HeldLists
pub mod Groupings
pub mod Records
