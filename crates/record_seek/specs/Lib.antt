pub mod Found
pub mod FirstRecords
pub mod Met
pub mod Begins
pub mod KeyTests
pub mod Steps
pub mod Ends
