pub mod Input
pub mod LineEnds
pub mod LastLines
pub mod LineFeeds
pub mod WriteCommand
