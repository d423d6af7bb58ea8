pub mod Laid
pub mod Kinds
pub mod KindViews
pub mod Files
pub mod Chains
pub mod PaddingSizes
pub mod LeastPadding
