pub mod ByteLists
