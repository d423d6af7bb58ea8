pub mod FrontHash
mod HasherSteps
mod LaneLists
mod Packets
mod Remainder
mod Rounds
mod Vectors
mod VectorSteps
pub mod Words
pub mod ByteWords
mod ZipperBytes
