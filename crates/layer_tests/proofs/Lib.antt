mod NumberLists
mod ToldSizes
mod Values
mod Vectors
