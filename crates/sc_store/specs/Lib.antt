pub mod OwnBlocks
pub mod BlockData
pub mod StoreData
pub mod Storing
