pub mod OrderLemmas
pub mod SortLemmas
pub mod PlaceLemmas
pub mod FrontLemmas
pub mod WholeLemmas
pub mod PairLemmas
pub mod BoundLemmas
mod RangeLemmas
mod SelectLemmas
pub mod SplitLemmas
pub mod TieLemmas
pub mod LevelLemmas
