pub mod BatchLemmas
pub mod ChainLemmas
pub mod FoldLemmas
pub mod GivenLemmas
pub mod KindLemmas
pub mod PairLemmas
pub mod ReadLemmas
pub mod SliceLemmas
