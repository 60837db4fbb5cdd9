pub mod StreamLemmas
mod NarrowLemmas
mod CoalesceLemmas
mod SideLemmas
mod EachLemmas
mod KeyLemmas
mod BucketLemmas
mod PlacedLemmas
mod SkipLemmas
mod QuietLemmas
mod SameLemmas
mod AgreeLemmas
mod OutcomeLemmas
pub mod SpreadLemmas
pub mod NeverLemmas
mod FilterLemmas
mod CombineLemmas
mod LeaderLemmas
