mod BlockLemmas
mod CachedLemmas
