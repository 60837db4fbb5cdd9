mod ReadLemmas
mod SliceLemmas
