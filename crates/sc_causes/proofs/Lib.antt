mod ReadLemmas
mod RaiseLemmas
mod LossLemmas
pub mod InputLemmas
