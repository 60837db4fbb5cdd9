pub mod DoneLemmas
mod OpeningLemmas
mod PartLemmas
mod RenewalLemmas
pub mod SaveLemmas
pub mod WayLemmas
