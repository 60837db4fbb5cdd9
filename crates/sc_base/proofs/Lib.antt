pub mod ApartLemmas
pub mod ChangeLemmas
pub mod Gathering
pub mod PathLemmas
pub mod SaveLemmas
pub mod TreeLemmas
