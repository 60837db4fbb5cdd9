pub mod ProgramLemmas
pub mod GetterLemmas
pub mod TakenLemmas
pub mod PlainLemmas
