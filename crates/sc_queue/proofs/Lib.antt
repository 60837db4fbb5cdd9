pub mod PassLemmas
pub mod PopLemmas
pub mod PushLemmas
pub mod ViewLemmas
