pub mod CrewLemmas
pub mod JobLemmas
pub mod RoomLemmas
pub mod WorldLemmas
