pub mod Reaching
pub mod Marking
pub mod Numbering
pub mod Carrying
pub mod Counting
pub mod Cuts
pub mod CutLaws
