pub mod FoldLemmas
mod WalkLemmas
mod FirstLemmas
mod ForwardLemmas
mod StepLemmas
mod LeaveLemmas
mod EndLemmas
