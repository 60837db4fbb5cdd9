mod ListedLemmas
mod PathLemmas
