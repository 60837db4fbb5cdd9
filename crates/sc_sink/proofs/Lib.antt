mod PieceLemmas
mod WriteLemmas
