mod CommandLemmas
mod LinkLemmas
mod PieceLemmas
