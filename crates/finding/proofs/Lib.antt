mod Examples
mod FoldingLemmas
mod SearchLemmas
