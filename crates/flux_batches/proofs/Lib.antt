mod Filled
mod ReadLemmas
mod Numbered
mod Pieces
pub mod Giving
mod GatheredLemmas
mod ItemLemmas
mod Spanning
