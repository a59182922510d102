mod Skipped
mod Named
mod Laid
mod Valued
mod NamedLines
mod LineReads
mod ItemReads
pub mod OneAnswer
