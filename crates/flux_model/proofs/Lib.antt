pub mod Hoisting
pub mod NodeLists
pub mod RisingHolds
pub mod LeadingLemmas
pub mod BelowLemmas
pub mod Visiting
pub mod NamedKeys
