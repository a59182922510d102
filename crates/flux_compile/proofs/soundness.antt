-- Parts of the proof that compiled plans have no faulty place.
pub mod Reads
pub mod Leads
pub mod Sizes
