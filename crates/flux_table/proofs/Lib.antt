pub mod Holding
pub mod Standing
pub mod Orderly
pub mod Sets
pub mod Blocking
pub mod Keys
pub mod InUse
