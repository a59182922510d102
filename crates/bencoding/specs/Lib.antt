pub mod Trees
pub mod Views
pub mod Reading
pub mod steps
