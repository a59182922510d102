pub mod Rows
pub mod Judgement
pub mod Checked
pub mod steps
