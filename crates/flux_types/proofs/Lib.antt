pub mod Lasts
pub mod Looking
pub mod Written
pub mod Passes
pub mod Told
pub mod Answered
pub mod SpelledTypes
pub mod SoundTypes
