-- Steps that nobody has to believe, since what they give carries its own proof.
pub mod Deciding
