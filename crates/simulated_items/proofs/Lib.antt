mod GivenCosts
mod Areas
mod Ends
mod Made
mod Ready
