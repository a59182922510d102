mod LeavingLemmas
mod EntryLemmas
