mod ChangeLemmas
mod CommandLemmas
mod ComparedLemmas
mod ListingLemmas
