mod FoundLemmas
mod EndLemmas
mod TellsLemmas
mod CountLemmas
