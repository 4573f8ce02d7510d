mod Spellings
mod TrailLaws
mod OpeningLaws
