mod Pushing
mod Rolling
mod Holding
mod Orderly
mod Stages
mod OneValue
mod NoFlaws
