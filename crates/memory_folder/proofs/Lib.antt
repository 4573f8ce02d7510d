mod Calling
mod Leaving
mod Listing
mod Mixing
mod Outcomes
mod Sound
mod Steady
mod Sweeping
