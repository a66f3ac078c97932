pub mod Places
pub mod OwnCounts
mod Stages
mod SeatsStay
mod Restaging
mod Drawing
mod Loading
mod Taking
mod Publishing
mod Passing
mod Splitting
mod Joining
mod Opening
mod Entries
mod Closing
mod Turning
mod Returning
mod Mirroring
mod Merging
pub mod Speaking
