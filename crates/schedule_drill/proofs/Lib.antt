mod Hands
mod Ending
mod Made
