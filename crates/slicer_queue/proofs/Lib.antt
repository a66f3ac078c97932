mod Once
mod Found
