mod Lines
mod Written
