mod Lines
mod Digits
mod Table
mod ReadBack
