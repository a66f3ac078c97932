mod Paged
mod Indexed
mod Flags
mod Cutting
mod Rows
