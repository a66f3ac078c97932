mod Known
mod Printing
mod Reading
