mod Promises
mod Words
