pub mod Decoding
pub mod Sought
pub mod Stepping
pub mod Looking
pub mod Counting
pub mod Readiness
