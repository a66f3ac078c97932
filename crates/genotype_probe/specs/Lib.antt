pub mod Dealing
pub mod Probes
pub mod Text
