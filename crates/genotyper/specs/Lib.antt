pub mod Genotypes
pub mod Names
