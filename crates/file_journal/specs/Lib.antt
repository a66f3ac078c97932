pub mod Creating
pub mod Files
pub mod Opening
pub mod Steps
