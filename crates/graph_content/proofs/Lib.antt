pub mod Encoded
pub mod Faulting
pub mod Givens
pub mod Searching
pub mod Walking
pub mod Sound
pub mod Flagging
pub mod Cutting
