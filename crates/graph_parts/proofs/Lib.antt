pub mod Passing
pub mod Lettering
pub mod Edging
