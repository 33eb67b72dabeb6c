pub mod OverLaws
pub mod BothLaws
