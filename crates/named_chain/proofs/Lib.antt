-- The laws of the chain that is returned: WayLaws of the way back.
pub mod WayLaws
