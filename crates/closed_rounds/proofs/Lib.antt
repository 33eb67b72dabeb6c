-- The laws of the closed walks by the rounds: SixteenStarts of where they start, WalkBack of the last edge, Closes of the whole.
pub mod Closes
pub mod SixteenStarts
