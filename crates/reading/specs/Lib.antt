pub mod Held  -- what a reading holds (SPEC 7)
pub mod Written  -- what it says of its RM3 table (SPEC 6 and 7)
