pub mod Shown  -- what a line shows (SPEC 9)
pub mod Spelled  -- what a text spells in decimal (SPEC 9)
