pub mod Words  -- an output's word and its total (SPEC 4.1)
pub mod Calls  -- what words and totals reply, and the places that they leave (SPEC 3 and 4.1)
pub mod inner  -- what private functions keep
