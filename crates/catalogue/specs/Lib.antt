pub mod Entries  -- the entries, in hexadecimal digits
pub mod Networks  -- the table of each entry (SPEC 12)
pub mod Calls  -- what the call replies, and the bytes that it leaves (SPEC 12)
pub mod Computes  -- what is promised of each table (SPEC 12)
