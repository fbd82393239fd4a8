pub mod Field  -- 16-bit fields of bytes (SPEC 2.1)
pub mod Bytes  -- records in bytes (SPEC 2.1)
pub mod Written  -- what a call that writes a table replies and leaves (SPEC 6)
pub mod Calls  -- what the check replies (SPEC 3)
pub mod Claimed  -- what it replies where counts are claimed (SPEC 7)
pub mod Sound  -- what a call knows of an accepted table
pub mod Places  -- lent places (SPEC 4 and 5.7)
pub mod inner  -- what private functions keep
