pub mod Calls  -- what each call replies, and the bytes that it leaves (SPEC 6)
pub mod Claimed  -- the same where counts are claimed (SPEC 7)
pub mod inner  -- what private functions keep
