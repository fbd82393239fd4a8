pub mod Calls  -- what the questions reply (SPEC 3 and 4)
pub mod Claimed  -- what they reply where counts are claimed (SPEC 7)
pub mod Levelled  -- levels worked out in an array, of any records (SPEC 2.4)
pub mod inner  -- what private functions keep
