mod Worths  -- the list holds what the nodes so far are worth
pub mod Levelled  -- setting levels one after another, and that the array then holds them
pub mod Claims  -- claimed counts that are those found give the plain reply
