pub mod Edge  -- edges (SPEC 2.2)
pub mod Table  -- the table as a list of records, and what a well-formed one is (SPEC 2.1)
pub mod Node  -- what a node is worth, for any meaning of worth
pub mod Value  -- values (SPEC 2.3)
pub mod Level  -- levels and depth (SPEC 2.4)
pub mod Seek  -- the first number at which a test holds
pub mod Check  -- refusals 2 to 5 (SPEC 3)
pub mod Edit  -- redirect, insert, and a gate that becomes another (SPEC 5.2)
