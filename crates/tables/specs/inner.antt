-- Not in the document: what contracts of private functions say, loops above all.
pub mod Runs  -- a run of records of one kind
pub mod Under  -- the check with a claim or with none
