-- Not in the document: what contracts of private functions say, loops above all.
pub mod Worths  -- lists of what nodes are worth
