-- Not in the document: what contracts of private functions say, loops above all.
pub mod Held  -- a list of the words of edges
