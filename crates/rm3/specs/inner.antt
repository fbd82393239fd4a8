-- Not in the document: what contracts of private functions say, loops above all.
pub mod Turned  -- how far a pass over a table has come
pub mod Laid  -- bytes that a table is written to, record by record
pub mod Levelled  -- levels of operands, told from the majority table
