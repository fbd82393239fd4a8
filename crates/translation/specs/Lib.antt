pub mod Rm3  -- the RM3 table (SPEC 6.1)
pub mod Translate  -- the translation (SPEC 6.2)
pub mod Count3  -- how many operations it has
pub mod Level3  -- how high operands stand
pub mod Block3  -- whose block its records have
pub mod Patterns  -- the 27 patterns of a gate's edges
