pub mod Sheet  -- the examples P1 to P13 (SPEC 8)
