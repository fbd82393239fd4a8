pub mod SaidOnce  -- no two refusals have the same numbers
