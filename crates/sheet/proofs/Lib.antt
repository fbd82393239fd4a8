pub mod Sheet  -- every example is answered as it says
