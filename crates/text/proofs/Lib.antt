mod WordPut  -- a word put behind the first bytes of a room
mod DigitCount  -- a number has one count of decimal digits
mod Digits  -- a text read digit by digit
