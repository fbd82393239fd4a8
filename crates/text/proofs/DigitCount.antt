-- A number has one count of digits in a base: `places` finds that of decimal ones, and of hexadecimal ones, at least 16, it is 16.
use Prim.Native.Nat.{ℕ, ◌-◌, ◌^◌, ◌≤◌, ◌<◌}
use mathlib.Core.Path.{◌≡◌, sym, ap}
use native.Mathlib.Nat.{pow-le-pow_right}
use native.Mathlib.Decide.{dec_lt}
use native.Mathlib.Omega.{arith}
use borrow.Author.Tests.{lt-ltb, le-ltb}
use lib.Dec.{ltb, lit<}
use Rattle.io.specs.Digits.{last_digits, IsDigitCount}
use Rattle.majority.proofs.Seek.{found_at}
use Rattle.text.specs.Shown.{places, decimal, hexadecimal}

-- fewer digits hold no number that needs k
too_few : (base least n k m : ℕ) → 0 < base → IsDigitCount base least n k → least ≤ m → m < k → base ^ m ≤ n
too_few base least n k m some f a h =
    let p : base ^ m ≤ base ^ (k - 1) = pow-le-pow_right some (omega arith) in
    let q : base ^ (k - 1) ≤ n = f.2 (omega arith) in
    omega arith

-- a number of 64 bits needs no more than 20
at_most_20 : (n k : ℕ) → n < 18446744073709551616 → IsDigitCount 10 1 n k → k ≤ 20
at_most_20 n k small f = go (dec_lt 20 k)
  where
    go : Dec (20 < k) → k ≤ 20
    go (yes h) =
        let p : 10 ^ 20 ≤ n = too_few 10 1 n k 20 (lit< tt) f (omega arith) h in
        absurd (omega arith)
    go (no h) = omega arith

pub in_decimal : (n k : ℕ) → n < 18446744073709551616 → IsDigitCount 10 1 n k → last_digits 10 k n ≡ decimal n
unfolding decimal places
in_decimal n k small f =
    let few : k ≤ 20 = at_most_20 n k small f in
    ap (λ (j : ℕ). last_digits 10 j n)
    (sym (found_at (λ (j : ℕ). ltb n (10 ^ j)) 20 1 k f.0 (omega arith) (λ j a b. le-ltb _ _ (too_few 10 1 n k j (lit< tt) f a b)) (lt-ltb _ _ f.1)))

pub in_hexadecimal : (n k : ℕ) → n < 18446744073709551616 → IsDigitCount 16 16 n k → last_digits 16 k n ≡ hexadecimal n
unfolding hexadecimal
in_hexadecimal n k small f = ap (λ (j : ℕ). last_digits 16 j n) (go (dec_lt 16 k))
  where
    go : Dec (16 < k) → k ≡ 16
    go (yes h) =
        let p : 16 ^ 16 ≤ n = too_few 16 16 n k 16 (lit< tt) f (omega arith) h in
        absurd (omega arith)
    go (no h) = omega (arith, f.0)
