-- The number of given bits: it is below the power of two, its bits are those given, higher bits are zero, and no other number is so.
use Prim.Native.Nat.{ℕ, zero, suc, ◌+◌, ◌-◌, ◌*◌, ◌/◌, ◌%◌, ◌^◌, ◌≤◌, ◌<◌}
use mathlib.Core.Path.{◌≡◌, refl, sym, ap, ◌∙◌}
use mathlib.Core.Bool.{Bool, true, false}
use mathlib.Core.Logic.{⊎_elim}
use native.Mathlib.Nat.{pow-suc, pow-succ', pow-le-pow_right, add-mul-div_right, div-eq_of_lt, lt_of_lt_of_le, eq-or-lt_of_le, mul_assoc, mul_left_comm}
use lib.Pow.{pow_pos, pow-add}
use native.Mathlib.Numerals.{add-one}
use native.Mathlib.Decide.{dec_lt}
use native.Mathlib.Omega.{arith}
use Rattle.std.specs.Prelude.{if◌then◌else◌}
use Rattle.majority.specs.Value.{bit, number}

pub number_low : (f : ℕ → Bool) (k : ℕ) → number f k < 2 ^ k
unfolding number
number_low f zero = omega arith
number_low f (suc k) = rw (pow-suc 2 k) (go (f k) (number_low f k))
  where
    go : (t : Bool) → number f k < 2 ^ k → number f k + (if t then 2 ^ k else 0) < 2 ^ k * 2
    go true h = omega arith
    go false h = omega arith

-- multiples of a higher power of two do not change a lower bit
pub bit_lower : (x y i k : ℕ) → i < k → bit (x + y * 2 ^ k) i ≡ bit x i
bit_lower x y i k h =
    let z = 2 ^ (k - suc i) in
    let power : 2 ^ k ≡ (2 * z) * 2 ^ i =
    ap (λ (n : ℕ). 2 ^ n) (let e : k ≡ suc (k - suc i) + i = omega arith in e) ∙ pow-add 2 (suc (k - suc i)) i ∙ ap (λ (n : ℕ). n * 2 ^ i) (pow-succ' 2 (k - suc i))
    in
    let split : y * 2 ^ k ≡ (y * (2 * z)) * 2 ^ i = ap (λ (n : ℕ). y * n) power ∙ sym (mul_assoc y (2 * z) (2 ^ i)) in
    let quotient : (x + y * 2 ^ k) / 2 ^ i ≡ x / 2 ^ i + y * (2 * z) = rw split (add-mul-div_right x (y * (2 * z)) (pow_pos i)) in
    let even : y * (2 * z) ≡ 2 * (y * z) = mul_left_comm y 2 z in
    let parity : (x / 2 ^ i + 2 * (y * z)) % 2 ≡ x / 2 ^ i % 2 = omega arith in
    rw (quotient, even, parity)

-- the highest bit of a number of k + 1 bits
top_set : (x k : ℕ) → x < 2 ^ k → bit (x + 2 ^ k) k ≡ true
top_set x k h =
    let one : (x + 2 ^ k) / 2 ^ k ≡ 1 =
    ap (λ (p : ℕ). (x + p) / 2 ^ k) (let u : 2 ^ k ≡ 1 * 2 ^ k = omega arith in u) ∙ add-mul-div_right x 1 (pow_pos k) ∙ rw (div-eq_of_lt h)
    in
    rw one

top_clear : (x k : ℕ) → x < 2 ^ k → bit x k ≡ false
top_clear x k h = rw (div-eq_of_lt h)

-- bit i is the one given, and higher bits are zero
pub number_past : (f : ℕ → Bool) (k i : ℕ) → k ≤ i → bit (number f k) i ≡ false
number_past f k i h =
    let low : number f k < 2 ^ i = lt_of_lt_of_le (number_low f k) (pow-le-pow_right (omega arith) h) in
    rw (div-eq_of_lt low)

pub number_bit : (f : ℕ → Bool) (k i : ℕ) → i < k → bit (number f k) i ≡ f i
unfolding number
number_bit f zero i h = absurd (omega arith)
number_bit f (suc k) i h =
    ⊎_elim
    (λ e. rw e (here (f k) refl))
    (λ l. go (f k) (number_bit f k i l) l)
    (eq-or-lt_of_le (let l : i ≤ k = omega arith in l))
  where
    here : (t : Bool) → f k ≡ t → bit (number f k + (if f k then 2 ^ k else 0)) k ≡ f k
    here true e = rw e (top_set (number f k) k (number_low f k))
    here false e = let z : number f k + 0 ≡ number f k = omega arith in rw (e, z) (top_clear (number f k) k (number_low f k))

    go : (t : Bool) → bit (number f k) i ≡ f i → i < k → bit (number f k + (if t then 2 ^ k else 0)) i ≡ f i
    go true e l = let one : 2 ^ k ≡ 1 * 2 ^ k = omega arith in rw one (bit_lower (number f k) 1 i k l ∙ e)
    go false e l = let z : number f k + 0 ≡ number f k = omega arith in rw z e

-- no other number of k bits has these bits
pub number_is : (f : ℕ → Bool) (k x : ℕ) → x < 2 ^ k → ((i : ℕ) → i < k → bit x i ≡ f i) → x ≡ number f k
unfolding number
number_is f zero x h bits = omega arith
number_is f (suc k) x h bits = go (dec_lt x (2 ^ k)) (λ y low same. number_is f k y low same)
  where
    go : Dec (x < 2 ^ k) → ((y : ℕ) → y < 2 ^ k → ((i : ℕ) → i < k → bit y i ≡ f i) → y ≡ number f k) → x ≡ number f k + (if f k then 2 ^ k else 0)
    go (yes low) lower =
        let clear : f k ≡ false = sym (bits k (omega arith)) ∙ top_clear x k low in
        let same = lower x low (λ i l. bits i (omega arith)) in
        rw clear (omega arith)
    go (no high) lower =
        let rest = x - 2 ^ k in
        let double : 2 ^ suc k ≡ 2 ^ k * 2 = pow-suc 2 k in
        let low : rest < 2 ^ k = omega arith in
        let whole : x ≡ rest + 2 ^ k = omega arith in
        let apart : rest + 1 * 2 ^ k ≡ x = omega arith in
        let set : f k ≡ true = sym (bits k (omega arith)) ∙ ap (λ (y : ℕ). bit y k) whole ∙ top_set rest k low in
        let same = lower rest low (λ i l. sym (bit_lower rest 1 i k l) ∙ ap (λ (y : ℕ). bit y i) apart ∙ bits i (omega arith)) in
        rw set (whole ∙ ap (λ (y : ℕ). y + 2 ^ k) same)

pub number_same : (f g : ℕ → Bool) (k : ℕ) → ((i : ℕ) → i < k → f i ≡ g i) → number f k ≡ number g k
number_same f g k same = number_is g k (number f k) (number_low f k) (λ i l. number_bit f k i l ∙ same i l)

-- within 32 bits: a power of two, the number with it, and one bit more
power_room : (j : ℕ) → j < 32 → 2 ^ j ≤ 2147483648
power_room j h = pow-le-pow_right {n = 2} (omega arith) {j = 31} (omega arith)

shifted_one : (j : ℕ) → j < 32 → 1 * 2 ^ j % 4294967296 ≡ 2 ^ j
shifted_one j h = let low = power_room j h in omega arith

module _ (f : ℕ → Bool) (j n : ℕ) (room : j < 32) (so_far : n ≡ number f j) where
  pub number_room : n + 1 * 2 ^ j % 4294967296 < 4294967296
  number_room = rw (shifted_one j room, so_far) (omega (arith, power_room j room, number_low f j))

  pub number_set : (n' : ℕ) → f j ≡ true → n' ≡ n + 1 * 2 ^ j % 4294967296 → n' ≡ number f (j + 1)
  unfolding number
  number_set n' t e = e ∙ rw (shifted_one j room, so_far, add-one j, t)

  pub number_clear : (n' : ℕ) → f j ≡ false → n' ≡ n → n' ≡ number f (j + 1)
  unfolding number
  number_clear n' t e = e ∙ rw (so_far, add-one j, t) (omega arith)
