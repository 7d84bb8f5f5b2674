-- How many digits a number has. Assumes nothing.
use mathlib.Core.Path.{◌≡◌, refl, sym, ap, ◌∙◌}
use mathlib.Core.Bool.{Bool, true, false}
use mathlib.Core.List.{List, [], ◌∷◌}
use Prim.Native.Nat.{ℕ, zero, suc, ◌+◌, ◌-◌, ◌/◌, ◌%◌, ◌^◌, ◌≤◌, ◌<◌}
use native.Mathlib.Numerals.{add-one}
use native.Mathlib.Nat.{pow-le-pow_right, le_antisymm, le_of_suc-le-suc, lt_of_not-le}
use native.Mathlib.Omega.{arith}
use borrow.Author.Tests.{le-leb, lt-leb, leb-true}
use lib.Dec.{leb}
use lib.ListN.{length, length-append}
use Rattle.doubles.specs.Num.{pick}
use Rattle.doubles.specs.Steps.{steps}
use Rattle.io.specs.Digits.{last_digits, hex_digit_ascii, IsDigitCount}
use Rattle.listings.specs.Listing.{digit_count, decimal, hex16}
use Rattle.listings.specs.Inner.Wrote.{Room}

-- one more for each of the first j powers that n reaches
abbrev counted : ℕ → ℕ → ℕ
counted n j = steps (λ k d. pick (leb (10 ^ (k + 1)) n) (d + 1) d) j 1

counted_reached : (n j : ℕ) → 10 ^ (j + 1) ≤ n → counted n (suc j) ≡ counted n j + 1
unfolding steps
counted_reached n j h = rw (le-leb (10 ^ (j + 1)) n h)

counted_beyond : (n j : ℕ) → n < 10 ^ (j + 1) → counted n (suc j) ≡ counted n j
unfolding steps
counted_beyond n j h = rw (lt-leb (10 ^ (j + 1)) n h)

-- of a number of r digits: all powers below 10^r are reached, and none from there on
module _ (n r : ℕ) (h : IsDigitCount 10 1 n r) where
  reached : (j : ℕ) → j < r → counted n j ≡ j + 1
  unfolding steps
  reached zero k = refl
  reached (suc j) k =
      let p : 10 ^ (j + 1) ≤ 10 ^ (r - 1) = pow-le-pow_right (omega arith) (omega arith) in
      let q : 10 ^ (r - 1) ≤ n = h.2 (omega arith) in
      counted_reached n j (omega arith) ∙ rw (reached j (omega arith)) (omega arith)

  beyond : (d j : ℕ) → j ≡ r - 1 + d → counted n j ≡ r
  beyond zero j e = reached j (omega arith) ∙ omega arith
  beyond (suc d) (suc j) e =
      let p : 10 ^ r ≤ 10 ^ (j + 1) = pow-le-pow_right (omega arith) (omega arith) in
      let q : n < 10 ^ r = h.1 in
      counted_beyond n j (omega arith) ∙ beyond d j (omega arith)
  beyond (suc d) zero e = absurd (omega arith)

  pub digits_fewest : r ≤ 20 → digit_count n ≡ r
  unfolding digit_count
  digits_fewest k = beyond (20 - r) 19 (omega arith)

-- ---- bounds
counted_few : (n j : ℕ) → counted n j ≤ j + 1
unfolding steps
counted_few n zero = omega arith
counted_few n (suc j) = go (counted_few n j) (leb (10 ^ (j + 1)) n)
  where
    go : counted n j ≤ j + 1 → (b : Bool) → pick b (counted n j + 1) (counted n j) ≤ suc j + 1
    go k true = omega arith
    go k false = omega arith

-- a number below 10^m reaches no power from 10^m on
below_power : (n m j : ℕ) → n < 10 ^ m → 10 ^ (j + 1) ≤ n → m ≤ j + 1 → ⊥
below_power n m j h k l = let p : 10 ^ m ≤ 10 ^ (j + 1) = pow-le-pow_right (omega arith) l in omega arith

module _ (n m : ℕ) (l : 1 ≤ m) (h : n < 10 ^ m) where
  counted_below : (j : ℕ) → counted n j ≤ m
  unfolding steps
  counted_below zero = l
  counted_below (suc j) = go (counted_below j) (leb (10 ^ (j + 1)) n) refl
    where
      go : counted n j ≤ m → (b : Bool) → leb (10 ^ (j + 1)) n ≡ b → pick b (counted n j + 1) (counted n j) ≤ m
      go p true e =
          let k = counted_few n j in
          let q : j + 1 < m = lt_of_not-le (below_power n m j h (leb-true _ _ e)) in
          omega arith
      go p false e = p

  pub digits_below : digit_count n ≤ m
  unfolding digit_count
  digits_below = counted_below 19

pub digits_few : (n : ℕ) → digit_count n ≤ 20
unfolding digit_count
digits_few n = counted_few n 19

length_digits : (b k n : ℕ) → length (last_digits b k n) ≡ k
length_digits b zero n = refl
length_digits b (suc k) n = length-append (last_digits b k (n / b)) (hex_digit_ascii (n % b) ∷ []) ∙ rw (length_digits b k (n / b), add-one)

pub length-decimal : (n : ℕ) → length (decimal n) ≡ digit_count n
unfolding decimal
length-decimal n = length_digits 10 (digit_count n) n

pub length-hex16 : (n : ℕ) → length (hex16 n) ≡ 16
unfolding hex16
length-hex16 n = length_digits 16 16 n

-- ---- what `io` wrote
-- the fewest digits are no more than m, where m hold n
not-over : (b least n r m : ℕ) → 0 < b → IsDigitCount b least n r → least ≤ m → n < b ^ m → m < r → ⊥
not-over b least n r m p h l k over =
    let q : b ^ (r - 1) ≤ n = h.2 (omega arith) in
    let t : b ^ m ≤ b ^ (r - 1) = pow-le-pow_right p (omega arith) in
    omega arith

at_most : (b least n r m : ℕ) → 0 < b → IsDigitCount b least n r → least ≤ m → n < b ^ m → r ≤ m
at_most b least n r m p h l k = le_of_suc-le-suc (lt_of_not-le (not-over b least n r m p h l k))

pub decimal-is : (n r : ℕ) (text : List ℕ) → n < 2 ^ 64 → IsDigitCount 10 1 n r → text ≡ last_digits 10 r n → text ≡ decimal n
unfolding decimal
decimal-is n r text l h e =
    let k : r ≤ 20 = at_most 10 1 n r 20 (omega arith) h (omega arith) (omega arith) in
    e ∙ ap (λ (d : ℕ). last_digits 10 d n) (sym (digits_fewest n r h k))

pub hex_is : (n r : ℕ) (text : List ℕ) → n < 2 ^ 64 → IsDigitCount 16 16 n r → text ≡ last_digits 16 r n → text ≡ hex16 n
unfolding hex16
hex_is n r text l h e =
    let k : r ≤ 16 = at_most 16 16 n r 16 (omega arith) h (omega arith) (omega arith) in
    e ∙ ap (λ (d : ℕ). last_digits 16 d n) (le_antisymm k h.0)

-- however many zeros stand in front, at most 16 digits hold a word: where 16 have room, so has what `io` wrote
pub room_hex : {l : List ℕ} {a : ℕ} (m n r least : ℕ) (text : List ℕ) → n < 2 ^ 64 → least ≤ 16 → IsDigitCount 16 least n r → text ≡ last_digits 16 r n
    → Room l a (hex16 m) → Room l a text
room_hex m n r least text k w h e room =
    let few : r ≤ 16 = at_most 16 least n r 16 (omega arith) h w (omega arith) in
    record { fits = rw (e, length_digits 16 r n) (omega (arith, length-hex16 m, room.fits)) }
