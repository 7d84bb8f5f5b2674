-- A sum that starts at +0 is never -0. The terms fit the format, so that no nonzero sum of two of them rounds to zero. Assumes nothing.
use mathlib.Core.Path.{◌≡◌, refl, sym, ap, ◌∙◌}
use Prim.Native.Nat.{ℕ, zero, suc, ◌+◌, ◌-◌, ◌*◌, ◌/◌, ◌%◌, ◌^◌, compare, ◌≤◌, ◌<◌, suc-le-suc}
use native.Mathlib.Nat.{le_refl, le-suc, le_trans, le_of_eq, le-add_right, zero-lt-suc, mul-pos, mul-one, one-mul, mul_comm, mul_assoc, suc-mul}
use native.Mathlib.Nat.{mul-le-mul, mul-le-mul_right, lt_of_mul-lt-mul_right}
use native.Mathlib.Omega.{arith}
use mathlib.Core.Bool.{Bool, true, false, not, ◌&&◌, cond, true≢false}
use lib.IntN.{ℤ, pos, negsuc}
use lib.Pow.{pow-add, pow_pos, pow-lt}
use lib.Count.{count_trailing_zeros}
use lib.Dec.{T, leb, ltb, eqb, ltb→lt, leb→le, nleb→lt, eqb→eq}
use lib.Ieee.{Float, nan, inf, fin, Format, binary32, binary64, prec, emax, low, up, down, minus, size, nearest, odd, units, round, neg, sum, add, fits}
use lib.Ieee.{of_bits}
use lib.Ieee.Fits.{round_is, up_pos, down_pos, and_l, and_r, add-fits}
use lib.Ieee.Bits.{of_bits-fits}
use lib.Ieee.Digits.{back}
use lib.Ieee.Order.{round_mono}
use lib.Ieee.Positive.{above, positive, above_of_le}
use Rattle.doubles.specs.Num.{#0}
use Rattle.doubles.specs.Steps.{steps, sum as sum_of}
use Rattle.doubles.specs.Sign.{plain, flip, Turned, negzero, nonzero}
use Rattle.doubles.proofs.Laws.Turn.{round-neg}

-- ---- when a rounded fraction is no -0
odd_pos : (d q k l : ℕ) → negzero (odd d false q k l) ≡ false
unfolding odd negzero
odd_pos d zero k l = refl
odd_pos d (suc q) k l = go (suc q / 2 ^ count_trailing_zeros d (suc q)) (minus (k + count_trailing_zeros d (suc q)) l)
  where
    go : (m : ℕ) (e : ℤ) → negzero (fin false m e) ≡ false
    go zero e = refl
    go (suc m) e = refl

units-pos : (f : Format) (q k : ℕ) → negzero (units f false q k) ≡ false
unfolding units negzero
units-pos f q k = go (ltb (q * 2 ^ k) (2 ^ (low f + suc (emax f))))
  where
    go : (b : Bool) → negzero (cond b (odd (suc (prec f)) false q k (low f)) (inf false)) ≡ false
    go true = odd_pos (suc (prec f)) q k (low f)
    go false = refl

pub round-pos : (f : Format) (a c : ℕ) → negzero (round f false a c) ≡ false
round-pos f a c =
    let n = a * 2 ^ low f in
    let k = size (n / c) - prec f in
    let u = c * 2 ^ k in
    rw round_is (units-pos f (nearest (n / u) (compare (n % u * 2) u)) k)

least : (f : Format) → T (positive (round f false 1 (2 ^ low f)))
unfolding round
least binary32 = tt
least binary64 = tt

above-nonzero : (x : Float) → T (above x) → T (nonzero x) × T (nonzero (neg x))
unfolding nonzero neg
above-nonzero nan h = absurd h
above-nonzero (inf s) h = (tt, tt)
above-nonzero (fin true m e) h = absurd h
above-nonzero (fin false zero e) h = absurd h
above-nonzero (fin false (suc m) e) h = (tt, tt)

-- a fraction that is not below the format's smallest value is not rounded to a zero
pub round-nonzero : (f : Format) (s : Bool) (a c : ℕ) → 0 < c → c ≤ a * 2 ^ low f → T (nonzero (round f s a c))
round-nonzero f s a c C h = go s
  where
    l : ℕ
    l = 2 ^ low f

    both : T (nonzero (round f false a c)) × T (nonzero (neg (round f false a c)))
    both =
        above-nonzero (round f false a c)
        (above_of_le (round f false 1 l) (round f false a c) (least f)
        (round_mono f 1 l a c (pow_pos (low f)) C (le_trans (le_of_eq (one-mul c)) h)))

    go : (s : Bool) → T (nonzero (round f s a c))
    go false = both.0
    go true = rw (round-neg f false a c) both.1

no_zero : (x : Float) → T (nonzero x) → negzero x ≡ false
unfolding nonzero negzero
no_zero nan h = refl
no_zero (inf s) h = refl
no_zero (fin s zero e) h = absurd h
no_zero (fin s (suc m) e) h = refl

pub round_large : (f : Format) (s : Bool) (a c : ℕ) → 0 < c → c ≤ a * 2 ^ low f → negzero (round f s a c) ≡ false
round_large f s a c C h = no_zero (round f s a c) (round-nonzero f s a c C h)

-- ---- two values that fit stand on one grid, no finer than the format's
step : (A B g h L a b c : ℕ) → a ≡ A * g → b ≡ B * g → c ≡ g * h → h ≤ L → a < b → c ≤ (b - a) * L
step A B g h L a b c p q r k n =
    let x : A * g < B * g = rw (p, q) at n in
    let y : suc A * g ≤ B * g = mul-le-mul_right g (lt_of_mul-lt-mul_right g x) in
    let z : g ≤ b - a = few A B g a b p q (rw suc-mul at y) in
    le_trans (le_of_eq r) (mul-le-mul z k)
  where
    few : (A B g a b : ℕ) → a ≡ A * g → b ≡ B * g → A * g + g ≤ B * g → g ≤ b - a
    few A B g a b p q h = omega arith

up-down : (x y : ℕ) → x ≤ y → 2 ^ y ≡ 2 ^ (y - x) * 2 ^ x
up-down x y h = ap (λ (z : ℕ). 2 ^ z) (sym (back y x h)) ∙ pow-add 2 (y - x) x

-- a / c - b / c is a whole number of the format's smallest values
grid : (m n : ℕ) (e d : ℤ) (L : ℕ) → 0 < L → down e ≤ L → down d ≤ L → m * up e * down d < n * up d * down e
    → down e * down d ≤ (n * up d * down e - m * up e * down d) * L
grid m n (pos i) d L P h k l = step (m * up (pos i) * down d) (n * up d * down (pos i)) 1 (down d) L _ _ _ (sym (mul-one _)) (sym (mul-one _)) refl k l
grid m n (negsuc i) (pos j) L P h k l =
    step (m * 1 * 1) (n * 2 ^ j * 2 ^ suc i) 1 (2 ^ suc i) L _ _ _ (sym (mul-one _)) (sym (mul-one _)) (mul_comm (2 ^ suc i) 1) h l
grid m n (negsuc i) (negsuc j) L P h k l = go (leb i j) (leb→le i j) (nleb→lt i j)
  where
    x : ℕ
    x = suc i

    y : ℕ
    y = suc j

    go : (b : Bool) → (T b → i ≤ j) → (T (not b) → j < i) → 2 ^ x * 2 ^ y ≤ (n * 1 * 2 ^ x - m * 1 * 2 ^ y) * L
    go true a b =
        step (m * 1 * 2 ^ (y - x)) (n * 1) (2 ^ x) (2 ^ y) L _ _ _
        (ap (λ (z : ℕ). m * 1 * z) (up-down x y (suc-le-suc (a tt))) ∙ sym (mul_assoc (m * 1) (2 ^ (y - x)) (2 ^ x)))
        refl refl k l
    go false a b =
        step (m * 1) (n * 1 * 2 ^ (x - y)) (2 ^ y) (2 ^ x) L _ _ _
        refl
        (ap (λ (z : ℕ). n * 1 * z) (up-down y x (suc-le-suc (less (b tt)))) ∙ sym (mul_assoc (n * 1) (2 ^ (x - y)) (2 ^ y)))
        (mul_comm (2 ^ x) (2 ^ y)) h l
      where
        less : j < i → j ≤ i
        less h = omega arith

one_le : (f : Format) → 1 ≤ 2 ^ low f
one_le f = pow_pos (low f)

fits-down : (f : Format) (s : Bool) (m : ℕ) (e : ℤ) → T (fits f (fin s m e)) → down e ≤ 2 ^ low f
unfolding fits
fits-down f s zero e h =
    let p : up e * down e ≡ 1 = eqb→eq (up e * down e) 1 h in
    le_trans (le_trans (le_of_eq (sym (one-mul (down e)))) (mul-le-mul_right (down e) (up_pos e))) (le_trans (le_of_eq p) (one_le f))
fits-down f s (suc m) e h =
    leb→le (down e) (2 ^ low f)
    (and_r (eqb (suc m % 2) 1 && ltb (suc m) (2 ^ prec f)) (leb (down e) (2 ^ low f))
    (and_l (eqb (suc m % 2) 1 && ltb (suc m) (2 ^ prec f) && leb (down e) (2 ^ low f)) (ltb (suc m * up e) (2 ^ suc (emax f) * down e)) h))

larger : (a b L c : ℕ) → c ≤ a * L → c ≤ (a + b) * L
larger a b L c h = le_trans h (mul-le-mul_right L (le-add_right a b))

fin-add : (f : Format) (s : Bool) (m : ℕ) (e : ℤ) (t : Bool) (n : ℕ) (d : ℤ) → T (fits f (fin s m e)) → T (fits f (fin t n d)) → negzero (fin s m e) ≡ false
    → negzero (sum f s (m * up e * down d) t (n * up d * down e) (down e * down d)) ≡ false
fin-add f s m e t n d h k z = cases s t z
  where
    a : ℕ
    a = m * up e * down d

    b : ℕ
    b = n * up d * down e

    c : ℕ
    c = down e * down d

    C : 0 < c
    C = mul-pos (down_pos e) (down_pos d)

    L : ℕ
    L = 2 ^ low f

    E : down e ≤ L
    E = fits-down f s m e h

    D : down d ≤ L
    D = fits-down f t n d k

    first : (m : ℕ) → negzero (fin true m e) ≡ false → c ≤ m * up e * down d * L
    first zero z = absurd (true≢false (unfold negzero in z))
    first (suc m) z =
        le_trans (mul-le-mul_right (down d) E)
        (le_trans (le_of_eq (mul_comm L (down d)))
        (mul-le-mul_right L (le_trans (le_of_eq (sym (one-mul (down d)))) (mul-le-mul_right (down d) (mul-pos (zero-lt-suc m) (up_pos e))))))

    ab : a < b → c ≤ (b - a) * L
    ab l = grid m n e d L (one_le f) E D l

    ba : b < a → c ≤ (a - b) * L
    ba l = le_trans (le_of_eq (mul_comm (down e) (down d))) (grid n m d e L (one_le f) D E l)

    down-up : (v w : Bool) → (T w → b < a) → negzero (cond v (round f false (b - a) c) (round f w (a - b) c)) ≡ false
    down-up true w h = round-pos f (b - a) c
    down-up false true h = round_large f true (a - b) c C (ba (h tt))
    down-up false false h = round-pos f (a - b) c

    up_down' : (v : Bool) → (T v → a < b) → negzero (cond v (round f true (b - a) c) (round f false (a - b) c)) ≡ false
    up_down' true h = round_large f true (b - a) c C (ab (h tt))
    up_down' false h = round-pos f (a - b) c

    cases : (s t : Bool) → negzero (fin s m e) ≡ false → negzero (sum f s a t b c) ≡ false
    cases true true z = unfold sum in round_large f true (a + b) c C (larger a b L c (first m z))
    cases false false z = unfold sum in round-pos f (a + b) c
    cases true false z = unfold sum in down-up (ltb a b) (ltb b a) (ltb→lt b a)
    cases false true z = unfold sum in up_down' (ltb a b) (ltb→lt a b)

pub add-keeps : (f : Format) (x y : Float) → T (fits f x) → T (fits f y) → negzero x ≡ false → negzero (add f x y) ≡ false
unfolding add negzero
add-keeps f nan y h k z = refl
add-keeps f (inf s) nan h k z = refl
add-keeps f (inf true) (inf true) h k z = refl
add-keeps f (inf true) (inf false) h k z = refl
add-keeps f (inf false) (inf true) h k z = refl
add-keeps f (inf false) (inf false) h k z = refl
add-keeps f (inf s) (fin t n d) h k z = refl
add-keeps f (fin s m e) nan h k z = refl
add-keeps f (fin s m e) (inf t) h k z = refl
add-keeps f (fin s m e) (fin t n d) h k z = fin-add f s m e t n d h k z

-- ---- a sum from +0
pub plus_zero : #0 ≡ fin false 0 (pos 0)
unfolding of_bits
plus_zero = refl

pub sum_fits : (t : ℕ → Float) (n : ℕ) → T (fits binary64 (sum_of t n))
unfolding steps
sum_fits t zero = of_bits-fits binary64 0
sum_fits t (suc n) = add-fits binary64 (sum_of t n) (t n)

-- of terms that are doubles, it is never -0
pub sum_never : (t : ℕ → Float) (n : ℕ) → ((i : ℕ) → i < n → T (fits binary64 (t i))) → negzero (sum_of t n) ≡ false
unfolding steps
sum_never t zero h = rw plus_zero (unfold negzero in refl)
sum_never t (suc n) h =
    add-keeps binary64 (sum_of t n) (t n) (sum_fits t n) (h n (le_refl (suc n))) (sum_never t n (λ i l. h i (le_trans l (le-suc n))))

-- a double that is not -0; a sum that starts from one is one
pub record Sure (x : Float) : Type 0 where
  pub holds : T (fits binary64 x)
  pub never : negzero x ≡ false

pub sure_zero : Sure #0
sure_zero = record { holds = of_bits-fits binary64 0; never = rw plus_zero (unfold negzero in refl) }

pub sure_add : (x y : Float) → Sure x → T (fits binary64 y) → Sure (add binary64 x y)
sure_add x y h k = record { holds = add-fits binary64 x y; never = add-keeps binary64 x y h.holds k h.never }

big : (k x : ℕ) → x ≡ 2 ^ suc k → x ≡ 1 → ⊥
big k x p q = let l : 1 < 2 ^ suc k = pow-lt (zero-lt-suc k) in omega arith

-- so a value that fits and is zero is +0
pub zero_is : (f : Format) (x : Float) → T (fits f x) → negzero x ≡ false → nonzero x ≡ false → x ≡ fin false 0 (pos 0)
unfolding negzero nonzero fits
zero_is f nan h z n = absurd (true≢false n)
zero_is f (inf s) h z n = absurd (true≢false n)
zero_is f (fin s (suc m) e) h z n = absurd (true≢false n)
zero_is f (fin s zero (pos zero)) h z n = ap (λ (b : Bool). fin b 0 (pos 0)) z
zero_is f (fin s zero (pos (suc k))) h z n = absurd (big k (2 ^ suc k * 1) (mul-one _) (eqb→eq (2 ^ suc k * 1) 1 h))
zero_is f (fin s zero (negsuc k)) h z n = absurd (big k (1 * 2 ^ suc k) (one-mul _) (eqb→eq (1 * 2 ^ suc k) 1 h))

-- two values that are the same up to a zero's sign, and are no -0, are equal: so a sum may be a divisor
plain-is : (x : Float) → negzero x ≡ false → plain x ≡ x
unfolding plain negzero
plain-is nan z = refl
plain-is (inf s) z = refl
plain-is (fin s zero e) z = ap (λ (b : Bool). fin b zero e) (sym z)
plain-is (fin s (suc m) e) z = refl

pub same_exact : {x y : Float} → negzero x ≡ false → negzero y ≡ false → Turned false x y → x ≡ y
unfolding flip
same_exact {x} {y} p q t = sym (plain-is x p) ∙ t.is ∙ plain-is y q
