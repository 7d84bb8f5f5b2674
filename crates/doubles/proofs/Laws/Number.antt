-- What is no NaN: a fraction that was rounded; a product, a sum or a difference of finite numbers; a quotient by what is no zero. Some of these may
-- be infinities, and the laws go on from there: an infinity less or times a finite number. Assumes nothing.
use mathlib.Core.Path.{◌≡◌, refl, sym, ap, ◌∙◌}
use Prim.Native.Nat.{ℕ, zero, suc, ◌+◌, ◌*◌, ◌/◌, ◌%◌, ◌^◌, ◌-◌, ◌≤◌, compare}
use native.Mathlib.Nat.{le_trans, le_of_eq, le_of_lt, zero-lt-suc, one-mul, mul-one, mul_comm, mul-pos, mul-le-mul_right}
use native.Mathlib.Omega.{arith}
use mathlib.Core.Bool.{Bool, true, false, not, ◌&&◌, beq, cond, true≢false, false≢true}
use lib.IntN.{ℤ}
use lib.Dec.{T, ltb, eqb-suc-zero}
use lib.Pow.{pow_mono}
use lib.Ieee.{Float, nan, inf, fin, Format, binary32, binary64, prec, emax, low, up, down, size, nearest, unlike, odd, units, round, neg}
use lib.Ieee.{sum as fsum, add, sub, mul, div, fits, is_nan, of_bits}
use lib.Ieee.Fits.{round_is, up_pos}
use Rattle.doubles.specs.Num.{◌⊖◌, ◌⊗◌, ◌⊘◌, #1, finite}
use Rattle.doubles.specs.Sign.{nonzero}
use Rattle.doubles.proofs.Laws.Exact.{Fits, says}
use Rattle.doubles.proofs.Laws.Zero.{round-nonzero}

-- ---- rounded fractions
round_number : (f : Format) (s : Bool) (a c : ℕ) → is_nan (round f s a c) ≡ false
unfolding is_nan
round_number f s a c =
    let n = a * 2 ^ low f in
    let k = size (n / c) - prec f in
    let u = c * 2 ^ k in
    rw round_is (go (nearest (n / u) (compare (n % u * 2) u)) k)
  where
    at : (q k : ℕ) → is_nan (odd (suc (prec f)) s q k (low f)) ≡ false
    at zero k = unfold odd in refl
    at (suc q) k = unfold odd in refl

    pick : (b : Bool) (q k : ℕ) → is_nan (cond b (odd (suc (prec f)) s q k (low f)) (inf s)) ≡ false
    pick true q k = at q k
    pick false q k = refl

    go : (q k : ℕ) → is_nan (units f s q k) ≡ false
    go q k = unfold units in pick (ltb (q * 2 ^ k) (2 ^ (low f + suc (emax f)))) q k

sum_number : (f : Format) (s : Bool) (a : ℕ) (t : Bool) (b c : ℕ) → is_nan (fsum f s a t b c) ≡ false
unfolding fsum
sum_number f s a t b c = go (beq s t) (ltb a b)
  where
    go : (k l : Bool) → is_nan (cond k (round f s (a + b) c) (cond l (round f t (b - a) c) (round f (s && ltb b a) (a - b) c))) ≡ false
    go true l = round_number f s (a + b) c
    go false true = round_number f t (b - a) c
    go false false = round_number f (s && ltb b a) (a - b) c

-- ---- finite numbers, and what an operation makes of them
pub finite_number : (x : Float) → finite x ≡ true → is_nan x ≡ false
unfolding finite is_nan
finite_number nan h = absurd (false≢true h)
finite_number (inf s) h = refl
finite_number (fin s m e) h = refl

pub product_number : (x y : Float) → finite x ≡ true → finite y ≡ true → is_nan (x ⊗ y) ≡ false
unfolding finite
product_number nan y p q = absurd (false≢true p)
product_number (inf s) y p q = absurd (false≢true p)
product_number (fin s m e) nan p q = absurd (false≢true q)
product_number (fin s m e) (inf t) p q = absurd (false≢true q)
product_number (fin s m e) (fin t n d) p q = unfold mul in round_number binary64 (unlike s t) (m * up e * (n * up d)) (down e * down d)

-- a quotient, where the divisor is no zero
pub quotient_number : (x y : Float) → finite x ≡ true → finite y ≡ true → T (nonzero y) → is_nan (x ⊘ y) ≡ false
unfolding finite nonzero
quotient_number nan y p q n = absurd (false≢true p)
quotient_number (inf s) y p q n = absurd (false≢true p)
quotient_number (fin s m e) nan p q n = absurd (false≢true q)
quotient_number (fin s m e) (inf t) p q n = absurd (false≢true q)
quotient_number (fin s m e) (fin t zero d) p q n = absurd n
quotient_number (fin s m e) (fin t (suc k) d) p q n =
    unfold div in rw (eqb-suc-zero k) (round_number binary64 (unlike s t) (m * up e * down d) (suc k * up d * down e))

-- a finite number less any number
pub less_number : (x y : Float) → finite x ≡ true → is_nan y ≡ false → is_nan (x ⊖ y) ≡ false
unfolding finite is_nan sub add neg
less_number nan y p q = absurd (false≢true p)
less_number (inf s) y p q = absurd (false≢true p)
less_number (fin s m e) nan p q = absurd (true≢false q)
less_number (fin s m e) (inf t) p q = refl
less_number (fin s m e) (fin t n d) p q = sum_number binary64 s (m * up e * down d) (not t) (n * up d * down e) (down e * down d)

-- any number times a finite one that is no zero
pub times_number : (x y : Float) → is_nan x ≡ false → finite y ≡ true → T (nonzero y) → is_nan (x ⊗ y) ≡ false
unfolding finite is_nan nonzero
times_number nan y p q n = absurd (true≢false p)
times_number (inf s) nan p q n = absurd (false≢true q)
times_number (inf s) (inf t) p q n = absurd (false≢true q)
times_number (inf s) (fin t zero d) p q n = absurd n
times_number (inf s) (fin t (suc k) d) p q n = unfold mul in rw (eqb-suc-zero k)
times_number (fin s m e) y p q n = product_number (fin s m e) y refl q

-- ---- the inverse of a double is no zero: doubles lie below 2 ^ 1024, and the smallest is 2 ^ -1074
room-below : (f : Format) → suc (emax f) ≤ low f
room-below binary32 = omega arith
room-below binary64 = omega arith

inverse_large : (f : Format) (m : ℕ) (e : ℤ) → Fits f m e → suc m * up e * 1 ≤ 1 * down e * 2 ^ low f
inverse_large f m e F =
    le_trans (le_of_eq (mul-one (suc m * up e)))
    (le_trans (le_of_lt F.small)
    (le_trans (mul-le-mul_right (down e) (pow_mono (room-below f)))
    (le_of_eq (mul_comm (2 ^ low f) (down e) ∙ ap (λ (x : ℕ). x * 2 ^ low f) (sym (one-mul (down e)))))))

pub inverse-nonzero : (x : Float) → T (fits binary64 x) → finite x ≡ true → T (nonzero x) → T (nonzero (#1 ⊘ x))
unfolding finite nonzero
inverse-nonzero nan h p n = absurd (false≢true p)
inverse-nonzero (inf s) h p n = absurd (false≢true p)
inverse-nonzero (fin s zero e) h p n = absurd n
inverse-nonzero (fin s (suc m) e) h p n =
    unfold div of_bits in rw (eqb-suc-zero m)
    (round-nonzero binary64 (unlike false s) (1 * down e) (suc m * up e * 1) (mul-pos (mul-pos (zero-lt-suc m) (up_pos e)) (zero-lt-suc 0))
    (inverse_large binary64 m e (says binary64 s m e h)))
