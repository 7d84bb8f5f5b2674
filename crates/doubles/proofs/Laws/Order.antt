-- Comparisons with zero, and of a double with itself. Assumes nothing.
use mathlib.Core.Path.{◌≡◌, refl, sym, ◌∙◌}
use Prim.Native.Nat.{ℕ, zero, suc, ◌+◌, ◌*◌, ◌<◌}
use native.Mathlib.Nat.{mul-pos, zero-lt-suc, lt_irrefl}
use native.Mathlib.Omega.{arith}
use mathlib.Core.Bool.{Bool, true, false, not, ◌||◌, beq, true≢false, false≢true}
use lib.IntN.{ℤ}
use lib.Dec.{T, ltb, eqb, leb-zero, leb-suc-zero, leb-suc-suc, lt→ltb, eqb-suc-zero, eqb-zero-suc, eqb_refl}
use lib.Ieee.{Float, nan, inf, fin, up, down, level, of_bits, lt, eq, ne, le, is_nan}
use lib.Ieee.Bits.{is_true}
use lib.Ieee.Fits.{up_pos}
use Rattle.doubles.specs.Num.{#0}
use Rattle.doubles.specs.Sign.{nonzero}
use Rattle.doubles.proofs.Laws.Turn.{zero₂}

product_pos : (m : ℕ) (e : ℤ) → 0 < suc m * up e * 1
product_pos m e = mul-pos (mul-pos (zero-lt-suc m) (up_pos e)) (zero-lt-suc 0)

unequal : (a : ℕ) → 0 < a → eqb a 0 ≡ false
unequal zero h = absurd (lt_irrefl 0 h)
unequal (suc a) h = eqb-suc-zero a

less_sum : (a b : ℕ) → 0 < a → 0 < a + b
less_sum a b h = omega arith

-- ---- a number against zero, by its parts
pub neg-lt : (m : ℕ) (e : ℤ) → lt (fin true (suc m) e) #0 ≡ true
unfolding lt of_bits
neg-lt m e = is_true _ (lt→ltb 0 _ (less_sum (suc m * up e * 1) _ (product_pos m e)))

pub pos_gt : (m : ℕ) (e : ℤ) → lt #0 (fin false (suc m) e) ≡ true
unfolding lt of_bits
pos_gt m e = rw (zero₂ 1 (down e)) (is_true _ (lt→ltb 0 _ (product_pos m e)))

pub pos-lt : (m : ℕ) (e : ℤ) → lt (fin false m e) #0 ≡ false
unfolding lt of_bits
pos-lt m e = rw (zero₂ 1 (down e)) (leb-suc-zero (m * up e * 1))

below-pos : (a : ℕ) → 0 < a → eqb 0 a ≡ false
below-pos zero h = absurd (lt_irrefl 0 h)
below-pos (suc a) h = eqb-zero-suc a

or-true : (b : Bool) → b || true ≡ true
or-true true = refl
or-true false = refl

-- only the zeros equal 0
pub eq-zero : (x : Float) → eq x #0 ≡ not (nonzero x)
unfolding eq nonzero of_bits
eq-zero nan = refl
eq-zero (inf s) = refl
eq-zero (fin s zero e) = rw (zero₂ (up e) 1, zero₂ 1 (down e)) (or-true (beq s false))
eq-zero (fin s (suc m) e) = rw (zero₂ 1 (down e), unequal (suc m * up e * 1) (product_pos m e))

pub nonzero_of : (x : Float) → eq x #0 ≡ false → T (nonzero x)
nonzero_of x h = go (nonzero x) (sym (eq-zero x) ∙ h)
  where
    go : (b : Bool) → not b ≡ false → T b
    go true k = tt
    go false k = absurd (true≢false k)

-- ---- nan, and nothing else, differs from itself
pub ne_self : (x : Float) → ne x x ≡ is_nan x
unfolding ne eq is_nan
ne_self nan = refl
ne_self (inf true) = refl
ne_self (inf false) = refl
ne_self (fin s m e) = rw (is_true (eqb (m * up e * down e) (m * up e * down e)) (eqb_refl (m * up e * down e)), same s)
  where
    same : (b : Bool) → beq b b ≡ true
    same true = refl
    same false = refl

pub only_nan : (x : Float) → is_nan x ≡ true → x ≡ nan
unfolding is_nan
only_nan nan h = refl
only_nan (inf s) h = absurd (false≢true h)
only_nan (fin s m e) h = absurd (false≢true h)

-- a double that is not below zero, and no nan, is at least zero
pub at_least_zero : (x : Float) → lt x #0 ≡ false → is_nan x ≡ false → le #0 x ≡ true
unfolding is_nan
at_least_zero nan h k = absurd (true≢false k)
at_least_zero (inf true) h k = absurd (true≢false (unfold lt of_bits in h))
at_least_zero (inf false) h k = unfold le lt of_bits in refl
at_least_zero (fin s zero e) h k = unfold le lt eq of_bits in rw (zero₂ 1 (down e), zero₂ (up e) 1, or-true (beq false s)) (or-true _)
at_least_zero (fin true (suc m) e) h k = absurd (true≢false (sym (neg-lt m e) ∙ h))
at_least_zero (fin false (suc m) e) h k = unfold le in rw (pos_gt m e)

-- and the other way
pub not-below : (x : Float) → le #0 x ≡ true → lt x #0 ≡ false
unfolding le
not-below nan h = unfold lt in refl
not-below (inf true) h = absurd (false≢true (unfold lt eq of_bits in h))
not-below (inf false) h = unfold lt of_bits in refl
not-below (fin true zero e) h = unfold lt of_bits in rw (zero₂ (up e) 1, zero₂ 1 (down e))
not-below (fin true (suc m) e) h = absurd (false≢true (unfold lt eq of_bits in sym (rw (zero₂ 1 (down e), below-pos (suc m * up e * 1) (product_pos m e))) ∙ h))
not-below (fin false m e) h = pos-lt m e

-- a zero is at most whatever +0 is at most
pub zero_at_most : (t : Float) (e : ℤ) → le #0 t ≡ true → le (fin false 0 e) t ≡ true
unfolding le lt eq of_bits
zero_at_most nan e h = h
zero_at_most (inf s) e h = h
zero_at_most (fin true zero d) e h = rw (zero₂ (up e) (down d), zero₂ (up d) (down e))
zero_at_most (fin true (suc n) d) e h = absurd (false≢true (sym (rw (zero₂ 1 (down d), below-pos (suc n * up d * 1) (product_pos n d))) ∙ h))
zero_at_most (fin false n d) e h = rw (zero₂ (up e) (down d)) (least (n * up d * down e))
  where
    least : (b : ℕ) → ltb 0 b || level false 0 false b ≡ true
    least zero = refl
    least (suc b) = rw (leb-suc-suc 0 b, leb-zero b)
