-- What is not below zero: thresholds, steps, constants, sums of squares. `lt x 0` is false of a nan and of -0 too, so this is closed under
-- the operations with no further condition, but for a divisor, which must not be -0. The idea: forget the zeros' signs (`plain`), and then no
-- operand has a sign at all. Assumes nothing.
use mathlib.Core.Path.{◌≡◌, refl, sym, ◌∙◌}
use Prim.Native.Nat.{ℕ, zero, suc, ◌+◌, ◌*◌, ◌/◌, ◌%◌, ◌^◌, ◌-◌, ◌<◌, compare}
use native.Mathlib.Nat.{le_refl, le-suc, le_trans}
use mathlib.Core.Bool.{Bool, true, false, not, cond, true≢false}
use lib.Dec.{T, ltb, eqb}
use lib.Ieee.{Float, nan, inf, fin, Format, binary64, prec, emax, low, up, down, size, nearest, unlike, odd, units, round, add, mul, div, lt, eq, of_bits}
use lib.Ieee.Fits.{round_is}
use Rattle.doubles.specs.Num.{◌⊕◌, ◌⊗◌, ◌⊘◌, #0, #1}
use Rattle.doubles.specs.Steps.{steps, sum as sum_of}
use Rattle.doubles.specs.Sign.{plain}
use Rattle.doubles.proofs.Laws.Turn.{zero₂, add-plain, mul-plain, div-plain}
use Rattle.doubles.proofs.Laws.Turned.{plain_id}
use Rattle.doubles.proofs.Laws.Order.{neg-lt, pos-lt, nonzero_of}

-- ---- no sign at all
abbrev clear : Float → Bool
clear nan = true
clear (inf s) = not s
clear (fin s m e) = not s

round-clear : (f : Format) (a c : ℕ) → T (clear (round f false a c))
round-clear f a c =
    let n = a * 2 ^ low f in
    let k = size (n / c) - prec f in
    let u = c * 2 ^ k in
    rw round_is (go (nearest (n / u) (compare (n % u * 2) u)) k)
  where
    at : (q k : ℕ) → T (clear (odd (suc (prec f)) false q k (low f)))
    at zero k = unfold odd in tt
    at (suc q) k = unfold odd in tt

    pick : (b : Bool) (q k : ℕ) → T (clear (cond b (odd (suc (prec f)) false q k (low f)) (inf false)))
    pick true q k = at q k
    pick false q k = tt

    go : (q k : ℕ) → T (clear (units f false q k))
    go q k = unfold units in pick (ltb (q * 2 ^ k) (2 ^ (low f + suc (emax f)))) q k

either : (b : Bool) (x y : Float) → T (clear x) → T (clear y) → T (clear (cond b x y))
either true x y p q = p
either false x y p q = q

add-clear : (f : Format) (x y : Float) → T (clear x) → T (clear y) → T (clear (add f x y))
unfolding add
add-clear f nan y p q = tt
add-clear f (inf true) y p q = absurd p
add-clear f (inf false) nan p q = tt
add-clear f (inf false) (inf true) p q = tt
add-clear f (inf false) (inf false) p q = tt
add-clear f (inf false) (fin t n d) p q = tt
add-clear f (fin true m e) y p q = absurd p
add-clear f (fin false m e) nan p q = tt
add-clear f (fin false m e) (inf t) p q = q
add-clear f (fin false m e) (fin true n d) p q = absurd q
add-clear f (fin false m e) (fin false n d) p q = round-clear f (m * up e * down d + n * up d * down e) (down e * down d)

mul-clear : (f : Format) (x y : Float) → T (clear x) → T (clear y) → T (clear (mul f x y))
unfolding mul
mul-clear f nan y p q = tt
mul-clear f (inf true) y p q = absurd p
mul-clear f (inf false) nan p q = tt
mul-clear f (inf false) (inf t) p q = sub_t t q
  where
    sub_t : (t : Bool) → T (not t) → T (not (unlike false t))
    sub_t true q = q
    sub_t false q = tt
mul-clear f (inf false) (fin true n d) p q = absurd q
mul-clear f (inf false) (fin false n d) p q = either (eqb n 0) nan (inf false) tt tt
mul-clear f (fin true m e) y p q = absurd p
mul-clear f (fin false m e) nan p q = tt
mul-clear f (fin false m e) (inf true) p q = absurd q
mul-clear f (fin false m e) (inf false) p q = either (eqb m 0) nan (inf false) tt tt
mul-clear f (fin false m e) (fin true n d) p q = absurd q
mul-clear f (fin false m e) (fin false n d) p q = round-clear f (m * up e * (n * up d)) (down e * down d)

div-clear : (f : Format) (x y : Float) → T (clear x) → T (clear y) → T (clear (div f x y))
unfolding div
div-clear f nan y p q = tt
div-clear f (inf true) y p q = absurd p
div-clear f (inf false) nan p q = tt
div-clear f (inf false) (inf t) p q = tt
div-clear f (inf false) (fin true n d) p q = absurd q
div-clear f (inf false) (fin false n d) p q = tt
div-clear f (fin true m e) y p q = absurd p
div-clear f (fin false m e) nan p q = tt
div-clear f (fin false m e) (inf true) p q = absurd q
div-clear f (fin false m e) (inf false) p q = tt
div-clear f (fin false m e) (fin true n d) p q = absurd q
div-clear f (fin false m e) (fin false n d) p q =
    let above : ℕ = m * up e * down d in
    let below : ℕ = n * up d * down e in
    let by_zero = either (eqb m 0) nan (inf false) tt tt in
    either (eqb n 0) (cond (eqb m 0) nan (inf false)) (round f false above below) by_zero (round-clear f above below)

square_clear : (f : Format) (x : Float) → T (clear (mul f x x))
unfolding mul
square_clear f nan = tt
square_clear f (inf true) = tt
square_clear f (inf false) = tt
square_clear f (fin true m e) = round-clear f (m * up e * (m * up e)) (down e * down e)
square_clear f (fin false m e) = round-clear f (m * up e * (m * up e)) (down e * down e)

-- ---- with the zeros' signs forgotten
plain-clear : (x : Float) → T (clear x) → T (clear (plain x))
unfolding plain
plain-clear nan p = tt
plain-clear (inf s) p = p
plain-clear (fin s zero e) p = tt
plain-clear (fin s (suc m) e) p = p

calm : (x : Float) → lt x #0 ≡ false → T (clear (plain x))
unfolding plain
calm nan h = tt
calm (inf true) h = true≢false (unfold lt of_bits in h)
calm (inf false) h = tt
calm (fin s zero e) h = tt
calm (fin true (suc m) e) h = true≢false (sym (neg-lt m e) ∙ h)
calm (fin false (suc m) e) h = tt

steady : (x : Float) → T (clear (plain x)) → lt x #0 ≡ false
unfolding plain
steady nan p = unfold lt in refl
steady (inf true) p = absurd p
steady (inf false) p = unfold lt of_bits in refl
steady (fin true zero e) p = unfold lt of_bits in rw (zero₂ (up e) 1, zero₂ 1 (down e))
steady (fin true (suc m) e) p = absurd p
steady (fin false m e) p = pos-lt m e

-- ---- the laws
pub one_not-below : lt #1 #0 ≡ false
unfolding lt of_bits
one_not-below = refl

pub add-not-below : (x y : Float) → lt x #0 ≡ false → lt y #0 ≡ false → lt (x ⊕ y) #0 ≡ false
add-not-below x y p q =
    steady (x ⊕ y) (rw (add-plain binary64 x y) (plain-clear (plain x ⊕ plain y) (add-clear binary64 (plain x) (plain y) (calm x p) (calm y q))))

pub mul-not-below : (x y : Float) → lt x #0 ≡ false → lt y #0 ≡ false → lt (x ⊗ y) #0 ≡ false
mul-not-below x y p q =
    steady (x ⊗ y) (rw (mul-plain binary64 x y) (plain-clear (plain x ⊗ plain y) (mul-clear binary64 (plain x) (plain y) (calm x p) (calm y q))))

pub div-not-below : (x y : Float) → lt x #0 ≡ false → lt y #0 ≡ false → eq y #0 ≡ false → lt (x ⊘ y) #0 ≡ false
div-not-below x y p q n =
    let k : plain y ≡ y = plain_id y (nonzero_of y n) in
    let d : T (clear y) = rw k at (calm y q) in
    steady (x ⊘ y) (rw (div-plain binary64 x y) (plain-clear (plain x ⊘ y) (div-clear binary64 (plain x) y (calm x p) d)))

pub square_not-below : (x : Float) → lt (x ⊗ x) #0 ≡ false
square_not-below x = steady (x ⊗ x) (plain-clear (x ⊗ x) (square_clear binary64 x))

pub sum-not-below : (t : ℕ → Float) (n : ℕ) → ((i : ℕ) → i < n → lt (t i) #0 ≡ false) → lt (sum_of t n) #0 ≡ false
unfolding steps
sum-not-below t zero h = unfold lt of_bits in refl
sum-not-below t (suc n) h = add-not-below (sum_of t n) (t n) (sum-not-below t n (λ i l. h i (le_trans l (le-suc n)))) (h n (le_refl (suc n)))
