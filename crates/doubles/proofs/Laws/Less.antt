-- Which of two doubles is less: not both, and "not less" goes on through a double that is finite. Assumes nothing.
use mathlib.Core.Path.{◌≡◌, refl}
use mathlib.Core.Bool.{Bool, true, false, false≢true}
use Prim.Native.Nat.{ℕ, zero, suc, ◌+◌, ◌*◌, ◌≤◌, ◌<◌}
use native.Mathlib.Nat.{mul-pos, zero-lt-suc, zero-mul}
use native.Mathlib.Omega.{arith}
use lib.Dec.{ltb}
use lib.Ieee.{Float, nan, inf, fin, up, down, below, lt}
use lib.Ieee.Fits.{down_pos}
use lib.Ieee.Positive.{through}
use borrow.Author.Tests.{ltb-true, ltb-false, le-ltb}
use Rattle.doubles.specs.Num.{finite}

none_of : (x y : ℕ) → 0 < y → x * y ≡ 0 → x ≡ 0
none_of zero y h e = refl
none_of (suc x) y h e = let p : 0 < suc x * y = mul-pos (zero-lt-suc x) h in absurd (omega arith)

zeros : (a b : ℕ) → ltb 0 (a + b) ≡ false → (a ≡ 0) × (b ≡ 0)
zeros a b e = let h = ltb-false 0 (a + b) e in (omega arith, omega arith)

-- three signed fractions X / p, Y / q and Z / r
module _ (X Y Z p q r : ℕ) (P : 0 < p) (Q : 0 < q) (R : 0 < r) where
  flat : (z a : ℕ) → z ≡ 0 → z * a ≤ 0
  flat z a e = rw e (omega (arith, zero-mul a))

  not-below_trans : (s t u : Bool) → below s (X * q) t (Y * p) ≡ false → below t (Y * r) u (Z * q) ≡ false
      → below s (X * r) u (Z * p) ≡ false
  not-below_trans false false false h k =
      le-ltb (X * r) (Z * p) (through Z Y X r q p Q (ltb-false (Y * r) (Z * q) k) (ltb-false (X * q) (Y * p) h))
  not-below_trans false false true h k = refl
  not-below_trans false true false h k =
      let z = flat Z p (none_of Z q Q (zeros (Y * r) (Z * q) k).1) in
      le-ltb (X * r) (Z * p) (omega arith)
  not-below_trans false true true h k = refl
  not-below_trans true false false h k =
      let a = zeros (X * q) (Y * p) h in
      let y = flat Y r (none_of Y p P a.1) in
      let z = ltb-false (Y * r) (Z * q) k in
      let zq : Z * q ≡ 0 = omega arith in
      let x = flat X r (none_of X q Q a.0) in
      let z' = flat Z p (none_of Z q Q zq) in
      le-ltb 0 (X * r + Z * p) (omega arith)
  not-below_trans true false true h k =
      let x = flat X r (none_of X q Q (zeros (X * q) (Y * p) h).0) in
      le-ltb (Z * p) (X * r) (omega arith)
  not-below_trans true true false h k =
      let a = zeros (Y * r) (Z * q) k in
      let y = flat Y p (none_of Y r R a.0) in
      let x = ltb-false (Y * p) (X * q) h in
      let xq : X * q ≡ 0 = omega arith in
      let x' = flat X r (none_of X q Q xq) in
      let z = flat Z p (none_of Z q Q a.1) in
      le-ltb 0 (X * r + Z * p) (omega arith)
  not-below_trans true true true h k =
      le-ltb (Z * p) (X * r) (through X Y Z p q r Q (ltb-false (Y * p) (X * q) h) (ltb-false (Z * q) (Y * r) k))

pub not_less_trans : (x y z : Float) → finite y ≡ true → lt x y ≡ false → lt y z ≡ false → lt x z ≡ false
unfolding lt finite
not_less_trans nan y z f h k = refl
not_less_trans (inf s) nan z f h k = absurd (false≢true f)
not_less_trans (inf s) (inf t) z f h k = absurd (false≢true f)
not_less_trans (inf s) (fin t n d) nan f h k = refl
not_less_trans (inf s) (fin t n d) (inf u) f h k = rw h
not_less_trans (inf s) (fin t n d) (fin u o g) f h k = h
not_less_trans (fin s m e) nan z f h k = absurd (false≢true f)
not_less_trans (fin s m e) (inf t) z f h k = absurd (false≢true f)
not_less_trans (fin s m e) (fin t n d) nan f h k = refl
not_less_trans (fin s m e) (fin t n d) (inf u) f h k = k
not_less_trans (fin s m e) (fin t n d) (fin u o g) f h k =
    not-below_trans (m * up e) (n * up d) (o * up g) (down e) (down d) (down g) (down_pos e) (down_pos d) (down_pos g) s t u h k

not-both : (s : Bool) (a : ℕ) (t : Bool) (b : ℕ) → below s a t b ≡ true → below t b s a ≡ false
not-both true a true b h = let q = ltb-true b a h in le-ltb a b (omega arith)
not-both true a false b h = refl
not-both false a true b h = absurd (false≢true h)
not-both false a false b h = let q = ltb-true a b h in le-ltb b a (omega arith)

pub not_less_back : (x y : Float) → lt x y ≡ true → lt y x ≡ false
unfolding lt
not_less_back nan y h = absurd (false≢true h)
not_less_back (inf s) nan h = refl
not_less_back (inf true) (inf true) h = refl
not_less_back (inf true) (inf false) h = refl
not_less_back (inf false) (inf true) h = absurd (false≢true h)
not_less_back (inf false) (inf false) h = refl
not_less_back (inf true) (fin t n d) h = refl
not_less_back (inf false) (fin t n d) h = absurd (false≢true h)
not_less_back (fin s m e) nan h = refl
not_less_back (fin s m e) (inf true) h = absurd (false≢true h)
not_less_back (fin s m e) (inf false) h = refl
not_less_back (fin s m e) (fin t n d) h = not-both s (m * up e * down d) t (n * up d * down e) h
