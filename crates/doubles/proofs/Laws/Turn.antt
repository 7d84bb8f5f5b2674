-- How each operation meets a turned sign, and a zero whose sign is forgotten: the raw laws of `plain` and `neg`. Assumes nothing.
use mathlib.Core.Path.{◌≡◌, refl, sym, ap, ◌∙◌}
use Prim.Native.Nat.compare
use Prim.Native.Nat.{ℕ, zero, suc, ◌+◌, ◌-◌, ◌*◌, ◌/◌, ◌%◌, ◌^◌, ◌≤◌, compare}
use native.Mathlib.Nat.{zero-mul, zero-div, zero-mod, zero-add, add-zero, sub-zero, mul-zero}
use native.Mathlib.Omega.{arith}
use mathlib.Core.Bool.{Bool, true, false, not, cond}
use lib.IntN.{pos}
use lib.Dec.{T, ltb, eqb, eqb-suc-zero, nltb→le, leb-zero, leb-suc-zero, leb-suc-suc}
use lib.Ieee.{Float, nan, inf, fin, Format, binary32, binary64, prec, emax, low, unlike, up, down, size, nearest, odd, units, round, neg, sum, add, mul, div}
use lib.Ieee.Fits.{round_is}
use Rattle.doubles.specs.Sign.{plain}

-- ---- rounding
odd-neg : (d : ℕ) (s : Bool) (q k l : ℕ) → odd d (not s) q k l ≡ neg (odd d s q k l)
unfolding odd neg
odd-neg d s zero k l = refl
odd-neg d s (suc q) k l = refl

units-neg : (f : Format) (s : Bool) (q k : ℕ) → units f (not s) q k ≡ neg (units f s q k)
unfolding units
units-neg f s q k = go (ltb (q * 2 ^ k) (2 ^ (low f + suc (emax f))))
  where
    go : (b : Bool) → cond b (odd (suc (prec f)) (not s) q k (low f)) (inf (not s)) ≡ neg (cond b (odd (suc (prec f)) s q k (low f)) (inf s))
    go true = odd-neg (suc (prec f)) s q k (low f)
    go false = unfold neg in refl

pub round-neg : (f : Format) (s : Bool) (a b : ℕ) → round f (not s) a b ≡ neg (round f s a b)
round-neg f s a b =
    let n = a * 2 ^ low f in
    let k = size (n / b) - prec f in
    let u = b * 2 ^ k in
    round_is f (not s) a b ∙ units-neg f s (nearest (n / u) (compare (n % u * 2) u)) k ∙ ap neg (sym (round_is f s a b))

units-zero : (f : Format) (s : Bool) → units f s 0 0 ≡ fin s 0 (pos 0)
unfolding units
units-zero binary32 s = refl
units-zero binary64 s = refl

none : (u : ℕ) → nearest 0 (compare 0 u) ≡ 0
none zero = refl
none (suc u) = rw compare.zero-suc

size-zero : (f : Format) → size 0 - prec f ≡ 0
unfolding size
size-zero binary32 = refl
size-zero binary64 = refl

pub round-zero : (f : Format) (s : Bool) (a c : ℕ) → a ≡ 0 → round f s a c ≡ fin s 0 (pos 0)
round-zero f s a c h =
    rw (h, round_is, zero-mul, zero-div c, size-zero, zero-div, zero-mod, none) (units-zero f s)

-- ---- a zero's sign forgotten
pub rz : (f : Format) (s : Bool) (a c : ℕ) → a ≡ 0 → plain (round f s a c) ≡ fin false 0 (pos 0)
unfolding plain
rz f s a c h = rw (round-zero f s a c h)

pub rzn : (f : Format) (s : Bool) (a c : ℕ) → a ≡ 0 → plain (neg (round f s a c)) ≡ fin false 0 (pos 0)
unfolding plain neg
rzn f s a c h = rw (round-zero f s a c h)

pub neg-neg : (x : Float) → neg (neg x) ≡ x
unfolding neg
neg-neg nan = refl
neg-neg (inf true) = refl
neg-neg (inf false) = refl
neg-neg (fin true m e) = refl
neg-neg (fin false m e) = refl

pub neg-plain : (x : Float) → plain (neg x) ≡ plain (neg (plain x))
unfolding plain neg
neg-plain nan = refl
neg-plain (inf s) = refl
neg-plain (fin s zero e) = refl
neg-plain (fin s (suc m) e) = refl

-- ---- sums
level : (a b : ℕ) → b ≤ a → a ≤ b → a - b ≡ 0
level a b h k = omega arith

pub zero₂ : (a b : ℕ) → zero * a * b ≡ 0
zero₂ a b = rw (zero-mul, zero-mul)

zsum_l : (f : Format) (s : Bool) (a : ℕ) (t : Bool) (b c : ℕ) → a ≡ 0 → plain (sum f s a t b c) ≡ plain (round f t b c)
unfolding sum
zsum_l f true a true b c h = rw (h, zero-add)
zsum_l f false a false b c h = rw (h, zero-add)
zsum_l f true a false zero c h = rw h (rz f false 0 c refl ∙ sym (rz f false 0 c refl))
zsum_l f true a false (suc b) c h = rw (h, leb-suc-suc 0 b, leb-zero b, sub-zero (suc b))
zsum_l f false a true zero c h = rw h (rz f false 0 c refl ∙ sym (rz f true 0 c refl))
zsum_l f false a true (suc b) c h = rw (h, leb-suc-suc 0 b, leb-zero b, sub-zero (suc b))

zsum_r : (f : Format) (s : Bool) (a : ℕ) (t : Bool) (b c : ℕ) → b ≡ 0 → plain (sum f s a t b c) ≡ plain (round f s a c)
unfolding sum
zsum_r f true a true b c h = rw (h, add-zero)
zsum_r f false a false b c h = rw (h, add-zero)
zsum_r f true zero false b c h = rw h (rz f false 0 c refl ∙ sym (rz f true 0 c refl))
zsum_r f true (suc a) false b c h = rw (h, leb-suc-zero (suc a), leb-suc-suc 0 a, leb-zero a, sub-zero (suc a))
zsum_r f false zero true b c h = rw h (rz f false 0 c refl ∙ sym (rz f false 0 c refl))
zsum_r f false (suc a) true b c h = rw (h, leb-suc-zero (suc a), sub-zero (suc a))

sum-neg : (f : Format) (s : Bool) (a : ℕ) (t : Bool) (b c : ℕ) → plain (sum f (not s) a (not t) b c) ≡ plain (neg (sum f s a t b c))
unfolding sum
sum-neg f true a true b c = ap plain (round-neg f true (a + b) c)
sum-neg f false a false b c = ap plain (round-neg f false (a + b) c)
sum-neg f true a false b c = go (ltb a b) (ltb b a) (nltb→le a b) (nltb→le b a)
  where
    go : (v w : Bool) → (T (not v) → b ≤ a) → (T (not w) → a ≤ b)
        → plain (cond v (round f true (b - a) c) (round f false (a - b) c)) ≡ plain (neg (cond v (round f false (b - a) c) (round f w (a - b) c)))
    go true w h k = ap plain (round-neg f false (b - a) c)
    go false true h k = ap plain (round-neg f true (a - b) c)
    go false false h k = let e : a - b ≡ 0 = level a b (h tt) (k tt) in rz f false (a - b) c e ∙ sym (rzn f false (a - b) c e)
sum-neg f false a true b c = go (ltb a b) (ltb b a) (nltb→le a b) (nltb→le b a)
  where
    go : (v w : Bool) → (T (not v) → b ≤ a) → (T (not w) → a ≤ b)
        → plain (cond v (round f false (b - a) c) (round f w (a - b) c)) ≡ plain (neg (cond v (round f true (b - a) c) (round f false (a - b) c)))
    go true w h k = ap plain (round-neg f true (b - a) c)
    go false true h k = ap plain (round-neg f false (a - b) c)
    go false false h k = let e : a - b ≡ 0 = level a b (h tt) (k tt) in rz f false (a - b) c e ∙ sym (rzn f false (a - b) c e)

pub add-neg : (f : Format) (x y : Float) → plain (add f (neg x) (neg y)) ≡ plain (neg (add f x y))
unfolding add neg
add-neg f nan y = refl
add-neg f (inf s) nan = refl
add-neg f (inf true) (inf true) = refl
add-neg f (inf true) (inf false) = refl
add-neg f (inf false) (inf true) = refl
add-neg f (inf false) (inf false) = refl
add-neg f (inf s) (fin t n d) = refl
add-neg f (fin s m e) nan = refl
add-neg f (fin s m e) (inf t) = refl
add-neg f (fin s m e) (fin t n d) = sum-neg f s (m * up e * down d) t (n * up d * down e) (down e * down d)

pub add-plain : (f : Format) (x y : Float) → plain (add f x y) ≡ plain (add f (plain x) (plain y))
unfolding add plain
add-plain f nan y = refl
add-plain f (inf s) nan = refl
add-plain f (inf s) (inf t) = refl
add-plain f (inf s) (fin t zero d) = refl
add-plain f (inf s) (fin t (suc n) d) = refl
add-plain f (fin s zero e) nan = refl
add-plain f (fin s (suc m) e) nan = refl
add-plain f (fin s zero e) (inf t) = refl
add-plain f (fin s (suc m) e) (inf t) = refl
add-plain f (fin s zero e) (fin t zero d) = both
  where
    c : ℕ
    c = down e * down d

    a : ℕ
    a = zero * up e * down d

    b : ℕ
    b = zero * up d * down e

    both : plain (sum f s a t b c) ≡ plain (sum f false a false b c)
    both =
        let az = zero₂ (up e) (down d) in
        let bz = zero₂ (up d) (down e) in
        zsum_l f s a t b c az ∙ rz f t b c bz ∙ sym (zsum_l f false a false b c az ∙ rz f false b c bz)
add-plain f (fin s zero e) (fin t (suc n) d) = zsum_l f s _ t _ _ (zero₂ (up e) (down d)) ∙ sym (zsum_l f false _ t _ _ (zero₂ (up e) (down d)))
add-plain f (fin s (suc m) e) (fin t zero d) = zsum_r f s _ t _ _ (zero₂ (up d) (down e)) ∙ sym (zsum_r f s _ false _ _ (zero₂ (up d) (down e)))
add-plain f (fin s (suc m) e) (fin t (suc n) d) = refl

-- ---- products and quotients
pub unlike_l : (s t : Bool) → unlike (not s) t ≡ not (unlike s t)
unlike_l true true = refl
unlike_l true false = refl
unlike_l false true = refl
unlike_l false false = refl

pub unlike_r : (s t : Bool) → unlike s (not t) ≡ not (unlike s t)
unlike_r true true = refl
unlike_r true false = refl
unlike_r false true = refl
unlike_r false false = refl

inf-not : (b s t : Bool) → s ≡ not t → cond b nan (inf s) ≡ neg (cond b nan (inf t))
unfolding neg
inf-not true s t h = refl
inf-not false s t h = ap inf h

round-not : (f : Format) (s t : Bool) (a c : ℕ) → s ≡ not t → round f s a c ≡ neg (round f t a c)
round-not f s t a c h = rw h (round-neg f t a c)

pub mul-neg_l : (f : Format) (x y : Float) → mul f (neg x) y ≡ neg (mul f x y)
unfolding mul neg
mul-neg_l f nan y = refl
mul-neg_l f (inf s) nan = refl
mul-neg_l f (inf s) (inf t) = ap inf (unlike_l s t)
mul-neg_l f (inf s) (fin t n d) = inf-not (eqb n 0) (unlike (not s) t) (unlike s t) (unlike_l s t)
mul-neg_l f (fin s m e) nan = refl
mul-neg_l f (fin s m e) (inf t) = inf-not (eqb m 0) (unlike (not s) t) (unlike s t) (unlike_l s t)
mul-neg_l f (fin s m e) (fin t n d) = round-not f (unlike (not s) t) (unlike s t) (m * up e * (n * up d)) (down e * down d) (unlike_l s t)

pub mul-neg_r : (f : Format) (x y : Float) → mul f x (neg y) ≡ neg (mul f x y)
unfolding mul neg
mul-neg_r f nan y = refl
mul-neg_r f (inf s) nan = refl
mul-neg_r f (inf s) (inf t) = ap inf (unlike_r s t)
mul-neg_r f (inf s) (fin t n d) = inf-not (eqb n 0) (unlike s (not t)) (unlike s t) (unlike_r s t)
mul-neg_r f (fin s m e) nan = refl
mul-neg_r f (fin s m e) (inf t) = inf-not (eqb m 0) (unlike s (not t)) (unlike s t) (unlike_r s t)
mul-neg_r f (fin s m e) (fin t n d) = round-not f (unlike s (not t)) (unlike s t) (m * up e * (n * up d)) (down e * down d) (unlike_r s t)

div-not : (f : Format) (b v s t : Bool) (a c : ℕ) → s ≡ not t → cond b (cond v nan (inf s)) (round f s a c) ≡ neg (cond b (cond v nan (inf t)) (round f t a c))
div-not f true v s t a c h = inf-not v s t h
div-not f false v s t a c h = round-not f s t a c h

pub div-neg_l : (f : Format) (x y : Float) → div f (neg x) y ≡ neg (div f x y)
unfolding div neg
div-neg_l f nan y = refl
div-neg_l f (inf s) nan = refl
div-neg_l f (inf s) (inf t) = refl
div-neg_l f (inf s) (fin t n d) = ap inf (unlike_l s t)
div-neg_l f (fin s m e) nan = refl
div-neg_l f (fin s m e) (inf t) = ap (λ (b : Bool). fin b 0 (pos 0)) (unlike_l s t)
div-neg_l f (fin s m e) (fin t n d) = div-not f (eqb n 0) (eqb m 0) (unlike (not s) t) (unlike s t) (m * up e * down d) (n * up d * down e) (unlike_l s t)

pub div-neg_r : (f : Format) (x y : Float) → div f x (neg y) ≡ neg (div f x y)
unfolding div neg
div-neg_r f nan y = refl
div-neg_r f (inf s) nan = refl
div-neg_r f (inf s) (inf t) = refl
div-neg_r f (inf s) (fin t n d) = ap inf (unlike_r s t)
div-neg_r f (fin s m e) nan = refl
div-neg_r f (fin s m e) (inf t) = ap (λ (b : Bool). fin b 0 (pos 0)) (unlike_r s t)
div-neg_r f (fin s m e) (fin t n d) = div-not f (eqb n 0) (eqb m 0) (unlike s (not t)) (unlike s t) (m * up e * down d) (n * up d * down e) (unlike_r s t)

zero₄ : (a b : ℕ) → a * (zero * b) ≡ 0
zero₄ a b = rw (zero-mul, mul-zero)

pub mul-plain : (f : Format) (x y : Float) → plain (mul f x y) ≡ plain (mul f (plain x) (plain y))
unfolding mul plain
mul-plain f nan y = refl
mul-plain f (inf s) nan = refl
mul-plain f (inf s) (inf t) = refl
mul-plain f (inf s) (fin t zero d) = refl
mul-plain f (inf s) (fin t (suc n) d) = refl
mul-plain f (fin s zero e) nan = refl
mul-plain f (fin s (suc m) e) nan = refl
mul-plain f (fin s zero e) (inf t) = refl
mul-plain f (fin s (suc m) e) (inf t) = refl
mul-plain f (fin s zero e) (fin t zero d) = rz f (unlike s t) _ _ (zero₂ (up e) (0 * up d)) ∙ sym (rz f false _ _ (zero₂ (up e) (0 * up d)))
mul-plain f (fin s zero e) (fin t (suc n) d) =
    let z = zero₂ (up e) (suc n * up d) in
    rz f (unlike s t) _ _ z ∙ sym (rz f (unlike false t) _ _ z)
mul-plain f (fin s (suc m) e) (fin t zero d) =
    let z = zero₄ (suc m * up e) (up d) in
    rz f (unlike s t) _ _ z ∙ sym (rz f (unlike s false) _ _ z)
mul-plain f (fin s (suc m) e) (fin t (suc n) d) = refl

-- in the dividend only: 1 / +0 and 1 / -0 differ
pub div-plain : (f : Format) (x y : Float) → plain (div f x y) ≡ plain (div f (plain x) y)
unfolding div plain
div-plain f nan y = refl
div-plain f (inf s) y = refl
div-plain f (fin s (suc m) e) y = refl
div-plain f (fin s zero e) nan = refl
div-plain f (fin s zero e) (inf t) = refl
div-plain f (fin s zero e) (fin t zero d) = refl
div-plain f (fin s zero e) (fin t (suc n) d) =
    rw (eqb-suc-zero n) (rz f (unlike s t) _ _ (zero₂ (up e) (down d)) ∙ sym (rz f (unlike false t) _ _ (zero₂ (up e) (down d))))
