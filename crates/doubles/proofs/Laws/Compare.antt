-- Comparisons and the sign. Assumes nothing.
use mathlib.Core.Path.{◌≡◌, refl, sym, ap, ◌∙◌}
use Prim.Native.Nat.{ℕ, zero, suc, ◌*◌}
use native.Mathlib.Nat.{zero-add, add-zero, add_comm}
use mathlib.Core.Bool.{Bool, true, false, not, ◌&&◌, ◌||◌, beq}
use lib.Dec.{eqb, leb-suc-zero}
use lib.Ieee.{Float, nan, inf, fin, up, down, below, level, neg, lt, eq, is_nan}
use Rattle.doubles.specs.Num.{abs, finite}
use Rattle.doubles.specs.Sign.{plain, flip, Turned}
use Rattle.doubles.proofs.Laws.Turn.{zero₂}

-- ---- under `neg`
below-neg : (s : Bool) (a : ℕ) (t : Bool) (b : ℕ) → below (not s) a (not t) b ≡ below t b s a
below-neg true a true b = refl
below-neg true a false b = refl
below-neg false a true b = rw (add_comm a b)
below-neg false a false b = refl

pub lt-neg : (x y : Float) → lt (neg x) (neg y) ≡ lt y x
unfolding lt neg
lt-neg nan nan = refl
lt-neg nan (inf t) = refl
lt-neg nan (fin t n d) = refl
lt-neg (inf s) nan = refl
lt-neg (inf true) (inf true) = refl
lt-neg (inf true) (inf false) = refl
lt-neg (inf false) (inf true) = refl
lt-neg (inf false) (inf false) = refl
lt-neg (inf s) (fin t n d) = refl
lt-neg (fin s m e) nan = refl
lt-neg (fin s m e) (inf true) = refl
lt-neg (fin s m e) (inf false) = refl
lt-neg (fin s m e) (fin t n d) = below-neg s (m * up e * down d) t (n * up d * down e)

beq-neg : (s t : Bool) → beq (not s) (not t) ≡ beq s t
beq-neg true true = refl
beq-neg true false = refl
beq-neg false true = refl
beq-neg false false = refl

pub eq-neg : (x y : Float) → eq (neg x) (neg y) ≡ eq x y
unfolding eq neg
eq-neg nan y = refl
eq-neg (inf s) nan = refl
eq-neg (inf s) (inf t) = beq-neg s t
eq-neg (inf s) (fin t n d) = refl
eq-neg (fin s m e) nan = refl
eq-neg (fin s m e) (inf t) = refl
eq-neg (fin s m e) (fin t n d) = ap (λ (b : Bool). eqb (m * up e * down d) (n * up d * down e) && (b || eqb (m * up e * down d) 0)) (beq-neg s t)

-- ---- under `plain`
and-true : (b : Bool) → b && true ≡ b
and-true true = refl
and-true false = refl

below_l : (s : Bool) (a : ℕ) (t : Bool) (b : ℕ) → a ≡ 0 → below s a t b ≡ below false 0 t b
below_l true a true b h = rw (h, leb-suc-zero)
below_l true a false b h = rw (h, zero-add)
below_l false a true b h = refl
below_l false a false b h = rw h

below_r : (s : Bool) (a : ℕ) (t : Bool) (b : ℕ) → b ≡ 0 → below s a t b ≡ below s a false 0
below_r true a true b h = rw (h, add-zero)
below_r true a false b h = rw h
below_r false a true b h = sym (leb-suc-zero a)
below_r false a false b h = rw h

pub lt-plain : (x y : Float) → lt x y ≡ lt (plain x) (plain y)
unfolding lt plain
lt-plain nan y = refl
lt-plain (inf s) nan = refl
lt-plain (inf s) (inf t) = refl
lt-plain (inf s) (fin t zero d) = refl
lt-plain (inf s) (fin t (suc n) d) = refl
lt-plain (fin s zero e) nan = refl
lt-plain (fin s (suc m) e) nan = refl
lt-plain (fin s zero e) (inf t) = refl
lt-plain (fin s (suc m) e) (inf t) = refl
lt-plain (fin s zero e) (fin t zero d) =
    let a = zero * up e * down d in
    let b = zero * up d * down e in
    let p : a ≡ 0 = zero₂ (up e) (down d) in
    let q : b ≡ 0 = zero₂ (up d) (down e) in
    below_l s a t b p ∙ below_r false 0 t b q ∙ sym (below_l false a false b p ∙ below_r false 0 false b q)
lt-plain (fin s zero e) (fin t (suc n) d) = let p = zero₂ (up e) (down d) in below_l s _ t _ p ∙ sym (below_l false _ t _ p)
lt-plain (fin s (suc m) e) (fin t zero d) = let q = zero₂ (up d) (down e) in below_r s _ t _ q ∙ sym (below_r s _ false _ q)
lt-plain (fin s (suc m) e) (fin t (suc n) d) = refl

level_l : (s : Bool) (a : ℕ) (t : Bool) (b : ℕ) → a ≡ 0 → level s a t b ≡ eqb 0 b
level_l true a true b h = rw h (and-true (eqb 0 b))
level_l true a false b h = rw h (and-true (eqb 0 b))
level_l false a true b h = rw h (and-true (eqb 0 b))
level_l false a false b h = rw h (and-true (eqb 0 b))

level_r : (s : Bool) (a : ℕ) (t : Bool) (b : ℕ) → b ≡ 0 → level s a t b ≡ eqb a 0
level_r s a t b h = rw h (go (beq s t) (eqb a 0))
  where
    go : (c d : Bool) → d && (c || d) ≡ d
    go true true = refl
    go true false = refl
    go false true = refl
    go false false = refl

pub eq-plain : (x y : Float) → eq x y ≡ eq (plain x) (plain y)
unfolding eq plain
eq-plain nan y = refl
eq-plain (inf s) nan = refl
eq-plain (inf s) (inf t) = refl
eq-plain (inf s) (fin t zero d) = refl
eq-plain (inf s) (fin t (suc n) d) = refl
eq-plain (fin s zero e) nan = refl
eq-plain (fin s (suc m) e) nan = refl
eq-plain (fin s zero e) (inf t) = refl
eq-plain (fin s (suc m) e) (inf t) = refl
eq-plain (fin s zero e) (fin t zero d) = let p = zero₂ (up e) (down d) in level_l s _ t _ p ∙ sym (level_l false _ false _ p)
eq-plain (fin s zero e) (fin t (suc n) d) = let p = zero₂ (up e) (down d) in level_l s _ t _ p ∙ sym (level_l false _ t _ p)
eq-plain (fin s (suc m) e) (fin t zero d) = let q = zero₂ (up d) (down e) in level_r s _ t _ q ∙ sym (level_r s _ false _ q)
eq-plain (fin s (suc m) e) (fin t (suc n) d) = refl

-- ---- the absolute value, being finite, being no number
abs-plain : (x : Float) → abs x ≡ abs (plain x)
unfolding abs plain
abs-plain nan = refl
abs-plain (inf s) = refl
abs-plain (fin s zero e) = refl
abs-plain (fin s (suc m) e) = refl

abs-flip : (s : Bool) (x : Float) → abs (flip s x) ≡ abs x
unfolding abs flip neg
abs-flip false x = refl
abs-flip true nan = refl
abs-flip true (inf s) = refl
abs-flip true (fin s m e) = refl

finite-plain : (x : Float) → finite x ≡ finite (plain x)
unfolding plain finite
finite-plain nan = refl
finite-plain (inf s) = refl
finite-plain (fin s zero e) = refl
finite-plain (fin s (suc m) e) = refl

finite-flip : (s : Bool) (x : Float) → finite (flip s x) ≡ finite x
unfolding flip neg finite
finite-flip false x = refl
finite-flip true nan = refl
finite-flip true (inf s) = refl
finite-flip true (fin s m e) = refl

nan-plain : (x : Float) → is_nan x ≡ is_nan (plain x)
unfolding plain is_nan
nan-plain nan = refl
nan-plain (inf s) = refl
nan-plain (fin s zero e) = refl
nan-plain (fin s (suc m) e) = refl

nan-flip : (s : Bool) (x : Float) → is_nan (flip s x) ≡ is_nan x
unfolding flip neg is_nan
nan-flip false x = refl
nan-flip true nan = refl
nan-flip true (inf s) = refl
nan-flip true (fin s m e) = refl

-- ---- as laws of `Turned`
pub abs-turned : {s : Bool} {x y : Float} → Turned s x y → abs x ≡ abs y
abs-turned {s} {x} {y} p = cc (abs-flip s x, abs-plain (flip s x), abs-plain y)

pub finite-turned : {s : Bool} {x y : Float} → Turned s x y → finite x ≡ finite y
finite-turned {s} {x} {y} p = cc (finite-flip s x, finite-plain (flip s x), finite-plain y)

pub nan-turned : {s : Bool} {x y : Float} → Turned s x y → is_nan x ≡ is_nan y
nan-turned {s} {x} {y} p = cc (nan-flip s x, nan-plain (flip s x), nan-plain y)

pub lt_same : {x x' y y' : Float} → Turned false x x' → Turned false y y' → lt x y ≡ lt x' y'
unfolding flip
lt_same {x} {x'} {y} {y'} p q = cc (lt-plain x y, lt-plain x' y')

pub lt-turned : {x x' y y' : Float} → Turned true x x' → Turned true y y' → lt x y ≡ lt y' x'
unfolding flip
lt-turned {x} {x'} {y} {y'} p q = cc (lt-neg y x, lt-plain (neg y) (neg x), lt-plain y' x')

eq_flip : (s : Bool) (x y : Float) → eq (flip s x) (flip s y) ≡ eq x y
unfolding flip
eq_flip true x y = eq-neg x y
eq_flip false x y = refl

pub eq_turned : {s : Bool} {x x' y y' : Float} → Turned s x x' → Turned s y y' → eq x y ≡ eq x' y'
eq_turned {s} {x} {x'} {y} {y'} p q = cc (eq_flip s x y, eq-plain (flip s x) (flip s y), eq-plain x' y')
