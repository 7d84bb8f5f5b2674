-- `Turned s x y`: y is x, with its sign turned where s is true, but for a zero's sign. The operations keep it. Assumes nothing.
use mathlib.Core.Path.{◌≡◌, refl, sym, ap, ◌∙◌}
use Prim.Native.Nat.{zero, suc}
use mathlib.Core.Bool.{Bool, true, false, not, false≢true}
use lib.Dec.{T}
use lib.Ieee.{Float, nan, inf, fin, Format, unlike, neg, add, sub, mul, div, lt, of_bits}
use Rattle.doubles.specs.Num.{◌⊘◌, #0, #1}
use Rattle.doubles.specs.Sign.{plain, flip, Turned, nonzero}
use Rattle.doubles.proofs.Laws.Turn.{neg-neg, neg-plain, add-neg, add-plain}
use Rattle.doubles.proofs.Laws.Turn.{mul-neg_l, mul-neg_r, mul-plain, div-neg_l, div-neg_r, div-plain}

-- ---- `flip` goes through each operation
flip-neg : (s : Bool) (x : Float) → flip s (neg x) ≡ neg (flip s x)
unfolding flip
flip-neg true x = refl
flip-neg false x = refl

flip-add : (f : Format) (s : Bool) (x y : Float) → plain (flip s (add f x y)) ≡ plain (add f (flip s x) (flip s y))
unfolding flip
flip-add f true x y = sym (add-neg f x y)
flip-add f false x y = refl

flip-mul : (f : Format) (s t : Bool) (x y : Float) → flip (unlike s t) (mul f x y) ≡ mul f (flip s x) (flip t y)
unfolding flip
flip-mul f true true x y = sym (rw (mul-neg_l, mul-neg_r, neg-neg))
flip-mul f true false x y = sym (mul-neg_l f x y)
flip-mul f false true x y = sym (mul-neg_r f x y)
flip-mul f false false x y = refl

flip_div : (f : Format) (s t : Bool) (x y : Float) → flip (unlike s t) (div f x y) ≡ div f (flip s x) (flip t y)
unfolding flip
flip_div f true true x y = sym (rw (div-neg_l, div-neg_r, neg-neg))
flip_div f true false x y = sym (div-neg_l f x y)
flip_div f false true x y = sym (div-neg_r f x y)
flip_div f false false x y = refl

-- ---- the relation
pub turned-refl : {x : Float} → Turned false x x
unfolding flip
turned-refl = record { is = refl }

pub turned_by : (s : Bool) (x : Float) → Turned s x (flip s x)
turned_by s x = record { is = refl }

-- ---- the operations
pub turned-neg : {s : Bool} {x y : Float} → Turned s x y → Turned s (neg x) (neg y)
turned-neg {s} {x} {y} p = record { is = cc (flip-neg s x, neg-plain (flip s x), neg-plain y) }

flip-not : (s : Bool) (x : Float) → flip (not s) x ≡ neg (flip s x)
unfolding flip
flip-not true x = sym (neg-neg x)
flip-not false x = refl

pub turn_r : {s : Bool} {x y : Float} → Turned s x y → Turned (not s) x (neg y)
turn_r {s} {x} {y} p = record { is = cc (flip-not s x, neg-plain (flip s x), neg-plain y) }

pub turn_l : {s : Bool} {x y : Float} → Turned s x y → Turned (not s) (neg x) y
turn_l {s} {x} {y} p = record { is = cc (flip-not s (neg x), flip-neg s x, neg-neg (flip s x)) }

pub turned-add : (f : Format) {s : Bool} {x x' y y' : Float} → Turned s x x' → Turned s y y' → Turned s (add f x y) (add f x' y')
turned-add f {s} {x} {x'} {y} {y'} p q = record { is = cc (flip-add f s x y, add-plain f (flip s x) (flip s y), add-plain f x' y') }

pub turned-sub : (f : Format) {s : Bool} {x x' y y' : Float} → Turned s x x' → Turned s y y' → Turned s (sub f x y) (sub f x' y')
unfolding sub
turned-sub f p q = turned-add f p (turned-neg q)

pub turned-mul : (f : Format) {s t : Bool} {x x' y y' : Float} → Turned s x x' → Turned t y y' → Turned (unlike s t) (mul f x y) (mul f x' y')
turned-mul f {s} {t} {x} {x'} {y} {y'} p q = record { is = cc (flip-mul f s t x y, mul-plain f (flip s x) (flip t y), mul-plain f x' y') }

-- by a divisor that is turned exactly, a zero's sign included
pub turned-div : (f : Format) {s : Bool} (t : Bool) {x x' : Float} (y : Float) {y' : Float} → Turned s x x' → flip t y ≡ y'
    → Turned (unlike s t) (div f x y) (div f x' y')
turned-div f {s} t {x} {x'} y {y'} p q = record { is = cc (flip_div f s t x y, div-plain f (flip s x) (flip t y), div-plain f x' y') }

-- by the same divisor
pub turned-over : (f : Format) {s : Bool} {x x' : Float} (y : Float) → Turned s x x' → Turned s (div f x y) (div f x' y)
unfolding flip
turned-over f {s} {x} {x'} y p = rw (unlike-false s) at (turned-div f false y {y' = y} p refl)
  where
    unlike-false : (s : Bool) → unlike s false ≡ s
    unlike-false true = refl
    unlike-false false = refl

-- ---- away from zero nothing is disregarded
plain-nonzero : (x : Float) → nonzero x ≡ nonzero (plain x)
unfolding nonzero plain
plain-nonzero nan = refl
plain-nonzero (inf s) = refl
plain-nonzero (fin s zero e) = refl
plain-nonzero (fin s (suc m) e) = refl

pub plain_id : (x : Float) → T (nonzero x) → plain x ≡ x
unfolding nonzero plain
plain_id nan h = refl
plain_id (inf s) h = refl
plain_id (fin s zero e) h = absurd h
plain_id (fin s (suc m) e) h = refl

flip-nonzero : (s : Bool) (x : Float) → nonzero (flip s x) ≡ nonzero x
unfolding nonzero flip neg
flip-nonzero false x = refl
flip-nonzero true nan = refl
flip-nonzero true (inf s) = refl
flip-nonzero true (fin s zero e) = refl
flip-nonzero true (fin s (suc m) e) = refl

pub turned-nonzero : {s : Bool} {x y : Float} → Turned s x y → nonzero x ≡ nonzero y
turned-nonzero {s} {x} {y} p = cc (flip-nonzero s x, plain-nonzero (flip s x), plain-nonzero y)

pub turned_exact : {s : Bool} {x y : Float} → T (nonzero x) → Turned s x y → flip s x ≡ y
turned_exact {s} {x} {y} h p = sym (plain_id (flip s x) (rw flip-nonzero h)) ∙ p.is ∙ plain_id y (rw (← turned-nonzero p) h)

-- the divisor may be no zero: 0 is -0 but for its sign, and 1 / 0 is not 1 / -0
pub zero_divides_otherwise : Turned false #0 (neg #0) × (Turned false (#1 ⊘ #0) (#1 ⊘ neg #0) → ⊥)
unfolding plain flip neg div lt of_bits
zero_divides_otherwise = (record { is = refl }, λ p. false≢true (ap (λ (x : Float). lt x #0) p.is))
