-- Doubles. "IEEE 754 binary64, round to nearest, decides each operation." A value is `nan` (there is one), an infinity, or a signed number.
use Rattle.std.specs.Prelude.{ℕ, Bool, true, false, List, pos, get_or, Float}
use Rattle.std.specs.Float.Ieee as Ieee
use Rattle.std.specs.Float.{nan, inf, fin, binary64}

-- ---- the operations, each rounded once
infixl 60 ◌⊕◌ ◌⊖◌
infixl 70 ◌⊗◌ ◌⊘◌
abbrev pub ◌⊕◌ : Float → Float → Float
x ⊕ y = Ieee.add binary64 x y

abbrev pub ◌⊖◌ : Float → Float → Float
x ⊖ y = Ieee.sub binary64 x y

abbrev pub ◌⊗◌ : Float → Float → Float
x ⊗ y = Ieee.mul binary64 x y

abbrev pub ◌⊘◌ : Float → Float → Float
x ⊘ y = Ieee.div binary64 x y

-- ---- the numbers that definitions write, by their bits
abbrev pub #0 : Float
#0 = Ieee.of_bits binary64 0

abbrev pub #½ : Float
#½ = Ieee.of_bits binary64 0x3fe0_0000_0000_0000

abbrev pub #1 : Float
#1 = Ieee.of_bits binary64 0x3ff0_0000_0000_0000

abbrev pub #2 : Float
#2 = Ieee.of_bits binary64 0x4000_0000_0000_0000

-- a count as a double
abbrev pub count : ℕ → Float
count n = Ieee.of_int binary64 (pos n)

-- the number at place i of a list, counted from 0
abbrev pub at : List Float → ℕ → Float
at xs i = get_or xs i nan

-- ---- choices
abbrev pub pick : {A : Type 0} → Bool → A → A → A
pick true a b = a
pick false a b = b

infixr 30 ◌and◌
unfoldable pub ◌and◌ : Bool → Bool → Bool
true and b = b
false and b = false

infixr 20 ◌or◌
unfoldable pub ◌or◌ : Bool → Bool → Bool
true or b = true
false or b = b

-- ---- functions of one or two doubles
-- |x|: the sign cleared, a zero's too
unfoldable pub abs : Float → Float
abs nan = nan
abs (inf s) = inf false
abs (fin s m e) = fin false m e

-- "sign" is Rust's f64::signum: -1 at -0, +1 at +0, nan at nan
unfoldable pub signum : Float → Float
signum nan = nan
signum (inf true) = Ieee.neg #1
signum (inf false) = #1
signum (fin true m e) = Ieee.neg #1
signum (fin false m e) = #1

-- neither NaN nor infinite
unfoldable pub finite : Float → Bool
finite nan = false
finite (inf s) = false
finite (fin s m e) = true

-- the larger of two: "a largest over any NaN is NaN". Of two that compare equal, the first
unfoldable pub larger : Float → Float → Float
larger x y = pick (Ieee.lt x y or Ieee.is_nan y) y x
