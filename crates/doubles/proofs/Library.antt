-- The library's functions of doubles are the definition's: what `abs`, `is_finite` and `signum` are proved by. Assumes nothing.
use Rattle.std.proofs.Common.{◌≡◌, true, false, refl}
use Rattle.std.specs.Float.{nan, inf, fin, Float, float_with_sign, float_is_finite, float_signum}
use Rattle.std.specs.Float.Ieee.{neg, of_bits}
use Rattle.doubles.specs.Num.{abs, finite, signum}

pub abs_same : (x : Float) → float_with_sign false x ≡ abs x
unfolding abs float_with_sign
abs_same nan = refl
abs_same (inf s) = refl
abs_same (fin s m e) = refl

pub finite_same : (x : Float) → float_is_finite x ≡ finite x
unfolding finite float_is_finite
finite_same nan = refl
finite_same (inf s) = refl
finite_same (fin s m e) = refl

pub signum_same : (x : Float) → float_signum x ≡ signum x
unfolding signum float_signum neg of_bits
signum_same nan = refl
signum_same (inf true) = refl
signum_same (inf false) = refl
signum_same (fin true m e) = refl
signum_same (fin false m e) = refl
