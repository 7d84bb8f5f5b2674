-- `double` is the double with the word's bits. A pattern is a NaN's where it lies above infinity's, the sign aside; of such a
-- pattern the model's double is nan, and so is NAN. Assumes nothing.
use mathlib.Core.Path.{◌≡◌, refl, sym, ◌∙◌}
use mathlib.Core.Bool.{true, false≢true}
use Prim.Native.Nat.{◌≤◌, ◌%◌}
use native.Mathlib.Omega.{arith}
use borrow.Author.Tests.{lt-ltb, le-ltb}
use lib.Ieee.{Float, nan, inf, fin, binary64, of_bits, is_nan}
use lib.Ieee.Bits.{nan_bits_is, nan_bits_above}
use Rattle.doubles.proofs.double.Goals as goal

is-nan : (x : Float) → is_nan x ≡ true → of_bits binary64 0x7ff8_0000_0000_0000 ≡ x
unfolding is_nan
is-nan nan h = unfold of_bits in refl
is-nan (inf s) h = absurd (false≢true h)
is-nan (fin s m e) h = absurd (false≢true h)

pub float_from_bits-result : goal.float_from_bits-result
float_from_bits-result c =
    let h : c.args.word % 0x8000_0000_0000_0000 ≤ 0x7ff0_0000_0000_0000 = omega (arith, c.if-word-gt9218868437227405312.false) in
    rw (nan_bits_above binary64 _, le-ltb _ _ h) tt

pub returns-then-word-gt9218868437227405312 : goal.returns-then-word-gt9218868437227405312
returns-then-word-gt9218868437227405312 c = is-nan _
    (sym (nan_bits_is binary64 _) ∙ nan_bits_above binary64 _ ∙ lt-ltb _ _ c.if-word-gt9218868437227405312.true)
