-- A product is the same both ways, bit for bit. Assumes nothing.
use mathlib.Core.Path.{◌≡◌, refl}
use mathlib.Core.Bool.{Bool, true, false}
use Prim.Native.Nat.{◌*◌}
use native.Mathlib.Nat.{mul_comm}
use lib.Ieee.{Float, nan, inf, fin, Format, unlike, mul, up, down}

unlike-both_ways : (s t : Bool) → unlike s t ≡ unlike t s
unlike-both_ways true true = refl
unlike-both_ways true false = refl
unlike-both_ways false true = refl
unlike-both_ways false false = refl

pub mul-both_ways : (f : Format) (x y : Float) → mul f x y ≡ mul f y x
unfolding mul
mul-both_ways f nan nan = refl
mul-both_ways f nan (inf t) = refl
mul-both_ways f nan (fin t n d) = refl
mul-both_ways f (inf s) nan = refl
mul-both_ways f (inf s) (inf t) = rw (unlike-both_ways s t)
mul-both_ways f (inf s) (fin t n d) = rw (unlike-both_ways s t)
mul-both_ways f (fin s m e) nan = refl
mul-both_ways f (fin s m e) (inf t) = rw (unlike-both_ways s t)
mul-both_ways f (fin s m e) (fin t n d) = rw (unlike-both_ways s t, mul_comm (m * up e) (n * up d), mul_comm (down e) (down d))
