-- "all little-endian": numbers in a list of bytes, by their place.
use Rattle.std.specs.Prelude.{List, ℕ, ◌+◌, ◌*◌, get_or, Float}
use Rattle.std.specs.Float.{binary64}
use Rattle.std.specs.Float.Ieee.{of_bits}
use Rattle.doubles.specs.Steps.{tab}

abbrev pub byte : List ℕ → ℕ → ℕ
byte f o = get_or f o 0

unfoldable pub u16 : List ℕ → ℕ → ℕ
u16 f o = byte f o + 256 * byte f (o + 1)

unfoldable pub u32 : List ℕ → ℕ → ℕ
u32 f o = u16 f o + 65536 * u16 f (o + 2)

unfoldable pub u64 : List ℕ → ℕ → ℕ
u64 f o = u32 f o + 4294967296 * u32 f (o + 4)

-- a NaN's pattern is NaN: payloads are not kept
unfoldable pub f64 : List ℕ → ℕ → Float
f64 f o = of_bits binary64 (u64 f o)

-- the doubles, or the u32 numbers, that lie from place o on
abbrev pub doubles : List ℕ → ℕ → ℕ → List Float
doubles f o many = tab (λ i. f64 f (o + 8 * i)) many

abbrev pub indices : List ℕ → ℕ → ℕ → List ℕ
indices f o many = tab (λ i. u32 f (o + 4 * i)) many
