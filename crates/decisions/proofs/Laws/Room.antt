-- The room of the scratch is small. Assumes nothing.
use Prim.Native.Nat.{ℕ, ◌+◌, ◌*◌, ◌≤◌}
use native.Mathlib.Nat.{mul-le-mul}
use native.Mathlib.Omega.{arith}

-- (2K+3)·p + n is small
pub room_small : (K p n : ℕ) → K ≤ 10 → p ≤ 8192 → n ≤ 65536 → (2 * K + 3) * p + n ≤ 253952
room_small K p n a b c =
    let k : 2 * K + 3 ≤ 23 = omega arith in
    let m : (2 * K + 3) * p ≤ 23 * 8192 = mul-le-mul k b in
    omega arith
