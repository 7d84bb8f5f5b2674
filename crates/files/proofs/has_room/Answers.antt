-- `has_room`: the tests in their turn. Assumes nothing.
use mathlib.Core.Path.{◌≡◌}
use mathlib.Core.Bool.{false}
use mathlib.Core.Logic.{◌⊎◌, inl, inr}
use mathlib.Core.List.{List}
use Prim.Native.Nat.{ℕ, ◌≤◌, ◌<◌}
use lib.ListN.{length}
use lib.Ieee.{Float}
use borrow.Author.Tests.{le-leb, lt-leb}
use Rattle.doubles.specs.Num.{◌and◌}
use Rattle.files.specs.Call.{places_suffice, places}
use Rattle.files.proofs.has_room.Goals as goal

-- one of the first three arrays is short
short : (t v : List Float) (s r : List ℕ)
    → (6144 ≤ length t × 4096 ≤ length v × length s < 12288) ⊎ (6144 ≤ length t × length v < 4096) ⊎ length t < 6144
    → places_suffice (places t v s r) ≡ false
unfolding places_suffice ◌and◌
short t v s r (inl h) = rw (le-leb _ _ h.0, le-leb _ _ h.1, lt-leb _ _ h.2)
short t v s r (inr (inl h)) = rw (le-leb _ _ h.0, lt-leb _ _ h.1)
short t v s r (inr (inr h)) = rw (lt-leb _ _ h)

pub returns-then-starts-ge12288 : goal.returns-then-starts-ge12288
unfolding places_suffice ◌and◌
returns-then-starts-ge12288 c = let h = c.if-starts-ge12288.true in rw (le-leb _ _ h.0, le-leb _ _ h.1, le-leb _ _ h.2)

pub returns-else-starts-ge12288 : goal.returns-else-starts-ge12288
returns-else-starts-ge12288 c = let h = short _ _ _ c.args.rows.now c.if-starts-ge12288.either in cc
