-- What the tests of room and of a list of features say. Assumes nothing.
use mathlib.Core.Path.{◌≡◌, refl, sym, ◌∙◌}
use mathlib.Core.Bool.{Bool, true, false}
use Prim.Native.Nat.{ℕ, ◌+◌, ◌/◌, ◌<◌}
use native.Mathlib.Omega.{arith}
use mathlib.Core.List.{List}
use lib.Dec.{leb, ltb}
use lib.ListN.{length, get_or}
use borrow.Author.Tests.{le-leb, lt-leb, leb-true, leb-false, ltb-true}
use Rattle.doubles.specs.Num.{◌and◌}
use Rattle.doubles.proofs.Laws.Steps.{all-each}
use Rattle.datafits.specs.Calls.{all_below}

-- half a length against p is the length against 2p
pub halved : (p n : ℕ) → leb p (n / 2) ≡ leb (p + p) n
halved p n = go (leb p (n / 2)) refl
  where
    go : (b : Bool) → leb p (n / 2) ≡ b → b ≡ leb (p + p) n
    go true h = let k = leb-true p (n / 2) h in sym (le-leb (p + p) n (omega arith))
    go false h = let k = leb-false p (n / 2) h in sym (lt-leb (p + p) n (omega arith))

-- what the list says once it passed
pub each_below : (ws : List ℕ) (p : ℕ) → all_below ws p ≡ true → (k : ℕ) → k < length ws → get_or ws k 0 < p
unfolding all_below
each_below ws p h k l = ltb-true (get_or ws k 0) p (all-each (λ k. ltb (get_or ws k 0) p) (length ws) h k l)

-- what a chain of two tests gives, by the first of them
pub chain_on : {a b r : Bool} → a ≡ true → r ≡ b → r ≡ a and b
unfolding ◌and◌
chain_on h e = rw h e

pub chain_broken : {a r : Bool} (b : Bool) → a ≡ false → r ≡ a → r ≡ a and b
unfolding ◌and◌
chain_broken b h e = rw h (e ∙ h)
