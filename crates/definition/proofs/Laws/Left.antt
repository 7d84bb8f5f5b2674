-- What a run that was begun leaves: p weights and n fit entries are put at the front of the lent ones and stand there. Assumes nothing.
use mathlib.Core.Path.{◌≡◌}
use mathlib.Core.List.{List}
use Prim.Native.Nat.{ℕ, ◌<◌}
use native.Mathlib.Nat.{zero-add}
use native.Mathlib.Omega.{arith}
use lib.ListN.{length}
use lib.Ieee.{Float, nan}
use Rattle.doubles.specs.Num.{at}
use Rattle.doubles.specs.Buffer.{put}
use Rattle.doubles.proofs.Laws.Buffer.{put_in}
use Rattle.designs.specs.declared.Shape.{Shape}
use Rattle.definition.specs.Call.{Lent, filled}
use Rattle.definition.specs.declared.Settings.{Settings}

front : (l xs : List Float) (n : ℕ) → length xs ≡ n → (i : ℕ) → i < n → at (put l 0 xs) i ≡ at xs i
front l xs n e i h = rw zero-add at (put_in l 0 xs i nan (omega arith) (rw e h))

module _ (s : Shape) (S : Settings) (b : Lent) (w fit : List Float) where
  pub left-weight : length w ≡ s.p → (j : ℕ) → j < s.p → at (filled s S b w fit).weights j ≡ at w j
  left-weight = front b.weights w s.p

  pub left-fit : length fit ≡ s.n → (i : ℕ) → i < s.n → at (filled s S b w fit).fit i ≡ at fit i
  left-fit = front b.fit fit s.n
