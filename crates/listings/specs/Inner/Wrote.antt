-- What the inner functions ask and promise: a text goes into a buffer at a place, and the place behind it comes back.
use Rattle.std.specs.Prelude.{◌≡◌, List, ℕ, ◌+◌, ◌≤◌, length}
use Rattle.doubles.specs.Buffer.{put}

-- the buffer l has room for the text xs from place a on
pub record Room (l : List ℕ) (a : ℕ) (xs : List ℕ) : Type 0 where
  pub fits : a + length xs ≤ length l

-- l became m when xs went in at place a; b is the place behind it
pub record Wrote (l m : List ℕ) (a b : ℕ) (xs : List ℕ) : Type 0 where
  pub bytes : m ≡ put l a xs
  pub place : b ≡ a + length xs
  pub room : Room l a xs
