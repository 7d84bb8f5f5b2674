-- The last turn ends a run: it is stopped, or broken off, and never going on; and what that says of a solve. Assumes nothing.
use mathlib.Core.Path.{◌≡◌, refl, sym}
use mathlib.Core.Bool.{Bool, true, false, false≢true}
use mathlib.Core.List.{List}
use Prim.Native.Nat.{ℕ, ◌+◌}
use native.Mathlib.Numerals.{add-one}
use native.Mathlib.Omega.{arith}
use borrow.Author.Tests.{eq-eqb}
use lib.Ieee.{Float, le}
use Rattle.doubles.specs.Num.{pick, ◌or◌}
use Rattle.doubles.specs.Steps.{steps, Stage, going, stopped, bad, next, upto, over}
use Rattle.definition.specs.Epoch.{Task, all_known, worst}
use Rattle.definition.specs.Run.{State, ends, turn, start, run}
use Rattle.definition.specs.Call.{End, untouched, given_up, done, concluded, solved}
use Rattle.definition.specs.declared.Settings.{Settings}

pub given_up≢done : {number place : ℕ} {s : State} → given_up number place ≡ done s → ⊥
given_up≢done e = let n : ◌≡◌ {A = ℕ} 0 1 = cc in omega arith

-- the run was begun: what it leaves are not the buffers as they were lent
abbrev pub begun : End → Bool
begun (untouched number place) = false
begun (given_up number place) = true
begun (done s) = true

last : (f : ℕ → State → Stage State) (n : ℕ) (a : State) → ((s : State) → over (f n s) ≡ true) → over (upto f (n + 1) a) ≡ true
unfolding steps
last f n a h = rw add-one (go (steps (λ k. next (f k)) n (going a)))
  where
    go : (x : Stage State) → over (next (f n) x) ≡ true
    go (going s) = h s
    go (stopped s) = refl
    go bad = refl

module _ (T : Task) (y : List Float) (S : Settings) where
  turn_last : (s : State) → over (turn T y S S.iterations s) ≡ true
  unfolding turn ◌or◌
  turn_last s =
      let v = worst T s.inner.point.weights s.inner.point.fit in
      rw (eq-eqb S.iterations S.iterations refl) (go v (all_known T s.inner.point.weights s.inner.point.fit) (le v S.tolerance) _)
    where
      go : (v : Float) (k l : Bool) (x : Stage State) → over (pick k (pick (l or true) (ends s v) x) bad) ≡ true
      go v true true x = refl
      go v true false x = refl
      go v false l x = refl

  pub run-over : over (run T y S) ≡ true
  unfolding run
  run-over = last (turn T y S) S.iterations (start T S) turn_last

  -- ---- what the ending of a solve says of its run
  pub solved_begun : begun (solved T y S) ≡ true
  unfolding solved
  solved_begun = go (run T y S)
    where
      go : (r : Stage State) → begun (concluded r) ≡ true
      go (stopped s) = refl
      go (going s) = refl
      go bad = refl

  pub solved-done : (e : State) → solved T y S ≡ done e → run T y S ≡ stopped e
  unfolding solved
  solved-done e = go (run T y S)
    where
      go : (r : Stage State) → concluded r ≡ done e → r ≡ stopped e
      go (stopped s) h = cc
      go (going s) h = absurd (given_up≢done h)
      go bad h = absurd (given_up≢done h)

  pub solved-given_up : (number place : ℕ) → solved T y S ≡ given_up number place → run T y S ≡ bad
  unfolding solved
  solved-given_up number place = go (run T y S) run-over
    where
      go : (r : Stage State) → over r ≡ true → concluded r ≡ given_up number place → r ≡ bad
      go (stopped s) o q = absurd (given_up≢done (sym q))
      go (going s) o q = absurd (false≢true o)
      go bad o q = refl
