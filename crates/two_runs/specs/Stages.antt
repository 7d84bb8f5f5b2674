-- Two runs, and two calls, that end in the same way.
use Rattle.std.specs.Prelude.{ℕ}
use Rattle.doubles.specs.Steps.{Stage, going, stopped, bad}
use Rattle.definition.specs.Run.{State}
use Rattle.definition.specs.Call.{End, untouched, given_up, done}

-- two runs in the same stage: G relates the states of those that go on, and E of those that stopped
pub data Stages {A : Type 0} (G E : A → A → Type 0) : Stage A → Stage A → Type 0 where
  both-going : {a b : A} → G a b → Stages G E (going a) (going b)
  both_stopped : {a b : A} → E a b → Stages G E (stopped a) (stopped b)
  both-bad : Stages G E bad bad

-- two runs that end in the same way, at states that R relates
abbrev pub Both : {A : Type 0} → (A → A → Type 0) → Stage A → Stage A → Type 0
Both R = Stages R R

-- two calls, or two solves, that end in the same way: refused with one number at one place, or done at states that R relates
pub data Ends (R : State → State → Type 0) : End → End → Type 0 where
  both-untouched : {number place : ℕ} → Ends R (untouched number place) (untouched number place)
  both-given_up : {number place : ℕ} → Ends R (given_up number place) (given_up number place)
  both-done : {s s' : State} → R s s' → Ends R (done s) (done s')
