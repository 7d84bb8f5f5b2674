-- What the answers stand for: "the promises use a definition that gives this paper's number and values for each of the enum's cases".
use Rattle.std.specs.Prelude.{Bool, true, false, ℕ, Result, Ok, Err}
use Rattle.doubles.specs.declared.Reason.{Reason}
use Rattle.doubles.specs.declared.Refusal.{Refusal}

-- a refusal with its number and place, or an answer
pub data Outcome (A : Type 0) : Type 0 where
  refused : (number place : ℕ) → Outcome A
  answered : A → Outcome A

-- "Refusal numbers"
abbrev pub number : Reason → ℕ
number Reason.Sizes = 1
number Reason.Setting = 2
number Reason.Room = 3
number Reason.Start = 4
number Reason.Row = 5
number Reason.Number = 6
number Reason.NotFinite = 7
number Reason.Violation = 8
number Reason.File = 9
number Reason.Prepared = 10
number Reason.NoAlpha = 11

abbrev pub refusal : Reason → ℕ → Refusal
refusal r place = record { reason = r; place = place }

-- what a call answers, in numbers
abbrev pub outcome_of : {A : Type 0} → Result A Refusal → Outcome A
outcome_of (Err r) = refused (number r.reason) r.place
outcome_of (Ok a) = answered a

-- ---- faults
-- what tests find: an outcome with nothing in it
abbrev pub Fault : Type 0
Fault = Outcome (Unit {0})

abbrev pub none : Fault
none = answered tt

-- a test, and what follows it where it holds; else a refusal at a place
abbrev pub unless_at : {A : Type 0} → Bool → ℕ → ℕ → Outcome A → Outcome A
unless_at true number place o = o
unless_at false number place o = refused number place

-- of place 0
abbrev pub unless : {A : Type 0} → Bool → ℕ → Outcome A → Outcome A
unless b number o = unless_at b number 0 o

-- what follows tests that found nothing
infixr 15 ◌then◌
abbrev pub ◌then◌ : {A : Type 0} → Fault → Outcome A → Outcome A
answered u then o = o
refused number place then o = refused number place

abbrev pub after : {A : Type 0} → Fault → A → Outcome A
after f a = f then answered a

-- "Refusals 1 to 6 .. change no lent buffer"
abbrev pub left : {A : Type 0} → Fault → A → A → A
left (answered u) new old = new
left (refused number place) new old = old
