-- The fits of a walk behind its tests, over buffers of exactly their room: each is a run with its alpha, on numbers that are prepared once.
use Rattle.std.specs.Prelude.{◌≡◌, List, ℕ, Float, Option, Some, None}
use Rattle.doubles.specs.Num.{at, pick}
use Rattle.doubles.specs.Steps.{tab, zeros}
use Rattle.doubles.specs.Answer.{Outcome, refused, answered}
use Rattle.designs.specs.Given.{Given}
use Rattle.designs.specs.declared.Shape.{Shape}
use Rattle.definition.specs.Preparation.{all_usable, prepared_of}
use Rattle.definition.specs.Call.{scratch_room, End, untouched, solved, answer}
use Rattle.definition.specs.Walk.{at_alpha, wanted, usable_fit, first_usable, end_at, placed, placed_at}
use Rattle.definition.specs.declared.Settings.{Settings}
use Rattle.definition.specs.declared.Usable.{Usable}
use Rattle.definition.specs.declared.Report.{Report}
use Rattle.definition.specs.Epoch.{task}
use Rattle.solvers.specs.Inner.Left.{Leaves}

-- ---- one fit
-- on any prepared numbers
unfoldable pub fit_on : Given → List Float → Settings → End
fit_on g prepared S = solved (task g.shape g.starts g.rows g.values S.penalty prepared) g.targets S

-- what is said of it at a position: itself where it is usable, else 11
abbrev pub said : Settings → ℕ → ℕ → End → Outcome Usable
said S most k e = pick (usable_fit S most e) (placed k (answer S e)) (refused 11 0)

-- the same by its answer and its number of nonzero weights
abbrev pub judged : Outcome Report → ℕ → ℕ → ℕ → Outcome Usable
judged (refused number place) nonzero most k = refused 11 0
judged (answered r) nonzero most k = pick (wanted most r nonzero) (answered (record { position = k; report = r })) (refused 11 0)

-- what a search for a usable fit answers: 11 where it found none
abbrev pub usable_of : Option Usable → Outcome Usable
usable_of (Some u) = answered u
usable_of None = refused 11 0

-- ---- all fits
-- each with the alpha at its place
abbrev pub fit_with : Given → Settings → List Float → List Float → ℕ → End
fit_with g S alphas prepared k = fit_on g prepared (at_alpha S (at alphas k))

-- how the walk ends over n of them, and what it answers
abbrev pub end_of : Settings → ℕ → (ℕ → End) → ℕ → End
end_of S most fits n = end_at fits (first_usable S most fits n)

abbrev pub answer_of : Settings → ℕ → (ℕ → End) → ℕ → Outcome Usable
answer_of S most fits n = placed_at (first_usable S most fits n) (answer S (end_of S most fits n))

-- with the tile's own numbers, where 1 to 6 do not refuse; its 7 is every fit's
unfoldable pub fit_passed : Given → Settings → List Float → ℕ → End
fit_passed g S alphas = pick (all_usable g.shape.p (prepared_of g)) (fit_with g S alphas (prepared_of g)) (λ k. untouched 7 0)

-- ---- the buffers
-- as a run leaves them
pub record Holds (s : Shape) (S : Settings) (e : End) (w fit : List Float) (is : List ℕ) (room : List Float) : Type 0 where
  pub leaves : Leaves s e w fit
  pub indices : is ≡ tab (λ j. 0) s.p
  pub scratch : room ≡ zeros (scratch_room s S)

-- where an alpha was found, as its run leaves them; else nothing is said
abbrev pub HoldsAt : Shape → Settings → (ℕ → End) → Option ℕ → List Float → List Float → List ℕ → List Float → Type 0
HoldsAt s S fits (Some k) w fit is room = Holds s S (fits k) w fit is room
HoldsAt s S fits None w fit is room = Unit {0}
