-- Request 5: "a preparation, which checks the design and fills Lipschitz constants and X'y": the first 2p places of a lent buffer get the p constants,
-- then the p entries of X'y. It "tests 1, 3, 4, 5, 6, then 7 for the constants and X'y, which leaves the 2p numbers zero".
use Rattle.std.specs.Prelude.{Bool, List, ℕ, ◌+◌, Float}
use Rattle.std.specs.Float.Ieee.{eq}
use Rattle.doubles.specs.Num.{◌⊘◌, #0, #1, at, finite, pick, ◌and◌, ◌or◌}
use Rattle.doubles.specs.Steps.{all, zeros}
use Rattle.doubles.specs.Buffer.{put}
use Rattle.doubles.specs.Answer.{Fault, none, unless, ◌then◌, left}
use Rattle.designs.specs.Design.{prepared}
use Rattle.designs.specs.Given.{Given, design_of}
use Rattle.designs.specs.Checks.{preparation_fault}

-- ---- 7 "for all columns first": "a Lipschitz constant, the inverse of a nonzero one, X'y entry"
unfoldable pub usable : Float → Float → Bool
usable constant xty = finite constant and (eq constant #0 or finite (#1 ⊘ constant)) and finite xty

-- of column j, in p constants and then the p entries of X'y
abbrev pub usable_at : ℕ → List Float → ℕ → Bool
usable_at p numbers j = usable (at numbers j) (at numbers (p + j))

unfoldable pub all_usable : ℕ → List Float → Bool
all_usable p numbers = all (usable_at p numbers) p

-- ---- the call
abbrev pub prepared_of : Given → List Float
prepared_of g = prepared (design_of g) g.targets

unfoldable pub prepare_call : Given → List Float → Fault
prepare_call g buf = preparation_fault g buf then unless (all_usable g.shape.p (prepared_of g)) 7 none

-- the 2p numbers, where 1 to 6 do not refuse
unfoldable pub numbers_left : Given → List Float
numbers_left g = pick (all_usable g.shape.p (prepared_of g)) (prepared_of g) (zeros (g.shape.p + g.shape.p))

unfoldable pub prepare_left : Given → List Float → List Float
prepare_left g buf = left (preparation_fault g buf) (put buf 0 (numbers_left g)) buf
