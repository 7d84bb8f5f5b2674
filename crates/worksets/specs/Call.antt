-- The stand-alone working-set call: refusals 1, 2, 3 and 8, its answer, and what the lent index places hold.
use Rattle.std.specs.Prelude.{Bool, not, List, ℕ, leb, eqb, length, Float}
use Rattle.std.specs.Float.Ieee.{lt}
use Rattle.doubles.specs.Num.{#0, at, finite, ◌and◌, ◌or◌}
use Rattle.doubles.specs.Buffer.{put}
use Rattle.doubles.specs.Answer.{Outcome}
use Rattle.designs.specs.Search.{first_of, mark}
use Rattle.doubles.specs.Answer.{Fault, none, unless_at, unless, after, left}
use Rattle.designs.specs.Checks.{told}
use Rattle.definition.specs.WorkingSet.{is_zero, size, working_set, padded}

-- 8: "at a zero weight the violation is NaN, infinite or negative"
unfoldable pub bad_violation : List Float → List Float → ℕ → Bool
bad_violation v w j = is_zero w j and (not (finite (at v j)) or lt (at v j) #0)

-- 1, then 2 ("refuses a start above p"; 0 is outside the range too; request 1: start is the setting 2), 3, 8 with the first such feature
unfoldable pub ws_fault : List Float → List Float → ℕ → List ℕ → Fault
ws_fault v w start indices =
    unless (leb 1 (length w) and leb (length w) 8192 and eqb (length v) (length w)) 1
    (unless_at (leb 1 start and leb start (length w)) 2 2
    (unless (leb (length w) (length indices)) 3
    (told 8 (first_of (λ j. mark (bad_violation v w j) j) (length w)) none)))

unfoldable pub ws_call : List Float → List Float → ℕ → List ℕ → Outcome ℕ
ws_call v w start indices = after (ws_fault v w start indices) (size start w)

unfoldable pub ws_left : List Float → List Float → ℕ → List ℕ → List ℕ
ws_left v w start indices = left (ws_fault v w start indices) (put indices 0 (padded (working_set start v w) (length w))) indices
