-- The call that writes a listing: refusals 1 and 3, how many bytes it wrote, and what the lent bytes hold.
use Rattle.std.specs.Prelude.{List, ℕ, ◌≤◌, leb, length, Float}
use Rattle.doubles.specs.Num.{◌and◌}
use Rattle.doubles.specs.Buffer.{put}
use Rattle.doubles.specs.Answer.{Outcome, refused, answered}
use Rattle.doubles.specs.Answer.{Fault, none, unless, after, left}
use Rattle.definition.specs.declared.Report.{Report}
use Rattle.listings.specs.Listing.{listed}

-- what was written lies within m bytes
abbrev pub Short : Outcome ℕ → ℕ → Type 0
Short (refused number place) m = Unit {0}
Short (answered n) m = n ≤ m

-- 1: "Program sizes: n ≤ 256, p ≤ 32"; 3: fewer than 8,192 bytes, which hold the largest listing of these sizes
unfoldable pub write_fault : List Float → List Float → List ℕ → Fault
write_fault w fit out = unless (leb (length w) 32 and leb (length fit) 256) 1 (unless (leb 8192 (length out)) 3 none)

unfoldable pub write_call : Outcome Report → List Float → List Float → List ℕ → Outcome ℕ
write_call o w fit out = after (write_fault w fit out) (length (listed o w fit))

-- "what lies beyond .. is unchanged", and refused, all is
unfoldable pub write_left : Outcome Report → List Float → List Float → List ℕ → List ℕ
write_left o w fit out = left (write_fault w fit out) (put out 0 (listed o w fit)) out
