-- Request 5: "Where neither call is refused with 1 to 6, preparing and then solving answers as the single call did (after the preparation's 7, weights
-- and fit are untouched)".
use Rattle.std.specs.Prelude.{◌≡◌, true, List, ℕ, ◌+◌, ◌≤◌, length, Float}
use Rattle.doubles.specs.Steps.{zeros}
use Rattle.doubles.specs.Buffer.{put}
use Rattle.doubles.specs.Answer.{refused, answered, none}
use Rattle.designs.specs.Given.{Given}
use Rattle.designs.specs.Checks.{room_twice, preparation_fault}
use Rattle.definition.specs.Preparation.{prepare_call, prepare_left}
use Rattle.definition.specs.Call.{Lent, lent, roomy, solve_tests, answer, buffers}
use Rattle.definition.specs.Pair.{pair_call, pair_left, ordered_end}
use Rattle.definition.specs.declared.Settings.{Settings}
use Rattle.definition.specs.declared.Report.{Report}
use Rattle.pairs.specs.Single.{single_room, single_call, single_left}

-- "neither call is refused with 1 to 6", each looked at by itself
pub record NeitherRefused (g : Given) (S : Settings) (buf : List Float) (b : Lent) : Type 0 where
  pub preparation : preparation_fault g buf ≡ none
  pub solve : solve_tests g S (prepare_left g buf) b ≡ none

-- the single call is lent the same buffers, but for a scratch with its own room: "Room for the prepared numbers (2p) leaves the scratch"
abbrev pub with_scratch : Lent → List Float → Lent
with_scratch b scratch = lent b.weights b.fit b.indices scratch

-- two calls leave the same in all buffers but the scratch
pub record SameButScratch (b b' : Lent) : Type 0 where
  pub weights : b.weights ≡ b'.weights
  pub fit : b.fit ≡ b'.fit
  pub indices : b.indices ≡ b'.indices

-- there is room for both
pub record Roomy (g : Given) (S : Settings) (buf : List Float) (b : Lent) (scratch : List Float) : Type 0 where
  pub numbers : room_twice g.shape.p buf ≡ true
  pub buffers : roomy g.shape S b ≡ true
  pub single : single_room g.shape S ≤ length scratch

pub record AsSingle (g : Given) (S : Settings) (buf : List Float) (b : Lent) : Type 0 where
  -- "preparing and then solving answers as the single call did"
  pub answer : NeitherRefused g S buf b → (scratch : List Float) → single_room g.shape S ≤ length scratch
      → pair_call g S buf b ≡ single_call g S (with_scratch b scratch)
  -- and leaves what it left, where the preparation answers
  pub left : NeitherRefused g S buf b → prepare_call g buf ≡ none → (scratch : List Float) → single_room g.shape S ≤ length scratch
      → SameButScratch (pair_left g S buf b) (single_left g S (with_scratch b scratch))
  -- "after the preparation's 7, weights and fit are untouched": every buffer of the solve is, and after its other refusals too
  pub untouched : (number place : ℕ) → prepare_call g buf ≡ refused number place → pair_left g S buf b ≡ b
  -- "7 for the constants and X'y, which leaves the 2p numbers zero"
  pub zeroed : (place : ℕ) → prepare_call g buf ≡ refused 7 place → prepare_left g buf ≡ put buf 0 (zeros (g.shape.p + g.shape.p))
  -- 10 is for numbers from elsewhere
  pub never_ten : (place : ℕ) → pair_call g S buf b ≡ refused 10 place → ⊥

-- a caller that tests 1 and 2 before it prepares answers as the single call on every input, given room for what passes these; what is left is the same
-- where it answers
pub record AsOrdered (g : Given) (S : Settings) (buf : List Float) (b : Lent) (scratch : List Float) : Type 0 where
  pub answers : answer S (ordered_end g S buf b) ≡ single_call g S (with_scratch b scratch)
  pub left : (r : Report) → answer S (ordered_end g S buf b) ≡ answered r
      → SameButScratch (buffers g.shape S b (ordered_end g S buf b)) (single_left g S (with_scratch b scratch))
