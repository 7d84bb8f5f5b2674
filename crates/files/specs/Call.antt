-- The reader's call: 9 is "tested before all others", with the "offset of the first bad field's tag; 0 if empty; 49,152 if longer than that, tested
-- first". What was read without a fault is a problem.
use Rattle.std.specs.Prelude.{Bool, List, ℕ, ◌≤◌, leb, ltb, eqb, length, Float}
use Rattle.doubles.specs.Num.{pick, ◌and◌}
use Rattle.doubles.specs.Buffer.{put}
use Rattle.doubles.specs.Answer.{Outcome, refused, answered}
use Rattle.designs.specs.Given.{Given, given}
use Rattle.definition.specs.declared.Settings.{Settings}
use Rattle.files.specs.Problem.{Read, read_all, header_shape, header_settings}
use Rattle.files.specs.declared.Sizes.{Sizes}

pub record Problem : Type 0 where
  pub given : Given
  pub settings : Settings

abbrev pub problem : List ℕ → Read → Problem
problem f s = record { given = given (header_shape f) s.starts s.rows s.values s.targets; settings = header_settings f }

-- the whole file was read, and it was not empty
unfoldable pub read_whole : List ℕ → Read → Bool
read_whole f s = ltb 0 s.at and eqb s.at (length f)

-- which byte lists are problems, and which problem each is
unfoldable pub parsed : List ℕ → Outcome Problem
parsed f =
    pick (leb (length f) 49152)
    (pick (read_whole f (read_all f)) (answered (problem f (read_all f))) (refused 9 (read_all f).at))
    (refused 9 49152)

-- ---- the call lends places for the arrays: as many as a file of 49,152 bytes can fill, else 3
pub record Places : Type 0 where
  pub targets : List Float
  pub values : List Float
  pub starts : List ℕ
  pub rows : List ℕ

abbrev pub places : List Float → List Float → List ℕ → List ℕ → Places
places targets values starts rows = record { targets = targets; values = values; starts = starts; rows = rows }

unfoldable pub places_suffice : Places → Bool
places_suffice b = leb 6144 (length b.targets) and leb 4096 (length b.values) and leb 12288 (length b.starts) and leb 12288 (length b.rows)

abbrev pub with_room : Bool → Outcome Problem → Outcome Problem
with_room room (refused number place) = refused number place
with_room room (answered p) = pick room (answered p) (refused 3 0)

unfoldable pub read_problem : List ℕ → Places → Outcome Problem
read_problem f b = with_room (places_suffice b) (parsed f)

-- the answer has the problem's numbers, and how many elements each array has
abbrev pub sizes_of : Problem → Sizes
sizes_of p = record {
  shape = p.given.shape;
  settings = p.settings;
  counts = record {
    targets = length p.given.targets;
    values = length p.given.values;
    starts = length p.given.starts;
    rows = length p.given.rows;
  };
}

abbrev pub sizes_answered : Outcome Problem → Outcome Sizes
sizes_answered (refused number place) = refused number place
sizes_answered (answered p) = answered (sizes_of p)

unfoldable pub read_call : List ℕ → Places → Outcome Sizes
read_call f b = sizes_answered (read_problem f b)

-- what the places hold afterwards: the arrays at their beginning; refused, what they held
abbrev pub filled_places : Outcome Problem → Places → Places
filled_places (refused number place) b = b
filled_places (answered p) b = record {
  targets = put b.targets 0 p.given.targets;
  values = put b.values 0 p.given.values;
  starts = put b.starts 0 p.given.starts;
  rows = put b.rows 0 p.given.rows;
}

unfoldable pub read_left : List ℕ → Places → Places
read_left f b = filled_places (read_problem f b) b

-- the arrays that were read lie in the lent places, and the sizes are the program's
abbrev pub Inside : Outcome Sizes → Type 0
Inside (refused number place) = Unit {0}
Inside (answered s) =
    (s.counts.targets ≤ 6144) × (s.counts.values ≤ 4096) × (s.counts.starts ≤ 12288) × (s.counts.rows ≤ 12288)
    × (s.shape.n ≤ 256) × (s.shape.p ≤ 32)
