-- "Values to prove": P1 to P10 as rows of one table. A row has what the definitions give and what document 01 says, as doubles' bits, feature
-- numbers and counts. P4 and P7 to P10 are those of public calls: a row of theirs begins with the refusal's number and place, both 0 where there
-- is none, and goes on with the answer and every place of the lent buffers. Each of these has one place more than its room and no zero in it. P8 to
-- P10 go through the two calls of request 5: "preparing and then solving answers as the single call did".
use Rattle.std.specs.Prelude.{Bool, true, false, List, [], ◌∷◌, ◌++◌, ℕ, eqb, Float}
use Rattle.std.specs.Float.{binary64}
use Rattle.std.specs.Float.Ieee.{to_bits, neg}
use Rattle.doubles.specs.Num.{◌⊘◌, #0, #1, #2, count, ◌and◌}
use Rattle.doubles.specs.Steps.{tab}
use Rattle.doubles.specs.Answer.{Outcome, refused, answered}
use Rattle.elimination.specs.Answer.{Ended, singular, solved, Eliminated}
use Rattle.penalties.specs.Soft.{soft}
use Rattle.penalties.specs.Penalty.{prox}
use Rattle.elimination.specs.Elimination.{solve_call}
use Rattle.penalties.specs.declared.separable.Penalty.TheVariants.{L1, L1PlusL2, MCP}
use Rattle.designs.specs.Design.{dense_shape, nothing}
use Rattle.designs.specs.Given.{Given, given}
use Rattle.datafits.specs.Calls.{value_call}
use Rattle.worksets.specs.Call.{ws_call, ws_left}
use Rattle.definition.specs.Preparation.{prepare_left}
use Rattle.definition.specs.Status.{status_number}
use Rattle.definition.specs.Call.{Lent}
use Rattle.definition.specs.Pair.{pair_call, pair_left}
use Rattle.definition.specs.declared.Settings.{Settings}
use Rattle.definition.specs.declared.Report.{Report}

-- ---- numbers
abbrev pub half : ℕ → Float
half k = count k ⊘ #2

unfoldable pub bits : List Float → List ℕ
bits [] = []
bits (x ∷ xs) = to_bits binary64 x ∷ bits xs

unfoldable pub same : List ℕ → List ℕ → Bool
same [] [] = true
same (a ∷ xs) (b ∷ ys) = eqb a b and same xs ys
same [] (b ∷ ys) = false
same (a ∷ xs) [] = false

-- ---- how an elimination or a run is written down
abbrev pub ending_code : Outcome Ended → ℕ
ending_code (answered solved) = 1
ending_code (answered singular) = 0
ending_code (refused number place) = 2

unfoldable pub solution_line : Eliminated → List ℕ
solution_line e = ending_code e.ending ∷ bits e.z

abbrev pub settings : ℕ → Settings
settings alpha = record {
  penalty = L1 (count alpha);
  tolerance = #0;
  start = 1;
  iterations = 5;
  epochs = 20;
  extrapolate = false;
  depth = 0;
}

-- the answer written down by f behind two zeros, or the refusal's number and place
abbrev pub told : {A : Type 0} → (A → List ℕ) → Outcome A → List ℕ
told f (answered a) = 0 ∷ 0 ∷ f a
told f (refused number place) = number ∷ place ∷ []

-- status, violation, iterations, epochs, extrapolations
abbrev pub report_line : Report → List ℕ
report_line r = status_number r.status ∷ to_bits binary64 r.violation ∷ r.iterations ∷ r.epochs ∷ r.extrapolations ∷ []

-- weights, fit, indices, scratch
abbrev pub lent_line : Lent → List ℕ
lent_line b = bits b.weights ++ bits b.fit ++ b.indices ++ bits b.scratch

-- ---- the calls
-- room for two features and two samples, and one place more each
unfoldable pub dirty : Lent
dirty = record { weights = tab (λ k. #2) 3; fit = tab (λ k. #2) 3; indices = tab (λ k. 9) 3; scratch = tab (λ k. #2) 3 }

-- and for their four prepared numbers
unfoldable pub dirty_numbers : List Float
dirty_numbers = tab (λ k. count 9) 5

-- rows (2,0), (0,2), and the targets
unfoldable pub diagonal : List Float → Given
diagonal y = given (dense_shape 2 2) nothing nothing (#2 ∷ #0 ∷ #0 ∷ #2 ∷ []) y

-- the pair's answer, the prepared numbers, and the other buffers
unfoldable pub listing : ℕ → List Float → List ℕ
listing alpha y =
    told report_line (pair_call (diagonal y) (settings alpha) dirty_numbers dirty) ++ bits (prepare_left (diagonal y) dirty_numbers)
    ++ lent_line (pair_left (diagonal y) (settings alpha) dirty_numbers dirty)

-- what document 01 says of a run: the report, two weights and two fit entries; indices and scratch are zero, and the place too many is untouched. Of
-- the prepared numbers each constant is (2·2 + 0·0)/2 = 2, and xty is twice the targets
abbrev pub listed : List ℕ → List Float → List Float → List Float → List ℕ
listed report xty weights fit =
    (0 ∷ 0 ∷ []) ++ report ++ bits (#2 ∷ #2 ∷ []) ++ bits xty ++ bits (count 9 ∷ []) ++ bits weights ++ bits (#2 ∷ []) ++ bits fit ++ bits (#2 ∷ [])
    ++ (0 ∷ 0 ∷ 9 ∷ []) ++ bits (#0 ∷ #0 ∷ #2 ∷ [])

-- P4's weights and violations
abbrev pub violations : List Float
violations = #1 ∷ count 3 ∷ half 1 ∷ count 3 ∷ []

abbrev pub weights : List Float
weights = #0 ∷ #0 ∷ count 5 ∷ #0 ∷ []

-- the set's size, and the index places
unfoldable pub set_line : ℕ → List ℕ
set_line start = told (λ size. size ∷ []) (ws_call violations weights start (tab (λ k. 9) 5)) ++ ws_left violations weights start (tab (λ k. 9) 5)

-- a system of two unknowns in its 10 rows of 11 places
abbrev pub row : Float → Float → Float → List Float
row a b c = a ∷ b ∷ c ∷ tab (λ k. #0) 8

abbrev pub two : List Float → List Float → List (List Float)
two a b = a ∷ b ∷ tab (λ k. tab (λ j. #0) 11) 8

-- ---- the table
pub record Row : Type 0 where
  pub got : List ℕ
  pub want : List ℕ

abbrev pub is : List ℕ → List ℕ → Row
is a b = record { got = a; want = b }

abbrev pub are : List Float → List Float → Row
are a b = is (bits a) (bits b)

unfoldable pub right : List Row → Bool
right [] = true
right (r ∷ rs) = same r.got r.want and right rs

unfoldable pub mcp : Float → Float
mcp v = prox (MCP #1 #2) v #1

unfoldable pub table : List Row
table =
    -- P1 soft(1,1)=0, soft(−1,1)=0, soft(1.5,0.5)=1
    are (soft #1 #1 ∷ soft (neg #1) #1 ∷ soft (half 3) (half 1) ∷ []) (#0 ∷ #0 ∷ #1 ∷ [])
    -- P2 MCP alpha 1, gamma 2, step 1: 1→0, 1.5→1, 2→2, 2.5→2.5, −1.5→−1
    ∷ are (mcp #1 ∷ mcp (half 3) ∷ mcp #2 ∷ mcp (half 5) ∷ mcp (neg (half 3)) ∷ []) (#0 ∷ #1 ∷ #2 ∷ half 5 ∷ neg #1 ∷ [])
    -- P3 L1PlusL2 alpha 1, ratio 0.5, step 1: 2→1
    ∷ are (prox (L1PlusL2 #1 (half 1)) #2 #1 ∷ []) (#1 ∷ [])
    -- P4 weights 0,0,5,0, violations 1,3,0.5,3: start 1 gives 2,1; start 3 gives 2,1,3
    ∷ is (set_line 1) (0 ∷ 0 ∷ 2 ∷ 2 ∷ 1 ∷ 0 ∷ 0 ∷ 9 ∷ [])
    ∷ is (set_line 3) (0 ∷ 0 ∷ 3 ∷ 2 ∷ 1 ∷ 3 ∷ 0 ∷ 9 ∷ [])
    -- P5 diagonal 2,4 with ones solves to 0.5, 0.25
    ∷ is (solution_line (solve_call 2 (two (row #2 #0 #1) (row #0 (count 4) #1)))) (1 ∷ bits (half 1 ∷ half 1 ⊘ #2 ∷ tab (λ k. #0) 8))
    -- P6 rows (0,1),(1,0): singular, though invertible
    ∷ is (solution_line (solve_call 2 (two (row #0 #1 #1) (row #1 #0 #1)))) (0 ∷ bits (tab (λ k. #0) 10))
    -- P7 targets 3,1, fit 2,0: datafit 0.5
    ∷ is (told (λ x. bits (x ∷ [])) (value_call (count 3 ∷ #1 ∷ []) (#2 ∷ #0 ∷ #2 ∷ []))) (0 ∷ 0 ∷ bits (half 1 ∷ []))
    -- P8 the listing's run
    ∷ is (listing 1 (count 3 ∷ #1 ∷ [])) (listed (1 ∷ 0 ∷ 1 ∷ 11 ∷ 0 ∷ []) (count 6 ∷ #2 ∷ []) (#1 ∷ #0 ∷ []) (#2 ∷ #0 ∷ []))
    -- P9 targets −3,−1: weights −1,0
    ∷ is (listing 1 (neg (count 3) ∷ neg #1 ∷ [])) (listed (1 ∷ 0 ∷ 1 ∷ 11 ∷ 0 ∷ []) (neg (count 6) ∷ neg #2 ∷ []) (neg #1 ∷ #0 ∷ []) (neg #2 ∷ #0 ∷ []))
    -- P10 alpha 3: zero weights, no iteration
    ∷ is (listing 3 (count 3 ∷ #1 ∷ [])) (listed (1 ∷ 0 ∷ 0 ∷ 0 ∷ 0 ∷ []) (count 6 ∷ #2 ∷ []) (#0 ∷ #0 ∷ []) (#0 ∷ #0 ∷ []))
    ∷ []
