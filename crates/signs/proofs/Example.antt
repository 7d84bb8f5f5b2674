-- Columns turned with extrapolation on: two columns and three epochs at depth 2, and the same with the second column turned. Each takes one extrapolation,
-- so that the law is not empty there; with document 01's matrix only the second run took one. The checker computes both pairs of calls. Assumes nothing.
use mathlib.Core.Path.{◌≡◌, refl}
use mathlib.Core.Bool.{true}
use mathlib.Core.List.{List, [], ◌∷◌}
use Prim.Native.Nat.{ℕ}
use lib.Ieee.{Float, neg, add, sub, mul, div, lt, eq, le, of_int, of_bits, is_nan, round, sum as fsum, size as fsize, units, odd}
use Rattle.doubles.specs.Num.{#0, #1, #2, ◌and◌, ◌or◌, abs, signum, finite, larger}
use Rattle.doubles.specs.Buffer.{put}
use Rattle.doubles.specs.Steps.{steps, tab, zeros, upward, downward}
use Rattle.penalties.specs.Soft.{soft01, soft}
use Rattle.penalties.specs.Penalty.{alpha_legal, second_legal, penalty_fault, sum_abs, value, prox_l1, prox, excess, violation_l1, violation}
use Rattle.elimination.specs.Elimination.{reduced, cleared, cleared_below, echelon, cleared_above, back_substituted, regular, read_off, eliminated}
use Rattle.penalties.specs.declared.separable.Penalty.TheVariants.{L1}
use Rattle.designs.specs.Design.{dense_shape, nothing, dense, laid, dot, squares, lipschitz, dots, prepared}
use Rattle.designs.specs.Design.{gradient_from, gradient, squared_error, datafit, moved, finite_at, moved_all, extrapolated}
use Rattle.designs.specs.Given.{given}
use Rattle.designs.specs.Checks.{lengths, sizes, not_finite, numbers, contents, sized_fault, admitted, preparation_fault}
use Rattle.definition.specs.WorkingSet.{support, size, insert, others, working_set}
use Rattle.definition.specs.Epoch.{gradient_of, violation_of, known, all_known, violations, worst, known_in}
use Rattle.definition.specs.Epoch.{worst_in, new_weight, moved_by, moved_finite, fine, visited, visit, visits}
use Rattle.definition.specs.Extrapolation.{kept_now, entry, system_row, system, coefficients, combined, candidate}
use Rattle.definition.specs.Extrapolation.{objective_of, all_finite, better, chosen, point_of, candidate_of, from_system, extrapolate, due, tried}
use Rattle.definition.specs.Run.{accelerated, enough, checked, checks, settled, epoch, epochs, chosen_set, iteration, turn, start, run}
use Rattle.definition.specs.Preparation.{usable, all_usable, prepare_call, numbers_left, prepare_left}
use Rattle.definition.specs.Call.{start_legal, depth_legal, settings_fault, scratch_room, lent, roomy, acceptable, handed_fault, early_fault, solve_tests}
use Rattle.definition.specs.Call.{solve_fault, End, untouched, given_up, done, solved, solve_end}
use Rattle.definition.specs.Pair.{pair_end}

-- the extrapolations that were taken, where the run is done
abbrev taken : End → List ℕ
taken (untouched number place) = []
taken (given_up number place) = []
taken (done s) = s.inner.extrapolations ∷ []

-- rows (1, x) and (0, z), targets 1 and -1, three epochs at depth 2; every buffer has its room
unfoldable pub takes : Float → Float → List ℕ
takes x z =
    taken (pair_end (given (dense_shape 2 2) nothing nothing (#1 ∷ x ∷ #0 ∷ z ∷ []) (#1 ∷ neg #1 ∷ []))
    (record { penalty = L1 #0; tolerance = #0; start = 2; iterations = 1; epochs = 3; extrapolate = true; depth = 2 })
    (zeros 4) (lent (zeros 2) (zeros 2) (tab (λ k. 0) 2) (zeros 16)))

pub one_each : (takes #1 #2 ≡ 1 ∷ []) × (takes (neg #1) (neg #2) ≡ 1 ∷ [])
unfolding
    neg add sub mul div lt eq le of_int of_bits is_nan round fsum fsize units odd ◌and◌ ◌or◌ abs signum finite larger put steps upward downward
    soft01 soft sum_abs value prox_l1 prox excess violation_l1 violation reduced cleared cleared_below echelon cleared_above back_substituted regular read_off
    eliminated dense laid dot squares lipschitz dots prepared gradient_from gradient squared_error datafit moved moved_all
    extrapolated support size insert others working_set gradient_of violation_of known all_known violations worst known_in worst_in new_weight moved_by
    finite_at moved_finite fine visited visit visits kept_now entry system_row system coefficients combined candidate objective_of all_finite better
    chosen point_of candidate_of from_system extrapolate due tried accelerated enough checked checks settled epoch epochs chosen_set iteration turn
    start run lengths sizes not_finite numbers contents sized_fault admitted preparation_fault alpha_legal second_legal penalty_fault
    usable all_usable prepare_call numbers_left prepare_left start_legal depth_legal settings_fault scratch_room roomy acceptable handed_fault early_fault
    solve_tests solve_fault solved solve_end pair_end takes
one_each = (refl, refl)
