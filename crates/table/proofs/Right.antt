-- Every row of the table is right: the checker computes both sides, so every definition on the way is opened. Assumes nothing.
use mathlib.Core.Path.{◌≡◌, refl}
use mathlib.Core.Bool.{true}
use lib.Ieee.{neg, add, sub, mul, div, lt, eq, le, of_int, of_bits, to_bits, is_nan, round, sum as fsum, size as fsize, units, odd}
use Rattle.doubles.specs.Num.{◌and◌, ◌or◌, abs, signum, finite, larger}
use Rattle.doubles.specs.Steps.{steps, upward, downward}
use Rattle.doubles.specs.Buffer.{put}
use Rattle.penalties.specs.Soft.{soft01, soft}
use Rattle.penalties.specs.Penalty.{alpha_legal, second_legal, penalty_fault, prox_l1, prox_l1_plus_l2, prox_mcp, prox, excess, violation_l1, violation}
use Rattle.elimination.specs.Elimination.{reduced, cleared, cleared_below, echelon, cleared_above, back_substituted}
use Rattle.elimination.specs.Elimination.{regular, read_off, eliminated, solution, solve_call}
use Rattle.designs.specs.Design.{dense, laid, dot, squares, lipschitz, dots, prepared, gradient_from, gradient, squared_error, datafit, moved, finite_at}
use Rattle.designs.specs.Checks.{lengths, sizes, not_finite, numbers, contents, sized_fault, admitted, preparation_fault}
use Rattle.datafits.specs.Calls.{value_fault, value_call}
use Rattle.definition.specs.WorkingSet.{support, size, insert, others, working_set, padded}
use Rattle.worksets.specs.Call.{bad_violation, ws_fault, ws_call, ws_left}
use Rattle.definition.specs.Epoch.{gradient_of, violation_of, known, all_known, violations, worst, known_in, worst_in, new_weight, moved_by, moved_finite, fine}
use Rattle.definition.specs.Epoch.{visited, visit, visits}
use Rattle.definition.specs.Run.{accelerated, enough, checked, checks, settled, epoch, epochs, chosen_set, iteration, turn, start, run}
use Rattle.definition.specs.Preparation.{usable, all_usable, prepare_call, numbers_left, prepare_left}
use Rattle.definition.specs.Call.{start_legal, depth_legal, settings_fault, scratch_room, roomy, acceptable, handed_fault, early_fault, solve_tests}
use Rattle.definition.specs.Call.{solve_fault}
use Rattle.definition.specs.Call.{solved, solve_end, report_of}
use Rattle.definition.specs.Pair.{pair_end, pair_call, pair_left}
use Rattle.table.specs.Table.{bits, same, solution_line, dirty, dirty_numbers, diagonal, listing, set_line, right, mcp, table}

pub right-table : right table ≡ true
unfolding
    neg add sub mul div lt eq le of_int of_bits to_bits is_nan round fsum fsize units odd
    ◌and◌ ◌or◌ abs signum finite larger steps upward downward put
    soft01 soft alpha_legal second_legal penalty_fault prox_l1 prox_l1_plus_l2 prox_mcp prox excess violation_l1 violation
    reduced cleared cleared_below echelon cleared_above back_substituted regular read_off eliminated solution solve_call
    dense laid dot squares lipschitz dots prepared gradient_from gradient squared_error datafit moved finite_at
    lengths sizes not_finite numbers contents sized_fault admitted preparation_fault value_fault value_call
    support size insert others working_set padded bad_violation ws_fault ws_call ws_left
    gradient_of violation_of known all_known violations worst known_in worst_in new_weight moved_by moved_finite fine visited visit visits
    accelerated enough checked checks settled epoch epochs chosen_set iteration turn start run
    usable all_usable prepare_call numbers_left prepare_left
    start_legal depth_legal settings_fault scratch_room roomy acceptable handed_fault early_fault solve_tests solve_fault solved solve_end report_of
    pair_end pair_call pair_left bits same solution_line dirty dirty_numbers diagonal listing set_line right mcp table
right-table = refl
