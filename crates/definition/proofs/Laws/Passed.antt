-- What a call says that is not refused before its run, and the numbers of those refusals. Assumes nothing.
use mathlib.Core.Path.{◌≡◌}
use mathlib.Core.Bool.{Bool, true}
use mathlib.Core.List.{List}
use lib.Dec.{leb, lit≤}
use lib.Ieee.{Float}
use Rattle.doubles.specs.Num.{◌and◌}
use Rattle.doubles.specs.Answer.{none}
use Rattle.doubles.proofs.Laws.Verdict.{AtMost, none_most, unless_at_most, unless_most, then_most, spared, then-none}
use Rattle.penalties.specs.Penalty.{alpha_legal, alpha_of, second_legal, penalty_fault}
use Rattle.designs.specs.Given.{Given}
use Rattle.designs.specs.Checks.{sizes, sized_fault, targets_fit, room_twice}
use Rattle.designs.proofs.Laws.Passed.{Admitted, admits_sized}
use Rattle.designs.proofs.Laws.Numbers.{sized_most}
use Rattle.definition.specs.Call.{start_legal, depth_legal, settings_fault, Lent, roomy, early_fault, solve_tests}
use Rattle.definition.specs.declared.Settings.{Settings}

-- ---- 1 to 6: 7 comes from the run alone
settings_most : (S : Settings) → AtMost 6 (settings_fault S)
unfolding settings_fault penalty_fault
settings_most S =
    unless_at_most 2 0 (lit≤ tt) (leb S.iterations 1000)
    (unless_at_most 2 1 (lit≤ tt) (leb S.epochs 100000)
    (unless_at_most 2 2 (lit≤ tt) (start_legal S)
    (unless_at_most 2 3 (lit≤ tt) (depth_legal S)
    (unless_at_most 2 4 (lit≤ tt) (alpha_legal S.tolerance)
    (unless_at_most 2 5 (lit≤ tt) (alpha_legal (alpha_of S.penalty))
    (unless_at_most 2 6 (lit≤ tt) (second_legal S.penalty) (none_most 6)))))))

module _ (g : Given) (S : Settings) where
  pub early_most : AtMost 6 (early_fault g S)
  unfolding early_fault
  early_most = unless_most 1 (lit≤ tt) (sizes g.shape g.starts g.rows g.values and targets_fit g) (settings_most S)

  -- ---- where there is none
  pub early : early_fault g S ≡ none → ((sizes g.shape g.starts g.rows g.values and targets_fit g) ≡ true) × (settings_fault S ≡ none)
  unfolding early_fault
  early e = spared (sizes g.shape g.starts g.rows g.values and targets_fit g) 1 _ e

module _ (g : Given) (S : Settings) (handed : List Float) (b : Lent) where
  abbrev room : Bool
  room = room_twice g.shape.p handed and roomy g.shape S b

  pub tests_most : AtMost 6 (solve_tests g S handed b)
  unfolding solve_tests
  tests_most = then_most (early_fault g S) (early_most g S) (sized_most g room)

  -- of the settings, and of the design and the room
  pub passed : solve_tests g S handed b ≡ none → (settings_fault S ≡ none) × Admitted g (targets_fit g) room
  unfolding solve_tests
  passed e =
      let a = then-none (early_fault g S) (sized_fault g room) e in
      let s = early g S a.0 in
      (s.1, admits_sized g (targets_fit g) room s.0 a.1)
