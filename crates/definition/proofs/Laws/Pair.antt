-- Preparing and then solving where neither is refused with 1 to 6: the run on the tile's own numbers, or the preparation's 7. Assumes nothing.
use mathlib.Core.Path.{◌≡◌, refl, ap}
use mathlib.Core.Bool.{true, false, false≢true}
use mathlib.Core.List.{List}
use lib.Ieee.{Float}
use Rattle.doubles.specs.Answer.{refused, answered, Fault, none}
use Rattle.designs.specs.Given.{Given}
use Rattle.designs.specs.Checks.{preparation_fault}
use Rattle.definition.specs.Epoch.{task}
use Rattle.definition.specs.Run.{State}
use Rattle.definition.specs.Preparation.{all_usable, prepared_of, prepare_call, prepare_left}
use Rattle.definition.specs.Call.{Lent, solve_tests, solve_fault, End, untouched, done, solved, task_of, behind, solve_end}
use Rattle.definition.specs.Pair.{pair_end}
use Rattle.definition.specs.declared.Settings.{Settings}
use Rattle.definition.proofs.Laws.Ends.{begun}
use Rattle.definition.proofs.Laws.Prepared.{handed_back, left_accepted}

module _ (g : Given) (S : Settings) (buf : List Float) (b : Lent) (p : preparation_fault g buf ≡ none) where
  prepares : all_usable g.shape.p (prepared_of g) ≡ true → prepare_call g buf ≡ none
  unfolding prepare_call
  prepares u = rw (p, u)

  pub pair_runs : solve_tests g S (prepare_left g buf) b ≡ none → all_usable g.shape.p (prepared_of g) ≡ true
      → pair_end g S buf b ≡ solved (task g.shape g.starts g.rows g.values S.penalty (prepared_of g)) g.targets S
  unfolding pair_end solve_end solve_fault
  pair_runs s u = rw (prepares u, s, left_accepted g buf (prepares u), handed_back g buf (prepares u))

  pub pair_seven : all_usable g.shape.p (prepared_of g) ≡ false → pair_end g S buf b ≡ untouched 7 0
  unfolding pair_end prepare_call
  pair_seven u = rw (p, u)

-- ---- a pair that is done was refused by neither call, and is the solve's run
behind-done : (s : State) (f : Fault) (x : End) → behind f x ≡ done s → (f ≡ none) × (x ≡ done s)
behind-done s (answered u) x h = (refl, h)
behind-done s (refused number place) x h = absurd (false≢true (ap begun h))

module _ (g : Given) (S : Settings) (buf : List Float) (b : Lent) (s : State) where
  solve-done : (handed : List Float) → solve_end g S handed b ≡ done s → solve_fault g S handed b ≡ none
  unfolding solve_end
  solve-done handed e = (behind-done s (solve_fault g S handed b) (solved (task_of g S handed) g.targets S) e).0

  pub pair_done : pair_end g S buf b ≡ done s
      → (prepare_call g buf ≡ none) × (solve_fault g S (prepare_left g buf) b ≡ none) × (solve_end g S (prepare_left g buf) b ≡ done s)
  unfolding pair_end
  pair_done e =
      let p = behind-done s (prepare_call g buf) (solve_end g S (prepare_left g buf) b) e in
      (p.0, solve-done (prepare_left g buf) p.1, p.1)
