-- The invariant of the outer loop: what the turns so far have led to. Assumes nothing.
use mathlib.Core.Path.{◌≡◌, refl, ◌∙◌}
use Prim.Native.Nat.{ℕ, ◌+◌, ◌≤◌, ◌<◌}
use native.Mathlib.Nat.{le_antisymm}
use native.Mathlib.Omega.{arith}
use mathlib.Core.List.{List, []}
use lib.ListN.{length}
use lib.Ieee.{Float}
use Rattle.std.specs.Prelude.{Result, Ok, Err}
use Rattle.doubles.specs.declared.NotFinite.{NotFinite}
use Rattle.doubles.specs.declared.Refusal.{Refusal}
use Rattle.doubles.specs.Num.{#0}
use Rattle.doubles.specs.Steps.{Stage, going, upto, tab}
use Rattle.doubles.proofs.Laws.Steps.{steps-none, upto-more, upto-over, upto_next}
use Rattle.definition.specs.Run.{State, turn, start, run}
use Rattle.definition.specs.Call.{End, given_up, concluded}
use Rattle.definition.specs.declared.problem.Problem.{Problem}
use Rattle.definition.specs.Inner.Problem.{task_in}
use Rattle.epochs.specs.Inner.Reading.{kept_here}
use Rattle.epochs.specs.declared.Pace.{Pace}
use Rattle.epochs.specs.declared.Pace.TheVariants.{Going, Stopped}
use Rattle.epochs.proofs.Laws.Reached.{Held}
use Rattle.iterations.specs.Inner.Reading.{nothing_kept, nothing_counted, state_of, totals_of, sets_of, shows, shows_end, Totalled, Grown}
use Rattle.iterations.specs.declared.Totals.{Totals}
use Rattle.iterations.proofs.Laws.Turns.{totalled_more}

-- a stage's working sets are its own
shown_going : (x : Stage State) (c : Totals) (w fit kept : List Float) (sets : List (List ℕ)) → going (state_of c w fit kept sets) ≡ x
    → going (state_of c w fit kept (sets_of x)) ≡ x
shown_going x c w fit kept sets q = rw (← q)

module _ (P : Problem) where
  -- what is promised of one turn before the last
  abbrev pub TurnLeft : Totals → List Float → List Float → List Float → Result (Pace Totals) NotFinite → List Float → List Float → List Float → Type 0
  TurnLeft c w fit scratch r w' fit' scratch' =
      ((t : ℕ) → t < P.settings.iterations → (sets : List (List ℕ))
      → shows P r w' fit' scratch' (turn (task_in P) P.y.now P.settings t (state_of c w fit (kept_here P scratch) sets)))
      × Grown c (totals_of r c)

  -- the first t turns of the run
  abbrev pub turns : ℕ → Stage State
  turns t = upto (turn (task_in P) P.y.now P.settings) t (start (task_in P) P.settings)

  abbrev pub Run : End
  Run = concluded (run (task_in P) P.y.now P.settings)

  pub record Turned (w₀ fit₀ scratch₀ : List Float) (t : ℕ) (c : Totals) (w fit scratch : List Float) : Type 0 where
    pub inside : t ≤ P.settings.iterations
    pub held : Held w₀ fit₀ scratch₀ w fit scratch
    pub totalled : Totalled t c
    pub stage : shows P (Ok (Going c)) w fit scratch (turns t)

  pub turned_none : (w fit scratch : List Float) → w ≡ tab (λ j. #0) P.x.matrix.shape.p → fit ≡ tab (λ i. #0) P.x.matrix.shape.n
      → kept_here P scratch ≡ nothing_kept P → Turned w fit scratch 0 nothing_counted w fit scratch
  unfolding start
  turned_none w fit scratch ew ef ek = record {
    inside = omega arith;
    held = record { weights = refl; fits = refl; room = refl };
    totalled = record { iterations = omega arith; counts = record { epochs = omega arith; extrapolations = omega arith } };
    stage = shown_going (turns 0) nothing_counted w fit (kept_here P scratch) [] (rw (ew, ef, ek) (steps-none _ _));
  }

  module _ {w₀ fit₀ scratch₀ : List Float} {t : ℕ} {c : Totals} {w fit scratch : List Float} (R : Turned w₀ fit₀ scratch₀ t c w fit scratch) where
    -- turn t, as the definition takes it from the first t
    taken : Stage State
    taken = turn (task_in P) P.y.now P.settings t (state_of c w fit (kept_here P scratch) (sets_of (turns t)))

    module _ (w' fit' scratch' : List Float) (h : t < P.settings.iterations) where
      pub turned_more : (d : Totals) → TurnLeft c w fit scratch (Ok (Going d)) w' fit' scratch' → length w' ≡ length w → length fit' ≡ length fit
          → length scratch' ≡ length scratch → Turned w₀ fit₀ scratch₀ (t + 1) d w' fit' scratch'
      unfolding taken
      turned_more d E hw hf hs = record {
        inside = omega arith;
        held = record { weights = hw ∙ R.held.weights; fits = hf ∙ R.held.fits; room = hs ∙ R.held.room };
        totalled = totalled_more t c d R.totalled E.1;
        stage = shown_going (turns (t + 1)) d w' fit' (kept_here P scratch') (sets_of taken) (upto-more _ _ t _ _ R.stage (E.0 t h (sets_of (turns t))));
      }

      -- the loop is left in this turn
      later : t < P.settings.iterations + 1
      later = omega arith

      pub turned-stopped : (d : Totals) → TurnLeft c w fit scratch (Ok (Stopped d)) w' fit' scratch' → shows_end P (Ok d) w' fit' scratch' Run
      unfolding taken run
      turned-stopped d E = rw (← upto-over _ _ t (P.settings.iterations + 1) _ _ R.stage (E.0 t h (sets_of (turns t))) refl later)

      pub turned-bad : (x : NotFinite) → TurnLeft c w fit scratch (Err x) w' fit' scratch' → given_up 7 0 ≡ Run
      unfolding taken run
      turned-bad x E = rw (← upto-over _ _ t (P.settings.iterations + 1) _ _ R.stage (E.0 t h (sets_of (turns t))) refl later)

    -- the last turn follows, whose stage x ends the run
    module _ (r : Result Totals Refusal) (scratch' : List Float) (h : P.settings.iterations ≤ t) where
      pub turned-last : ((sets : List (List ℕ)) → shows_end P r w fit scratch'
          (concluded (turn (task_in P) P.y.now P.settings P.settings.iterations (state_of c w fit (kept_here P scratch) sets))))
          → shows_end P r w fit scratch' Run
      unfolding run taken
      turned-last E =
          let e = le_antisymm R.inside h in
          let n : turns (P.settings.iterations + 1) ≡ taken = upto_next _ _ t P.settings.iterations _ e R.stage in
          rw (n, e) (E (sets_of (turns P.settings.iterations)))
