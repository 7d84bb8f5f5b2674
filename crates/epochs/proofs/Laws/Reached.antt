-- The invariant of the epochs' loop: what the epochs so far have led to. Assumes nothing.
use mathlib.Core.Path.{◌≡◌, refl, ◌∙◌}
use Prim.Native.Nat.{ℕ, ◌+◌, ◌≤◌, ◌<◌}
use native.Mathlib.Omega.{arith}
use mathlib.Core.List.{List}
use lib.ListN.{length}
use lib.Ieee.{Float}
use Rattle.std.specs.Prelude.{Result, Ok, Err}
use Rattle.doubles.specs.declared.NotFinite.{NotFinite}
use Rattle.doubles.specs.Steps.{going, upto}
use Rattle.doubles.proofs.Laws.Steps.{steps-none, steps_all, upto-more, upto-over}
use Rattle.definition.specs.Run.{epoch, epochs}
use Rattle.definition.specs.Inner.Problem.{task_in}
use Rattle.definition.specs.declared.problem.Problem.{Problem}
use Rattle.definition.proofs.Laws.Settings.{few-epochs}
use Rattle.epochs.specs.Inner.Reading.{kept_here, inner_of, inner_stage, counts_of}
use Rattle.epochs.specs.declared.Counts.{Counts}
use Rattle.epochs.specs.declared.Pace.{Pace}
use Rattle.epochs.specs.declared.Pace.TheVariants.{Going, Stopped}

-- what a function over the buffers leaves of them: their lengths
pub record Held (w₀ fit₀ scratch₀ w fit scratch : List Float) : Type 0 where
  pub weights : length w ≡ length w₀
  pub fits : length fit ≡ length fit₀
  pub room : length scratch ≡ length scratch₀

module _ (P : Problem) (ws : List ℕ) (outer : Float) where
  -- what is promised of one epoch, and of the loop
  abbrev pub EpochLeft : ℕ → Counts → List Float → List Float → List Float → Result (Pace Counts) NotFinite → List Float → List Float → List Float → Type 0
  EpochLeft e c w fit scratch r w' fit' scratch' =
      (inner_stage r w' fit' (kept_here P scratch')
      ≡ epoch (task_in P) P.y.now P.settings ws outer e (inner_of c w fit (kept_here P scratch)))
      × ((counts_of r c).epochs ≤ c.epochs + 1)
      × ((counts_of r c).extrapolations ≤ c.extrapolations + 1)

  abbrev pub EpochsLeft : Counts → List Float → List Float → List Float → Result (Pace Counts) NotFinite → List Float → List Float → List Float → Type 0
  EpochsLeft c w fit scratch r w' fit' scratch' =
      (inner_stage r w' fit' (kept_here P scratch')
      ≡ epochs (task_in P) P.y.now P.settings ws outer (inner_of c w fit (kept_here P scratch)))
      × ((counts_of r c).epochs ≤ c.epochs + 100000)
      × ((counts_of r c).extrapolations ≤ c.extrapolations + 100000)

  -- after e epochs
  pub record Reached (c₀ : Counts) (w₀ fit₀ scratch₀ : List Float) (e : ℕ) (c : Counts) (w fit scratch : List Float) : Type 0 where
    pub inside : e ≤ P.settings.epochs
    pub held : Held w₀ fit₀ scratch₀ w fit scratch
    pub epochs : c.epochs ≤ c₀.epochs + e
    pub extrapolations : c.extrapolations ≤ c₀.extrapolations + e
    pub stage : going (inner_of c w fit (kept_here P scratch))
        ≡ upto (epoch (task_in P) P.y.now P.settings ws outer) e (inner_of c₀ w₀ fit₀ (kept_here P scratch₀))

  pub reached-none : (c : Counts) (w fit scratch : List Float) → Reached c w fit scratch 0 c w fit scratch
  reached-none c w fit scratch = record {
    inside = omega arith;
    held = record { weights = refl; fits = refl; room = refl };
    epochs = omega arith;
    extrapolations = omega arith;
    stage = steps-none _ _;
  }

  module _ {c₀ : Counts} {w₀ fit₀ scratch₀ : List Float} {e : ℕ} {c : Counts} {w fit scratch : List Float}
      (R : Reached c₀ w₀ fit₀ scratch₀ e c w fit scratch) where
    module _ (w' fit' scratch' : List Float) (h : e < P.settings.epochs) where
      pub reached-more : (d : Counts) → EpochLeft e c w fit scratch (Ok (Going d)) w' fit' scratch' → length w' ≡ length w → length fit' ≡ length fit
          → length scratch' ≡ length scratch → Reached c₀ w₀ fit₀ scratch₀ (e + 1) d w' fit' scratch'
      reached-more d E hw hf hs =
          let a = E.1 in
          let b = E.2 in
          let x = R.epochs in
          let z = R.extrapolations in
          record {
            inside = omega arith;
            held = record { weights = hw ∙ R.held.weights; fits = hf ∙ R.held.fits; room = hs ∙ R.held.room };
            epochs = omega arith;
            extrapolations = omega arith;
            stage = upto-more _ _ e _ _ R.stage E.0;
          }

      -- the loop is left in this epoch
      pub reached-stopped : (d : Counts) → EpochLeft e c w fit scratch (Ok (Stopped d)) w' fit' scratch'
          → EpochsLeft c₀ w₀ fit₀ scratch₀ (Ok (Stopped d)) w' fit' scratch'
      unfolding epochs
      reached-stopped d E =
          let few = few-epochs P.settings P.legal in
          let a = E.1 in
          let b = E.2 in
          let x = R.epochs in
          let z = R.extrapolations in
          (upto-over _ _ e P.settings.epochs _ _ R.stage E.0 refl h, omega arith, omega arith)

      pub reached-bad : (x : NotFinite) → EpochLeft e c w fit scratch (Err x) w' fit' scratch' → EpochsLeft c₀ w₀ fit₀ scratch₀ (Err x) w' fit' scratch'
      unfolding epochs
      reached-bad x E = (upto-over _ _ e P.settings.epochs _ _ R.stage E.0 refl h, omega arith, omega arith)

    -- all epochs were run
    pub reached-all : P.settings.epochs ≤ e → EpochsLeft c₀ w₀ fit₀ scratch₀ (Ok (Going c)) w fit scratch
    unfolding epochs
    reached-all k =
        let few = few-epochs P.settings P.legal in
        let h = R.inside in
        let x = R.epochs in
        let z = R.extrapolations in
        (steps_all _ _ e P.settings.epochs _ R.stage h k, omega arith, omega arith)
