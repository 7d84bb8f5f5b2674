-- What readiness is worth: the room of the scratch, and the steps that may be taken. Assumes nothing.
use mathlib.Core.Path.{◌≡◌, sym, ◌∙◌}
use mathlib.Core.Bool.{Bool, true, false}
use Prim.Native.Nat.{ℕ, ◌+◌, ◌*◌, ◌≤◌}
use native.Mathlib.Nat.{le_of_eq, le_trans}
use native.Mathlib.Omega.{arith}
use mathlib.Core.List.{List}
use lib.ListN.{length}
use lib.Ieee.{Float}
use Rattle.doubles.specs.Num.{pick}
use Rattle.designs.specs.declared.Shape.{Shape}
use Rattle.definition.specs.Call.{scratch_room}
use Rattle.definition.specs.Epoch.{task, Point}
use Rattle.definition.specs.Extrapolation.{tried}
use Rattle.definition.specs.Inner.Problem.{task_in}
use Rattle.definition.specs.declared.Settings.{Settings}
use Rattle.definition.specs.declared.problem.Problem.{Problem}
use Rattle.extrapolation.specs.Inner.Places.{StepReady, task_with, kept_in, kept_then}
use Rattle.extrapolation.specs.declared.step.Step.{Step}
use Rattle.extrapolation.proofs.Laws.Scratch.{room_split}
use Rattle.epochs.specs.Inner.Reading.{Ready, Features, IsStepOf}

-- ---- the scratch's room
module _ (s : Shape) (S : Settings) where
  pub room_on : S.extrapolate ≡ true → scratch_room s S ≡ (2 * S.depth + 3) * s.p + s.n
  unfolding scratch_room
  room_on on = rw on

  -- p at least
  room_once : s.p ≤ scratch_room s S
  unfolding scratch_room
  room_once = go S.extrapolate
    where
      go : (b : Bool) → s.p ≤ pick b ((2 * S.depth + 3) * s.p + s.n) s.p
      go true = let r = room_split S.depth s.p s.n in omega arith
      go false = omega arith

module _ {P : Problem} {w fit scratch : List Float} (R : Ready P w fit scratch) where
  -- the violations have their places
  pub room_for : P.x.matrix.shape.p ≤ length scratch
  room_for = le_trans (room_once P.x.matrix.shape P.settings) (le_of_eq (sym R.room))

  -- buffers of the same lengths are as ready
  pub ready_still : (w' fit' scratch' : List Float) → length w' ≡ length w → length fit' ≡ length fit → length scratch' ≡ length scratch
      → Ready P w' fit' scratch'
  ready_still w' fit' scratch' ew ef es = record { weights = ew ∙ R.weights; fits = ef ∙ R.fits; room = es ∙ R.room }

  -- with extrapolation on, its step may be taken
  pub step_ready : {ws : List ℕ} (s : Step) → IsStepOf P s → Features P ws → P.settings.extrapolate ≡ true → StepReady s ws w fit scratch
  step_ready s h F on = record {
    sized = record {
      weights = rw h.0 R.weights;
      room = rw (h.3, h.0) (R.room ∙ room_on P.x.matrix.shape P.settings on);
      few = rw h.0 F.few;
      below = λ k l. rw h.0 (F.below k l);
    };
    fits = rw h.0 R.fits;
  }

-- and what it tries and keeps is the problem's
module _ (s : Step) (P : Problem) (h : IsStepOf P s) where
  pub tried_same : (e : ℕ) (ws : List ℕ) (w l : List Float) (x : Point)
      → tried (task_with s P.prepared.now) s.y.now s.depth e ws (kept_then s.x.matrix.shape s.depth e ws w l) x
      ≡ tried (task_in P) P.y.now P.settings.depth e ws (kept_then P.x.matrix.shape P.settings.depth e ws w l) x
  tried_same e ws w l x =
      λ i. (let m = (h.0 i).matrix in
      let T = task m.shape m.starts.now m.rows.now m.values.now (h.2 i) P.prepared.now in
      tried T (h.1 i).now (h.3 i) e ws (kept_then m.shape (h.3 i) e ws w l) x)

  pub kept-same : (l : List Float) → kept_in s.x.matrix.shape s.depth l ≡ kept_in P.x.matrix.shape P.settings.depth l
  kept-same l = λ i. kept_in (h.0 i).matrix.shape (h.3 i) l

  pub kept_then_same : (e : ℕ) (ws : List ℕ) (w l : List Float)
      → kept_then s.x.matrix.shape s.depth e ws w l ≡ kept_then P.x.matrix.shape P.settings.depth e ws w l
  kept_then_same e ws w l = λ i. kept_then (h.0 i).matrix.shape (h.3 i) e ws w l
