-- The tests of a walk, one behind the other. Assumes nothing.
use mathlib.Core.Path.{◌≡◌, ap, ◌∙◌}
use mathlib.Core.Bool.{Bool}
use mathlib.Core.List.{List}
use Prim.Native.Nat.{ℕ}
use lib.Ieee.{Float}
use Rattle.doubles.specs.Num.{#0, ◌and◌}
use Rattle.doubles.specs.Answer.{refused, Fault, none}
use Rattle.designs.specs.Given.{Given}
use Rattle.designs.specs.Checks.{sized_fault, room_twice}
use Rattle.definition.specs.Call.{Lent, roomy, early_fault}
use Rattle.definition.specs.Walk.{at_alpha, list_fault, walk_early, walk_tests}
use Rattle.definition.specs.declared.Settings.{Settings}
use Rattle.definition.proofs.Laws.Walk.{room_alpha}

-- t are the settings that are tested
module _ (g : Given) (S : Settings) (alphas buf : List Float) (b : Lent) (t : Settings) (et : t ≡ at_alpha S #0) where
  pub refused_early : (number place : ℕ) → refused number place ≡ early_fault g t → refused number place ≡ walk_tests g S alphas buf b
  unfolding walk_tests walk_early
  refused_early number place e = rw (← et, ← e)

  module _ (e : none ≡ early_fault g t) where
    pub refused_list : (number place : ℕ) → refused number place ≡ list_fault alphas → refused number place ≡ walk_tests g S alphas buf b
    unfolding walk_tests walk_early
    refused_list number place h = rw (← et, ← e, ← h)

    pub tested_rest : none ≡ list_fault alphas → (room : Bool) → room ≡ (room_twice g.shape.p buf and roomy g.shape t b) → (f : Fault)
        → f ≡ sized_fault g room → f ≡ walk_tests g S alphas buf b
    unfolding walk_tests walk_early
    tested_rest k room er f ef =
        ef ∙ rw (er, ap (λ (t : Settings). roomy g.shape t b) et, room_alpha g S b #0, ← et, ← e, ← k)
