-- The scratch before the run: where all of it is zero, no row is kept. Assumes nothing.
use mathlib.Core.Path.{◌≡◌, refl, ap, ◌∙◌}
use mathlib.Core.Bool.{Bool, true, false}
use Prim.Native.Nat.{suc, ◌*◌, ◌-◌}
use native.Mathlib.Omega.{arith}
use mathlib.Core.List.{List, []}
use lib.ListN.{length, take, drop}
use lib.Ieee.{Float}
use Rattle.doubles.specs.Num.{#0, pick}
use Rattle.doubles.specs.Steps.{zeros}
use Rattle.doubles.proofs.Laws.Steps.{steps-none}
use Rattle.doubles.proofs.Laws.Parts.{same_drop, same-take}
use Rattle.definition.specs.declared.problem.Problem.{Problem}
use Rattle.extrapolation.specs.Inner.Places.{kept_in}
use Rattle.extrapolation.proofs.Laws.Scratch.{old_behind, room_split}
use Rattle.epochs.specs.Inner.Reading.{kept_here, Ready}
use Rattle.epochs.proofs.Laws.Ready.{room_on}
use Rattle.iterations.specs.Inner.Reading.{nothing_kept}

module _ {P : Problem} {w fit scratch : List Float} (R : Ready P w fit scratch) (z : List Float) (ez : z ≡ zeros (length scratch)) where
  rows-zero : P.settings.extrapolate ≡ true → kept_in P.x.matrix.shape P.settings.depth z ≡ zeros (suc P.settings.depth * P.x.matrix.shape.p)
  unfolding kept_in
  rows-zero on =
      let K = P.settings.depth in
      let s = P.x.matrix.shape in
      let n = R.room ∙ room_on s P.settings on in
      let r = room_split K s.p s.n in
      let b = old_behind K s.p in
      ap (λ (l : List Float). take (suc K * s.p) (drop s.p l)) ez
      ∙ ap (take (suc K * s.p)) (same_drop #0 s.p (length scratch))
      ∙ same-take #0 (suc K * s.p) (length scratch - s.p) (omega arith)

  pub cleared-kept : kept_here P z ≡ nothing_kept P
  unfolding kept_here
  cleared-kept = go P.settings.extrapolate refl
    where
      go : (b : Bool) → P.settings.extrapolate ≡ b
          → pick b (kept_in P.x.matrix.shape P.settings.depth z) [] ≡ zeros (pick b (suc P.settings.depth * P.x.matrix.shape.p) 0)
      go true on = rows-zero on
      go false off = steps-none _ _
