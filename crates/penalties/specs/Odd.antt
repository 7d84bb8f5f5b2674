-- What demand 3 needs of a penalty, and all that crates above cite of its signs: a new penalty, or another way to compute a prox, proves
-- this record again, and reopens nothing above. The step is an inverse that refusal 7 let pass: finite and not negative.
use Rattle.std.specs.Prelude.{◌≡◌, Bool, true, false, List, ℕ, Float}
use Rattle.std.specs.Float.Ieee.{lt}
use Rattle.doubles.specs.Num.{#0, finite}
use Rattle.doubles.specs.Sign.{Turned, Signs}
use Rattle.penalties.specs.Penalty as penalty
use Rattle.penalties.specs.declared.separable.Penalty.{Penalty}

pub record Odd (p : Penalty) : Type 0 where
  -- the prox of a turned value is turned, but for a zero's sign
  pub prox : {s : Bool} {v v' : Float} (step : Float) → finite step ≡ true → lt step #0 ≡ false → Turned s v v'
      → Turned s (penalty.prox p v step) (penalty.prox p v' step)
  -- the violation is the same where weight and gradient turn together
  pub violation : {s : Bool} {w w' g g' : Float} → Turned s w w' → Turned s g g' → penalty.violation p w g ≡ penalty.violation p w' g'
  -- the value is the same whichever weights turn
  pub value : {s : ℕ → Bool} {w w' : List Float} → Signs s w w' → penalty.value p w ≡ penalty.value p w'
