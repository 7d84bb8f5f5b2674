-- A solve's and a walk's answer in numbers, by their cases; and a code that is no penalty's: it is refused behind every other setting, and its prox is NaN.
-- Assumes nothing.
use mathlib.Core.Path.{◌≡◌, refl, sym}
use mathlib.Core.Bool.{Bool, true, false}
use mathlib.Core.List.{List}
use Prim.Native.Nat.{ℕ, ◌<◌}
use native.Mathlib.Omega.{arith}
use borrow.Author.Tests.{ne_eqb}
use lib.Dec.{leb}
use lib.Ieee.{Float, nan, lt, le, eq, of_bits}
use Rattle.doubles.specs.Num.{◌and◌}
use Rattle.doubles.specs.Answer.{Outcome, refused, Fault, none, unless_at, ◌then◌}
use Rattle.penalties.specs.Penalty.{alpha_legal, ratio_legal, second_legal, penalty_fault}
use Rattle.penalties.proofs.Numbers.{prox_of-nan}
use Rattle.designs.specs.Design.{dense_shape, csc_shape, nothing}
use Rattle.designs.specs.Given.{Given, given, handed}
use Rattle.designs.specs.declared.Matrix.{Matrix}
use Rattle.std.proofs.Common.{Bor}
use Rattle.definition.specs.Call.{Lent, solve_call, solve_left, start_legal, depth_legal, settings_fault}
use Rattle.definition.specs.Walk.{walk_call, walk_left, walk_numbers}
use Rattle.definition.specs.declared.Report.{Report}
use Rattle.definition.specs.declared.Settings.{Settings}
use Rattle.definition.specs.declared.Usable.{Usable}
use Rattle.plain_numbers.specs.Codes.{number_in, place_in, ReportNumbers, report_in, UsableNumbers, usable_in}
use Rattle.plain_numbers.specs.Codes.{no_penalty, coded_penalty, coded_prox, coded_settings, reply, solve_reply, told, walk_reply}

-- ---- a fault in numbers is that of the equal one
pub same-told : {a f : Fault} {number place : ℕ} → a ≡ f → (number ≡ number_in a) × (place ≡ place_in a)
    → (number ≡ number_in f) × (place ≡ place_in f)
same-told e h = rw (← e) h

-- ---- a design made of its parts, and its targets, as they are given
pub dense_given : (x : Matrix) {n p : ℕ} {v : Bor (List Float)} (y : List Float)
    → (x.shape ≡ dense_shape n p) × (x.starts.now ≡ nothing) × (x.rows.now ≡ nothing) × (x.values ≡ v)
    → handed x y ≡ given (dense_shape n p) nothing nothing v.now y
dense_given x y h = rw (h.0, h.1, h.2, h.3)

pub csc_given : (x : Matrix) {n p : ℕ} {s r : Bor (List ℕ)} {v : Bor (List Float)} (y : List Float)
    → (x.shape ≡ csc_shape n p) × (x.starts ≡ s) × (x.rows ≡ r) × (x.values ≡ v)
    → handed x y ≡ given (csc_shape n p) s.now r.now v.now y
csc_given x y h = rw (h.0, h.1, h.2, h.3)

-- ---- a call that is given g with settings S, which are those promised: its answer told, and what it left, are the reply
module _ {g g' : Given} (prepared : List Float) {S S' : Settings} (b : Lent) (hg : g ≡ g') (hS : S ≡ S') where
  pub called : {o : Outcome Report} {l : Lent} {number place : ℕ} {new : ReportNumbers} (old : ReportNumbers)
      → (o ≡ solve_call g S prepared b) × (l ≡ solve_left g S prepared b)
      → (number ≡ number_in o) × (place ≡ place_in o) × (new ≡ report_in o old)
      → reply number place new l ≡ solve_reply g' S' prepared b old
  unfolding solve_reply
  called old done told = rw (← hg, ← hS, ← done.0, ← done.1, told.0, told.1, told.2)

  -- and a walk
  pub walked : {o : Outcome Usable} {l : Lent} {numbers : List Float} {number place : ℕ} {new : UsableNumbers} (alphas : List Float) (most : ℕ)
      (old : UsableNumbers)
      → (o ≡ walk_call g S alphas most prepared b) × (l ≡ walk_left g S alphas most prepared b) × (numbers ≡ walk_numbers g S alphas prepared b)
      → (number ≡ number_in o) × (place ≡ place_in o) × (new ≡ usable_in o old)
      → told number place new l numbers ≡ walk_reply g' S' alphas most prepared b old
  unfolding walk_reply
  walked alphas most old done said = rw (← hg, ← hS, ← done.0, ← done.1, ← done.2, said.0, said.1, said.2)

-- ---- what follows a chain of tests follows its last
last_then : (b : Bool) (g : Fault) → unless_at b 2 5 g ≡ (unless_at b 2 5 none then g)
last_then true g = refl
last_then false g = refl

tests_then : (a b c d e : Bool) (f g : Fault)
    → (unless_at a 2 0 (unless_at b 2 1 (unless_at c 2 2 (unless_at d 2 3 (unless_at e 2 4 f)))) then g)
    ≡ unless_at a 2 0 (unless_at b 2 1 (unless_at c 2 2 (unless_at d 2 3 (unless_at e 2 4 (f then g)))))
tests_then false b c d e f g = refl
tests_then true false c d e f g = refl
tests_then true true false d e f g = refl
tests_then true true true false e f g = refl
tests_then true true true true false f g = refl
tests_then true true true true true f g = refl

-- ---- a code that is no penalty's
module _ (code : ℕ) (alpha second : Float) (unknown : 2 < code) where
  no_penalty_lem : coded_penalty code alpha second ≡ no_penalty alpha
  unfolding coded_penalty
  no_penalty_lem = rw (ne_eqb code 0 (λ z. omega (arith, z)), ne_eqb code 1 (λ z. omega (arith, z)), ne_eqb code 2 (λ z. omega (arith, z)))

  -- its prox is NaN
  pub no_prox : (v step : Float) → coded_prox code alpha second v step ≡ nan
  unfolding coded_prox
  no_prox v step = rw no_penalty_lem (prox_of-nan alpha v step)

  -- it is refused as L1 is with the same alpha, and where that is not, with 2 at 6
  pub no_range : penalty_fault (coded_penalty code alpha second) ≡ (penalty_fault (coded_penalty 0 alpha second) then refused 2 6)
  unfolding penalty_fault second_legal ratio_legal le lt eq of_bits ◌and◌
  no_range = rw no_penalty_lem (unfold coded_penalty in last_then (alpha_legal alpha) (refused 2 6))

  pub no_settings : (tolerance : Float) (start iterations epochs extrapolate depth : ℕ)
      → settings_fault (coded_settings code alpha second tolerance start iterations epochs extrapolate depth)
      ≡ (settings_fault (coded_settings 0 alpha second tolerance start iterations epochs extrapolate depth) then refused 2 6)
  unfolding coded_settings settings_fault start_legal depth_legal
  no_settings tolerance start iterations epochs extrapolate depth =
      let as_l1 = coded_settings 0 alpha second tolerance start iterations epochs extrapolate depth in
      rw no_range
      (sym (tests_then (leb iterations 1000) (leb epochs 100000) (start_legal as_l1) (depth_legal as_l1) (alpha_legal tolerance)
      (penalty_fault (coded_penalty 0 alpha second)) (refused 2 6)))
