-- One epoch, from what its parts answer to its definition. Assumes nothing.
use mathlib.Core.Path.{◌≡◌, refl, ap, ◌∙◌}
use mathlib.Core.Bool.{Bool, true, false}
use Prim.Native.Nat.{ℕ, ◌+◌, ◌≤◌}
use native.Mathlib.Nat.{le_of_eq, le_trans, le_refl}
use native.Mathlib.Omega.{arith}
use mathlib.Core.List.{List}
use lib.Dec.{eqb}
use lib.ListN.{length}
use lib.Ieee.{Float, le, lt}
use Rattle.std.specs.Prelude.{Result, Ok, Err}
use Rattle.doubles.specs.declared.NotFinite.{NotFinite}
use Rattle.doubles.specs.Num.{◌⊗◌, pick}
use Rattle.doubles.specs.Steps.{Stage, going, stopped, bad}
use Rattle.doubles.proofs.Laws.Steps.{picked, not_picked}
use Rattle.elimination.specs.Elimination.{eliminated, regular, read_off}
use Rattle.definition.specs.Epoch.{Task, Point, known_in, worst_in, visits}
use Rattle.definition.specs.Extrapolation.{Tried, keeps, better, chosen, candidate_of, system, from_system, extrapolate, due, tried}
use Rattle.definition.specs.Run.{Inner, #0·3, accelerated, enough, checked, checks, settled, epoch}
use Rattle.definition.specs.declared.Settings.{Settings}
use Rattle.definition.specs.declared.problem.Problem.{Problem}
use Rattle.definition.specs.Inner.Problem.{task_in}
use Rattle.extrapolation.specs.Inner.Places.{kept_in, kept_then, point_with, tried_of}
use Rattle.visits.specs.Inner.Reading.{measured_in}
use Rattle.epochs.specs.Inner.Reading.{kept_here, inner_of, counts_of}
use Rattle.epochs.specs.declared.Counts.{Counts}
use Rattle.epochs.specs.declared.Pace.{Pace}
use Rattle.epochs.specs.declared.Pace.TheVariants.{Going, Stopped}

-- ---- at most one extrapolation is accepted
module _ (T : Task) (y : List Float) (K : ℕ) (ws : List ℕ) (kept : List Float) (s : Point) where
  chosen-few : (new : Point) → (chosen T y new s).taken ≤ 1
  unfolding chosen
  chosen-few new = go (better T y new s)
    where
      go : (b : Bool) → (pick b (record { point = new; taken = 1 }) (keeps s)).taken ≤ 1
      go true = le_refl 1
      go false = omega arith

  tried-few : (e : ℕ) → (tried T y K e ws kept s).taken ≤ 1
  unfolding tried extrapolate from_system
  tried-few e = let m = eliminated K (system K T.p (length ws) kept) in go (due K e) (regular K m) (candidate_of T K ws kept (read_off K m))
    where
      go : (b r : Bool) (new : Point) → (pick b (pick r (chosen T y new s) (keeps s)) (keeps s)).taken ≤ 1
      go true true new = chosen-few new
      go true false new = omega arith
      go false r new = omega arith

  pub taken-few : (e r : ℕ) (w fit : List Float) → tried_of r w fit ≡ tried T y K e ws kept s → r ≤ 1
  taken-few e r w fit q = le_trans (le_of_eq (ap (λ (t : Tried). t.taken) q)) (tried-few e)

-- ---- the extrapolation
module _ (P : Problem) (ws : List ℕ) (e : ℕ) (c : Counts) where
  pub accelerated_on : (w fit w' fit' scratch scratch' : List Float) (r : ℕ) → P.settings.extrapolate ≡ true
      → (tried_of r w' fit'
      ≡ tried (task_in P) P.y.now P.settings.depth e ws (kept_then P.x.matrix.shape P.settings.depth e ws w scratch) (point_with w fit))
      × (kept_in P.x.matrix.shape P.settings.depth scratch' ≡ kept_then P.x.matrix.shape P.settings.depth e ws w scratch)
      → inner_of (record { epochs = c.epochs + 1; extrapolations = c.extrapolations + r }) w' fit' (kept_here P scratch')
      ≡ accelerated (task_in P) P.y.now P.settings ws e (inner_of c w fit (kept_here P scratch)) (point_with w fit)
  unfolding accelerated kept_here
  accelerated_on w fit w' fit' scratch scratch' r on t = rw (on, ← t.0, t.1)

  pub accelerated_off : (w fit scratch : List Float) → P.settings.extrapolate ≡ false
      → inner_of (record { epochs = c.epochs + 1; extrapolations = c.extrapolations }) w fit (kept_here P scratch)
      ≡ accelerated (task_in P) P.y.now P.settings ws e (inner_of c w fit (kept_here P scratch)) (point_with w fit)
  unfolding accelerated kept_here
  accelerated_off w fit scratch off = let z : c.extrapolations + 0 ≡ c.extrapolations = omega arith in rw (off, z)

-- ---- the check
module _ (T : Task) (S : Settings) (ws : List ℕ) (outer : Float) (s : Inner) where
  pub checked-bad : bad ≡ measured_in T ws s.point.weights s.point.fit → bad ≡ checked T S ws outer s
  unfolding checked measured_in
  checked-bad e = let h = not_picked (known_in T ws s.point.weights s.point.fit) (worst_in T ws s.point.weights s.point.fit) e in rw h

  -- v is the working set's largest violation, and r says whether it is enough
  module _ (v : Float) (e : going v ≡ measured_in T ws s.point.weights s.point.fit) (t r : Bool)
      (et : t ≡ eqb (length ws) T.p) (er : r ≡ pick t (le v S.tolerance) (lt v (#0·3 ⊗ outer))) where
    found : (known_in T ws s.point.weights s.point.fit ≡ true) × (v ≡ worst_in T ws s.point.weights s.point.fit)
    unfolding measured_in
    found = picked (known_in T ws s.point.weights s.point.fit) (worst_in T ws s.point.weights s.point.fit) v e

    by-enough : pick r (stopped s) (going s) ≡ checked T S ws outer s
    unfolding checked enough
    by-enough = rw (found.0, ← found.1, ← et, ← er)

    pub checked_stops : r ≡ true → stopped s ≡ checked T S ws outer s
    checked_stops h = rw h at by-enough

    pub checked_goes : r ≡ false → going s ≡ checked T S ws outer s
    checked_goes h = rw h at by-enough

-- the check counts nothing
pub counts-checked : (r : Result (Pace Counts) NotFinite) (c a : Counts) → counts_of r a ≡ a → a.epochs ≤ c.epochs + 1
    → a.extrapolations ≤ c.extrapolations + 1
    → ((counts_of r c).epochs ≤ c.epochs + 1) × ((counts_of r c).extrapolations ≤ c.extrapolations + 1)
counts-checked (Ok (Going d)) c a e h k = (rw e h, rw e k)
counts-checked (Ok (Stopped d)) c a e h k = (rw e h, rw e k)
counts-checked (Err x) c a e h k = (omega arith, omega arith)

-- ---- the epoch
module _ (T : Task) (y : List Float) (S : Settings) (ws : List ℕ) (outer : Float) (e : ℕ) (c : Counts) where
  -- what was counted and kept goes on, whatever the point was
  accelerated-from : (a b : Point) (kept : List Float) (q : Point)
      → accelerated T y S ws e (record { point = a; kept = kept; epochs = c.epochs; extrapolations = c.extrapolations }) q
      ≡ accelerated T y S ws e (record { point = b; kept = kept; epochs = c.epochs; extrapolations = c.extrapolations }) q
  unfolding accelerated
  accelerated-from a b kept q = refl

  pub epoch-bad : (w fit kept : List Float) → bad ≡ visits T ws (point_with w fit) → bad ≡ epoch T y S ws outer e (inner_of c w fit kept)
  unfolding epoch
  epoch-bad w fit kept v = rw (← v)

  module _ (w fit w₁ fit₁ kept : List Float) (v : going (point_with w₁ fit₁) ≡ visits T ws (point_with w fit)) (after : Counts)
      (w₂ fit₂ kept₂ : List Float) (a : inner_of after w₂ fit₂ kept₂ ≡ accelerated T y S ws e (inner_of c w₁ fit₁ kept) (point_with w₁ fit₁)) where
    pub epoch-settled : settled T S ws outer e (inner_of after w₂ fit₂ kept₂) ≡ epoch T y S ws outer e (inner_of c w fit kept)
    unfolding epoch
    epoch-settled = rw (← v, a, accelerated-from (point_with w fit) (point_with w₁ fit₁) kept (point_with w₁ fit₁))

    pub epoch_unchecked : (b : Bool) → b ≡ checks e → b ≡ false → going (inner_of after w₂ fit₂ kept₂) ≡ epoch T y S ws outer e (inner_of c w fit kept)
    unfolding settled
    epoch_unchecked b eb hb = rw (← eb, hb) at epoch-settled

    pub epoch-checked : (b : Bool) → b ≡ checks e → b ≡ true → (x : Stage Inner) → x ≡ checked T S ws outer (inner_of after w₂ fit₂ kept₂)
        → x ≡ epoch T y S ws outer e (inner_of c w fit kept)
    unfolding settled
    epoch-checked b eb hb x ex = ex ∙ (rw (← eb, hb) at epoch-settled)
