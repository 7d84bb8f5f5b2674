-- A run that comes to a number that is not finite breaks off there: the test of that number fails, so its visit or check breaks off, then the epoch, the
-- turn and the run, and the solve is given up. Assumes nothing.
use mathlib.Core.Path.{◌≡◌, refl, sym}
use mathlib.Core.Bool.{false}
use mathlib.Core.List.{List}
use Prim.Native.Nat.{ℕ, ◌+◌}
use native.Mathlib.Omega.{arith}
use borrow.Author.Tests.{ne_eqb}
use lib.Dec.{eqb}
use lib.ListN.{length, get_or}
use lib.Ieee.{Float, le}
use Rattle.doubles.specs.Num.{finite}
use Rattle.doubles.specs.Steps.{bad}
use Rattle.doubles.proofs.Laws.Steps.{upto-over}
use Rattle.doubles.proofs.Laws.Ends.{first-fails, second-fails, neither_holds, all_fail}
use Rattle.definition.specs.Epoch.{Task, Point, gradient_of, known, all_known, known_in, moved_finite, fine, visit, visits}
use Rattle.definition.specs.Run.{Inner, accelerated, checked, settled, epoch, epochs, State, iteration, turn, start, run}
use Rattle.definition.specs.Call.{given_up, solved}
use Rattle.definition.specs.declared.Settings.{Settings}
use Rattle.endings.specs.NotFinite as NotFinite
use Rattle.endings.specs.NotFinite.{set_at, worst_at, difference}
use Rattle.endings.specs.NotFinite.{NotFinite, Turns, Iterates, Epochs, Visited, Checked, Looked, at-check, at-visit, of_turn, of_epoch}
use Rattle.endings.proofs.Laws.Changed.{changed_broken}

module _ (T : Task) (y : List Float) (S : Settings) where
  abbrev Breaks : Type 0
  Breaks = solved T y S ≡ given_up 7 0

  -- ---- from the inside out
  run_breaks : run T y S ≡ bad → Breaks
  unfolding solved
  run_breaks e = rw e

  turn_breaks : {t : ℕ} {s : State} → Turns T y S t s → turn T y S t s ≡ bad → Breaks
  unfolding run
  turn_breaks {t} {s} at e =
      run_breaks (sym (upto-over (turn T y S) (start T S) t (S.iterations + 1) s bad (sym at.reached) (sym e) refl (omega (arith, at.inside))))

  epochs_break : {t : ℕ} {s : State} → Iterates T y S t s → epochs T y S (set_at T S s) (worst_at T s) s.inner ≡ bad → Breaks
  unfolding turn iteration
  epochs_break {t} {s} at e =
      let before : eqb t S.iterations ≡ false = ne_eqb t S.iterations (λ q. omega (arith, q, at.more)) in
      turn_breaks at.turns (rw (at.known, neither_holds (le (worst_at T s) S.tolerance) (eqb t S.iterations) at.above before, e))

  module _ {s : State} {e : ℕ} {i : Inner} (at : Epochs T y S s e i) where
    epoch_breaks : epoch T y S (set_at T S s) (worst_at T s) e i ≡ bad → Breaks
    unfolding epochs
    epoch_breaks b =
        epochs_break at.iterates
        (sym (upto-over (epoch T y S (set_at T S s) (worst_at T s)) s.inner e S.epochs i bad (sym at.reached) (sym b) refl at.inside))

    visits_break : visits T (set_at T S s) i.point ≡ bad → Breaks
    unfolding epoch
    visits_break v = epoch_breaks (rw v)

  -- ---- a visit, and a check
  fine_breaks : {q : Point} {j : ℕ} → Visited T y S q j → fine T q j ≡ false → Breaks
  unfolding visits visit
  fine_breaks (NotFinite.visited {s = s} {i = i} at place l {q = q} r z) e =
      visits_break at
      (sym (upto-over (λ k. visit T (get_or (set_at T S s) k 0)) i.point place (length (set_at T S s)) q bad (sym r) (rw (z, e)) refl l))

  known_breaks : {q : Point} {j : ℕ} → Checked T y S q j → known T q.weights q.fit j ≡ false → Breaks
  unfolding turn all_known epoch settled checked known_in
  known_breaks (of_turn {s = s} at j l) e = turn_breaks at (rw (all_fail (known T s.inner.point.weights s.inner.point.fit) T.p j l e))
  known_breaks (of_epoch {s = s} {e = n} {i = i} at c {q = q} v place l) e =
      let p = (accelerated T y S (set_at T S s) n i q).point in
      epoch_breaks at (rw (v, c, all_fail (λ k. known T p.weights p.fit (get_or (set_at T S s) k 0)) (length (set_at T S s)) place l e))

  -- ---- the number
  gradient_breaks : {q : Point} {j : ℕ} → Looked T y S q j → finite (gradient_of T q.fit j) ≡ false → Breaks
  unfolding known fine
  gradient_breaks (at-check c) e = known_breaks c (first-fails _ _ e)
  gradient_breaks (at-visit v) e = fine_breaks v (first-fails _ _ e)

  fit_breaks : {q : Point} {j : ℕ} → Visited T y S q j → moved_finite T.X j (difference T q j) q.fit ≡ false → Breaks
  unfolding fine
  fit_breaks v e = fine_breaks v (second-fails _ _ (second-fails _ _ e))

  pub solved_breaks : NotFinite T y S → Breaks
  unfolding known fine
  solved_breaks (NotFinite.gradient a e) = gradient_breaks a e
  solved_breaks (NotFinite.violation c e) = known_breaks c (second-fails _ _ e)
  solved_breaks (NotFinite.weight v e) = fine_breaks v (second-fails _ _ (first-fails _ _ e))
  solved_breaks (NotFinite.fit {q = q} {j = j} v z k l e) = fit_breaks v (changed_broken T.X j (difference T q j) q.fit z k l e)
