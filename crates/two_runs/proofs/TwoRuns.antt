-- The law of two runs: where each step respects the relations, two runs end in the same way, at related points, with the same counts, violation and
-- working sets. Assumes nothing.
use mathlib.Core.Path.{◌≡◌, refl, sym, ap, ◌∙◌}
use mathlib.Core.Bool.{true, false≢true}
use mathlib.Core.List.{List, [], ◌∷◌, ◌++◌}
use Prim.Native.Nat.{ℕ, suc, ◌+◌, ◌*◌, ◌%◌}
use native.Mathlib.Nat.{le_trans, not-suc-le-zero, zero-mod}
use lib.Dec.{eqb}
use lib.ListN.{length}
use lib.Ieee.{Float, le}
use Rattle.doubles.specs.Num.{◌or◌}
use Rattle.doubles.specs.Steps.{upto}
use Rattle.doubles.proofs.Laws.Steps.{length-tab}
use Rattle.doubles.specs.Answer.{answered}
use Rattle.definition.specs.Epoch.{Task, Point, worst}
use Rattle.definition.specs.Extrapolation.{keeps}
use Rattle.definition.specs.declared.Settings.{Settings}
use Rattle.definition.specs.Run.{Inner, gained, accelerated, enough, checked, checks, settled, epoch, epochs}
use Rattle.definition.specs.Run.{State, chosen_set, iteration, turn, start, run}
use Rattle.definition.specs.Call.{End, solved, report_of, answer}
use Rattle.two_runs.specs.Stages.{Stages, both-going, both_stopped, both-bad, Both, Ends, both-untouched, both-given_up, both-done}
use Rattle.two_runs.specs.Alike.{Pair, first, second, Points, FeatureSet, Rows, Respects, bare, rest, Alike}
use Rattle.two_runs.proofs.Laws.Loops.{related, stages_map, upto_related, then_related, concluded_related}
use Rattle.two_runs.proofs.Laws.Points.{weights-zero, all_known_lem, worst-same, known_in_lem, worst_in_lem, chosen-same, chosen-fits, visits_related}
use Rattle.two_runs.proofs.Laws.Rows.{room-now, row_next, rows-now, tried_related}

-- ---- two states, between the epochs and within them
pub record Inners (P : Pair) (s s' : Inner) : Type 0 where
  pub points : Points P s.point s'.point
  same : bare s ≡ bare s'
  -- where extrapolation is on, there is room for all rows
  room : P.settings.extrapolate ≡ true → length s.kept ≡ suc P.settings.depth * P.p
  room' : P.settings.extrapolate ≡ true → length s'.kept ≡ suc P.settings.depth * P.p

-- at the beginning of epoch e of a working set: the rows before e's own were kept under it
pub record Under (P : Pair) (ws : List ℕ) (e : ℕ) (s s' : Inner) : Type 0 where
  pub inners : Inners P s s'
  rows : P.settings.extrapolate ≡ true → Rows P ws (e % suc P.settings.depth) s.kept s'.kept

pub record States (P : Pair) (s s' : State) : Type 0 where
  pub inner : Inners P s.inner s'.inner
  same : rest s ≡ rest s'

-- the states that an iteration and the last turn make, by name
abbrev after : State → List ℕ → Float → Inner → State
after s ws v i = record { inner = i; violation = v; iterations = s.iterations + 1; sets = s.sets ++ (ws ∷ []) }

abbrev last : State → Float → State
last s v = record { inner = s.inner; violation = v; iterations = s.iterations; sets = s.sets }

module _ (P : Pair) (H : Respects P) where
  abbrev S : Settings
  S = P.settings

  abbrev T : Task
  T = first P

  abbrev T' : Task
  T' = second P

  -- ---- within one working set
  module _ {ws : List ℕ} (C : FeatureSet P.p ws) where
    accelerated_related : (e : ℕ) {s s' : Inner} → Under P ws e s s' → {q q' : Point} → Points P q q'
        → Under P ws (suc e) (accelerated T P.y S ws e s q) (accelerated T' P.y' S ws e s' q')
    unfolding accelerated
    accelerated_related e {s} {s'} u {q} {q'} r =
        let i = u.inners in
        related (Under P ws (suc e)) {b = S.extrapolate} refl
        (λ on.
        let K = S.depth in
        let k = rows-now P K C e s.kept s'.kept r.weights (i.room on) (i.room' on) (u.rows on) in
        let t = tried_related P H on C e k r in
        record {
          inners = record {
            points = t.points;
            same = λ k. bare (gained (i.same k) [] (record { point = q; taken = t.taken k }));
            room = λ on. room-now K P.p e ws C.few q.weights s.kept (i.room on);
            room' = λ on. room-now K P.p e ws C.few q'.weights s'.kept (i.room' on);
          };
          rows = λ on. record { each = λ a l. k.each a (le_trans l (row_next K e)) };
        })
        (λ off. record {
          inners = record { points = r; same = λ k. bare (gained (i.same k) [] (keeps q)); room = i.room; room' = i.room' };
          rows = λ on. absurd (false≢true (sym off ∙ on));
        })

    module _ (outer : Float) where
      checked_related : (e : ℕ) {s s' : Inner} → Under P ws e s s' → Stages (Under P ws e) (Inners P) (checked T S ws outer s) (checked T' S ws outer s')
      unfolding checked enough
      checked_related e u =
          let r = u.inners.points in
          related (Stages (Under P ws e) (Inners P)) (known_in_lem P H r C)
          (λ k. related (Stages (Under P ws e) (Inners P)) (ap (λ (v : Float). enough T S ws outer v) (worst_in_lem P H r C))
          (λ h. both_stopped u.inners) (λ h. both-going u))
          (λ k. both-bad)

      epoch_related : (e : ℕ) (s s' : Inner) → Under P ws e s s'
          → Stages (Under P ws (suc e)) (Inners P) (epoch T P.y S ws outer e s) (epoch T' P.y' S ws outer e s')
      unfolding epoch settled
      epoch_related e s s' u =
          then_related _ _
          (λ q q' r. let a = accelerated_related e u r in
          related (Stages (Under P ws (suc e)) (Inners P)) {b = checks e} refl (λ h. checked_related (suc e) a) (λ h. both-going a))
          (visits_related P H C u.inners.points)

      -- under a new working set no row was kept yet
      begins : {s s' : Inner} → Inners P s s' → Under P ws 0 s s'
      begins u = record {
        inners = u;
        rows = λ on. record { each = λ r l. absurd (not-suc-le-zero (rw (zero-mod (suc S.depth)) at l)) };
      }

      -- the first n epochs, and all of them
      pub epochs_so_far : {s s' : Inner} → Inners P s s' → (n : ℕ)
          → Stages (Under P ws n) (Inners P) (upto (epoch T P.y S ws outer) n s) (upto (epoch T' P.y' S ws outer) n s')
      epochs_so_far u n = upto_related (Under P ws) (Inners P) _ _ n _ _ (begins u) (λ e l. epoch_related e)

      epochs_related : {s s' : Inner} → Inners P s s' → Both (Inners P) (epochs T P.y S ws outer s) (epochs T' P.y' S ws outer s')
      unfolding epochs
      epochs_related u = stages_map (λ a b v. v.inners) (λ a b v. v) (epochs_so_far u S.epochs)

  -- ---- the outer loop
  iteration_related : (v : Float) {s s' : State} → States P s s' → Both (States P) (iteration T P.y S v s) (iteration T' P.y' S v s')
  unfolding iteration
  iteration_related v {s} {s'} u =
      let r = u.inner.points in
      rw (← chosen-same P H r)
      (then_related _ _
      (λ i i' a. both-going (record { inner = a; same = λ k. rest (after (u.same k) (chosen_set T S s.inner.point) v (a.same k)) }))
      (epochs_related (chosen-fits P H r) v u.inner))

  turn_related : (t : ℕ) (s s' : State) → States P s s' → Both (States P) (turn T P.y S t s) (turn T' P.y' S t s')
  unfolding turn
  turn_related t s s' u =
      let r = u.inner.points in
      let v = worst T s.inner.point.weights s.inner.point.fit in
      rw (← worst-same P H r)
      (related (Both (States P)) (all_known_lem P H r)
      (λ k. related (Both (States P)) {b = le v S.tolerance or eqb t S.iterations} refl
      (λ h. both_stopped (record { inner = u.inner; same = λ k. rest (last (u.same k) v) }))
      (λ h. iteration_related v u))
      (λ k. both-bad))

  start_related : States P (start T S) (start T' S)
  unfolding start
  start_related = record {
    inner = record {
      points = record { weights = weights-zero P H.nothing; other = H.start };
      same = refl;
      room = λ on. rw (length-tab, on);
      room' = λ on. rw (length-tab, on);
    };
    same = refl;
  }

  -- the first t turns
  pub turns_so_far : (t : ℕ) → Both (States P) (upto (turn T P.y S) t (start T S)) (upto (turn T' P.y' S) t (start T' S))
  turns_so_far t = upto_related (λ (k : ℕ). States P) (States P) _ _ t _ _ start_related (λ k l. turn_related k)

  pub two-turns : (t : ℕ) → Both (Alike P) (upto (turn T P.y S) t (start T S)) (upto (turn T' P.y' S) t (start T' S))
  two-turns t = stages_map alike alike (turns_so_far t)
    where
      alike : (s s' : State) → States P s s' → Alike P s s'
      alike s s' u = record { points = u.inner.points; same = u.same }

-- ---- a solve
pub two_solves : (P : Pair) → Respects P → Ends (Alike P) (solved (first P) P.y P.settings) (solved (second P) P.y' P.settings)
unfolding solved run
two_solves P H = concluded_related (two-turns P H (P.settings.iterations + 1))

-- ---- the report, whatever it holds, and the answer
pub report-same : (P : Pair) (S : Settings) {s s' : State} → Alike P s s' → report_of S s ≡ report_of S s'
unfolding report_of
report-same P S u = λ k. report_of S (u.same k)

pub answer-same : (R : State → State → Type 0) (S : Settings) → ((s s' : State) → R s s' → report_of S s ≡ report_of S s') → {e e' : End}
    → Ends R e e' → answer S e ≡ answer S e'
answer-same R S h both-untouched = refl
answer-same R S h both-given_up = refl
answer-same R S h (both-done u) = ap answered (h _ _ u)
