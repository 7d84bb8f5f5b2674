-- One turn of the outer loop, from what its parts answer to its definition. Assumes nothing.
use mathlib.Core.Path.{◌≡◌, refl, sym, ap, ◌∙◌}
use mathlib.Core.Logic.{◌⊎◌, inl, inr}
use mathlib.Core.Bool.{Bool, true, false}
use Prim.Native.Nat.{ℕ, ◌+◌, ◌-◌, ◌≤◌, ◌<◌}
use native.Mathlib.Nat.{le_of_eq, le_trans}
use native.Mathlib.Omega.{arith}
use mathlib.Core.List.{List, [], ◌∷◌, ◌++◌}
use lib.Dec.{eqb}
use lib.ListN.{length, take, drop, length-append, length-drop}
use lib.Seq.{take_at, drop_at}
use lib.Ieee.{Float, nan, le}
use borrow.Author.Tests.{eq-eqb, ne_eqb}
use Rattle.std.specs.Prelude.{Result, Ok, Err}
use Rattle.doubles.specs.declared.NotFinite.{NotFinite}
use Rattle.doubles.specs.Num.{pick, finite, ◌or◌}
use Rattle.doubles.specs.Steps.{Stage, going, stopped, bad, and_then, tab}
use Rattle.doubles.proofs.Laws.Steps.{get_or-tab, all-each, picked, not_picked}
use Rattle.doubles.proofs.Laws.Choice.{and_both, smaller_most}
use Rattle.definition.specs.WorkingSet.{smaller, size, working_set, padded}
use Rattle.definition.specs.Epoch.{Task, gradient_of, violation_of, known, all_known, violations, worst}
use Rattle.definition.specs.Run.{State, epochs, chosen_set, iteration, turn}
use Rattle.definition.specs.Call.{concluded}
use Rattle.definition.specs.declared.Settings.{Settings}
use Rattle.definition.specs.declared.problem.Problem.{Problem}
use Rattle.definition.specs.Inner.Problem.{task_in}
use Rattle.extrapolation.specs.Inner.Places.{kept_in, point_with}
use Rattle.selection.specs.Inner.Heap.{Numbers}
use Rattle.worksets.proofs.Laws.Sets.{size_most, length-working_set, working_set-each}
use Rattle.visits.specs.Inner.Reading.{Measured, measured}
use Rattle.epochs.specs.Inner.Reading.{kept_here, inner_of, inner_stage, counts_of, Features}
use Rattle.iterations.specs.Inner.Reading.{state_of, at_violation, outer_stage, sets_of, shows, shows_end, violations_in, Totalled, Grown}
use Rattle.epochs.specs.declared.Counts.{Counts}
use Rattle.iterations.specs.declared.Totals.{Totals}
use Rattle.epochs.specs.declared.Pace.{Pace}
use Rattle.epochs.specs.declared.Pace.TheVariants.{Going, Stopped}

-- ---- the working set
pub start_most : (a n m k : ℕ) → k ≡ smaller a n → m ≡ n → k ≤ m
start_most a n m k e h = rw (e, h) (smaller_most a n)

-- the places that the set was built in
module _ (start : ℕ) (v w : List Float) (h : start ≤ length w) (many : ℕ) (l : List ℕ) (em : many ≡ size start w)
    (el : l ≡ padded (working_set start v w) (length w)) where
  pub set_built : take many l ≡ working_set start v w
  unfolding padded
  set_built = rw el (take_at (working_set start v w) (tab (λ k. 0) (length w - length (working_set start v w))) many (length-working_set start w h v ∙ sym em))

  pub set_most : many ≤ length w
  set_most = le_trans (le_of_eq em) (size_most start w h)

  pub set-features : (P : Problem) → length w ≡ P.x.matrix.shape.p → Features P (take many l)
  set-features P e = record {
    few = rw (set_built, ← e) (le_trans (le_of_eq (length-working_set start w h v)) (size_most start w h));
    below = rw (set_built, ← e) (working_set-each start w h v);
  }

-- it is the one of the definition
pub set-chosen : (T : Task) (S : Settings) (w fit v : List Float) (start : ℕ) (ws : List ℕ) → start ≡ smaller S.start T.p → v ≡ violations T w fit
    → ws ≡ working_set start v w → ws ≡ chosen_set T S (point_with w fit)
unfolding chosen_set
set-chosen T S w fit v start ws es ev e = e ∙ rw (es, ev)

-- every violation is finite where all are known
pub numbers-known : (T : Task) (w fit v : List Float) → v ≡ violations T w fit → all_known T w fit ≡ true → length w ≡ T.p → Numbers v w
unfolding violations all_known known
numbers-known T w fit v e k n = record { each = λ j h z. rw (e, get_or-tab (violation_of T w fit) T.p j nan (rw n at h)) (one j (rw n at h)) }
  where
    one : (j : ℕ) → j < T.p → finite (violation_of T w fit j) ≡ true
    one j h = (and_both (finite (gradient_of T fit j)) (finite (violation_of T w fit j)) (all-each (known T w fit) T.p k j h)).1

-- ---- one iteration
module _ (T : Task) (y : List Float) (S : Settings) (v : Float) (c : Totals) (w fit kept : List Float) (ws : List ℕ)
    (es : ws ≡ chosen_set T S (point_with w fit)) (r : Result (Pace Counts) NotFinite) (w' fit' kept' : List Float)
    (left : (inner_stage r w' fit' kept' ≡ epochs T y S ws v (inner_of c.counts w fit kept))
    × ((counts_of r c.counts).epochs ≤ c.counts.epochs + 100000) × ((counts_of r c.counts).extrapolations ≤ c.counts.extrapolations + 100000)) where
  iterated : (sets : List (List ℕ)) → iteration T y S v (state_of c w fit kept sets)
      ≡ and_then (inner_stage r w' fit' kept') (λ i. going (record { inner = i; violation = v; iterations = c.iterations + 1; sets = sets ++ (ws ∷ []) }))
  unfolding iteration
  iterated sets = rw (← es, ← left.0)

  -- its epochs ended well, early or not, and d was counted
  module _ (p : Pace Counts) (e : r ≡ Ok p) (x d : Counts) (ex : x ≡ d) where
    abbrev now : Totals
    now = record { violation = v; iterations = c.iterations + 1; counts = x }

    abbrev Now : List (List ℕ) → Stage State
    Now sets = iteration T y S v (state_of c w fit kept sets)

    pub iterated_well : (p ≡ Going d) ⊎ (p ≡ Stopped d)
        → ((sets : List (List ℕ)) → outer_stage (Ok (Going now)) w' fit' kept' (sets_of (Now sets)) ≡ Now sets) × Grown c now
    iterated_well (inl h) =
        let a = rw (e, h) at left.1 in
        let b = rw (e, h) at left.2 in
        (λ sets. rw (iterated sets, e, h, ex), record { iterations = omega arith; epochs = rw ex a; extrapolations = rw ex b })
    iterated_well (inr h) =
        let a = rw (e, h) at left.1 in
        let b = rw (e, h) at left.2 in
        (λ sets. rw (iterated sets, e, h, ex), record { iterations = omega arith; epochs = rw ex a; extrapolations = rw ex b })

  pub shown_bad : (x : NotFinite) → r ≡ Err x → (sets : List (List ℕ)) → bad ≡ iteration T y S v (state_of c w fit kept sets)
  shown_bad x e sets = rw (iterated sets, e)

-- ---- the check of all features writes the scratch's first p places, in which vs came back
module _ (P : Problem) (l vs : List Float) (long : length vs ≡ P.x.matrix.shape.p) where
  abbrev p : ℕ
  p = P.x.matrix.shape.p

  pub violations-read : violations_in P (vs ++ drop p l) ≡ vs
  violations-read = take_at vs (drop p l) p long

  pub kept-measured : kept_here P (vs ++ drop p l) ≡ kept_here P l
  unfolding kept_here kept_in
  kept-measured = rw (drop_at vs (drop p l) p long)

  pub long_as_before : p ≤ length l → length (vs ++ drop p l) ≡ length l
  long_as_before h =
      let a = length-append vs (drop p l) in
      let b = length-drop p l in
      omega arith

-- ---- the turn
or-true : (b : Bool) → (b or true) ≡ true
unfolding ◌or◌
or-true true = refl
or-true false = refl

module _ (T : Task) (w fit : List Float) (v : Float) (vs : List Float) (e : going (record { largest = v; violations = vs }) ≡ measured T w fit) where
  found : (all_known T w fit ≡ true) × ◌≡◌ {A = Measured} (record { largest = v; violations = vs })
      (record { largest = worst T w fit; violations = violations T w fit })
  unfolding measured
  found = picked (all_known T w fit) _ _ e

  pub found-known : all_known T w fit ≡ true
  found-known = found.0

  pub found-violations : vs ≡ violations T w fit
  found-violations = ap (λ (x : Measured). x.violations) found.1

  found-largest : v ≡ worst T w fit
  found-largest = ap (λ (x : Measured). x.largest) found.1

module _ (T : Task) (y : List Float) (S : Settings) (t : ℕ) (c : Totals) (w fit kept : List Float) (sets : List (List ℕ)) where
  pub turn-bad : bad ≡ measured T w fit → bad ≡ turn T y S t (state_of c w fit kept sets)
  unfolding turn measured
  turn-bad e = let h = not_picked (all_known T w fit) _ e in rw h

  -- the check ends the run at v, or an iteration follows
  module _ (v : Float) (vs : List Float) (e : going (record { largest = v; violations = vs }) ≡ measured T w fit) where
    by_last : turn T y S t (state_of c w fit kept sets)
        ≡ pick (le v S.tolerance or eqb t S.iterations) (stopped (state_of (at_violation v c) w fit kept sets))
        (iteration T y S v (state_of c w fit kept sets))
    unfolding turn
    by_last = rw ((found T w fit v vs e).0, ← found-largest T w fit v vs e)

    pub turn-met : le v S.tolerance ≡ true → turn T y S t (state_of c w fit kept sets) ≡ stopped (state_of (at_violation v c) w fit kept sets)
    unfolding ◌or◌
    turn-met h = rw h at by_last

    pub turn-ends : t ≡ S.iterations → turn T y S t (state_of c w fit kept sets) ≡ stopped (state_of (at_violation v c) w fit kept sets)
    turn-ends h = rw (eq-eqb t S.iterations h, or-true (le v S.tolerance)) at by_last

    pub turn-iterates : le v S.tolerance ≡ false → t < S.iterations
        → turn T y S t (state_of c w fit kept sets) ≡ iteration T y S v (state_of c w fit kept sets)
    unfolding ◌or◌
    turn-iterates h l = rw (h, ne_eqb t S.iterations (λ q. omega (arith, q))) at by_last

-- what a turn shows, over what the check left of the scratch l
module _ (P : Problem) (t : ℕ) (c : Totals) (w fit l vs : List Float) (v : Float) (long : length vs ≡ P.x.matrix.shape.p)
    (e : going (record { largest = v; violations = vs }) ≡ measured (task_in P) w fit) (sets : List (List ℕ)) where
  abbrev left : List Float
  left = vs ++ drop P.x.matrix.shape.p l

  abbrev Turn : Stage State
  Turn = turn (task_in P) P.y.now P.settings t (state_of c w fit (kept_here P l) sets)

  pub turn_stops : le v P.settings.tolerance ≡ true → shows P (Ok (Stopped (at_violation v c))) w fit left Turn
  turn_stops h = rw (turn-met (task_in P) P.y.now P.settings t c w fit (kept_here P l) sets v vs e h, kept-measured P l vs long)

  pub last_stops : t ≡ P.settings.iterations → shows_end P (Ok (at_violation v c)) w fit left (concluded Turn)
  last_stops h = rw (turn-ends (task_in P) P.y.now P.settings t c w fit (kept_here P l) sets v vs e h, kept-measured P l vs long)

  -- the iteration that follows is run on what the check left
  pub turn_goes_on : le v P.settings.tolerance ≡ false → t < P.settings.iterations → (r : Result (Pace Totals) NotFinite) (w' fit' scratch' : List Float)
      → shows P r w' fit' scratch' (iteration (task_in P) P.y.now P.settings v (state_of c w fit (kept_here P left) sets))
      → shows P r w' fit' scratch' Turn
  turn_goes_on h n r w' fit' scratch' q =
      rw (turn-iterates (task_in P) P.y.now P.settings t c w fit (kept_here P l) sets v vs e h n) (rw (kept-measured P l vs long) at q)

-- ---- what is counted
pub totalled_more : (t : ℕ) (c d : Totals) → Totalled t c → Grown c d → Totalled (t + 1) d
totalled_more t c d h g =
    let i = h.iterations in
    let e = h.counts.epochs in
    let x = h.counts.extrapolations in
    let gi = g.iterations in
    let ge = g.epochs in
    let gx = g.extrapolations in
    record { iterations = omega arith; counts = record { epochs = omega arith; extrapolations = omega arith } }

pub grown-same : (c : Totals) (v : Float) → Grown c (at_violation v c)
grown-same c v = record { iterations = omega arith; epochs = omega arith; extrapolations = omega arith }

pub grown-none : (c : Totals) → Grown c c
grown-none c = record { iterations = omega arith; epochs = omega arith; extrapolations = omega arith }

pub totalled_most : (t m : ℕ) (c : Totals) → t ≤ m → Totalled t c → Totalled m c
totalled_most t m c l h =
    let i = h.iterations in
    let e = h.counts.epochs in
    let x = h.counts.extrapolations in
    record { iterations = omega arith; counts = record { epochs = omega arith; extrapolations = omega arith } }
