-- Every step of a solve respects turned signs: weight j turns where its column or the targets turn, but not where both do, and the fit as the targets.
-- It is handed the same constants, and X'y turned; so gradients turn with the weights, violations and objectives are the same, and so is the system of
-- an extrapolation, whose entries are sums of products. Assumes nothing.
use mathlib.Core.Path.{◌≡◌, refl, sym, ap, ◌∙◌}
use mathlib.Core.Bool.{Bool, true, false}
use mathlib.Core.List.{List}
use Prim.Native.Nat.{ℕ, suc, ◌+◌, ◌*◌, ◌<◌}
use native.Mathlib.Omega.{arith}
use lib.ListN.{length, get_or, take}
use lib.Seq.{get_or-take}
use lib.Ieee.{Float, nan, binary64, unlike, lt, eq}
use Rattle.doubles.specs.Num.{◌⊖◌, ◌⊘◌, #0, #1, count, at, finite}
use Rattle.doubles.specs.Sign.{Turned, Signs}
use Rattle.doubles.proofs.Laws.Turned.{turned-sub, turned-over}
use Rattle.doubles.proofs.Laws.Compare.{finite-turned, eq_turned}
use Rattle.doubles.proofs.Laws.Signs.{zero-turned, turned_times, sum-turned, signs-at, signs-length}
use Rattle.doubles.proofs.Laws.Below.{div-not-below, one_not-below}
use Rattle.doubles.proofs.Laws.Ends.{or_else}
use Rattle.penalties.specs.Odd.{Odd}
use Rattle.designs.proofs.Laws.Gradients.{gradient-turned}
use Rattle.designs.specs.Design.{Design, moved_all, extrapolated, squared_error, datafit}
use Rattle.definition.specs.Epoch.{Point, constant, gradient_of, violation_of, known, new_weight, fine, visited}
use Rattle.definition.specs.Extrapolation.{U, entry, objective_of, objective, better, point_of}
use Rattle.definition.specs.Run.{State}
use Rattle.definition.specs.Call.{acceptable_at, solved, report_of}
use Rattle.definition.specs.declared.Report.{Report}
use Rattle.definition.specs.declared.Settings.{Settings}
use Rattle.definition.proofs.Laws.Handed.{accepted}
use Rattle.two_runs.specs.Stages.{Ends}
use Rattle.two_runs.specs.Alike.{Pair, first, second, Weights, Points, FeatureSet, Rows, Respects, Alike}
use Rattle.two_runs.proofs.Laws.Loops.{steps_related, ends_map}
use Rattle.two_runs.proofs.TwoRuns.{two_solves, report-same}
use Rattle.signs.specs.Turning.{HandedTurning, SameRun}
use Rattle.signs.proofs.Laws.Exact.{sum_exact, signs-each, finite-same, signs-zeros}
use Rattle.signs.proofs.Laws.Columns.{with_values, dot-turned, moved-turned, moved_by-turned, moved_finite-same}

datafit-same : {t : Bool} {y y' v v' : List Float} → Signs (λ (i : ℕ). t) y y' → Signs (λ (i : ℕ). t) v v'
    → datafit y v (length y) ≡ datafit y' v' (length y')
unfolding datafit squared_error
datafit-same {t} {y} {y'} {v} {v'} p q =
    let d : (i : ℕ) → i < length y → Turned t (at y i ⊖ at v i) (at y' i ⊖ at v' i) = λ i l. turned-sub binary64 (signs-at p i) (signs-at q i) in
    rw (← signs-length p) (ap (λ (x : Float). x ⊘ count (2 * length y)) (sum_exact (λ (i : ℕ). t) _ _ _ _ (length y) d d))

-- what demand 3 names of two runs that are alike, and their reports as a whole
abbrev pub Same : (ℕ → Bool) → Bool → Settings → State → State → Type 0
Same c t S s s' = SameRun c t S s s' × (report_of S s ≡ report_of S s')

module _ (c : ℕ → Bool) (t : Bool) (X : Design) (other : ℕ → ℕ → Float) (S : Settings) {y y' : List Float} (sy : Signs (λ (i : ℕ). t) y y')
    (entries : (j k : ℕ) → j < X.p → k < X.many j → Turned (c j) (X.value j k) (other j k)) (n : ℕ)
    {handed handed' : List Float} (numbers : HandedTurning c t X.p handed handed') where
  abbrev turning : Pair
  turning = record {
    n = n;
    p = X.p;
    penalty = S.penalty;
    settings = S;
    X = X;
    X' = with_values X other;
    prepared = take (X.p + X.p) handed;
    prepared' = take (X.p + X.p) handed';
    y = y;
    y' = y';
    weight = λ j. Turned (unlike (c j) t);
    point = λ q q'. Signs (λ (i : ℕ). t) q.fit q'.fit;
  }

  -- ---- the numbers handed over
  constants-same : (j : ℕ) → j < X.p → constant (first turning) j ≡ constant (second turning) j
  constants-same j l =
      rw (get_or-take (X.p + X.p) handed j nan (omega arith), get_or-take (X.p + X.p) handed' j nan (omega arith)) (numbers.constants j l)

  products-turned : (j : ℕ) → j < X.p → Turned (unlike (c j) t) (at (first turning).prepared (X.p + j)) (at (second turning).prepared (X.p + j))
  products-turned j l =
      rw (get_or-take (X.p + X.p) handed (X.p + j) nan (omega arith), get_or-take (X.p + X.p) handed' (X.p + j) nan (omega arith)) (numbers.products j l)

  -- ---- gradients
  module _ {q q' : Point} (r : Points turning q q') (j : ℕ) (l : j < X.p) where
    gradient_of_lem : Turned (unlike (c j) t) (gradient_of (first turning) q.fit j) (gradient_of (second turning) q'.fit j)
    unfolding gradient_of
    gradient_of_lem =
        gradient-turned X (with_values X other) j q.fit q'.fit refl
        (dot-turned X other j (c j) t (λ k m. entries j k l m) r.other) (products-turned j l)

  -- ---- the extrapolated point
  signs_of_lem : {w w' : List Float} → Weights turning w w' → Signs (λ (j : ℕ). unlike (c j) t) w w'
  signs_of_lem {w} {w'} v = signs-each w w' (v.size ∙ sym v.size') (λ k l. v.each k (rw v.size at l))

  fit_of : {ws : List ℕ} → FeatureSet X.p ws → {w w' : List Float} → Weights turning w w'
      → Signs (λ (i : ℕ). t) (point_of (first turning) ws w).fit (point_of (second turning) ws w').fit
  unfolding point_of extrapolated moved_all
  fit_of {ws} C {w} {w'} v =
      steps_related (λ (k : ℕ). Signs (λ (i : ℕ). t)) _ _ (length ws) _ _ (signs-zeros (λ (i : ℕ). t) X.n)
      (λ k l f f' r. let j = get_or ws k 0 in moved-turned X other j (c j) t (λ i m. entries j i (C.each k l) m) (v.each j (C.each k l)) r)

  -- ---- the rows that are kept: at each place both steps of a pair turn together, so their entry is the same
  entry-same : {ws : List ℕ} {kept kept' : List Float} → Rows turning ws (suc S.depth) kept kept' → (k l : ℕ) → k < S.depth → l < S.depth
      → entry X.p (length ws) kept k l ≡ entry X.p (length ws) kept' k l
  unfolding entry
  entry-same {ws} {kept} {kept'} r k l a b = sum_exact (λ (i : ℕ). unlike (c (get_or ws i 0)) t) _ _ _ _ (length ws) (step k a) (step l b)
    where
      step : (k : ℕ) → k < S.depth → (i : ℕ) → i < length ws → Turned (unlike (c (get_or ws i 0)) t) (U X.p kept k i) (U X.p kept' k i)
      step k a i h = turned-sub binary64 (r.each (suc k) (omega arith) i h) (r.each k (omega arith) i h)

  module _ (odd : Odd S.penalty) (passed : (j : ℕ) → j < X.p → acceptable_at X.p (first turning).prepared j ≡ true) where
    violation-same : {q q' : Point} → Points turning q q' → (j : ℕ) → j < X.p
        → violation_of (first turning) q.weights q.fit j ≡ violation_of (second turning) q'.weights q'.fit j
    unfolding violation_of
    violation-same r j l = odd.violation (r.weights.each j l) (gradient_of_lem r j l)

    -- ---- a visit
    module _ {q q' : Point} (r : Points turning q q') (j : ℕ) (l : j < X.p) (z : eq (constant (first turning) j) #0 ≡ false) where
      abbrev L : Float
      L = constant (first turning) j

      -- refusal 10 let the inverse pass
      inverse_of : (finite (#1 ⊘ L) ≡ true) × (lt (#1 ⊘ L) #0 ≡ false)
      inverse_of =
          let a = accepted L _ (passed j l) in
          (or_else _ _ a.inverse z, div-not-below #1 L one_not-below a.not-below z)

      new_weight_lem : Turned (unlike (c j) t) (new_weight (first turning) q j) (new_weight (second turning) q' j)
      unfolding new_weight
      new_weight_lem =
          rw (← constants-same j l)
          (odd.prox (#1 ⊘ L) inverse_of.0 inverse_of.1 (turned-sub binary64 (r.weights.each j l) (turned-over binary64 L (gradient_of_lem r j l))))

      difference : Turned (unlike (c j) t) (new_weight (first turning) q j ⊖ at q.weights j) (new_weight (second turning) q' j ⊖ at q'.weights j)
      difference = turned-sub binary64 new_weight_lem (r.weights.each j l)

      fine-same : fine (first turning) q j ≡ fine (second turning) q' j
      unfolding fine
      fine-same =
          rw (
            finite-turned (gradient_of_lem r j l),
            finite-turned new_weight_lem,
            moved_finite-same X other j (c j) t
                (λ k m. entries j k l m) difference r.other,
          )

      visited-fit : Signs (λ (i : ℕ). t) (visited (first turning) q j).fit (visited (second turning) q' j).fit
      unfolding visited
      visited-fit = moved_by-turned X other j (c j) t (λ k m. entries j k l m) difference r.other

    -- ---- the extrapolation
    objective-same : {q q' : Point} → Signs (λ (j : ℕ). unlike (c j) t) q.weights q'.weights → Signs (λ (i : ℕ). t) q.fit q'.fit
        → objective (first turning) y q ≡ objective (second turning) y' q'
    unfolding objective_of
    objective-same w f = rw (datafit-same sy f, odd.value w)

    better-same : {ws : List ℕ} → FeatureSet X.p ws → {w w' : List Float} → Weights turning w w' → {q q' : Point} → Points turning q q'
        → better (first turning) y (point_of (first turning) ws w) q ≡ better (second turning) y' (point_of (second turning) ws w') q'
    unfolding better point_of
    better-same C v r =
        let f = fit_of C v in
        rw (objective-same (signs_of_lem v) f, objective-same (signs_of_lem r.weights) r.other, finite-same (signs_of_lem v), finite-same f)

    respects : Respects turning
    respects = record {
      nothing = λ j l. zero-turned (unlike (c j) t);
      start = signs-zeros (λ (i : ℕ). t) n;
      zero = λ j l r. eq_turned r (zero-turned (unlike (c j) t));
      known = λ r j l. unfold known in rw (finite-turned (gradient_of_lem r j l), violation-same r j l);
      violation = violation-same;
      skipped = λ j l. ap (λ (x : Float). eq x #0) (constants-same j l);
      fine = fine-same;
      weight = λ r j l z f. new_weight_lem r j l z;
      visited = λ r j l z f. visited-fit r j l z;
      entry = λ on r. entry-same r;
      combined = λ on j l a x x' m h. sum-turned _ _ m (λ k o. turned_times (a k) (h k o));
      better = λ on C v r. better-same C v r;
      taken = λ on C v r b. fit_of C v;
    }

  -- ---- the whole solve
  same-run : (s s' : State) → Alike turning s s' → Same c t S s s'
  same-run s s' u =
      let r : report_of S s ≡ report_of S s' = report-same turning S u in
      let run : SameRun c t S s s' = record {
        status = ap (λ (a : Report). a.status) r;
        iterations = ap (λ (a : Report). a.iterations) r;
        epochs = ap (λ (a : Report). a.epochs) r;
        extrapolations = ap (λ (a : Report). a.extrapolations) r;
        violation = ap (λ (a : Report). a.violation) r;
        sets = ap (λ (a : State). a.sets) u.same;
        weights = signs_of_lem u.points.weights;
        fit = u.points.other;
      } in
      (run, r)

  pub solved-turned : Odd S.penalty → ((j : ℕ) → j < X.p → acceptable_at X.p (first turning).prepared j ≡ true)
      → Ends (Same c t S) (solved (first turning) y S) (solved (second turning) y' S)
  solved-turned odd passed = ends_map same-run (two_solves turning (respects odd passed))
