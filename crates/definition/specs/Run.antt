-- "A run starts from zero weights and zero fit, whatever the lent buffers hold."
use Rattle.std.specs.Prelude.{Bool, List, [], ◌∷◌, ◌++◌, ℕ, suc, ◌+◌, ◌*◌, ◌%◌, eqb, ltb, length, Float}
use Rattle.std.specs.Float.Ieee.{of_bits, le, lt}
use Rattle.std.specs.Float.{binary64}
use Rattle.doubles.specs.Num.{◌⊗◌, #0, pick, ◌and◌, ◌or◌}
use Rattle.doubles.specs.Steps.{tab, Stage, going, stopped, bad, upto, and_then}
use Rattle.definition.specs.WorkingSet.{smaller, working_set}
use Rattle.definition.specs.Epoch.{Task, Point, all_known, violations, worst, known_in, worst_in, visits}
use Rattle.definition.specs.Extrapolation.{Tried, kept_now, keeps, tried}
use Rattle.definition.specs.declared.Settings.{Settings}

abbrev pub #0·3 : Float
#0·3 = of_bits binary64 0x3fd3_3333_3333_3333

-- ---- within one working set
pub record Inner : Type 0 where
  pub point : Point
  pub kept : List Float
  pub epochs : ℕ
  pub extrapolations : ℕ

-- one more epoch has begun and brought this point
abbrev pub gained : Inner → List Float → Tried → Inner
gained s kept t = record { point = t.point; kept = kept; epochs = s.epochs + 1; extrapolations = s.extrapolations + t.taken }

-- "Then, with extrapolation on, the weights are kept as row epoch mod (K+1) and the step .. is tried"
unfoldable pub accelerated : Task → List Float → Settings → List ℕ → ℕ → Inner → Point → Inner
accelerated T y S ws e s q =
    pick S.extrapolate
    (gained s (kept_now S.depth T.p e ws q.weights s.kept) (tried T y S.depth e ws (kept_now S.depth T.p e ws q.weights s.kept) q))
    (gained s s.kept (keeps q))

-- "with all p features chosen, stop the epochs if v ≤ tolerance; otherwise stop if v < 0.3·(outer violation)": < and not ≤
unfoldable pub enough : Task → Settings → List ℕ → Float → Float → Bool
enough T S ws outer v = pick (eqb (length ws) T.p) (le v S.tolerance) (lt v (#0·3 ⊗ outer))

unfoldable pub checked : Task → Settings → List ℕ → Float → Inner → Stage Inner
checked T S ws outer s =
    pick (known_in T ws s.point.weights s.point.fit)
    (pick (enough T S ws outer (worst_in T ws s.point.weights s.point.fit)) (stopped s) (going s))
    bad

-- "when epoch is above 0 and divisible by 10": never at epoch 0
unfoldable pub checks : ℕ → Bool
checks e = ltb 0 e and eqb (e % 10) 0

unfoldable pub settled : Task → Settings → List ℕ → Float → ℕ → Inner → Stage Inner
settled T S ws outer e s = pick (checks e) (checked T S ws outer s) (going s)

unfoldable pub epoch : Task → List Float → Settings → List ℕ → Float → ℕ → Inner → Stage Inner
epoch T y S ws outer e s = and_then (visits T ws s.point) (λ q. settled T S ws outer e (accelerated T y S ws e s q))

unfoldable pub epochs : Task → List Float → Settings → List ℕ → Float → Inner → Stage Inner
epochs T y S ws outer s = upto (epoch T y S ws outer) S.epochs s

-- ---- the outer loop
pub record State : Type 0 where
  pub inner : Inner
  pub violation : Float
  pub iterations : ℕ
  -- the working sets that were built, in order
  pub sets : List (List ℕ)

-- "start size .., capped at p"
abbrev pub start_size : Task → Settings → ℕ
start_size T S = smaller S.start T.p

unfoldable pub chosen_set : Task → Settings → Point → List ℕ
chosen_set T S s = working_set (start_size T S) (violations T s.weights s.fit) s.weights

unfoldable pub iteration : Task → List Float → Settings → Float → State → Stage State
iteration T y S v s =
    and_then (epochs T y S (chosen_set T S s.inner.point) v s.inner) (λ i. going (record {
      inner = i;
      violation = v;
      iterations = s.iterations + 1;
      sets = s.sets ++ (chosen_set T S s.inner.point ∷ []);
    }))

abbrev pub ends : State → Float → Stage State
ends s v = stopped (record { inner = s.inner; violation = v; iterations = s.iterations; sets = s.sets })

-- "Each outer iteration computes all violations and stops when the largest is ≤ tolerance"; "after the last iteration one more check is made"
unfoldable pub turn : Task → List Float → Settings → ℕ → State → Stage State
turn T y S t s =
    pick (all_known T s.inner.point.weights s.inner.point.fit)
    (pick (le (worst T s.inner.point.weights s.inner.point.fit) S.tolerance or eqb t S.iterations)
    (ends s (worst T s.inner.point.weights s.inner.point.fit))
    (iteration T y S (worst T s.inner.point.weights s.inner.point.fit) s))
    bad

-- zero weights, zero fit, nothing kept
unfoldable pub start : Task → Settings → State
start T S = record {
  inner = record {
    point = record { weights = tab (λ j. #0) T.p; fit = tab (λ i. #0) T.n };
    kept = tab (λ i. #0) (pick S.extrapolate (suc S.depth * T.p) 0);
    epochs = 0;
    extrapolations = 0;
  };
  violation = #0;
  iterations = 0;
  sets = [];
}

-- the last turn always ends the run
unfoldable pub run : Task → List Float → Settings → Stage State
run T y S = upto (turn T y S) (S.iterations + 1) (start T S)
