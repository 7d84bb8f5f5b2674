-- Two solves with the same settings, compared step by step: `Respects` says what each step has to keep, and `Alike` what then holds of both ends.
use Rattle.std.specs.Prelude.{◌≡◌, true, false, List, [], ℕ, suc, ◌+◌, ◌*◌, ◌≤◌, ◌<◌, length, get_or, Float}
use Rattle.std.specs.Float.Ieee.{eq}
use Rattle.doubles.specs.Num.{◌⊗◌, #0, at}
use Rattle.doubles.specs.Steps.{sum, zeros}
use Rattle.penalties.specs.declared.separable.Penalty.{Penalty}
use Rattle.designs.specs.Design.{Design}
use Rattle.definition.specs.Epoch as Epoch
use Rattle.definition.specs.Epoch.{Task, Point, constant, violation_of, new_weight}
use Rattle.definition.specs.Extrapolation as Extrapolation
use Rattle.definition.specs.Extrapolation.{point_of}
use Rattle.definition.specs.Run.{Inner, State}
use Rattle.definition.specs.declared.Settings.{Settings}

-- ---- what is compared: two designs of one size, each with what was prepared of it and with its targets; penalty and settings are the same. `weight j`
-- is to hold of the two weights of feature j, wherever they stand: in the weights, in a row that is kept, in a candidate, taken or not. `point` is to
-- hold of the two points that the runs come to, and says all else
pub record Pair : Type 1 where
  pub n : ℕ
  pub p : ℕ
  pub penalty : Penalty
  pub settings : Settings
  pub X : Design
  pub X' : Design
  pub prepared : List Float
  pub prepared' : List Float
  pub y : List Float
  pub y' : List Float
  pub weight : ℕ → Float → Float → Type 0
  pub point : Point → Point → Type 0

abbrev pub first : Pair → Task
first P = record { n = P.n; p = P.p; X = P.X; penalty = P.penalty; prepared = P.prepared }

abbrev pub second : Pair → Task
second P = record { n = P.n; p = P.p; X = P.X'; penalty = P.penalty; prepared = P.prepared' }

-- both runs start here
abbrev pub nought : Pair → Point
nought P = record { weights = zeros P.p; fit = zeros P.n }

-- a weight to each feature
pub record Weights (P : Pair) (w w' : List Float) : Type 0 where
  pub each : (j : ℕ) → j < P.p → P.weight j (at w j) (at w' j)
  pub size : length w ≡ P.p
  pub size' : length w' ≡ P.p

pub record Points (P : Pair) (q q' : Point) : Type 0 where
  pub weights : Weights P q.weights q'.weights
  pub other : P.point q q'

-- a working set: features, and no more than there are
pub record FeatureSet (p : ℕ) (ws : List ℕ) : Type 0 where
  pub each : (i : ℕ) → i < length ws → get_or ws i 0 < p
  pub few : length ws ≤ p

-- the first m rows of what was kept under the working set ws
pub record Rows (P : Pair) (ws : List ℕ) (m : ℕ) (kept kept' : List Float) : Type 0 where
  pub each : (r : ℕ) → r < m → (i : ℕ) → i < length ws → P.weight (get_or ws i 0) (at kept (r * P.p + i)) (at kept' (r * P.p + i))

-- ---- what each step has to keep
pub record Respects (P : Pair) : Type 0 where
  -- the start
  pub nothing : (j : ℕ) → j < P.p → P.weight j #0 #0
  pub start : P.point (nought P) (nought P)
  -- the working set looks at zero weights and violations; a check, at what is known and at violations
  pub zero : (j : ℕ) → j < P.p → {x x' : Float} → P.weight j x x' → eq x #0 ≡ eq x' #0
  pub known : {q q' : Point} → Points P q q' → (j : ℕ) → j < P.p
      → Epoch.known (first P) q.weights q.fit j ≡ Epoch.known (second P) q'.weights q'.fit j
  pub violation : {q q' : Point} → Points P q q' → (j : ℕ) → j < P.p
      → violation_of (first P) q.weights q.fit j ≡ violation_of (second P) q'.weights q'.fit j
  -- a visit, skipped by both or by none; and, where it is not, refused by both or by none
  pub skipped : (j : ℕ) → j < P.p → eq (constant (first P) j) #0 ≡ eq (constant (second P) j) #0
  pub fine : {q q' : Point} → Points P q q' → (j : ℕ) → j < P.p → eq (constant (first P) j) #0 ≡ false
      → Epoch.fine (first P) q j ≡ Epoch.fine (second P) q' j
  pub weight : {q q' : Point} → Points P q q' → (j : ℕ) → j < P.p → eq (constant (first P) j) #0 ≡ false
      → Epoch.fine (first P) q j ≡ true → P.weight j (new_weight (first P) q j) (new_weight (second P) q' j)
  pub visited : {q q' : Point} → Points P q q' → (j : ℕ) → j < P.p → eq (constant (first P) j) #0 ≡ false
      → Epoch.fine (first P) q j ≡ true → P.point (Epoch.visited (first P) q j) (Epoch.visited (second P) q' j)
  -- the extrapolation, asked only where it is on. All its rows were kept under one working set, and the system looks at places of that set
  pub entry : P.settings.extrapolate ≡ true → {ws : List ℕ} {kept kept' : List Float} → Rows P ws (suc P.settings.depth) kept kept'
      → (k l : ℕ) → k < P.settings.depth → l < P.settings.depth
      → Extrapolation.entry P.p (length ws) kept k l ≡ Extrapolation.entry P.p (length ws) kept' k l
  pub combined : P.settings.extrapolate ≡ true → (j : ℕ) → j < P.p → (c x x' : ℕ → Float) (m : ℕ)
      → ((k : ℕ) → k < m → P.weight j (x k) (x' k)) → P.weight j (sum (λ k. c k ⊗ x k) m) (sum (λ k. c k ⊗ x' k) m)
  -- a candidate w, taken by both or by none
  pub better : P.settings.extrapolate ≡ true → {ws : List ℕ} → FeatureSet P.p ws → {w w' : List Float} → Weights P w w'
      → {q q' : Point} → Points P q q'
      → Extrapolation.better (first P) P.y (point_of (first P) ws w) q ≡ Extrapolation.better (second P) P.y' (point_of (second P) ws w') q'
  pub taken : P.settings.extrapolate ≡ true → {ws : List ℕ} → FeatureSet P.p ws → {w w' : List Float} → Weights P w w'
      → {q q' : Point} → Points P q q' → Extrapolation.better (first P) P.y (point_of (first P) ws w) q ≡ true
      → P.point (point_of (first P) ws w) (point_of (second P) ws w')

-- ---- what then holds of the ends
-- a state without its point and its rows: all that a report looks at, and the working sets. A new count is one line more here
abbrev pub bare : Inner → Inner
bare s = record {
  point = record { weights = []; fit = [] };
  kept = [];
  epochs = s.epochs;
  extrapolations = s.extrapolations;
}

abbrev pub rest : State → State
rest s = record { inner = bare s.inner; violation = s.violation; iterations = s.iterations; sets = s.sets }

pub record Alike (P : Pair) (s s' : State) : Type 0 where
  pub points : Points P s.inner.point s'.inner.point
  pub same : rest s ≡ rest s'
