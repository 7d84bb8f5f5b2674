-- A design gives of each feature its stored entries; every column operation is defined once, over these, for both layouts.
use Rattle.std.specs.Prelude.{Bool, ℕ, ◌+◌, ◌-◌, ◌*◌, List, [], ◌++◌, length, get_or, set, Float}
use Rattle.doubles.specs.Num.{◌⊕◌, ◌⊖◌, ◌⊗◌, ◌⊘◌, #0, count, at, abs, finite}
use Rattle.doubles.specs.Steps.{steps, sum, tab, all, largest_from}
use Rattle.designs.specs.declared.Layout.{Layout}
use Rattle.designs.specs.declared.Layout.TheVariants.{Dense, Csc}
use Rattle.designs.specs.declared.Shape.{Shape}
use Rattle.designs.specs.declared.Matrix.{Matrix}

-- n samples and p features; feature j has `many j` stored entries, and the k-th of them lies in row `row j k`
pub record Design : Type 0 where
  pub n : ℕ
  pub p : ℕ
  pub many : ℕ → ℕ
  pub row : ℕ → ℕ → ℕ
  pub value : ℕ → ℕ → Float

-- "dense: n·p, row by row"
unfoldable pub dense : ℕ → ℕ → List Float → Design
dense n p xs = record { n = n; p = p; many = λ j. n; row = λ j k. k; value = λ j k. at xs (k * p + j) }

-- CSC: column j has the entries from starts[j] to starts[j + 1]
unfoldable pub csc : ℕ → ℕ → List ℕ → List ℕ → List Float → Design
csc n p starts rows values = record {
  n = n;
  p = p;
  many = λ j. get_or starts (j + 1) 0 - get_or starts j 0;
  row = λ j k. get_or rows (get_or starts j 0 + k) 0;
  value = λ j k. at values (get_or starts j 0 + k);
}

unfoldable pub laid : Layout → ℕ → ℕ → List ℕ → List ℕ → List Float → Design
laid Dense n p starts rows values = dense n p values
laid Csc n p starts rows values = csc n p starts rows values

-- the design of a shape and its three slices; a dense one's starts and rows are not looked at
abbrev pub design : Shape → List ℕ → List ℕ → List Float → Design
design s starts rows values = laid s.layout s.n s.p starts rows values

abbrev pub of_matrix : Matrix → Design
of_matrix x = design x.shape x.starts.now x.rows.now x.values.now

-- the shapes of the two layouts
abbrev pub dense_shape : ℕ → ℕ → Shape
dense_shape n p = record { layout = Dense; n = n; p = p }

abbrev pub csc_shape : ℕ → ℕ → Shape
csc_shape n p = record { layout = Csc; n = n; p = p }

-- the starts, or the rows, of a dense design
abbrev pub nothing : List ℕ
nothing = []

-- ---- "The arithmetic"
-- column · v, stored entries upward
unfoldable pub dot : Design → ℕ → List Float → Float
dot X j v = sum (λ k. X.value j k ⊗ at v (X.row j k)) (X.many j)

-- "sum of x² over the column"
unfoldable pub squares : Design → ℕ → Float
squares X j = sum (λ k. X.value j k ⊗ X.value j k) (X.many j)

-- "Lipschitz: sum of x² over the column, / n"
unfoldable pub lipschitz : Design → ℕ → Float
lipschitz X j = squares X j ⊘ count X.n

-- v times every column; of the targets, X'y
unfoldable pub dots : Design → List Float → List Float
dots X v = tab (λ j. dot X j v) X.p

-- the constants of all columns, then X'y
unfoldable pub prepared : Design → List Float → List Float
prepared X y = tab (lipschitz X) X.p ++ dots X y

-- "Gradient: (column·fit − X'y) / n", of the product of column and fit, and the column's entry q of X'y
unfoldable pub gradient_from : Float → Float → ℕ → Float
gradient_from product q n = (product ⊖ q) ⊘ count n

unfoldable pub gradient : Design → ℕ → List Float → Float → Float
gradient X j fit q = gradient_from (dot X j fit) q X.n

-- of every feature, where q gives the entries of X'y
unfoldable pub full_gradient : Design → List Float → (ℕ → Float) → List Float
full_gradient X fit q = tab (λ j. gradient X j fit (q j)) X.p

-- "Datafit: sum of (y−fit)² / (2n)"
unfoldable pub squared_error : List Float → List Float → ℕ → Float
squared_error y fit n = sum (λ i. (at y i ⊖ at fit i) ⊗ (at y i ⊖ at fit i)) n

unfoldable pub datafit : List Float → List Float → ℕ → Float
datafit y fit n = squared_error y fit n ⊘ count (2 * n)

-- "alpha_max: largest |X'y| / n"; the largest starts from 0
unfoldable pub alpha_max : Design → List Float → Float
alpha_max X y = largest_from #0 (λ j. abs (dot X j y)) X.p ⊘ count X.n

-- ---- the fit
-- "the fit gains difference·x": the fit with d times column j added
unfoldable pub moved : Design → ℕ → Float → List Float → List Float
moved X j d fit = steps (λ k f. set f (X.row j k) (at f (X.row j k) ⊕ d ⊗ X.value j k)) (X.many j) fit

-- every "changed fit entry" is finite: the entries of column j's samples
unfoldable pub finite_at : Design → ℕ → List Float → Bool
finite_at X j fit = all (λ k. finite (at fit (X.row j k))) (X.many j)

-- the columns of a list of features added in its order, each times its weight
unfoldable pub moved_all : Design → List ℕ → List Float → List Float → List Float
moved_all X ws w fit = steps (λ k. moved X (get_or ws k 0) (at w (get_or ws k 0))) (length ws) fit

-- the fit of the weights w at the features ws, from n zeros: "zero elsewhere"
unfoldable pub extrapolated : Design → List ℕ → List Float → List Float
extrapolated X ws w = moved_all X ws w (tab (λ i. #0) X.n)
