-- What a design that passed the tests is: what the inner functions ask of one.
use Rattle.std.specs.Prelude.{◌≡◌, ℕ, ◌+◌, ◌-◌, ◌*◌, ◌≤◌, ◌<◌, List, length, get_or, Float}
use Rattle.designs.specs.declared.Layout.{Layout}
use Rattle.designs.specs.declared.Layout.TheVariants.{Dense, Csc}
use Rattle.designs.specs.declared.Shape.{Shape}

-- the starts of p columns with m stored entries: from 0 up to m, none falling
pub record Rising (p m : ℕ) (starts : List ℕ) : Type 0 where
  pub up : (j : ℕ) → j < p → get_or starts j 0 ≤ get_or starts (j + 1) 0
  pub within : (j : ℕ) → j < p + 1 → get_or starts j 0 ≤ m
  pub start : get_or starts 0 0 ≡ 0
  pub last : get_or starts p 0 ≡ m

-- starts and rows are those of p columns over n samples
pub record Sound (n p : ℕ) (starts rows : List ℕ) (values : List Float) : Type 0 where
  pub columns : length starts ≡ p + 1
  pub entries : length rows ≡ length values
  pub rising : Rising p (length values) starts
  pub below : (e : ℕ) → e < length values → get_or rows e 0 < n
  pub ascending : (j k : ℕ) → j < p → k < get_or starts (j + 1) 0 - get_or starts j 0 → 0 < k
      → get_or rows (get_or starts j 0 + k - 1) 0 < get_or rows (get_or starts j 0 + k) 0

unfoldable pub Held : Layout → ℕ → ℕ → List ℕ → List ℕ → List Float → Type 0
Held Dense n p starts rows values = n * p ≤ length values
Held Csc n p starts rows values = Sound n p starts rows values

abbrev pub Whole : Shape → List ℕ → List ℕ → List Float → Type 0
Whole s starts rows values = Held s.layout s.n s.p starts rows values
