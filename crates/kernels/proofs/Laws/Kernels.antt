-- What the sizes of a dense design show of it, and an answer behind a kernel's tests in the caller's numbers. Assumes nothing.
use mathlib.Core.Path.{◌≡◌, sym, ◌∙◌}
use mathlib.Core.Bool.{Bool, true}
use mathlib.Core.List.{List}
use Prim.Native.Nat.{ℕ, ◌*◌, ◌≤◌}
use native.Mathlib.Nat.{le_of_eq}
use lib.ListN.{length}
use lib.Ieee.{Float}
use Rattle.std.proofs.Common.{Bor}
use Rattle.doubles.specs.Answer.{Outcome, refused, answered, Fault, after, left}
use Rattle.designs.specs.Checks.{lengths, sizes}
use Rattle.designs.specs.Design.{of_matrix, dense, dense_shape, nothing, laid, dot}
use Rattle.designs.specs.Inner.Sound.{Sound}
use Rattle.designs.specs.declared.Layout.{Layout}
use Rattle.designs.specs.declared.Layout.TheVariants.{Dense, Csc}
use Rattle.designs.specs.declared.Matrix.{Matrix}
use Rattle.designs.specs.declared.Shape.{Shape}
use Rattle.designs.proofs.Laws.Passed.{dense-values}
use Rattle.plain_numbers.specs.Codes.{number_in, place_in, answer_in}
use Rattle.kernels.specs.Kernels.{kernel_fault, product_left}

-- ---- a dense design made of its parts
module _ (x : Matrix) {n p : ℕ} {v : Bor (List Float)}
    (made : (x.shape ≡ dense_shape n p) × (x.starts.now ≡ nothing) × (x.rows.now ≡ nothing) × (x.values ≡ v)) where
  pub made_sizes : {t : Bool} → t ≡ sizes x.shape x.starts.now x.rows.now x.values.now → t ≡ sizes (dense_shape n p) nothing nothing v.now
  made_sizes e = e ∙ rw (made.0, made.1, made.2, made.3)

  pub made_design : of_matrix x ≡ dense n p v.now
  unfolding laid
  made_design = rw (made.0, made.3)

-- what the type of a tested design says of a dense one
module _ (s : Shape) (starts rows : List ℕ) (values : List Float) where
  pub dense_whole : lengths s.layout s.n s.p starts rows values ≡ true → s.layout ≡ Dense → s.n * s.p ≤ length values
  dense_whole e h = le_of_eq (sym (dense-values s.n s.p starts rows values (rw h at e)))

  pub dense_not_csc : {n p : ℕ} → s ≡ dense_shape n p → s.layout ≡ Csc → Sound s.n s.p starts rows values
  dense_not_csc {n} {p} hs h = absurd (not_csc (rw hs at h))
    where
      not_csc : ◌≡◌ {A = Layout} Dense Csc → ⊥
      not_csc e = cc

-- ---- an answer behind tests, told: the fault's number and place, and the answer where they pass
answer-told : {A : Type 0} (f : Fault) (a old : A) {number place : ℕ} {new : A}
    → (number ≡ number_in (after f a)) × (place ≡ place_in (after f a)) × (new ≡ answer_in (after f a) old)
    → (number ≡ number_in f) × (place ≡ place_in f) × (new ≡ left f a old)
answer-told (answered u) a old h = h
answer-told (refused number place) a old h = h

pub product_told : (n p : ℕ) (values : List Float) (column : ℕ) (v : List Float) (old : Float) {o : Outcome Float} {number place : ℕ} {new : Float}
    → o ≡ after (kernel_fault n p values column (length v)) (dot (dense n p values) column v)
    → (number ≡ number_in o) × (place ≡ place_in o) × (new ≡ answer_in o old)
    → (number ≡ number_in (kernel_fault n p values column (length v))) × (place ≡ place_in (kernel_fault n p values column (length v)))
    × (new ≡ product_left n p values column v old)
unfolding product_left
product_told n p values column v old e h =
    answer-told (kernel_fault n p values column (length v)) (dot (dense n p values) column v) old (rw e at h)
