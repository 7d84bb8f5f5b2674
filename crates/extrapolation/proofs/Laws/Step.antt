-- What the step's functions leave behind, each from what its calls promise. Assumes nothing.
use mathlib.Core.Path.{◌≡◌, sym, ap, ◌∙◌}
use Prim.Native.Nat.{ℕ, ◌+◌, ◌-◌, ◌*◌, ◌%◌}
use native.Mathlib.Omega.{arith}
use borrow.Rule.Slice.PartMut.{put_mid}
use mathlib.Core.List.{List, []}
use lib.ListN.{length, take, drop}
use lib.Ieee.{Float}
use Rattle.doubles.specs.Buffer.{put}
use Rattle.doubles.proofs.Laws.Buffer.{length-put}
use Rattle.designs.specs.declared.Shape.{Shape}
use Rattle.designs.specs.declared.Matrix.{Matrix}
use Rattle.designs.specs.Design.{of_matrix, extrapolated}
use Rattle.definition.specs.Epoch.{Task, Point}
use Rattle.extrapolation.specs.Inner.Places.{task_with}
use Rattle.extrapolation.specs.declared.step.Step.{Step}
use Rattle.definition.specs.Extrapolation.{Tried, candidate, coefficients, objective_of, extrapolate, tried, gathered, kept_now}
use Rattle.extrapolation.specs.Inner.Places.{Sized, StepReady, Laid, kept_in, old_at, fit_at, point_with, chosen_by, tried_from}
use Rattle.extrapolation.proofs.Laws.Scratch.{room_split, old_put, kept_then, both-put, old_long, new-long}
use Rattle.extrapolation.proofs.Laws.Scratch.{both_old, both-fit, both-kept, row_kept}
use Rattle.extrapolation.proofs.Laws.Tries.{tried_from_lem, is-due}

module _ (s : Shape) (K : ℕ) where
  old_length : (l w : List Float) → length w ≡ s.p → length l ≡ (2 * K + 3) * s.p + s.n → length (put l (old_at s K) w) ≡ length l
  unfolding old_at
  old_length l w h k = let r = room_split K s.p s.n in length-put l ((2 * K + 2) * s.p) w (omega arith)

module _ (P : Step) where
  abbrev x : Matrix
  x = P.x.matrix

  abbrev s : Shape
  s = P.x.matrix.shape

  abbrev K : ℕ
  K = P.depth

  abbrev T : List Float → Task
  T = task_with P

  -- `make_candidate`
  pub made : (c : List Float) (ws : List ℕ) (w l xs v ys : List Float) (a b o f e : ℕ) → Sized P ws w l → Laid P a b o f e → xs ≡ w
      → v ≡ candidate K s.p ws (take (b - a) (drop a (put_mid o (f - o) l xs))) c
      → ys ≡ extrapolated (of_matrix x) ws v → length ys ≡ length (take (e - f) (drop f (put_mid o (f - o) l xs)))
      → (v ≡ candidate K s.p ws (kept_in s K l) c)
      × (put_mid f (e - f) (put_mid o (f - o) l xs) ys ≡ put (put l (old_at s K) w) (fit_at s K) (extrapolated (of_matrix x) ws v))
      × (length (extrapolated (of_matrix x) ws v) ≡ s.n)
  made c ws w l xs v ys a b o f e S at ex ev ey hy =
      let m = put_mid o (f - o) l xs in
      let hm : length m ≡ length l = ap length (old_put s K l xs w o f at.2 at.3 ex S.weights) ∙ old_length s K l w S.weights S.room in
      let long : length ys ≡ s.n = hy ∙ new-long s K l m o f e at.2 at.3 at.4 S.room hm in (
        ev ∙ rw (kept_then s K l xs w a b o f at.0 at.1 at.2 at.3 ex S.weights S.room),
        both-put s K l xs w ys (extrapolated (of_matrix x) ws v) o f e at.2 at.3 at.4 ex S.weights ey long,
        sym (ap length ey) ∙ long,
      )

  -- what `try_candidate` asks of `choose`
  pub choose_asks : (ws : List ℕ) (w fit l v m : List Float) (a b o f e : ℕ)
      → StepReady P ws w fit l → Laid P a b o f e → length v ≡ length w → length m ≡ length l
      → (length (take (e - f) (drop f m)) ≡ s.n) × (length fit ≡ length (take (e - f) (drop f m))) × (length v ≡ length (take (f - o) (drop o m)))
  choose_asks ws w fit l v m a b o f e R at hv hm =
      let old = old_long s K l m o f e at.2 at.3 at.4 R.sized.room hm in
      let new = new-long s K l m o f e at.2 at.3 at.4 R.sized.room hm in
      (new, R.fits ∙ sym new, hv ∙ R.sized.weights ∙ sym old)

  -- `try_candidate`
  pub chosen_here : (hs : List Float) (ws : List ℕ) (w fit l z c v m : List Float) (before : Float) (a b o f e : ℕ) (r : Tried)
      → StepReady P ws w fit l → Laid P a b o f e
      → (v ≡ candidate K s.p ws (kept_in s K l) c)
      × (m ≡ put (put l (old_at s K) w) (fit_at s K) (extrapolated (of_matrix x) ws v))
      × (length (extrapolated (of_matrix x) ws v) ≡ s.n)
      → before ≡ objective_of P.penalty P.y.now w fit → c ≡ coefficients K z
      → r ≡ chosen_by P.penalty P.y.now before (point_with v (take (e - f) (drop f m))) (point_with (take (f - o) (drop o m)) fit)
      → (r ≡ tried_from (T hs) P.y.now K ws (kept_in s K l) z (point_with w fit)) × (kept_in s K m ≡ kept_in s K l)
  chosen_here hs ws w fit l z c v m before a b o f e r R at q eb ec er =
      let X = extrapolated (of_matrix x) ws v in
      let new : take (e - f) (drop f m) ≡ X = both-fit s K l w X R.sized.weights q.2 R.sized.room m o f e q.1 at.2 at.3 at.4 in
      let old : take (f - o) (drop o m) ≡ w = both_old s K l w X R.sized.weights q.2 R.sized.room m o f q.1 at.2 at.3 in (
        tried_from_lem (T hs) P.y.now K ws (kept_in s K l) z c w fit v _ _ before r er eb new old q.0 ec,
        both-kept s K l w X R.sized.weights q.2 R.sized.room m q.1,
      )

  -- for any prepared numbers
  pub chosen_all : (ws : List ℕ) (w fit l z c v m : List Float) (before : Float) (a b o f e : ℕ) (r : Tried)
      → StepReady P ws w fit l → Laid P a b o f e
      → (v ≡ candidate K s.p ws (kept_in s K l) c)
      × (m ≡ put (put l (old_at s K) w) (fit_at s K) (extrapolated (of_matrix x) ws v))
      × (length (extrapolated (of_matrix x) ws v) ≡ s.n)
      → before ≡ objective_of P.penalty P.y.now w fit → c ≡ coefficients K z
      → r ≡ chosen_by P.penalty P.y.now before (point_with v (take (e - f) (drop f m))) (point_with (take (f - o) (drop o m)) fit)
      → ((hs : List Float) → r ≡ tried_from (T hs) P.y.now K ws (kept_in s K l) z (point_with w fit)) × (kept_in s K m ≡ kept_in s K l)
  chosen_all ws w fit l z c v m before a b o f e r R at q eb ec er = (
    λ hs. (chosen_here hs ws w fit l z c v m before a b o f e r R at q eb ec er).0,
    (chosen_here [] ws w fit l z c v m before a b o f e r R at q eb ec er).1,
  )

  -- `anderson_accel`: the row is written
  pub row-left : (j : ℕ) (ws : List ℕ) (w fit l ks : List Float) (a b o f e : ℕ)
      → StepReady P ws w fit l → Laid P a b o f e → length ks ≡ length (take (b - a) (drop a l))
      → ks ≡ put (take (b - a) (drop a l)) (j % (K + 1) * s.p) (gathered ws w)
      → kept_in s K (put_mid a (b - a) l ks) ≡ kept_now K s.p j ws w (kept_in s K l)
  row-left j ws w fit l ks a b o f e R at h q = row_kept s K l a b j at.0 at.1 R.sized.room ks h ws w q

  -- and the step is tried
  pub step-tried : (hs : List Float) (j : ℕ) (ws : List ℕ) (m n kept : List Float) (x : Point) (r : Tried) → kept_in s K m ≡ kept → j % (K + 1) ≡ K
      → (r ≡ extrapolate (T hs) P.y.now K ws (kept_in s K m) x) × (kept_in s K n ≡ kept_in s K m)
      → (r ≡ tried (T hs) P.y.now K j ws kept x) × (kept_in s K n ≡ kept)
  step-tried hs j ws m n kept x r row h t = (is-due (T hs) P.y.now K j ws kept x h r (t.0 ∙ rw row), t.1 ∙ row)
