-- A value that fits is rounded to itself. Assumes nothing.
use mathlib.Core.Path.{◌≡◌, refl, sym, ap, ◌∙◌}
use Prim.Native.Nat.{ℕ, zero, suc, ◌+◌, ◌-◌, ◌*◌, ◌%◌, ◌^◌, ◌≤◌, ◌<◌, suc-le-suc}
use native.Mathlib.Nat.{suc_inj, zero-lt-suc, lt_of_not-le, lt_irrefl, le_of_eq, lt_of_lt_of_le, lt_of_le_of_lt, pow-suc, pow-succ'}
use native.Mathlib.Nat.{mul-one, mul_comm, mul_assoc, mul_left_comm, mul_right_comm, mul-pos}
use native.Mathlib.Nat.{eq_of_mul-eq-mul_right, mul-lt-mul_of_pos_right, lt_of_mul-lt-mul_right}
use native.Mathlib.Omega.{arith}
use mathlib.Core.Bool.{Bool, ◌&&◌}
use lib.IntN.{ℤ, pos, negsuc}
use lib.Pow.{pow-add, pow_pos, pow-lt}
use lib.Dec.{T, leb, ltb, eqb, ltb→lt, leb→le, eqb→eq}
use lib.Ieee.{Float, nan, inf, fin, Format, prec, emax, low, up, down, round, fits}
use lib.Ieee.Fits.{up_pos, down_pos, and_l, and_r, round-fits}
use lib.Ieee.Digits.{back}
use lib.Ieee.Exact.{HasValue, round_exact}
use Rattle.doubles.proofs.Laws.Turn.{zero₂}

-- ---- a number is written in one way
even_odd : (m t : ℕ) → m % 2 ≡ 1 → m ≡ 2 * t → ⊥
even_odd m t o h = omega arith

odd_pow : (m n a b : ℕ) → m % 2 ≡ 1 → n % 2 ≡ 1 → m * 2 ^ a ≡ n * 2 ^ b → (m ≡ n) × (a ≡ b)
odd_pow m n zero zero o p h = (sym (mul-one m) ∙ h ∙ mul-one n, refl)
odd_pow m n zero (suc b) o p h = absurd (even_odd m (n * 2 ^ b) o (sym (mul-one m) ∙ h ∙ ap (λ (x : ℕ). n * x) (pow-succ' 2 b) ∙ mul_left_comm n 2 (2 ^ b)))
odd_pow m n (suc a) zero o p h = absurd (even_odd n (m * 2 ^ a) p (sym (mul-one n) ∙ sym h ∙ ap (λ (x : ℕ). m * x) (pow-succ' 2 a) ∙ mul_left_comm m 2 (2 ^ a)))
odd_pow m n (suc a) (suc b) o p h =
    let r = odd_pow m n a b o p (eq_of_mul-eq-mul_right 2 (zero-lt-suc 1) (m * 2 ^ a) (n * 2 ^ b)
    (mul_assoc m (2 ^ a) 2 ∙ ap (λ (x : ℕ). m * x) (sym (pow-suc 2 a)) ∙ h ∙ ap (λ (x : ℕ). n * x) (pow-suc 2 b) ∙ sym (mul_assoc n (2 ^ b) 2))) in
    (r.0, ap suc r.1)

no_sum : (a b : ℕ) → a + suc b ≡ 0 → ⊥
no_sum a b h = omega arith

unique : (m n : ℕ) (e d : ℤ) → m % 2 ≡ 1 → n % 2 ≡ 1 → m * up e * down d ≡ n * up d * down e → (m ≡ n) × (e ≡ d)
unique m n (pos a) (pos b) o p h = let r = odd_pow m n a b o p (sym (mul-one _) ∙ h ∙ mul-one _) in (r.0, ap pos r.1)
unique m n (pos a) (negsuc b) o p h =
    let r = odd_pow m n (a + suc b) 0 o p (ap (λ (x : ℕ). m * x) (pow-add 2 a (suc b)) ∙ sym (mul_assoc m (2 ^ a) (2 ^ suc b)) ∙ h ∙ mul-one (n * 1)) in
    absurd (no_sum a b r.1)
unique m n (negsuc a) (pos b) o p h =
    let r = odd_pow m n 0 (b + suc a) o p (sym (mul-one (m * 1)) ∙ h ∙ mul_assoc n (2 ^ b) (2 ^ suc a) ∙ ap (λ (x : ℕ). n * x) (sym (pow-add 2 b (suc a)))) in
    absurd (no_sum b a (sym r.1))
unique m n (negsuc a) (negsuc b) o p h =
    let r = odd_pow m n (suc b) (suc a) o p (ap (λ (x : ℕ). x * 2 ^ suc b) (sym (mul-one m)) ∙ h ∙ ap (λ (x : ℕ). x * 2 ^ suc a) (mul-one n)) in
    (r.0, ap negsuc (sym (suc_inj r.1)))

-- ---- what `fits` says of a value that is not zero
pub record Fits (f : Format) (m : ℕ) (e : ℤ) : Type 0 where
  pub odd : suc m % 2 ≡ 1
  pub digits : suc m < 2 ^ prec f
  pub fine : down e ≤ 2 ^ low f
  pub small : suc m * up e < 2 ^ suc (emax f) * down e

pub says : (f : Format) (s : Bool) (m : ℕ) (e : ℤ) → T (fits f (fin s (suc m) e)) → Fits f m e
unfolding fits
says f s m e t =
    let a : Bool = eqb (suc m % 2) 1 in
    let b : Bool = ltb (suc m) (2 ^ prec f) in
    let c : Bool = leb (down e) (2 ^ low f) in
    let d : Bool = ltb (suc m * up e) (2 ^ suc (emax f) * down e) in
    let abc : T (a && b && c) = and_l (a && b && c) d t in
    let ab : T (a && b) = and_l (a && b) c abc in
    record {
      odd = eqb→eq (suc m % 2) 1 (and_l a b ab);
      digits = ltb→lt (suc m) (2 ^ prec f) (and_r a b ab);
      fine = leb→le (down e) (2 ^ low f) (and_r (a && b) c abc);
      small = ltb→lt (suc m * up e) (2 ^ suc (emax f) * down e) (and_r (a && b && c) d t);
    }

-- ---- it is rounded to itself
-- in units of the smallest value: suc m * 2 ^ j
shift : Format → ℤ → ℕ
shift f (pos k) = k + low f
shift f (negsuc k) = low f - suc k

lower : (f : Format) (k : ℕ) → 2 ^ suc k ≤ 2 ^ low f → suc k ≤ low f
lower f k h = lt_of_not-le (λ (g : low f ≤ k). lt_irrefl (2 ^ low f) (lt_of_lt_of_le (pow-lt (suc-le-suc g)) h))

in_units : (f : Format) (m : ℕ) (e : ℤ) → down e ≤ 2 ^ low f → m * up e * 2 ^ low f ≡ m * 2 ^ shift f e * down e
unfolding shift
in_units f m (pos k) h = mul_assoc m (2 ^ k) (2 ^ low f) ∙ ap (λ (x : ℕ). m * x) (sym (pow-add 2 k (low f))) ∙ sym (mul-one _)
in_units f m (negsuc k) h =
    ap (λ (x : ℕ). x * 2 ^ low f) (mul-one m) ∙ ap (λ (x : ℕ). m * 2 ^ x) (sym (back (low f) (suc k) (lower f k h)))
    ∙ ap (λ (x : ℕ). m * x) (pow-add 2 (low f - suc k) (suc k)) ∙ sym (mul_assoc m (2 ^ (low f - suc k)) (2 ^ suc k))

below_top : (f : Format) (m : ℕ) (e : ℤ) → Fits f m e → suc m * 2 ^ shift f e < 2 ^ (low f + suc (emax f))
below_top f m e F =
    let l : ℕ = 2 ^ low f in
    let top : ℕ = 2 ^ suc (emax f) in
    let here = le_of_eq (sym (in_units f (suc m) e F.fine)) in
    let below = mul-lt-mul_of_pos_right F.small (pow_pos (low f)) in
    let whole = mul_comm top l ∙ sym (pow-add 2 (low f) (suc (emax f))) in
    let there = le_of_eq (mul_right_comm top (down e) l ∙ ap (λ (x : ℕ). x * down e) whole) in
    lt_of_mul-lt-mul_right (down e) (lt_of_le_of_lt here (lt_of_lt_of_le below there))

same-value : (f : Format) (s : Bool) (m : ℕ) (e : ℤ) → Fits f m e
    → (z : Float) → T (fits f z) → HasValue z s (suc m * up e) (down e) → z ≡ fin s (suc m) e
same-value f s m e F nan h v = absurd v
same-value f s m e F (inf t) h v = absurd v
same-value f s m e F (fin t zero g) h v =
    let more = mul-pos (mul-pos (zero-lt-suc m) (up_pos e)) (down_pos g) in
    absurd (lt_irrefl 0 (lt_of_lt_of_le more (le_of_eq (sym v.1 ∙ zero₂ (up g) (down e)))))
same-value f s m e F (fin t (suc n) g) h v =
    let r = unique (suc n) (suc m) g e (says f t n g h).odd F.odd v.1 in
    λ i. fin (v.0 i) (r.0 i) (r.1 i)

pub round_self : (f : Format) (s : Bool) (m : ℕ) (e : ℤ) → T (fits f (fin s (suc m) e)) → round f s (suc m * up e) (down e) ≡ fin s (suc m) e
round_self f s m e h =
    let F = says f s m e h in
    same-value f s m e F (round f s (suc m * up e) (down e)) (round-fits f s (suc m * up e) (down e))
    (round_exact f s (suc m * up e) (down e) (suc m) (shift f e) (down_pos e) F.digits (below_top f m e F) (in_units f (suc m) e F.fine))
