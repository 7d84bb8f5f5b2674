-- `list_reader::same` tells two doubles apart. Numbers that are equal and not zero are both what one fraction is rounded to; a zero is written
-- in one way but for its sign, which is the sign of 1 / x. Assumes nothing.
use Rattle.std.proofs.Common.{◌≡◌, ℕ, zero, suc, ◌*◌, ◌<◌, Bool, true, false, ◌||◌, T, eqb, ℤ, pos, sym, refl, ap, ◌∙◌, subst, true≢false, zero-lt-suc}
use Rattle.std.proofs.Common.{mul-pos, arith, eqb→eq}
use mathlib.Core.Bool.{beq, false≢true}
use borrow.Author.Tests.{not-true, not-false}
use lib.Ieee.{Float, nan, inf, fin, binary64, up, down, level, round, of_bits, div, eq, ne, is_nan, fits}
use lib.Ieee.Fits.{up_pos, down_pos, and_l, and_r}
use lib.Ieee.Scale.{round_same}
use Rattle.doubles.specs.Num.{#0, #1, ◌⊘◌}
use Rattle.doubles.specs.Sign.{nonzero, negzero}
use Rattle.doubles.proofs.Laws.Order.{eq-zero, ne_self}
use Rattle.doubles.proofs.Laws.Exact.{round_self}
use Rattle.doubles.proofs.Laws.Turn.{zero₂}
use Rattle.doubles.proofs.Laws.Zero.{zero_is}
use Rattle.list_reader.proofs.same.Goals as goal

holds : {b : Bool} → b ≡ true → T b
holds h = rw h tt

none : (x : Float) → is_nan x ≡ true → x ≡ nan
unfolding is_nan
none nan h = refl
none (inf s) h = absurd (false≢true h)
none (fin s m e) h = absurd (false≢true h)

-- ---- numbers that are not zero
above : (m : ℕ) (e d : ℤ) → 0 < suc m * up e * down d
above m e d = mul-pos (mul-pos (zero-lt-suc m) (up_pos e)) (down_pos d)

agree : (s t b : Bool) → (T b → ⊥) → T (beq s t || b) → s ≡ t
agree true true b n h = refl
agree true false b n h = absurd (n h)
agree false true b n h = absurd (n h)
agree false false b n h = refl

parts : (s t : Bool) (a b : ℕ) → 0 < a → T (level s a t b) → (a ≡ b) × (s ≡ t)
parts s t a b h l =
    (eqb→eq a b (and_l (eqb a b) _ l), agree s t (eqb a 0) (λ z. let k : a ≡ 0 = eqb→eq a 0 z in omega arith) (and_r (eqb a b) _ l))

not-zero : (a b : ℕ) → 0 < a → a ≡ b → b ≡ 0 → ⊥
not-zero a b h k z = omega arith

numbers : (x y : Float) → T (fits binary64 x) → T (fits binary64 y) → ne x #0 ≡ true → T (eq x y) → x ≡ y
unfolding eq
numbers nan y f g z h = absurd h
numbers (inf s) nan f g z h = absurd h
numbers (inf true) (inf true) f g z h = refl
numbers (inf true) (inf false) f g z h = absurd h
numbers (inf false) (inf true) f g z h = absurd h
numbers (inf false) (inf false) f g z h = refl
numbers (inf s) (fin t n d) f g z h = absurd h
numbers (fin s zero e) y f g z h = absurd (true≢false (unfold nonzero in sym (eq-zero (fin s zero e)) ∙ not-true _ (unfold ne in z)))
numbers (fin s (suc m) e) nan f g z h = absurd h
numbers (fin s (suc m) e) (inf t) f g z h = absurd h
numbers (fin s (suc m) e) (fin t zero d) f g z h = absurd (not-zero _ _ (above m e d) (parts s t _ _ (above m e d) h).0 (zero₂ (up d) (down e)))
numbers (fin s (suc m) e) (fin t (suc n) d) f g z h =
    let p = parts s t _ _ (above m e d) h in
    sym (round_self binary64 s m e f)
    ∙ round_same binary64 s (suc m * up e) (down e) (suc n * up d) (down d) (down_pos e) (down_pos d) p.0
    ∙ ap (λ (b : Bool). round binary64 b (suc n * up d) (down d)) p.1
    ∙ round_self binary64 t n d g

-- ---- zeros
data Zero : Float → Type 0 where
  signed : (s : Bool) → Zero (fin s zero (pos zero))

written : (s : Bool) (e : ℤ) → T (fits binary64 (fin s zero e)) → fin s zero (pos zero) ≡ fin s zero e
written s e f =
    let k : fin false zero e ≡ fin false zero (pos zero) =
    zero_is binary64 (fin false zero e) (unfold fits in f) (unfold negzero in refl) (unfold nonzero in refl) in
    cc

zero-form : (x : Float) → T (fits binary64 x) → ne x #0 ≡ false → Zero x
zero-form nan f h = absurd (true≢false (unfold ne eq in h))
zero-form (inf s) f h = absurd (true≢false (unfold ne eq of_bits in h))
zero-form (fin s zero e) f h = subst Zero (written s e f) (signed s)
zero-form (fin s (suc m) e) f h = absurd (false≢true (unfold nonzero in sym (eq-zero (fin s (suc m) e)) ∙ not-false _ (unfold ne in h)))

told : {x y : Float} → Zero x → Zero y → T (eq (#1 ⊘ x) (#1 ⊘ y)) → x ≡ y
unfolding div eq of_bits
told (signed true) (signed true) h = refl
told (signed true) (signed false) h = absurd h
told (signed false) (signed true) h = absurd h
told (signed false) (signed false) h = refl

alike : {x : Float} → Zero x → eq (#1 ⊘ x) (#1 ⊘ x) ≡ true
unfolding div eq of_bits
alike (signed true) = refl
alike (signed false) = refl

pub returns-then-is_nan-clause-only : goal.returns-then-is_nan-clause-only
returns-then-is_nan-clause-only c k = none _ (sym c.if-is_nan.ensures.value) ∙ sym (none _ (sym c.is_nan-then-is_nan.ensures.value ∙ k))

pub returns-then-a-clause-only : goal.returns-then-a-clause-only
returns-then-a-clause-only c k =
    let g = c.well_formed in
    numbers _ _ (holds g.0.1) (holds g.1.0.1) c.if-a.true (holds k)

pub returns-then-a-clause-all : goal.returns-then-a-clause-all
returns-then-a-clause-all c e = rw (← e) (not-false _ (unfold ne in ne_self _ ∙ sym c.if-is_nan.ensures.value))

pub returns-then-b-clause-only : goal.returns-then-b-clause-only
returns-then-b-clause-only c k =
    let g = c.well_formed in
    told (zero-form _ (holds g.0.1) c.if-a.false) (zero-form _ (holds g.1.0.1) (unfold ne in rw c.if-b.true)) (holds k)

pub returns-then-b-clause-all : goal.returns-then-b-clause-all
returns-then-b-clause-all c e =
    let x = zero-form _ (holds c.well_formed.0.1) c.if-a.false in
    rw (← e) (alike x)

pub returns-else-b-clause-all : goal.returns-else-b-clause-all
returns-else-b-clause-all c e = rw (← e) (not-false _ (unfold ne in c.if-a.false))
