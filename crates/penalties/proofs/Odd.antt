-- Every penalty in document 01's ranges is `Odd`. The idea: a threshold that is not below zero lies between x and -x, so the two
-- branches of the soft threshold change places when x turns; everywhere else the laws compose as the expression does. Assumes nothing.
use mathlib.Core.Path.{◌≡◌, refl, sym, ap, ◌∙◌}
use Prim.Native.Nat.{ℕ, zero, suc, ◌*◌}
use mathlib.Core.Bool.{Bool, true, false, true≢false, false≢true}
use mathlib.Core.List.{List}
use lib.Dec.{T, ltb, leb-suc-zero}
use lib.ListN.{length}
use lib.Ieee.{Float, nan, inf, fin, binary64, up, down, of_bits, neg, add, sub, lt, le, mul, div, round, sum as fsum, size as fsize, units, odd as parity}
use lib.Ieee.{is_nan}
use Rattle.doubles.specs.Num.{◌⊖◌, ◌⊗◌, ◌⊘◌, #0, #1, at, abs, signum, finite, ◌or◌}
use Rattle.doubles.specs.Steps.{sum}
use Rattle.doubles.specs.Sign.{plain, flip, Turned, Signs, nonzero}
use Rattle.doubles.proofs.Laws.Turn.{zero₂}
use Rattle.doubles.proofs.Laws.Turned.{turned-refl, turned-neg, turned-add, turned-sub, turned-over, turn_l, turn_r}
use Rattle.doubles.proofs.Laws.Compare.{lt_same, lt-turned, eq_turned, abs-turned, nan-turned}
use Rattle.doubles.proofs.Laws.Choice.{and_both, same_else, turned_else, turned-pick, turned_crossed}
use Rattle.doubles.proofs.Laws.Order.{neg-lt, nonzero_of, at_least_zero, not-below, zero_at_most}
use Rattle.doubles.proofs.Laws.Below.{mul-not-below}
use Rattle.doubles.proofs.Laws.Number.{product_number}
use Rattle.doubles.proofs.Laws.Signs.{zero-turned, turned_scaled, turned_times, signum-turned, sum_same, signs-at, signs-length}
use Rattle.penalties.specs.Soft.{soft01, soft}
use Rattle.doubles.specs.Answer.{none}
use Rattle.doubles.proofs.Laws.Verdict.{spared_at}
use Rattle.penalties.specs.Penalty.{alpha_legal, ratio_legal, alpha_of, second_legal, penalty_fault, sum_abs, sum_squares, mcp_of, sum_mcp, value}
use Rattle.penalties.specs.Penalty.{prox_l1, prox_l1_plus_l2, prox_mcp, prox, excess, violation_l1, violation_l1_plus_l2, violation_mcp, violation}
use Rattle.penalties.specs.Odd.{Odd}
use Rattle.penalties.specs.declared.separable.Penalty.{Penalty}
use Rattle.penalties.specs.declared.separable.Penalty.TheVariants.{L1, L1PlusL2, MCP}

-- ---- the soft threshold
none_below : (a : ℕ) → T (ltb a 0) → ⊥
none_below a h = rw leb-suc-zero at h

nan-turns : (s : Bool) → Turned s nan nan
nan-turns true = record { is = unfold plain flip neg in refl }
nan-turns false = turned-refl

-- at a threshold that is not below zero, x is not above t and below -t
apart : (t x : Float) → lt t #0 ≡ false → T (lt t x) → T (lt x (neg t)) → ⊥
unfolding lt neg of_bits
apart nan x n h k = h
apart (inf true) x n h k = true≢false n
apart (inf false) nan n h k = h
apart (inf false) (inf u) n h k = h
apart (inf false) (fin u m e) n h k = h
apart (fin t n d) nan e h k = h
apart (fin t n d) (inf true) e h k = h
apart (fin t n d) (inf false) e h k = k
apart (fin true (suc n) d) (fin u m c) e h k = true≢false (sym (neg-lt n d) ∙ e)
apart (fin true zero d) (fin true m c) e h k = none_below (m * up c * down d) (rw zero₂ at h)
apart (fin true zero d) (fin false m c) e h k = none_below (m * up c * down d) (rw zero₂ at k)
apart (fin false n d) (fin true m c) e h k = h
apart (fin false n d) (fin false m c) e h k = k

module _ (t : Float) (n : lt t #0 ≡ false) where
  turned_01 : (s : Bool) {x x' : Float} → Turned s x x' → Turned s (soft01 x t) (soft01 x' t)
  unfolding soft01
  turned_01 false p =
      let t= : Turned false t t = turned-refl in
      let below = turned-pick (lt_same p (turned-neg t=)) (turned-add binary64 p t=) turned-refl in
      turned-pick (lt_same t= p) (turned-sub binary64 p t=) below
  turned_01 true {x} p =
      let t= : Turned false t t = turned-refl in
      let less = turned-add binary64 p (turn_l t=) in
      let more = turned-add binary64 p (turn_r t=) in
      unfold sub in turned_crossed (apart t x n) (lt-turned p (turn_l t=)) (lt-turned (turn_r t=) p) less more (zero-turned true)

  -- a NaN turned is the NaN
  pub soft-turned : {s : Bool} {x x' : Float} → Turned s x x' → Turned s (soft x t) (soft x' t)
  unfolding soft
  soft-turned {s} p = turned-pick (ap (λ (b : Bool). b or is_nan t) (nan-turned p)) (nan-turns s) (turned_01 s p)

-- a threshold below zero does not lie between x and -x: at -1, both 0 and -0 become 1
pub soft-below-zero : Turned true #0 (neg #0) × (Turned true (soft #0 (neg #1)) (soft (neg #0) (neg #1)) → ⊥)
unfolding soft soft01 ◌or◌ is_nan plain flip neg add sub lt of_bits round fsum fsize units parity
soft-below-zero = (record { is = refl }, λ p. true≢false (ap (λ (x : Float). lt x #0) p.is))

-- ---- what the ranges say
alpha_not-below : (alpha : Float) → alpha_legal alpha ≡ true → lt alpha #0 ≡ false
unfolding alpha_legal
alpha_not-below alpha h = not-below alpha (and_both (finite alpha) (le #0 alpha) h).1

ratio_not-below : (r : Float) → ratio_legal r ≡ true → lt r #0 ≡ false
unfolding ratio_legal
ratio_not-below r h = not-below r (and_both (le #0 r) (le r #1) h).0

-- alpha · step is at least zero
threshold : (alpha step : Float) → alpha_legal alpha ≡ true → finite step ≡ true → lt step #0 ≡ false → le #0 (alpha ⊗ step) ≡ true
unfolding alpha_legal
threshold alpha step h f n =
    let a = and_both (finite alpha) (le #0 alpha) h in
    at_least_zero (alpha ⊗ step) (mul-not-below alpha step (not-below alpha a.1) n) (product_number alpha step a.0 f)

-- ---- prox
l1_prox : {s : Bool} {v v' : Float} (alpha step : Float) → lt alpha #0 ≡ false → lt step #0 ≡ false → Turned s v v'
    → Turned s (prox_l1 alpha v step) (prox_l1 alpha v' step)
unfolding prox_l1
l1_prox alpha step a n p = soft-turned (alpha ⊗ step) (mul-not-below alpha step a n) p

net_prox : {s : Bool} {v v' : Float} (alpha r step : Float) → lt alpha #0 ≡ false → lt r #0 ≡ false → lt step #0 ≡ false → Turned s v v'
    → Turned s (prox_l1_plus_l2 alpha r v step) (prox_l1_plus_l2 alpha r v' step)
unfolding prox_l1_plus_l2
net_prox alpha r step a k n p =
    turned-over binary64 _ (soft-turned (r ⊗ alpha ⊗ step) (mul-not-below (r ⊗ alpha) step (mul-not-below r alpha k a) n) p)

-- ±0 is at most a threshold that is at least zero, so what lies above it is no zero
above-nonzero : (v t : Float) → le #0 t ≡ true → le (abs v) t ≡ false → T (nonzero v)
unfolding abs nonzero
above-nonzero nan t h k = tt
above-nonzero (inf s) t h k = tt
above-nonzero (fin s zero e) t h k = true≢false (sym (zero_at_most t e h) ∙ k)
above-nonzero (fin s (suc m) e) t h k = tt

mcp-prox : {s : Bool} {v v' : Float} (alpha gamma step : Float) → le #0 (alpha ⊗ step) ≡ true → Turned s v v'
    → Turned s (prox_mcp alpha gamma v step) (prox_mcp alpha gamma v' step)
unfolding prox_mcp
mcp-prox {s} {v} {v'} alpha gamma step h p =
    let tau = alpha ⊗ step in
    let g = gamma ⊘ step in
    let a : abs v ≡ abs v' = abs-turned p in
    turned_else (ap (λ (x : Float). le x tau) a) (zero-turned s)
    (λ e. turned-pick (ap (λ (x : Float). lt (g ⊗ tau) x) a) p
    (turned-over binary64 _ (rw (← a) (turned_scaled (abs v ⊖ tau) (signum-turned (above-nonzero v tau h e) p)))))

-- alpha · step may not be below zero: with alpha = gamma = -1, step 1, 0 becomes 1/2 and -0 becomes -1/2
pub mcp-below-zero : Turned false #0 (neg #0) × (Turned false (prox_mcp (neg #1) (neg #1) #0 #1) (prox_mcp (neg #1) (neg #1) (neg #0) #1) → ⊥)
unfolding prox_mcp plain flip abs signum neg add sub mul div lt le of_bits round fsum fsize units parity
mcp-below-zero = (record { is = refl }, λ p. false≢true (ap (λ (x : Float). lt x #0) p.is))

-- ---- violation: equal, and not only up to a zero's sign
same-excess : {s : Bool} {g g' : Float} (bound : Float) → Turned s g g' → excess g bound ≡ excess g' bound
unfolding excess
same-excess bound p = rw (abs-turned p)

module _ {s : Bool} {w w' g g' : Float} (p : Turned s w w') (q : Turned s g g') where
  l1_violation : (alpha : Float) → violation_l1 alpha w g ≡ violation_l1 alpha w' g'
  unfolding violation_l1
  l1_violation alpha =
      same_else (eq_turned p (zero-turned s)) (same-excess alpha q)
      (λ e. abs-turned (turned-sub binary64 (turned-neg q) (turned_scaled alpha (signum-turned (nonzero_of w e) p))))

  net_violation : (alpha r : Float) → violation_l1_plus_l2 alpha r w g ≡ violation_l1_plus_l2 alpha r w' g'
  unfolding violation_l1_plus_l2
  net_violation alpha r =
      same_else (eq_turned p (zero-turned s)) (same-excess (alpha ⊗ r) q)
      (λ e. abs-turned (turned-sub binary64 (turned-neg q)
      (turned_times alpha (turned-add binary64 (turned_scaled r (signum-turned (nonzero_of w e) p)) (turned_times (#1 ⊖ r) p)))))

  mcp-violation : (alpha gamma : Float) → violation_mcp alpha gamma w g ≡ violation_mcp alpha gamma w' g'
  unfolding violation_mcp
  mcp-violation alpha gamma =
      same_else (eq_turned p (zero-turned s)) (same-excess alpha q)
      (λ e. same_else (ap (λ (x : Float). lt x (alpha ⊗ gamma)) (abs-turned p))
      (abs-turned (turned-sub binary64 (turned-add binary64 q (turned_times alpha (signum-turned (nonzero_of w e) p))) (turned-over binary64 gamma p)))
      (λ f. abs-turned q))

-- ---- value
-- x · x is |x| · |x|, so it does not turn, and not even a zero's sign does
square_abs : (x : Float) → x ⊗ x ≡ abs x ⊗ abs x
unfolding mul abs
square_abs nan = refl
square_abs (inf true) = refl
square_abs (inf false) = refl
square_abs (fin true m e) = refl
square_abs (fin false m e) = refl

same_square : {s : Bool} {x y : Float} → Turned s x y → x ⊗ x ≡ y ⊗ y
same_square {s} {x} {y} p = square_abs x ∙ ap (λ (a : Float). a ⊗ a) (abs-turned p) ∙ sym (square_abs y)

same-mcp_of : {s : Bool} {x y : Float} (alpha gamma : Float) → Turned s x y → mcp_of alpha gamma x ≡ mcp_of alpha gamma y
unfolding mcp_of
same-mcp_of alpha gamma p = rw (abs-turned p, same_square p)

-- the terms are equal, whichever weights turn
module _ {s : ℕ → Bool} {w w' : List Float} (p : Signs s w w') where
  term : (f : Float → Float) → ((t : Bool) (x y : Float) → Turned t x y → f x ≡ f y) → sum (λ j. f (at w j)) (length w) ≡ sum (λ j. f (at w' j)) (length w')
  term f h = rw (← signs-length p) (sum_same _ _ (length w) (λ j l. h (s j) (at w j) (at w' j) (signs-at p j)))

  same-abs : sum_abs w ≡ sum_abs w'
  unfolding sum_abs
  same-abs = term abs (λ t x y q. abs-turned q)

  same-squares : sum_squares w ≡ sum_squares w'
  unfolding sum_squares
  same-squares = term (λ x. x ⊗ x) (λ t x y q. same_square q)

  same-mcp : (alpha gamma : Float) → sum_mcp alpha gamma w ≡ sum_mcp alpha gamma w'
  unfolding sum_mcp
  same-mcp alpha gamma = term (mcp_of alpha gamma) (λ t x y q. same-mcp_of alpha gamma q)

-- ---- together
-- what a penalty says that has no fault
pub alpha_legal_lem : (p : Penalty) → penalty_fault p ≡ none → alpha_legal (alpha_of p) ≡ true
unfolding penalty_fault
alpha_legal_lem p h = (spared_at (alpha_legal (alpha_of p)) 2 5 _ h).0

second_legal_lem : (p : Penalty) → penalty_fault p ≡ none → second_legal p ≡ true
unfolding penalty_fault
second_legal_lem p h = (spared_at (second_legal p) 2 6 none (spared_at (alpha_legal (alpha_of p)) 2 5 _ h).1).0

pub ratio_legal_lem : (alpha r : Float) → penalty_fault (L1PlusL2 alpha r) ≡ none → ratio_legal r ≡ true
unfolding second_legal
ratio_legal_lem alpha r h = second_legal_lem (L1PlusL2 alpha r) h

pub odd : (p : Penalty) → penalty_fault p ≡ none → Odd p
unfolding prox violation value
odd (L1 alpha) h = record {
  prox = λ step f n p. l1_prox alpha step (alpha_not-below alpha (alpha_legal_lem (L1 alpha) h)) n p;
  violation = λ p q. l1_violation p q alpha;
  value = λ p. ap (λ (x : Float). alpha ⊗ x) (same-abs p);
}
odd (L1PlusL2 alpha r) h = record {
  prox = λ step f n p.
      net_prox alpha r step (alpha_not-below alpha (alpha_legal_lem (L1PlusL2 alpha r) h)) (ratio_not-below r (ratio_legal_lem alpha r h)) n p;
  violation = λ p q. net_violation p q alpha r;
  value = λ p. rw (same-abs p, same-squares p);
}
odd (MCP alpha gamma) h = record {
  prox = λ step f n p. mcp-prox alpha gamma step (threshold alpha step (alpha_legal_lem (MCP alpha gamma) h) f n) p;
  violation = λ p q. mcp-violation p q alpha gamma;
  value = λ p. same-mcp p alpha gamma;
}
