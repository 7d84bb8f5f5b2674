-- What is kept: row by row under one working set, so that where the extrapolation is due all its rows are related, and the step with them.
-- Assumes nothing.
use mathlib.Core.Path.{◌≡◌, refl, ◌∙◌}
use mathlib.Core.Bool.{true}
use mathlib.Core.List.{List}
use Prim.Native.Nat.{ℕ, suc, ◌+◌, ◌*◌, ◌%◌, ◌≤◌, ◌<◌}
use native.Mathlib.Nat.{mod-lt, mod-le, suc-mod, suc-mul, zero-lt-suc, mul-le-mul_right}
use native.Mathlib.Omega.{arith}
use lib.Dec.{ltb}
use lib.ListN.{length, get_or}
use lib.Ieee.{Float, nan}
use borrow.Author.Count.{below_more}
use borrow.Author.Tests.{ltb-true, eqb-true}
use Rattle.doubles.specs.Num.{at}
use Rattle.doubles.proofs.Laws.Buffer.{length-put, put-before, put_in}
use Rattle.doubles.proofs.Laws.Steps.{tab-same, length-tab, get_or-tab}
use Rattle.elimination.specs.Elimination.{Matrix, regular, read_off, eliminated}
use Rattle.definition.specs.Epoch.{Point}
use Rattle.definition.specs.Extrapolation.{gathered, kept_now, system_row, system, coefficients, combined, candidate}
use Rattle.definition.specs.Extrapolation.{Tried, keeps, chosen, point_of, candidate_of, from_system, extrapolate, due, tried}
use Rattle.two_runs.specs.Alike.{Pair, first, second, Weights, Points, FeatureSet, Rows, Respects}
use Rattle.two_runs.proofs.Laws.Loops.{related, steps_related}
use Rattle.two_runs.proofs.Laws.Points.{weights-set, weights-zero}

-- ---- one row more
module _ (K p e : ℕ) (ws : List ℕ) (few : length ws ≤ p) (w kept : List Float) (room : length kept ≡ suc K * p) where
  fits : (e % suc K) * p + length (gathered ws w) ≤ length kept
  fits =
      let a : suc (e % suc K) * p ≤ suc K * p = mul-le-mul_right p (mod-lt e (zero-lt-suc K)) in
      let b = suc-mul (e % suc K) p in
      rw (length-tab (λ i. at w (get_or ws i 0)) (length ws)) (omega arith)

  pub room-now : length (kept_now K p e ws w kept) ≡ suc K * p
  unfolding kept_now
  room-now = length-put kept ((e % suc K) * p) (gathered ws w) fits ∙ room

  row_now : (i : ℕ) → i < length ws → at (kept_now K p e ws w kept) ((e % suc K) * p + i) ≡ at w (get_or ws i 0)
  unfolding kept_now
  row_now i l =
      let f = fits in
      put_in kept ((e % suc K) * p) (gathered ws w) i nan (omega arith) (rw (length-tab (λ i. at w (get_or ws i 0)) (length ws)) l)
      ∙ get_or-tab (λ i. at w (get_or ws i 0)) (length ws) i nan l

  row_before : (r i : ℕ) → r < e % suc K → i < length ws → at (kept_now K p e ws w kept) (r * p + i) ≡ at kept (r * p + i)
  unfolding kept_now
  row_before r i l m =
      let f = fits in
      let a : suc r * p ≤ (e % suc K) * p = mul-le-mul_right p l in
      let b = suc-mul r p in
      put-before kept ((e % suc K) * p) (gathered ws w) (r * p + i) nan (omega arith) (omega arith)

pub row_next : (K e : ℕ) → suc e % suc K ≤ suc (e % suc K)
row_next K e = rw (suc-mod e (suc K)) (mod-le (suc (e % suc K)) (suc K))

pub record Tries (P : Pair) (a b : Tried) : Type 0 where
  pub points : Points P a.point b.point
  pub taken : a.taken ≡ b.taken

keeps_related : (P : Pair) {q q' : Point} → Points P q q' → Tries P (keeps q) (keeps q')
keeps_related P r = record { points = r; taken = refl }

module _ (P : Pair) (K : ℕ) {ws : List ℕ} (C : FeatureSet P.p ws) (e : ℕ) (kept kept' : List Float) {w w' : List Float} (v : Weights P w w')
    (room : length kept ≡ suc K * P.p) (room' : length kept' ≡ suc K * P.p) where
  abbrev now : List Float
  now = kept_now K P.p e ws w kept

  abbrev now' : List Float
  now' = kept_now K P.p e ws w' kept'

  pub rows-now : Rows P ws (e % suc K) kept kept' → Rows P ws (suc (e % suc K)) now now'
  rows-now h = record {
    each = λ r l.
        below_more (λ (r : ℕ). (i : ℕ) → i < length ws → P.weight (get_or ws i 0) (at now (r * P.p + i)) (at now' (r * P.p + i))) (e % suc K)
        (λ r l i o. rw (row_before K P.p e ws C.few w kept room r i l o, row_before K P.p e ws C.few w' kept' room' r i l o) (h.each r l i o))
        (λ i o. rw (row_now K P.p e ws C.few w kept room i o, row_now K P.p e ws C.few w' kept' room' i o) (v.each (get_or ws i 0) (C.each i o)))
        r (omega arith);
  }

-- where the step is due, the row just kept was the last
due-last : (K e : ℕ) → due K e ≡ true → e % suc K ≡ K
unfolding due
due-last K e h = eqb-true (e % suc K) K h

module _ (P : Pair) (H : Respects P) (on : P.settings.extrapolate ≡ true) {ws : List ℕ} (C : FeatureSet P.p ws) where
  abbrev K : ℕ
  K = P.settings.depth

  -- ---- the system
  module _ {kept kept' : List Float} (r : Rows P ws (suc K) kept kept') where
    row_same : (k : ℕ) → k < K → system_row K P.p (length ws) kept k ≡ system_row K P.p (length ws) kept' k
    unfolding system_row
    row_same k a =
        tab-same _ _ 11
        (λ l b. related (λ (x y : Float). x ≡ y) {b = ltb l K} refl (λ h. H.entry on r k l a (ltb-true l K h)) (λ h. refl))

    system-same : system K P.p (length ws) kept ≡ system K P.p (length ws) kept'
    unfolding system
    system-same =
        tab-same _ _ 10 (λ k l. related (λ (x y : List Float). x ≡ y) {b = ltb k K} refl (λ h. row_same k (ltb-true k K h)) (λ h. refl))

    -- ---- the candidate
    combined_related : (c : List Float) (i : ℕ) → i < length ws → P.weight (get_or ws i 0) (combined K P.p kept c i) (combined K P.p kept' c i)
    unfolding combined
    combined_related c i l =
        H.combined on (get_or ws i 0) (C.each i l) (at c) (λ k. at kept (k * P.p + i)) (λ k. at kept' (k * P.p + i)) K
        (λ k m. r.each k (omega arith) i l)

    candidate_related : (c : List Float) → Weights P (candidate K P.p ws kept c) (candidate K P.p ws kept' c)
    unfolding candidate
    candidate_related c =
        steps_related (λ (k : ℕ). Weights P) _ _ (length ws) _ _ (weights-zero P H.nothing)
        (λ k l w w' q. weights-set P q (get_or ws k 0) (C.each k l) (combined_related c k l))

    -- ---- the step
    module _ {q q' : Point} (u : Points P q q') where
      chosen_related : {w w' : List Float} → Weights P w w'
          → Tries P (chosen (first P) P.y (point_of (first P) ws w) q) (chosen (second P) P.y' (point_of (second P) ws w') q')
      unfolding chosen
      chosen_related v =
          related (Tries P) (H.better on C v u)
          (λ b. record { points = record { weights = unfold point_of in v; other = H.taken on C v u b }; taken = refl })
          (λ b. keeps_related P u)

      from_system_lem : (m : Matrix) → Tries P (from_system (first P) P.y K ws kept q m) (from_system (second P) P.y' K ws kept' q' m)
      unfolding from_system candidate_of
      from_system_lem m =
          related (Tries P) {b = regular K m} refl (λ h. chosen_related (candidate_related (coefficients K (read_off K m)))) (λ h. keeps_related P u)

      extrapolate_related : Tries P (extrapolate (first P) P.y K ws kept q) (extrapolate (second P) P.y' K ws kept' q')
      unfolding extrapolate
      extrapolate_related = rw (← system-same) (from_system_lem (eliminated K (system K P.p (length ws) kept)))

  pub tried_related : (e : ℕ) {kept kept' : List Float} → Rows P ws (suc (e % suc K)) kept kept' → {q q' : Point} → Points P q q'
      → Tries P (tried (first P) P.y K e ws kept q) (tried (second P) P.y' K e ws kept' q')
  unfolding tried
  tried_related e r u =
      related (Tries P) {b = due K e} refl (λ d. extrapolate_related (rw (due-last K e d) at r) u) (λ d. keeps_related P u)
