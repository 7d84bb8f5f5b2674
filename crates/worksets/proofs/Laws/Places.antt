-- The index places while a set is made: the support and zeros behind it, then the others in the places up to the size. Assumes nothing.
use mathlib.Core.Path.{◌≡◌, refl, sym, ap, subst, ◌∙◌}
use mathlib.Core.Bool.{Bool, true, false, not}
use mathlib.Core.List.{List, [], ◌∷◌, ◌++◌, append_assoc}
use native.Mathlib.Numerals.{add-one}
use Prim.Native.Nat.{ℕ, zero, suc, ◌+◌, ◌*◌, ◌-◌, ◌≤◌, ◌<◌}
use native.Mathlib.Nat.{le_antisymm, le_refl, sub-zero}
use native.Mathlib.Omega.{arith}
use lib.Ieee.{Float, ne, nan}
use lib.ListN.{length, take, drop, set, replicate, length-append, length-drop, length-replicate, get_or-replicate}
use lib.Seq.{take-length, length-take-le, take_at, drop_at, set_at}
use Rattle.std.specs.List.{count_by}
use Rattle.std.proofs.lemmas.List.Sums.{count_by_more_yes, count_by_more_no}
use Rattle.doubles.specs.Num.{#0, pick}
use Rattle.doubles.specs.Steps.{steps, tab}
use Rattle.doubles.proofs.Laws.Steps.{tab-none}
use Rattle.doubles.proofs.Laws.Parts.{same_drop, same_first, tab-filled}
use Rattle.definition.specs.WorkingSet.{is_zero, smaller, greater, support, size, others, working_set, padded}
use Rattle.selection.proofs.Laws.Others.{share_out}
use Rattle.worksets.proofs.Laws.Sets.{support-more, support-few, size_most, size_least, working_set_parts, length-working_set}

-- ---- the whole: what lies behind the support is filled with others up to the size, and zeros behind
filled : (start : ℕ) (v w : List Float) (h : start ≤ length w) (a s : ℕ) (l r : List ℕ) → a ≡ length (support w (length w)) → s ≡ size start w
    → l ≡ padded (support w (length w)) (length w) → r ≡ take (s - a) (others v w (length w))
    → take a l ++ (r ++ drop (s - a) (drop a l)) ≡ padded (working_set start v w) (length w)
unfolding padded
filled start v w h a s l r ea es e q =
    let p : ℕ = length w in
    let low = size_least start w h in
    let high = size_most start w h in
    let back : p - length (support w p) - (s - a) ≡ p - length (working_set start v w) = rw (length-working_set start w h v) (omega arith) in
    let parts : working_set start v w ≡ support w p ++ take (s - a) (others v w p) = rw (ea, es) (working_set_parts start w h v) in
    let zeros : List ℕ = tab {A = ℕ} (λ k. 0) (p - length (support w p)) in
    rw (
      e,
      q,
      take_at (support w p) zeros a (sym ea),
      drop_at (support w p) zeros a (sym ea),
      same_drop {A = ℕ} 0 (s - a) (p - length (support w p)),
      back,
      ← append_assoc,
      ← parts,
    )

-- the same by what the code has computed: a is the number of nonzero weights, s the size
module _ (start : ℕ) (v w : List Float) (a s : ℕ) (h : start ≤ length w) (ea : a ≡ length (support w (length w)))
    (es : s ≡ greater start (smaller (2 * a) (length w))) where
  pub sized : s ≡ size start w
  unfolding size
  sized = rw (← ea) es

  pub bounds : (a ≤ s) × (s ≤ length w)
  bounds = (rw (ea, sized) (size_least start w h), rw sized (size_most start w h))

  pub rank_room : (l : List ℕ) → length l ≡ length w → length (take (s - a) (drop a l)) ≤ length (others v w (length w))
  rank_room l e =
      let c = share_out v w (length w) in
      let d = length-drop a l in
      let b = bounds.1 in
      let t = length-take-le (s - a) (drop a l) (omega arith) in
      omega arith

  pub set_made : (l r : List ℕ) → length l ≡ length w → l ≡ padded (support w (length w)) (length w)
      → r ≡ take (length (take (s - a) (drop a l))) (others v w (length w))
      → take a l ++ (r ++ drop (s - a) (drop a l)) ≡ padded (working_set start v w) (length w)
  set_made l r e is q =
      let d = length-drop a l in
      let b = bounds.1 in
      let t : length (take (s - a) (drop a l)) ≡ s - a = length-take-le (s - a) (drop a l) (omega arith) in
      filled start v w h a s l r ea sized is (rw t at q)

-- ---- the places before anything is collected
pub zeros : (n : ℕ) → replicate n 0 ≡ tab {A = ℕ} (λ k. 0) n
zeros n =
    tab-none (λ k. 0) (replicate n 0)
    ∙ tab-filled (λ k. 0) (replicate n 0) 0 0 n (length-replicate n 0) (omega arith) (λ j a b. get_or-replicate n j 0 0 b)

-- ---- the loop that collects the support
pub support-none : (w : List Float) (l : List ℕ) (n : ℕ) → l ≡ tab {A = ℕ} (λ k. 0) n → l ≡ padded (support w 0) n
unfolding padded support steps
support-none w l n e = rw (sub-zero n) e

pub support-start : (w : List Float) → 0 ≡ length (support w 0)
unfolding support steps
support-start w = refl

-- there is a place for one more
pub support-room : (w : List Float) (j n c : ℕ) (l : List ℕ) → c ≡ length (support w j) → j < n → length l ≡ n → c < length l
support-room w j n c l e h q = let a = support-few w j in omega arith

pub support-all : (w : List Float) (j n c : ℕ) (l : List ℕ) → c ≡ length (support w j) → l ≡ padded (support w j) n → j ≤ n → n ≤ j
    → (c ≡ length (support w n)) × (l ≡ padded (support w n) n)
support-all w j n c l e q a b =
    let z : j ≡ n = le_antisymm a b in
    (e ∙ ap (λ (i : ℕ). length (support w i)) z, q ∙ ap (λ (i : ℕ). padded (support w i) n) z)

pub support-count : (w : List Float) (j c c' : ℕ) → c ≡ length (support w j) → c' ≡ pick (is_zero w j) c (c + 1) → c' ≡ length (support w (j + 1))
support-count w j c c' e q = q ∙ rw (support-more w j, e) (go (is_zero w j))
  where
    go : (t : Bool) → pick t (length (support w j)) (length (support w j) + 1) ≡ length (pick t (support w j) (support w j ++ (j ∷ [])))
    go true = refl
    go false = sym (length-append (support w j) (j ∷ []))

-- how many of the first weights are not zero: as many as stand in the support
abbrev counts : Float → Bool
counts x = ne x #0

counted-first : (w : List Float) (n : ℕ) → n ≤ length w → count_by counts (take n w) ≡ length (support w n)
unfolding ne
counted-first w zero h = support-start w
counted-first w (suc n) h =
    subst (λ (k : ℕ). count_by counts (take k w) ≡ length (support w k)) (add-one n)
    (support-count w n _ _ (counted-first w n (omega arith)) (go (is_zero w n) refl))
  where
    go : (t : Bool) → is_zero w n ≡ t → count_by counts (take (n + 1) w) ≡ pick t (count_by counts (take n w)) (count_by counts (take n w) + 1)
    go true e = count_by_more_no counts w n nan (omega arith) (ap not e)
    go false e = count_by_more_yes counts w n nan (omega arith) (ap not e)

pub counted : (w : List Float) → count_by (λ (x : Float). ne x #0) w ≡ length (support w (length w))
counted w = ap (count_by counts) (sym (take-length w)) ∙ counted-first w (length w) (le_refl (length w))

pub support-turn : (w : List Float) (n j c : ℕ) (l l' : List ℕ) → j < n → c ≡ length (support w j) → l ≡ padded (support w j) n
    → l' ≡ pick (is_zero w j) l (set l c j) → l' ≡ padded (support w (j + 1)) n
unfolding padded
support-turn w n j c l l' h e is q = q ∙ rw (support-more w j) (go (is_zero w j))
  where
    go : (t : Bool) → pick t l (set l c j) ≡ padded (pick t (support w j) (support w j ++ (j ∷ []))) n
    go true = is
    go false =
        let few = support-few w j in
        let a : n - length (support w j) ≡ suc (n - (c + 1)) = omega arith in
        let b : n - length (support w j ++ (j ∷ [])) ≡ n - (c + 1) = rw (length-append (support w j) (j ∷ []), e) in
        rw (is, a, b, same_first {A = ℕ} 0 (n - (c + 1)), append_assoc) (set_at (support w j) 0 (tab {A = ℕ} (λ k. 0) (n - (c + 1))) j c (sym e))
