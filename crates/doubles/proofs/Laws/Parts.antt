-- Parts of a list: what a part that was put leaves before it, and what is read back; lists of one number throughout; a list whose
-- first places are written. Assumes nothing.
use mathlib.Core.Path.{◌≡◌, refl, sym, ap, ◌∙◌}
use Prim.Native.Nat.{ℕ, zero, suc, ◌+◌, ◌-◌, ◌≤◌, ◌<◌}
use native.Mathlib.Numerals.{add-one}
use native.Mathlib.Nat.{add-zero, sub-zero, zero-sub, suc-sub-suc}
use native.Mathlib.Omega.{arith}
use mathlib.Core.List.{List, [], ◌∷◌, ◌++◌, append_assoc, append-nil}
use lib.ListN.{length, get_or, take, drop, take-append-drop, length-drop, drop_of_length-le, replicate, replicate-append-replicate}
use lib.Seq.{length-take-le, take-append-le, drop-append-le, take_at, drop_at, drop-cons}
use lib.Ieee.{Float, nan}
use Rattle.doubles.specs.Num.{at}
use Rattle.doubles.specs.Steps.{steps, tab}
use Rattle.doubles.specs.Buffer.{put}
use Rattle.doubles.proofs.Laws.Steps.{length-tab}

module _ {A : Type 0} where
  -- before the part that was put
  pub part_before : (l : List A) (o a m : ℕ) (xs : List A) → a + m ≤ o → o ≤ length l → take m (drop a (put l o xs)) ≡ take m (drop a l)
  unfolding put
  part_before l o a m xs h k =
      let e : length (take o l) ≡ o = length-take-le o l k in
      let d : length (drop a (take o l)) ≡ o - a = length-drop a (take o l) ∙ ap (λ (n : ℕ). n - a) e in
      let front : (rest : List A) → take m (drop a (take o l ++ rest)) ≡ take m (drop a (take o l)) =
      λ rest. ap (take m) (drop-append-le a (take o l) rest (omega arith)) ∙ take-append-le m (drop a (take o l)) rest (omega arith) in
      front (xs ++ drop (o + length xs) l) ∙ sym (front (drop o l)) ∙ ap (λ (z : List A). take m (drop a z)) (take-append-drop o l)

  -- and the part itself
  pub part_at : (l : List A) (o n : ℕ) (xs : List A) → o ≤ length l → length xs ≡ n → take n (drop o (put l o xs)) ≡ xs
  unfolding put
  part_at l o n xs h k =
      ap (take n) (drop_at (take o l) (xs ++ drop (o + length xs) l) o (length-take-le o l h))
      ∙ take_at xs (drop (o + length xs) l) n k

  pub part_long : (l : List A) (f e n : ℕ) → e ≡ f + n → e ≤ length l → length (take (e - f) (drop f l)) ≡ n
  part_long l f e n h k =
      let q : e - f ≡ n = omega arith in
      let d : length (drop f l) ≡ length l - f = length-drop f l in
      rw q (length-take-le n (drop f l) (omega arith))

  -- ---- one number throughout
  module _ (z : A) where
    same : (n : ℕ) → tab (λ k. z) n ≡ replicate n z
    unfolding steps
    same zero = refl
    same (suc n) = ap (λ (l : List A). l ++ (z ∷ [])) (same n) ∙ replicate-append-replicate n 1 z ∙ ap (λ (k : ℕ). replicate k z) (add-one n)

    pub same_first : (n : ℕ) → tab (λ k. z) (suc n) ≡ z ∷ tab (λ k. z) n
    same_first n = same (suc n) ∙ ap (λ (l : List A). z ∷ l) (sym (same n))

    pub same_drop : (i n : ℕ) → drop i (tab (λ k. z) n) ≡ tab (λ k. z) (n - i)
    unfolding steps
    same_drop zero n = rw (sub-zero n)
    same_drop (suc i) zero = rw (zero-sub (suc i))
    same_drop (suc i) (suc n) = ap (drop (suc i)) (same_first n) ∙ same_drop i n ∙ ap (tab (λ k. z)) (sym (suc-sub-suc n i))

    pub same-take : (i n : ℕ) → i ≤ n → take i (tab (λ k. z) n) ≡ tab (λ k. z) i
    same-take i n h =
        let e : i + (n - i) ≡ n = omega arith in
        let q : tab (λ k. z) n ≡ tab (λ k. z) i ++ tab (λ k. z) (n - i) =
        same n ∙ ap (λ (k : ℕ). replicate k z) (sym e) ∙ sym (replicate-append-replicate i (n - i) z) ∙ rw (same i, same (n - i)) in
        ap (take i) q ∙ take_at (tab (λ k. z) i) (tab (λ k. z) (n - i)) i (length-tab (λ k. z) i)

-- ---- a list of which the first places are written, and the others hold what the table has there
module _ {A : Type 0} (g : ℕ → A) (l : List A) (d : A) where
  tab-rest : (k i : ℕ) → length l ≡ i + k → ((j : ℕ) → i ≤ j → j < i + k → get_or l j d ≡ g j) → tab g i ++ drop i l ≡ tab g (i + k)
  unfolding steps
  tab-rest zero i h e = rw (drop_of_length-le l {i = i} (omega arith), append-nil, add-zero)
  tab-rest (suc k) i h e =
      let n : suc i + k ≡ i + suc k = omega arith in
      let v : get_or l i d ≡ g i = e i (omega arith) (omega arith) in
      let q : tab g (suc i) ++ drop (suc i) l ≡ tab g (suc i + k) = tab-rest k (suc i) (omega arith) (λ j a b. e j (omega arith) (omega arith)) in
      rw (drop-cons l i d (omega arith), v) (sym (append_assoc (tab g i) (g i ∷ []) (drop (suc i) l)) ∙ q ∙ ap (tab g) n)

  pub tab-filled : (i n : ℕ) → length l ≡ n → i ≤ n → ((j : ℕ) → i ≤ j → j < n → get_or l j d ≡ g j) → tab g i ++ drop i l ≡ tab g n
  tab-filled i n h k e =
      let m : i + (n - i) ≡ n = omega arith in
      tab-rest (n - i) i (h ∙ sym m) (λ j a b. e j a (omega arith)) ∙ ap (tab g) m

-- a table of a list's own places
pub tab-get_or : {A : Type 0} (l : List A) (d : A) → tab (λ i. get_or l i d) (length l) ≡ l
unfolding steps
tab-get_or l d = sym (tab-filled (λ i. get_or l i d) l d 0 (length l) refl (omega arith) (λ j a b. refl))

pub tab_own : (l : List Float) → tab (at l) (length l) ≡ l
tab_own l = tab-get_or l nan
