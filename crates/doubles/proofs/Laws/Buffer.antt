-- Laws of `put`: a part of a lent buffer that is filled place by place, or lent and given back. Assumes nothing.
use mathlib.Core.Path.{◌≡◌, sym, ap, ◌∙◌}
use Prim.Native.Nat.{ℕ, suc, ◌+◌, ◌≤◌, ◌<◌}
use native.Mathlib.Nat.{add-zero, zero-add, le_antisymm}
use native.Mathlib.Omega.{arith}
use mathlib.Core.List.{List, ◌∷◌, ◌++◌, append_assoc}
use lib.ListN.{length, get_or, take, drop, set, take-append-drop, length-append, length-drop, get_or-append}
use lib.Seq.{length-take-le, get_or-take, get_or-append-add, take_at, drop_at, drop-drop, drop-cons, set_at}
use Rattle.doubles.specs.Steps.{tab, steps}
use Rattle.doubles.specs.Buffer.{put}
use Rattle.doubles.proofs.Laws.Steps.{tab-suc, length-tab}

module _ {A : Type 0} where
  pub put-none : (f : ℕ → A) (l : List A) (g : ℕ) → l ≡ put l g (tab f 0)
  unfolding put steps
  put-none f l g = sym (rw add-zero (take-append-drop g l))

  pub length-put : (l : List A) (g : ℕ) (xs : List A) → g + length xs ≤ length l → length (put l g xs) ≡ length l
  unfolding put
  length-put l g xs h =
      let e : length (take g l) ≡ g = length-take-le g l (omega arith) in
      length-append (take g l) (xs ++ drop (g + length xs) l) ∙ rw (e, length-append xs (drop (g + length xs) l), length-drop (g + length xs) l) (omega arith)

  -- the places before the part, and those in it
  pub put-before : (l : List A) (g : ℕ) (xs : List A) (i : ℕ) (d : A) → g ≤ length l → i < g → get_or (put l g xs) i d ≡ get_or l i d
  unfolding put
  put-before l g xs i d h k =
      let e : length (take g l) ≡ g = length-take-le g l h in
      get_or-append (take g l) (xs ++ drop (g + length xs) l) d i (omega arith) ∙ get_or-take g l i d k

  pub put_in : (l : List A) (g : ℕ) (xs : List A) (i : ℕ) (d : A) → g ≤ length l → i < length xs → get_or (put l g xs) (g + i) d ≡ get_or xs i d
  unfolding put
  put_in l g xs i d h k =
      let e : length (take g l) ≡ g = length-take-le g l h in
      ap (λ (n : ℕ). get_or (take g l ++ (xs ++ drop (g + length xs) l)) (n + i) d) (sym e)
      ∙ get_or-append-add (take g l) (xs ++ drop (g + length xs) l) i d
      ∙ get_or-append xs (drop (g + length xs) l) d i k

  -- a part put twice
  pub put-put : (l : List A) (g : ℕ) (xs ys : List A) → g + length xs ≤ length l → length xs ≡ length ys → put (put l g xs) g ys ≡ put l g ys
  unfolding put
  put-put l g xs ys h k =
      let e : length (take g l) ≡ g = length-take-le g l (omega arith) in
      let e2 : length (take g l ++ xs) ≡ g + length ys = length-append (take g l) xs ∙ rw (e, k) in
      let behind = drop (g + length xs) l in
      let front = take_at (take g l) (xs ++ behind) g e in
      let back = drop_at (take g l ++ xs) behind (g + length ys) e2 in
      rw (front, ← append_assoc (take g l) xs behind, back, k)

  -- a part put right behind another
  pub put-behind : (l : List A) (g : ℕ) (xs ys : List A) → g + length xs ≤ length l → put (put l g xs) (g + length xs) ys ≡ put l g (xs ++ ys)
  unfolding put
  put-behind l g xs ys h =
      let front = take g l ++ xs in
      let rest = drop (g + length xs) l in
      let e : length front ≡ g + length xs = length-append (take g l) xs ∙ ap (λ (n : ℕ). n + length xs) (length-take-le g l (omega arith)) in
      let k : g + length xs + length ys ≡ g + length (xs ++ ys) = rw (length-append xs ys) (omega arith) in
      ap (λ (t : List A). take (g + length xs) t ++ (ys ++ drop (g + length xs + length ys) t)) (sym (append_assoc (take g l) xs rest))
      ∙ ap (λ (t : List A). t ++ (ys ++ drop (g + length xs + length ys) (front ++ rest))) (take_at front rest (g + length xs) e)
      ∙ ap (λ (t : List A). front ++ (ys ++ t)) (sym (drop-drop (length ys) (g + length xs) (front ++ rest))
      ∙ ap (drop (length ys)) (drop_at front rest (g + length xs) e)
      ∙ drop-drop (length ys) (g + length xs) l
      ∙ ap (λ (n : ℕ). drop n l) k)
      ∙ simp append_assoc

  -- a part that was lent and came back
  pub put_back : (l : List A) (g n k : ℕ) (xs : List A) → k ≡ n → length xs ≡ n → take g l ++ (xs ++ drop k (drop g l)) ≡ put l g xs
  unfolding put
  put_back l g n k xs hk hx =
      let e : length xs ≡ k = omega arith in
      rw (e, drop-drop k g l)

  -- the first places, lent and come back
  pub put_front : (l : List A) (k : ℕ) (xs ys : List A) → k ≤ length l → length xs ≡ length (take k l) → xs ≡ ys → xs ++ drop k l ≡ put l 0 ys
  unfolding put
  put_front l k xs ys h q e =
      let n : 0 + length ys ≡ k = zero-add (length ys) ∙ sym (ap length e) ∙ q ∙ length-take-le k l h in
      rw (e, n)

  -- ---- a loop that fills a part upward: what is written is a table
  module _ (f : ℕ → A) (l : List A) (g j : ℕ) (d : A) (h : g + j < length l) where
    parted : put l g (tab f j) ≡ (take g l ++ tab f j) ++ (get_or l (g + j) d ∷ drop (suc (g + j)) l)
    unfolding put
    parted = rw (length-tab f j, drop-cons l (g + j) d h) (sym (append_assoc (take g l) (tab f j) (get_or l (g + j) d ∷ drop (suc (g + j)) l)))

    front : length (take g l ++ tab f j) ≡ g + j
    front = length-append (take g l) (tab f j) ∙ rw (length-tab f j, length-take-le g l (omega arith))

    pub put-more : (v : A) → v ≡ f j → set (put l g (tab f j)) (g + j) v ≡ put l g (tab f (j + 1))
    unfolding put
    put-more v e =
        let n : g + length (tab f (j + 1)) ≡ suc (g + j) = rw (length-tab f (j + 1)) (omega arith) in
        rw (parted, set_at (take g l ++ tab f j) (get_or l (g + j) d) (drop (suc (g + j)) l) v (g + j) front, n, tab-suc f j, e) (simp append_assoc)

  pub put_all : (f : ℕ → A) (l m : List A) (g i n : ℕ) → m ≡ put l g (tab f i) → i ≤ n → n ≤ i → m ≡ put l g (tab f n)
  put_all f l m g i n e h k = rw (← le_antisymm h k) e
