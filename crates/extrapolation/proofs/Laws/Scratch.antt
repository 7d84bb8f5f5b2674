-- The scratch's parts: a part that is put behind others leaves them as they were, and a part that was put is read back. Assumes nothing.
use mathlib.Core.Path.{◌≡◌, refl, sym, ap, ◌∙◌}
use Prim.Native.Nat.{ℕ, suc, ◌+◌, ◌-◌, ◌*◌, ◌%◌, ◌≤◌, ◌<◌}
use native.Mathlib.Numerals.{add-one}
use native.Mathlib.Nat.{le_of_eq, le_trans, suc-mul, mul-le-mul, mul-le-mul_right, mod-lt, zero-lt-suc}
use native.Mathlib.Omega.{arith}
use borrow.Rule.Slice.PartMut.{put_mid}
use mathlib.Core.List.{List}
use lib.ListN.{length, take, drop, length-drop}
use lib.Seq.{length-take-le}
use lib.Ieee.{Float}
use Rattle.doubles.specs.Buffer.{put}
use Rattle.doubles.proofs.Laws.Buffer.{put_back, length-put}
use Rattle.doubles.proofs.Laws.Parts.{part_before, part_at, part_long}
use Rattle.designs.specs.declared.Shape.{Shape}
use Rattle.designs.proofs.Laws.Layouts.{row_inside}
use Rattle.definition.specs.Extrapolation.{gathered, kept_now}
use Rattle.extrapolation.specs.Inner.Places.{kept_in, old_at, fit_at}

-- ---- sizes
pub old_behind : (K p : ℕ) → p + suc K * p ≤ (2 * K + 2) * p
old_behind K p =
    let q = suc-mul (suc K) p in
    let r : suc (suc K) * p ≤ (2 * K + 2) * p = mul-le-mul_right p (omega arith) in
    omega arith

pub room_split : (K p n : ℕ) → (2 * K + 3) * p + n ≡ (2 * K + 2) * p + p + n
room_split K p n = let q : 2 * K + 3 ≡ suc (2 * K + 2) = omega arith in rw (q, suc-mul (2 * K + 2) p)

pub places_small : (K p : ℕ) → K ≤ 10 → p ≤ 8192 → (2 * K + 2) * p ≤ 180224
places_small K p h k = let a : 2 * K + 2 ≤ 22 = omega arith in le_trans (mul-le-mul a k) (le_of_eq refl)

pub rows_small : (K p : ℕ) → K ≤ 10 → p ≤ 8192 → (K + 1) * p ≤ 90112
rows_small K p h k = let a : K + 1 ≤ 11 = omega arith in le_trans (mul-le-mul a k) (le_of_eq refl)

-- ---- of a shape and a depth
module _ (s : Shape) (K : ℕ) where
  pub kept_read : (l : List Float) (a b : ℕ) → a ≡ s.p → b ≡ a + suc K * s.p → take (b - a) (drop a l) ≡ kept_in s K l
  unfolding kept_in
  kept_read l a b ha hb = let q : b - a ≡ suc K * s.p = omega arith in rw (q, ha)

  pub kept-long : (l : List Float) (a b : ℕ) → b ≡ a + suc K * s.p → b ≤ length l → suc K * s.p ≤ length (take (b - a) (drop a l))
  kept-long l a b h k = le_of_eq (sym (part_long l a b (suc K * s.p) h k))

  -- what is kept, beside a part put behind it
  pub kept_beside : (l xs : List Float) (o : ℕ) → (2 * K + 2) * s.p ≤ o → o ≤ length l → kept_in s K (put l o xs) ≡ kept_in s K l
  unfolding kept_in
  kept_beside l xs o h k = let q = old_behind K s.p in part_before l o s.p (suc K * s.p) xs (omega arith) k

  -- the weights put by, as they were lent and came back
  pub old_put : (l xs w : List Float) (o f : ℕ) → o ≡ (2 * K + 2) * s.p → f ≡ o + s.p → xs ≡ w → length w ≡ s.p
      → put_mid o (f - o) l xs ≡ put l (old_at s K) w
  unfolding old_at
  old_put l xs w o f ho hf e h =
      let q : f - o ≡ s.p = omega arith in
      put_back l o s.p (f - o) xs q (ap length e ∙ h) ∙ rw (ho, e)

  kept_old : (l w : List Float) → length l ≡ (2 * K + 3) * s.p + s.n → kept_in s K (put l (old_at s K) w) ≡ kept_in s K l
  unfolding old_at
  kept_old l w k = let r = room_split K s.p s.n in kept_beside l w ((2 * K + 2) * s.p) (omega arith) (omega arith)

  -- so what is kept is read beside them
  pub kept_then : (l xs w : List Float) (a b o f : ℕ) → a ≡ s.p → b ≡ a + suc K * s.p → o ≡ (2 * K + 2) * s.p → f ≡ o + s.p
      → xs ≡ w → length w ≡ s.p → length l ≡ (2 * K + 3) * s.p + s.n → take (b - a) (drop a (put_mid o (f - o) l xs)) ≡ kept_in s K l
  kept_then l xs w a b o f ha hb ho hf e h k =
      kept_read (put_mid o (f - o) l xs) a b ha hb ∙ ap (kept_in s K) (old_put l xs w o f ho hf e h) ∙ kept_old l w k

  -- both parts
  pub both-put : (l xs w ys fit : List Float) (o f e : ℕ) → o ≡ (2 * K + 2) * s.p → f ≡ o + s.p → e ≡ f + s.n → xs ≡ w → length w ≡ s.p
      → ys ≡ fit → length ys ≡ s.n → put_mid f (e - f) (put_mid o (f - o) l xs) ys ≡ put (put l (old_at s K) w) (fit_at s K) fit
  unfolding fit_at
  both-put l xs w ys fit o f e ho hf he ex hw ey hy =
      let q : e - f ≡ s.n = omega arith in
      let g : f ≡ (2 * K + 2) * s.p + s.p = omega arith in
      put_back (put_mid o (f - o) l xs) f s.n (e - f) ys q hy
      ∙ ap (λ (z : List Float). put z f ys) (old_put l xs w o f ho hf ex hw)
      ∙ rw (g, ey)

-- ---- how long the parts are that are read
module _ (s : Shape) (K : ℕ) (l m : List Float) (o f e : ℕ) (ho : o ≡ (2 * K + 2) * s.p) (hf : f ≡ o + s.p) (he : e ≡ f + s.n)
    (hl : length l ≡ (2 * K + 3) * s.p + s.n) (hm : length m ≡ length l) where
  pub old_long : length (take (f - o) (drop o m)) ≡ s.p
  old_long = let r = room_split K s.p s.n in part_long m o f s.p hf (omega arith)

  pub new-long : length (take (e - f) (drop f m)) ≡ s.n
  new-long = let r = room_split K s.p s.n in part_long m f e s.n he (omega arith)

-- ---- what is found in a scratch with both parts put
module _ (s : Shape) (K : ℕ) (l w fit : List Float) (hw : length w ≡ s.p) (hf : length fit ≡ s.n) (hl : length l ≡ (2 * K + 3) * s.p + s.n) where
  o : ℕ
  o = (2 * K + 2) * s.p

  room : length l ≡ o + s.p + s.n
  unfolding o
  room = hl ∙ room_split K s.p s.n

  first : length (put l o w) ≡ length l
  first = let r = room in length-put l o w (omega arith)

  pub both_old : (m : List Float) (a b : ℕ) → m ≡ put (put l (old_at s K) w) (fit_at s K) fit → a ≡ (2 * K + 2) * s.p → b ≡ a + s.p
      → take (b - a) (drop a m) ≡ w
  unfolding old_at fit_at o
  both_old m a b e ha hb =
      let r = room in
      let k = first in
      let q : b - a ≡ s.p = omega arith in
      rw (q, ha, e) (part_before (put l o w) (o + s.p) o s.p fit (omega arith) (omega arith) ∙ part_at l o s.p w (omega arith) hw)

  pub both-fit : (m : List Float) (a b c : ℕ) → m ≡ put (put l (old_at s K) w) (fit_at s K) fit → a ≡ (2 * K + 2) * s.p → b ≡ a + s.p → c ≡ b + s.n
      → take (c - b) (drop b m) ≡ fit
  unfolding old_at fit_at o
  both-fit m a b c e ha hb hc =
      let r = room in
      let k = first in
      let q : c - b ≡ s.n = omega arith in
      let h : b ≡ o + s.p = omega arith in
      rw (q, h, e) (part_at (put l o w) (o + s.p) s.n fit (omega arith) hf)

  pub both-kept : (m : List Float) → m ≡ put (put l (old_at s K) w) (fit_at s K) fit → kept_in s K m ≡ kept_in s K l
  unfolding old_at fit_at o
  both-kept m e =
      let r = room in
      let k = first in
      rw e (kept_beside s K (put l o w) fit (o + s.p) (omega arith) (omega arith) ∙ kept_beside s K l w o (omega arith) (omega arith))

-- ---- what is kept, lent and come back with a row written
pub row_small : (e K p : ℕ) → K ≤ 10 → p ≤ 8192 → e % (K + 1) * p ≤ 90112
row_small e K p h k =
    let m : e % (K + 1) < K + 1 = rw add-one (mod-lt e (zero-lt-suc K)) in
    le_trans (mul-le-mul_right p (lt-le m)) (rows_small K p h k)
  where
    lt-le : {a b : ℕ} → a < b → a ≤ b
    lt-le h = omega arith

module _ (s : Shape) (K : ℕ) (l : List Float) (a b e : ℕ) (ha : a ≡ s.p) (hb : b ≡ a + suc K * s.p)
    (hl : length l ≡ (2 * K + 3) * s.p + s.n) where
  inside : b ≤ length l
  inside = let r = room_split K s.p s.n in let q = old_behind K s.p in omega arith

  pub row_room : (j : ℕ) → j ≤ s.p → e % (K + 1) * s.p + j ≤ length (take (b - a) (drop a l))
  row_room j h =
      let m : e % (K + 1) < suc K = rw add-one (mod-lt e (zero-lt-suc K)) in
      let q = row_inside (suc K) s.p s.p (e % (K + 1)) (length (take (b - a) (drop a l))) m refl (kept-long s K l a b hb inside) in
      omega arith

  module _ (ks : List Float) (hk : length ks ≡ length (take (b - a) (drop a l))) where
    back : put_mid a (b - a) l ks ≡ put l a ks
    back =
        let q : b - a ≡ suc K * s.p = omega arith in
        put_back l a (suc K * s.p) (b - a) ks q (hk ∙ part_long l a b (suc K * s.p) hb inside)

    pub row_kept : (ws : List ℕ) (w : List Float) → ks ≡ put (take (b - a) (drop a l)) (e % (K + 1) * s.p) (gathered ws w)
        → kept_in s K (put_mid a (b - a) l ks) ≡ kept_now K s.p e ws w (kept_in s K l)
    unfolding kept_now
    row_kept ws w q =
        sym (kept_read s K (put_mid a (b - a) l ks) a b ha hb)
        ∙ ap (λ (z : List Float). take (b - a) (drop a z)) back
        ∙ part_at l a (b - a) ks (a_inside inside) (hk ∙ length-take-le (b - a) (drop a l) (rest inside))
        ∙ q
        ∙ rw (kept_read s K l a b ha hb, add-one)
      where
        a_inside : b ≤ length l → a ≤ length l
        a_inside h = omega arith

        rest : b ≤ length l → b - a ≤ length (drop a l)
        rest h = let d = length-drop a l in omega arith
