-- A design that passes the tests is sound, and what passed beside it. Assumes nothing.
use mathlib.Core.Path.{◌≡◌, refl, sym, ◌∙◌}
use mathlib.Core.Bool.{Bool, true, false, false≢true}
use mathlib.Core.Logic.{◌⊎◌, inl, inr, ⊎_elim}
use Prim.Native.Nat.{ℕ, zero, suc, ◌+◌, ◌-◌, ◌*◌, ◌≤◌, ◌<◌}
use native.Mathlib.Nat.{le_antisymm, le_refl, le_of_eq}
use native.Mathlib.Numerals.{add-one}
use native.Mathlib.Omega.{arith}
use borrow.Author.Tests.{ltb-true, ltb-false, leb-true, leb-false, eqb-true, eq-eqb, ne_eqb, lt-ltb, le-ltb, lt-leb}
use mathlib.Core.List.{List}
use lib.Dec.{ltb}
use lib.ListN.{length, get_or}
use lib.Ieee.{Float}
use Rattle.doubles.specs.Num.{◌and◌}
use Rattle.doubles.proofs.Laws.Choice.{and_both}
use Rattle.doubles.proofs.Laws.Ends.{or-fails, neither_holds, refused≢answered}
use Rattle.doubles.specs.Answer.{Fault, none}
use Rattle.doubles.proofs.Laws.Verdict.{spared}
use Rattle.designs.specs.Search.{mark}
use Rattle.designs.proofs.Laws.Search.{unmarked, first-none, none_first}
use Rattle.designs.proofs.Laws.Layouts.{row_below}
use Rattle.designs.specs.Inner.Sound.{Rising, Sound, Held, Whole}
use Rattle.designs.specs.Given.{Given}
use Rattle.designs.specs.Checks.{told, lengths, sizes, sized_fault}
use Rattle.designs.specs.Checks.{falls, bad_start, bad_starts, bad_row, bad_column, bad_rows, csc_fault, contents, admitted}
use Rattle.std.specs.Prelude.{Option, Some, None}
use Rattle.designs.specs.declared.Layout.{Layout}
use Rattle.designs.specs.declared.Layout.TheVariants.{Dense, Csc}
use Rattle.designs.specs.declared.Shape.{Shape}

-- ---- connectives
not-second : (a b : Bool) → (a and b) ≡ false → a ≡ true → b ≡ false
unfolding ◌and◌
not-second true b e h = e
not-second false b e h = absurd (false≢true h)

second_of_lem : (a b : Bool) → (a ≡ true → b ≡ false) → (a and b) ≡ false
unfolding ◌and◌
second_of_lem true b h = h refl
second_of_lem false b h = refl

by_test : (a b : ℕ) (t : Bool) → ltb b a ≡ t → (a ≤ b) ⊎ (b < a)
by_test a b true e = inr (ltb-true b a e)
by_test a b false e = inl (ltb-false b a e)

le-or-lt : (a b : ℕ) → (a ≤ b) ⊎ (b < a)
le-or-lt a b = by_test a b (ltb b a) refl

-- ---- 1: what the sizes say
pub record Sized (s : Shape) (starts rows : List ℕ) (values : List Float) : Type 0 where
  pub some : 1 ≤ s.n
  pub few : s.n ≤ 65536
  pub wide : 1 ≤ s.p
  pub narrow : s.p ≤ 8192
  pub agree : lengths s.layout s.n s.p starts rows values ≡ true

pub sized : (s : Shape) (starts rows : List ℕ) (values : List Float) → sizes s starts rows values ≡ true → Sized s starts rows values
unfolding sizes
sized s starts rows values e =
    let a = and_both _ _ e in
    let b = and_both _ _ a.1 in
    let c = and_both _ _ b.1 in
    let d = and_both _ _ c.1 in
    record {
      some = leb-true 1 s.n a.0;
      few = leb-true s.n 65536 b.0;
      wide = leb-true 1 s.p c.0;
      narrow = leb-true s.p 8192 d.0;
      agree = (and_both _ _ d.1).1;
    }

module _ (n p : ℕ) (starts rows : List ℕ) (values : List Float) where
  pub dense-values : lengths Dense n p starts rows values ≡ true → length values ≡ n * p
  unfolding lengths
  dense-values e = eqb-true (length values) (n * p) (and_both _ _ e).0

  pub csc-starts : lengths Csc n p starts rows values ≡ true → length starts ≡ p + 1
  unfolding lengths
  csc-starts e = eqb-true (length starts) (p + 1) (and_both _ _ e).0

  pub csc-rows : lengths Csc n p starts rows values ≡ true → length rows ≡ length values
  unfolding lengths
  csc-rows e = eqb-true (length rows) (length values) (and_both _ _ e).1

-- ---- 4: what a start that is not bad says, and what all of them say together
module _ (starts : List ℕ) (m i : ℕ) (e : bad_start starts m i ≡ false) where
  start_falls : falls starts i ≡ false
  unfolding bad_start
  start_falls = (or-fails _ _ e).0

  start-within : get_or starts i 0 ≤ m
  unfolding bad_start
  start-within = ltb-false m (get_or starts i 0) (or-fails _ _ (or-fails _ _ e).1).0

  start-last : i + 1 ≡ length starts → m ≤ get_or starts i 0
  unfolding bad_start
  start-last h = ltb-false (get_or starts i 0) m (not-second _ _ (or-fails _ _ (or-fails _ _ e).1).1 (eq-eqb (i + 1) (length starts) h))

  start_first : i ≡ 0 → get_or starts i 0 ≡ 0
  unfolding falls
  start_first h = omega (arith, ltb-false 0 (get_or starts i 0) (rw (eq-eqb i 0 h) at start_falls))

  start_up : (j : ℕ) → i ≡ j + 1 → get_or starts j 0 ≤ get_or starts i 0
  unfolding falls
  start_up j h =
      let q : i - 1 ≡ j = omega arith in
      rw q at (ltb-false (get_or starts i 0) (get_or starts (i - 1) 0) (rw (ne_eqb i 0 (λ z. omega (arith, z))) at start_falls))

pub rises : (p m : ℕ) (starts : List ℕ) → length starts ≡ p + 1 → bad_starts starts m ≡ None → Rising p m starts
unfolding bad_starts
rises p m starts l e =
    let each : (i : ℕ) → i < p + 1 → bad_start starts m i ≡ false =
    λ i h. unmarked _ _ (first-none (λ i. mark (bad_start starts m i) i) (length starts) e i (omega arith)) in
    record {
      up = λ j h. start_up starts m (j + 1) (each (j + 1) (omega arith)) j refl;
      within = λ j h. start-within starts m j (each j h);
      start = start_first starts m 0 (each 0 (omega arith)) refl;
      last = le_antisymm (start-within starts m p (each p (omega arith))) (start-last starts m p (each p (omega arith)) (sym l));
    }

-- ---- 5: a stored position lies in some column, so what holds at each place of each column holds at each position
module _ (p m : ℕ) (starts : List ℕ) (s : Rising p m starts) (P : ℕ → Type 0) (e : ℕ)
    (f : (j k : ℕ) → j < p → k < get_or starts (j + 1) 0 - get_or starts j 0 → P (get_or starts j 0 + k)) where
  in_column : (j : ℕ) → j < p → e < get_or starts (j + 1) 0 → get_or starts j 0 ≤ e → P e
  in_column j h l g =
      let q : get_or starts j 0 + (e - get_or starts j 0) ≡ e = omega arith in
      rw q at (f j (e - get_or starts j 0) h (omega arith))

  up_to : (j : ℕ) → j ≤ p → e < get_or starts j 0 → P e
  up_to zero h l = absurd (omega (arith, s.start))
  up_to (suc j) h l =
      ⊎_elim (λ g. in_column j h (rw add-one l) g) (λ g. up_to j (omega arith) g) (le-or-lt (get_or starts j 0) e)

  at_each : e < m → P e
  at_each h = up_to p (le_refl p) (rw s.last h)

module _ (n p : ℕ) (starts rows : List ℕ) (b : bad_rows n p starts rows ≡ None) where
  row_fine : (j k : ℕ) → j < p → k < get_or starts (j + 1) 0 - get_or starts j 0 → bad_row n rows (get_or starts j 0) k ≡ false
  unfolding bad_rows bad_column
  row_fine j k hj hk =
      unmarked _ _
      (first-none (λ k. mark (bad_row n rows (get_or starts j 0) k) (get_or starts j 0 + k)) (get_or starts (j + 1) 0 - get_or starts j 0)
      (first-none (bad_column n starts rows) p b j hj) k hk)

  rows-below : (m : ℕ) → Rising p m starts → (e : ℕ) → e < m → get_or rows e 0 < n
  unfolding bad_row
  rows-below m s e h =
      at_each p m starts s (λ i. get_or rows i 0 < n) e
      (λ j k hj hk. leb-false n (get_or rows (get_or starts j 0 + k) 0) (or-fails _ _ (row_fine j k hj hk)).0) h

  rows_ascend : (j k : ℕ) → j < p → k < get_or starts (j + 1) 0 - get_or starts j 0 → 0 < k
      → get_or rows (get_or starts j 0 + k - 1) 0 < get_or rows (get_or starts j 0 + k) 0
  unfolding bad_row
  rows_ascend j k hj hk h =
      leb-false (get_or rows (get_or starts j 0 + k) 0) (get_or rows (get_or starts j 0 + k - 1) 0)
      (not-second _ _ (or-fails _ _ (row_fine j k hj hk)).1 (lt-ltb 0 k h))

-- ---- all of them together
pub untold : (number : ℕ) (f : Option ℕ) (g : Fault) → told number f g ≡ none → (f ≡ None) × (g ≡ none)
untold number None g e = (refl, e)
untold number (Some k) g e = absurd (refused≢answered e)

pub rising-rows : (p m r : ℕ) (starts : List ℕ) (a : Option ℕ) → length starts ≡ p + 1 → r ≡ m → a ≡ bad_starts starts m → a ≡ None → Rising p r starts
rising-rows p m r starts a hs hr ea ha = rw hr (rises p m starts hs (sym ea ∙ ha))

module _ (g : Given) where
  sound : length g.starts ≡ g.shape.p + 1 → length g.rows ≡ length g.values → csc_fault g ≡ none
      → Sound g.shape.n g.shape.p g.starts g.rows g.values
  unfolding csc_fault
  sound hs hr e =
      let p = g.shape.p in
      let a = untold 4 (bad_starts g.starts (length g.values)) _ e in
      let b = untold 5 (bad_rows g.shape.n p g.starts g.rows) _ a.1 in
      let s = rises p (length g.values) g.starts hs a.0 in
      record {
        columns = hs;
        entries = hr;
        rising = s;
        below = rows-below g.shape.n p g.starts g.rows b.0 (length g.values) s;
        ascending = rows_ascend g.shape.n p g.starts g.rows b.0;
      }

  pub held : (l : Layout) → lengths l g.shape.n g.shape.p g.starts g.rows g.values ≡ true → contents l g ≡ none
      → Held l g.shape.n g.shape.p g.starts g.rows g.values
  unfolding Held contents
  held Dense h e = le_of_eq (sym (dense-values _ _ g.starts g.rows g.values h))
  held Csc h e = sound (csc-starts _ _ g.starts g.rows g.values h) (csc-rows _ _ g.starts g.rows g.values h) e

module _ (n p : ℕ) (starts rows : List ℕ) (values : List Float) where
  -- and a sound one passes: 4 and 5 are given exactly where it is not. Request 2 will cite it, of a design that was mended
  sound_last : Sound n p starts rows values → (i : ℕ) → i + 1 ≡ length starts → get_or starts i 0 ≡ length values
  sound_last S i h =
      let q : i ≡ p = omega (arith, S.columns) in
      rw q S.rising.last

  sound_falls : Sound n p starts rows values → (i : ℕ) → i < p + 1 → falls starts i ≡ false
  unfolding falls
  sound_falls S zero h = le-ltb 0 (get_or starts 0 0) (omega (arith, S.rising.start))
  sound_falls S (suc i) h =
      let q : suc i - 1 ≡ i = omega arith in
      rw (ne_eqb (suc i) 0 (λ z. omega (arith, z)), q) (le-ltb (get_or starts (suc i) 0) (get_or starts i 0) (rw add-one at (S.rising.up i (omega arith))))

  sound_start : Sound n p starts rows values → (i : ℕ) → i < p + 1 → bad_start starts (length values) i ≡ false
  unfolding bad_start
  sound_start S i h =
      neither_holds _ _ (sound_falls S i h)
      (neither_holds _ _ (le-ltb (length values) (get_or starts i 0) (S.rising.within i h))
      (second_of_lem _ _ (λ t. le-ltb (get_or starts i 0) (length values) (omega (arith, sound_last S i (eqb-true (i + 1) (length starts) t))))))

  pub sound_passes : Sound n p starts rows values → (bad_starts starts (length values) ≡ None) × (bad_rows n p starts rows ≡ None)
  unfolding bad_starts bad_rows bad_column bad_row
  sound_passes S = (
    none_first (λ i. mark (bad_start starts (length values) i) i) (length starts) (λ i h. rw (sound_start S i (rw S.columns at h))),
    none_first (bad_column n starts rows) p
        (λ j hj. none_first (λ k. mark (bad_row n rows (get_or starts j 0) k) (get_or starts j 0 + k)) (get_or starts (j + 1) 0 - get_or starts j 0)
        (λ k hk. rw (neither_holds _ _ (lt-leb n (get_or rows (get_or starts j 0 + k) 0) (row_below S j hj k hk))
        (second_of_lem _ _ (λ t. lt-leb (get_or rows (get_or starts j 0 + k) 0) (get_or rows (get_or starts j 0 + k - 1) 0)
        (S.ascending j k hj hk (ltb-true 0 k t))))))),
  )

-- what a call may count on behind the tests
pub record Admitted (g : Given) (fits room : Bool) : Type 0 where
  pub sized : Sized g.shape g.starts g.rows g.values
  pub fit : fits ≡ true
  pub roomy : room ≡ true
  pub whole : Whole g.shape g.starts g.rows g.values

pub admits_sized : (g : Given) (fits room : Bool) → (sizes g.shape g.starts g.rows g.values and fits) ≡ true → sized_fault g room ≡ none
    → Admitted g fits room
unfolding sized_fault
admits_sized g fits room h e =
    let b = and_both _ _ h in
    let c = spared room 3 _ e in
    let z = sized g.shape g.starts g.rows g.values b.0 in
    record { sized = z; fit = b.1; roomy = c.0; whole = held g g.shape.layout z.agree c.1 }

pub admits : (g : Given) (fits room : Bool) → admitted g fits room ≡ none → Admitted g fits room
unfolding admitted
admits g fits room e =
    let a = spared (sizes g.shape g.starts g.rows g.values and fits) 1 _ e in
    admits_sized g fits room a.0 a.1
