-- The system's rows are arrays of a fixed size that start as zeros: a loop writes the first places, and the rest stays. A pair of steps is the same both
-- ways, so what stands below the diagonal is found in the rows above. Also where a kept row lies. Assumes nothing.
use mathlib.Core.Path.{◌≡◌, refl, ap, ◌∙◌}
use Prim.Native.Nat.{ℕ, suc, ◌+◌, ◌*◌, ◌≤◌, ◌<◌}
use native.Mathlib.Nat.{le_antisymm, le_refl}
use native.Mathlib.Omega.{arith}
use mathlib.Core.List.{List, [], ◌++◌}
use lib.Dec.{ltb, eqb}
use lib.ListN.{set, drop, replicate, length-replicate, get_or-replicate, get_or-append}
use lib.Ieee.{Float, binary64, nan}
use borrow.Author.Tests.{lt-ltb, le-ltb, eq-eqb, ne_eqb}
use Rattle.doubles.specs.Num.{#0, #1, at, pick}
use Rattle.doubles.specs.Steps.{tab}
use Rattle.doubles.proofs.Laws.Product.{mul-both_ways}
use Rattle.doubles.proofs.Laws.Signs.{sum_same}
use Rattle.doubles.proofs.Laws.Steps.{tab-more, tab-same, length-tab, get_or-tab}
use Rattle.doubles.proofs.Laws.Parts.{tab-filled}
use Rattle.designs.proofs.Laws.Layouts.{cell as place}
use Rattle.elimination.specs.Elimination.{Matrix, row, cell}
use Rattle.definition.specs.Extrapolation.{U, entry, system_row}
use Rattle.history.specs.declared.Kept.{Kept}
use Rattle.history.specs.Inner.Filling.{RowsAbove}

-- ---- a place of what is kept
pub kept-place : (K p r i len : ℕ) → r ≤ K → i < p → suc K * p ≤ len → r * p + i < len
kept-place K p r i len hr hi h = place (suc K) p r i len (omega arith) hi h

-- zeros but for the first K places
pub filled : {A : Type 0} (f : ℕ → A) (z : A) (n K i : ℕ) (row : List A) → K ≤ n → i ≤ K → K ≤ i → row ≡ tab f i ++ drop i (replicate n z)
    → row ≡ tab (λ b. pick (ltb b K) (f b) z) n
filled {A} f z n K i row h a b e =
    let g : ℕ → A = λ b. pick (ltb b K) (f b) z in
    let same : tab f K ≡ tab g K = tab-same f g K (λ j l. rw (lt-ltb j K l)) in
    (rw (le_antisymm a b) at e)
    ∙ ap (λ (t : List A). t ++ drop K (replicate n z)) same
    ∙ tab-filled g (replicate n z) z K n (length-replicate n z) h (λ j l m. get_or-replicate n j z z m ∙ rw (le-ltb j K l))

-- the same with 1 at place K: a row of the system
pub row_done : (f : ℕ → Float) (K i : ℕ) (row : List Float) → K ≤ 10 → i ≤ K → K ≤ i → row ≡ tab f i ++ drop i (replicate 11 #0)
    → set row K #1 ≡ tab (λ b. pick (ltb b K) (f b) (pick (eqb b K) #1 #0)) 11
row_done f K i row h a b e =
    let g : ℕ → Float = λ b. pick (ltb b K) (f b) (pick (eqb b K) #1 #0) in
    let l = replicate 11 #0 in
    let same : tab f K ≡ tab g K = tab-same f g K (λ j k. rw (lt-ltb j K k)) in
    let q : row ≡ tab g K ++ drop K l = (rw (le_antisymm a b) at e) ∙ ap (λ (t : List Float). t ++ drop K l) same in
    let here : #1 ≡ g K = rw (le-ltb K K (le_refl K), eq-eqb K K refl) in
    let behind = tab-filled g l nan (K + 1) 11 refl (omega arith) in
    tab-more g l row K q #1 (omega (arith, length-replicate 11 #0)) here
    ∙ behind (λ j k m. get_or-replicate 11 j #0 nan m ∙ rw (le-ltb j K (omega arith), ne_eqb j K (λ x. omega (arith, x))))

-- ---- the same below the diagonal as above it: both factors of a product may change places
entry-both_ways : (p m : ℕ) (kept : List Float) (k l : ℕ) → entry p m kept k l ≡ entry p m kept l k
unfolding entry
entry-both_ways p m kept k l = sum_same _ _ m (λ i h. mul-both_ways binary64 (U p kept k i) (U p kept l i))

pub from-above : (s : Kept) (m : ℕ) (kept : List Float) (k : ℕ) (above : Matrix) → RowsAbove s m kept k above
    → (l : ℕ) → l < k → k < s.depth → s.depth ≤ 10 → cell above l k ≡ entry s.p m kept k l
unfolding system_row
from-above s m kept k above h l a b c =
    ap (λ (r : List Float). at r k) (h.each l a) ∙ get_or-tab _ 11 k nan (omega arith) ∙ rw (lt-ltb k s.depth b) (entry-both_ways s.p m kept l k)

-- the rows written so far are those above the next
pub rows_above : (s : Kept) (m : ℕ) (kept : List Float) (k : ℕ) (rows l : Matrix)
    → rows ≡ tab (system_row s.depth s.p m kept) k ++ l → RowsAbove s m kept k rows
rows_above s m kept k rows l e =
    let f : ℕ → List Float = system_row s.depth s.p m kept in
    record { each = λ a h. ap (λ (r : Matrix). row r a) e ∙ get_or-append (tab f k) l [] a (rw (length-tab f k) h) ∙ get_or-tab f k a [] h }
