-- "Refusal numbers, in the order they are tested": 1, 3, 4, 5 and 6, each with the place of the first fault.
use Rattle.std.specs.Prelude.{Bool, true, not, ℕ, ◌+◌, ◌-◌, ◌*◌, List, leb, ltb, eqb, length, get_or, Float, Option, Some, None}
use Rattle.doubles.specs.Num.{at, finite, pick, ◌and◌, ◌or◌}
use Rattle.doubles.specs.Answer.{refused, Fault, none, unless}
use Rattle.designs.specs.Given.{Given}
use Rattle.designs.specs.Search.{first_of, mark}
use Rattle.designs.specs.declared.Layout.{Layout}
use Rattle.designs.specs.declared.Layout.TheVariants.{Dense, Csc}
use Rattle.designs.specs.declared.Shape.{Shape}

-- a refusal at the place of what was found
abbrev pub told : ℕ → Option ℕ → Fault → Fault
told number (Some k) f = refused number k
told number None f = f

-- ---- 1: "n, p or the stored count outside its limits, or array lengths disagree"
unfoldable pub lengths : Layout → ℕ → ℕ → List ℕ → List ℕ → List Float → Bool
lengths Dense n p starts rows values = eqb (length values) (n * p) and eqb (length starts) 0 and eqb (length rows) 0
lengths Csc n p starts rows values = eqb (length starts) (p + 1) and eqb (length rows) (length values)

unfoldable pub sizes : Shape → List ℕ → List ℕ → List Float → Bool
sizes s starts rows values =
    leb 1 s.n and leb s.n 65536 and leb 1 s.p and leb s.p 8192 and leb (length values) 16777216
    and lengths s.layout s.n s.p starts rows values

-- ---- 4: "starts[0] is not 0, a start falls, exceeds the stored count, or the last differs from it"
-- the first start is not 0, or a later one is below its predecessor
unfoldable pub falls : List ℕ → ℕ → Bool
falls starts i = pick (eqb i 0) (ltb 0 (get_or starts i 0)) (ltb (get_or starts i 0) (get_or starts (i - 1) 0))

-- start i falls, exceeds the stored count m, or is the last and differs from it
unfoldable pub bad_start : List ℕ → ℕ → ℕ → Bool
bad_start starts m i = falls starts i or ltb m (get_or starts i 0) or (eqb (i + 1) (length starts) and ltb (get_or starts i 0) m)

unfoldable pub bad_starts : List ℕ → ℕ → Option ℕ
bad_starts starts m = first_of (λ i. mark (bad_start starts m i) i) (length starts)

-- ---- 5: "a row index at or above n, or not above its predecessor in the column"
-- of a column that starts at position a, the k-th entry
unfoldable pub bad_row : ℕ → List ℕ → ℕ → ℕ → Bool
bad_row n rows a k = leb n (get_or rows (a + k) 0) or (ltb 0 k and leb (get_or rows (a + k) 0) (get_or rows (a + k - 1) 0))

unfoldable pub bad_column : ℕ → List ℕ → List ℕ → ℕ → Option ℕ
bad_column n starts rows j =
    first_of (λ k. mark (bad_row n rows (get_or starts j 0) k) (get_or starts j 0 + k)) (get_or starts (j + 1) 0 - get_or starts j 0)

unfoldable pub bad_rows : ℕ → ℕ → List ℕ → List ℕ → Option ℕ
bad_rows n p starts rows = first_of (bad_column n starts rows) p

-- ---- 6: "an input number is NaN or infinite; targets are tested first, then stored values"
-- the first that is not finite, its place counted from `from`
unfoldable pub not_finite : List Float → ℕ → Option ℕ
not_finite xs from = first_of (λ k. mark (not (finite (at xs k))) (from + k)) (length xs)

-- "position in targets, or n + position in values"
unfoldable pub numbers : ℕ → List Float → List Float → Fault
numbers n values y = told 6 (not_finite y 0) (told 6 (not_finite values n) none)

-- ---- in their order
unfoldable pub csc_fault : Given → Fault
csc_fault g =
    told 4 (bad_starts g.starts (length g.values))
    (told 5 (bad_rows g.shape.n g.shape.p g.starts g.rows)
    (numbers g.shape.n g.values g.targets))

-- 4, 5 and 6; a dense design has no starts and no rows
unfoldable pub contents : Layout → Given → Fault
contents Dense g = numbers g.shape.n g.values g.targets
contents Csc g = csc_fault g

-- behind 1: 3, where a lent buffer lacks its room; then the contents
unfoldable pub sized_fault : Given → Bool → Fault
sized_fault g room = unless room 3 (contents g.shape.layout g)

-- 1, with what a call asks besides the sizes; then the others
unfoldable pub admitted : Given → Bool → Bool → Fault
admitted g fits room = unless (sizes g.shape g.starts g.rows g.values and fits) 1 (sized_fault g room)

-- the targets are n
abbrev pub targets_fit : Given → Bool
targets_fit g = eqb (length g.targets) g.shape.n

-- room for 2p prepared numbers
abbrev pub room_twice : ℕ → List Float → Bool
room_twice p l = leb (p + p) (length l)

-- the tests of a call that prepares them: 1, 3, 4, 5, 6
unfoldable pub preparation_fault : Given → List Float → Fault
preparation_fault g buf = admitted g (targets_fit g) (room_twice g.shape.p buf)

-- the public check
unfoldable pub check_call : Given → Fault
check_call g = admitted g (targets_fit g) true
