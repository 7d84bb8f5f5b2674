-- "Problem file and listing": the lines that the program prints, as bytes.
use Rattle.std.specs.Prelude.{List, [], ◌∷◌, ◌++◌, ℕ, ◌+◌, ◌^◌, leb, length, Float}
use Prim.Native.Char.{code}
use Prim.Native.String.{String, [] as empty, ◌∷◌ as ◌followed◌}
use Rattle.std.specs.Float.{binary64}
use Rattle.std.specs.Float.Ieee.{is_nan, to_bits}
use Rattle.doubles.specs.Num.{at, pick}
use Rattle.doubles.specs.Steps.{steps}
use Rattle.io.specs.Digits.{last_digits}
use Rattle.doubles.specs.Answer.{Outcome, refused, answered}
use Rattle.definition.specs.Status.{status_number}
use Rattle.definition.specs.declared.Report.{Report}

-- the bytes of a text
unfoldable pub codes : String → List ℕ
codes empty = []
codes (c followed s) = code c ∷ codes s

-- one text behind another
infixr 40 ◌and_then◌
unfoldable pub ◌and_then◌ : List ℕ → List ℕ → List ℕ
xs and_then ys = xs ++ ys

-- ---- numbers
-- how many decimal digits n has: 1, and one more for each of 10, 100, .. 10^19 that it reaches. What is printed is below 2^64
unfoldable pub digit_count : ℕ → ℕ
digit_count n = steps (λ k d. pick (leb (10 ^ (k + 1)) n) (d + 1) d) 19 1

-- "iterations 1": in decimal, with no zero in front, and 0 is "0"
unfoldable pub decimal : ℕ → List ℕ
decimal n = last_digits 10 (digit_count n) n

-- "3ff0000000000000": 16 lower-case hex digits
unfoldable pub hex16 : ℕ → List ℕ
hex16 n = last_digits 16 16 n

-- the bits of a double. A run has no NaN to print, and one would be 7ff8000000000000: "NaN payloads are not compared"
unfoldable pub bits_of : Float → ℕ
bits_of x = pick (is_nan x) 0x7ff8_0000_0000_0000 (to_bits binary64 x)

-- ---- lines
unfoldable pub newline : List ℕ
newline = codes "\n"

unfoldable pub labelled : List ℕ → ℕ → List ℕ
labelled name n = name and_then decimal n

-- as "epochs 11"
unfoldable pub count_line : List ℕ → ℕ → List ℕ
count_line name n = labelled name n and_then newline

-- as "violation 0000000000000000"
unfoldable pub bits_line : List ℕ → Float → List ℕ
bits_line name x = name and_then hex16 (bits_of x) and_then newline

-- as "w 0 3ff0000000000000"
unfoldable pub entry_line : List ℕ → ℕ → Float → List ℕ
entry_line name i x = labelled name i and_then bits_line (codes " ") x

-- the lines of the first n entries
unfoldable pub entry_lines : List ℕ → List Float → ℕ → List ℕ
entry_lines name xs n = steps (λ i l. l and_then entry_line name i (at xs i)) n []

-- "status 1", "violation 0000000000000000", "iterations 1", "epochs 11", "extrapolations 0"
unfoldable pub report_lines : Report → List ℕ
report_lines r =
    count_line (codes "status ") (status_number r.status)
    and_then bits_line (codes "violation ") r.violation
    and_then count_line (codes "iterations ") r.iterations
    and_then count_line (codes "epochs ") r.epochs
    and_then count_line (codes "extrapolations ") r.extrapolations

-- then a line a weight, and a line a fit entry
unfoldable pub listing : Report → List Float → List Float → List ℕ
listing r w fit = report_lines r and_then entry_lines (codes "w ") w (length w) and_then entry_lines (codes "fit ") fit (length fit)

-- "A refusal prints one line, as `refused 6 at 1`."
unfoldable pub refused_line : ℕ → ℕ → List ℕ
refused_line number place = labelled (codes "refused ") number and_then count_line (codes " at ") place

abbrev pub listed : Outcome Report → List Float → List Float → List ℕ
listed (refused number place) w fit = refused_line number place
listed (answered r) w fit = listing r w fit
