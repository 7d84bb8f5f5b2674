-- A problem as a file: document 01's section "Problem file and listing" the other way round. The reader takes it back (proofs/RoundTrip).
use Rattle.std.specs.Prelude.{◌≡◌, Bool, true, false, ℕ, zero, suc, ◌/◌, ◌%◌, ◌≤◌, ◌<◌, T, length, get_or, Float}
use mathlib.Core.List.{List, [], ◌∷◌, ◌++◌, flat_map}
use Rattle.std.specs.Float.{binary64}
use Rattle.std.specs.Float.Ieee.{fits, to_bits}
use Rattle.doubles.specs.Num.{at, #0}
use Rattle.penalties.specs.Penalty.{alpha_of}
use Rattle.penalties.specs.declared.separable.Penalty.{Penalty}
use Rattle.penalties.specs.declared.separable.Penalty.TheVariants.{L1, L1PlusL2, MCP}
use Rattle.designs.specs.declared.Layout.{Layout}
use Rattle.designs.specs.declared.Layout.TheVariants.{Dense, Csc}
use Rattle.designs.specs.declared.Shape.{Shape}
use Rattle.definition.specs.declared.Settings.{Settings}
use Rattle.files.specs.Call.{Problem}

-- ---- "all little-endian": the lowest byte first
unfoldable pub bytes : ℕ → ℕ → List ℕ
bytes zero n = []
bytes (suc k) n = n % 256 ∷ bytes k (n / 256)

abbrev pub bytes16 : ℕ → List ℕ
bytes16 n = bytes 2 n

abbrev pub bytes32 : ℕ → List ℕ
bytes32 n = bytes 4 n

abbrev pub bytes64 : ℕ → List ℕ
bytes64 n = bytes 8 n

-- a double by its bits; a NaN's are 0x7ff8_0000_0000_0000
abbrev pub bytes_of : Float → List ℕ
bytes_of x = bytes64 (to_bits binary64 x)

-- ---- "fields of one-byte tag, two-byte length, body"
unfoldable pub field : ℕ → List ℕ → List ℕ
field tag body = tag ∷ (bytes16 (length body) ++ body)

-- "design 0 dense/1 CSC, penalty 0 L1/1 L1PlusL2/2 MCP, extrapolate 0/1"
abbrev pub design_code : Layout → ℕ
design_code Dense = 0
design_code Csc = 1

abbrev pub penalty_code : Penalty → ℕ
penalty_code (L1 alpha) = 0
penalty_code (L1PlusL2 alpha ratio) = 1
penalty_code (MCP alpha gamma) = 2

abbrev pub extrapolate_code : Bool → ℕ
extrapolate_code false = 0
extrapolate_code true = 1

-- "second number (f64; ignored for L1)"
abbrev pub second_of : Penalty → Float
second_of (L1 alpha) = #0
second_of (L1PlusL2 alpha ratio) = ratio
second_of (MCP alpha gamma) = gamma

-- "48 bytes: n, p (u32); design .., penalty .., extrapolate .., K (one byte each); start, iterations, epochs (u32); tolerance, alpha, second number"
unfoldable pub header : Shape → Settings → List ℕ
header a s =
    bytes32 a.n ++ bytes32 a.p ++ (design_code a.layout ∷ penalty_code s.penalty ∷ extrapolate_code s.extrapolate ∷ bytes 1 s.depth)
    ++ bytes32 s.start ++ bytes32 s.iterations ++ bytes32 s.epochs
    ++ bytes_of s.tolerance ++ bytes_of (alpha_of s.penalty) ++ bytes_of (second_of s.penalty)

-- "tags 4 or 5 in a dense file are refused"
abbrev pub sparse : Layout → List ℕ → List ℕ → List ℕ
sparse Dense starts rows = []
sparse Csc starts rows = field 4 (flat_map bytes32 starts) ++ field 5 (flat_map bytes32 rows)

-- "Tag 1 comes first"; "Tag 2 targets, 3 values, 4 starts, 5 row indices". A file has at most 49,152 bytes, so one field of each is enough
unfoldable pub written : Problem → List ℕ
written P =
    let g = P.given in
    field 1 (header g.shape P.settings)
    ++ (field 2 (flat_map bytes_of g.targets) ++ (field 3 (flat_map bytes_of g.values) ++ sparse g.shape.layout g.starts g.rows))

-- ---- which problems a file can hold: "n ≤ 256, p ≤ 32, stored ≤ 4,096", and each number within its bytes
abbrev pub Double : Float → Type 0
Double x = T (fits binary64 x)

abbrev pub AllDoubles : List Float → Type 0
AllDoubles xs = (i : ℕ) → i < length xs → Double (at xs i)

abbrev pub Word : ℕ → Type 0
Word n = n < 4294967296

abbrev pub AllWords : List ℕ → Type 0
AllWords ns = (i : ℕ) → i < length ns → Word (get_or ns i 0)

-- a penalty's own numbers
abbrev pub OwnDoubles : Penalty → Type 0
OwnDoubles (L1 alpha) = Double alpha
OwnDoubles (L1PlusL2 alpha ratio) = Double alpha × Double ratio
OwnDoubles (MCP alpha gamma) = Double alpha × Double gamma

pub record Fitting (P : Problem) : Type 0 where
  pub samples : P.given.shape.n ≤ 256
  pub features : P.given.shape.p ≤ 32
  pub stored : length P.given.values ≤ 4096
  pub depth : P.settings.depth < 256
  pub start : Word P.settings.start
  pub iterations : Word P.settings.iterations
  pub epochs : Word P.settings.epochs
  pub tolerance : Double P.settings.tolerance
  pub penalty : OwnDoubles P.settings.penalty
  pub targets : AllDoubles P.given.targets
  pub values : AllDoubles P.given.values
  pub starts : AllWords P.given.starts
  pub rows : AllWords P.given.rows
  pub dense : P.given.shape.layout ≡ Dense → (P.given.starts ≡ []) × (P.given.rows ≡ [])
