-- "The program reads standard input: fields of one-byte tag, two-byte length, body". A file is read field by field while the next one is good;
-- what is read is a problem if nothing is left then.
use Rattle.std.specs.Prelude.{Bool, true, List, [], ◌++◌, ℕ, zero, suc, ◌+◌, ◌/◌, ◌%◌, leb, eqb, length, Float}
use Rattle.doubles.specs.Num.{pick, ◌and◌}
use Rattle.penalties.specs.declared.separable.Penalty.{Penalty}
use Rattle.penalties.specs.declared.separable.Penalty.TheVariants.{L1, L1PlusL2, MCP}
use Rattle.designs.specs.declared.Layout.TheVariants.{Dense, Csc}
use Rattle.designs.specs.declared.Shape.{Shape}
use Rattle.definition.specs.declared.Settings.{Settings}
use Rattle.files.specs.Bytes.{byte, u16, u32, f64, doubles, indices}

-- ---- "Tag 1 comes first, once, 48 bytes: n, p (u32); design 0 dense/1 CSC, penalty 0 L1/1 L1PlusL2/2 MCP, extrapolate 0/1, K (one byte each);
-- start, iterations, epochs (u32); tolerance, alpha, second number (f64; ignored for L1)". Its body begins at place 3.
abbrev pub is_csc : List ℕ → Bool
is_csc f = eqb (byte f 11) 1

unfoldable pub header_shape : List ℕ → Shape
header_shape f = record { layout = pick (is_csc f) Csc Dense; n = u32 f 3; p = u32 f 7 }

unfoldable pub header_penalty : List ℕ → Penalty
header_penalty f = pick (eqb (byte f 12) 0) (L1 (f64 f 35)) (pick (eqb (byte f 12) 1) (L1PlusL2 (f64 f 35) (f64 f 43)) (MCP (f64 f 35) (f64 f 43)))

unfoldable pub header_settings : List ℕ → Settings
header_settings f = record {
  penalty = header_penalty f;
  tolerance = f64 f 27;
  start = u32 f 15;
  iterations = u32 f 19;
  epochs = u32 f 23;
  extrapolate = eqb (byte f 13) 1;
  depth = byte f 14;
}

-- "Other codes .. are refused with 9"; "Program sizes: n ≤ 256, p ≤ 32". K is a setting and no code
unfoldable pub good_header : List ℕ → Bool
good_header f =
    eqb (byte f 0) 1 and eqb (u16 f 1) 48 and leb (u32 f 3) 256 and leb (u32 f 7) 32 and leb (byte f 11) 1 and leb (byte f 12) 2 and leb (byte f 13) 1

-- ---- "Tag 2 targets, 3 values, 4 starts, 5 row indices"
-- what was read: up to place `at`, the last field with tag `tag`
pub record Read : Type 0 where
  pub at : ℕ
  pub tag : ℕ
  pub targets : List Float
  pub values : List Float
  pub starts : List ℕ
  pub rows : List ℕ

abbrev pub nothing_read : Read
nothing_read = record { at = 0; tag = 0; targets = []; values = []; starts = []; rows = [] }

-- the tag and the length of the field at place o
abbrev pub tag_at : List ℕ → ℕ → ℕ
tag_at f o = byte f o

abbrev pub length_at : List ℕ → ℕ → ℕ
length_at f o = u16 f (o + 1)

-- a field that is not cut
unfoldable pub whole : List ℕ → ℕ → Bool
whole f o = leb (o + 3) (length f) and leb (o + 3 + length_at f o) (length f)

-- "Other .. tags .. and tags 4 or 5 in a dense file are refused"; a second tag 1 too
unfoldable pub known_tag : List ℕ → ℕ → Bool
known_tag f t = leb 2 t and leb t (pick (is_csc f) 5 3)

-- "bodies are whole numbers of elements"
abbrev pub element_size : ℕ → ℕ
element_size t = pick (leb t 3) 8 4

-- "stored ≤ 4,096 (the field that passes it)", of which `before` were read before
abbrev pub stored : ℕ → ℕ → ℕ → Bool
stored t before many = pick (eqb t 3) (leb (before + many) 4096) true

-- "Tags never fall": the field at place o, behind one with tag `last`
unfoldable pub good_field : List ℕ → ℕ → ℕ → ℕ → Bool
good_field f o last before =
    known_tag f (tag_at f o) and leb last (tag_at f o) and eqb (length_at f o % element_size (tag_at f o)) 0 and stored (tag_at f o) before (length_at f o / 8)

unfoldable pub good_at : List ℕ → ℕ → ℕ → ℕ → Bool
good_at f o last before = whole f o and pick (eqb o 0) (good_header f) (good_field f o last before)

abbrev pub good : List ℕ → Read → Bool
good f s = good_at f s.at s.tag (length s.values)

-- "repeats join"
abbrev pub joined : {A : Type 0} → ℕ → ℕ → List A → List A → List A
joined t u old new = pick (eqb t u) (old ++ new) old

unfoldable pub next_read : List ℕ → Read → Read
next_read f s =
    let t = tag_at f s.at in
    let m = length_at f s.at in
    let body = s.at + 3 in
    record {
      at = s.at + 3 + m;
      tag = t;
      targets = joined t 2 s.targets (doubles f body (m / 8));
      values = joined t 3 s.values (doubles f body (m / 8));
      starts = joined t 4 s.starts (indices f body (m / 4));
      rows = joined t 5 s.rows (indices f body (m / 4));
    }

-- field after field, while the next one is good; a field has 3 bytes at least, so `length f` of them are enough
unfoldable pub read_on : List ℕ → ℕ → Read → Read
read_on f zero s = s
read_on f (suc k) s = pick (good f s) (read_on f k (next_read f s)) s

unfoldable pub read_all : List ℕ → Read
read_all f = read_on f (length f) nothing_read
