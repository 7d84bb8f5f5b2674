-- What the contracts of the inner functions are stated with: what the code counts of what was read, and the lent places.
use Rattle.std.specs.Prelude.{◌≡◌, Bool, true, List, ℕ, ◌+◌, ◌*◌, ◌/◌, ◌≤◌, ◌<◌, leb, eqb, length, Float, Option, Some, None}
use Rattle.doubles.specs.Num.{pick, ◌and◌}
use Rattle.doubles.specs.Buffer.{put}
use Rattle.designs.specs.declared.Layout.{Layout}
use Rattle.designs.specs.declared.Layout.TheVariants.{Dense, Csc}
use Rattle.files.specs.Bytes.{byte, u32, doubles, indices}
use Rattle.files.specs.Problem.{Read, tag_at, length_at, whole, header_shape, header_settings, good_header}
use Rattle.files.specs.declared.Cursor.{Cursor}
use Rattle.files.specs.declared.Header.{Header}

-- ---- the header
abbrev pub some_if : {A : Type 0} → Bool → A → Option A
some_if b a = pick b (Some a) None

abbrev pub layout_by : ℕ → Option Layout
layout_by code = some_if (leb code 1) (pick (eqb code 1) Csc Dense)

abbrev pub switch_by : ℕ → Option Bool
switch_by code = some_if (leb code 1) (eqb code 1)

-- the tests of a header that those of its tag and length leave
unfoldable pub good_shape : List ℕ → Bool
good_shape f = leb (byte f 11) 1 and leb (u32 f 3) 256 and leb (u32 f 7) 32

unfoldable pub good_settings : List ℕ → Bool
good_settings f = leb (byte f 12) 2 and leb (byte f 13) 1

unfoldable pub header_in : List ℕ → Option Header
header_in f = some_if (whole f 0 and good_header f) (record { shape = header_shape f; settings = header_settings f })

-- the file begins with a header
pub record Headed (f : List ℕ) : Type 0 where
  pub whole_first : whole f 0 ≡ true
  pub good : good_header f ≡ true

-- the tags of a layout
abbrev pub last_tag : Layout → ℕ
last_tag Dense = 3
last_tag Csc = 5

abbrev pub known_by : Layout → ℕ → Bool
known_by layout t = leb 2 t and leb t (last_tag layout)

-- ---- behind the header
-- what the code keeps of what was read: the places, and how many elements each array has; each element took its bytes
pub record Counted (f : List ℕ) (c : Cursor) (s : Read) : Type 0 where
  pub at : c.at ≡ s.at
  pub tag : c.tag ≡ s.tag
  pub targets : c.counts.targets ≡ length s.targets
  pub values : c.counts.values ≡ length s.values
  pub starts : c.counts.starts ≡ length s.starts
  pub rows : c.counts.rows ≡ length s.rows
  pub within : c.at ≤ length f
  pub few-targets : 8 * c.counts.targets ≤ c.at
  pub few-values : c.counts.values ≤ 4096
  pub few-starts : 4 * c.counts.starts ≤ c.at
  pub few-rows : 4 * c.counts.rows ≤ c.at
  pub behind : 0 < c.at

-- ---- behind a field
abbrev pub grown_by : ℕ → Bool → ℕ → ℕ
grown_by count gains many = pick gains (count + many) count

unfoldable pub advanced : List ℕ → Cursor → Cursor
advanced f c = record {
  at = c.at + 3 + length_at f c.at;
  tag = tag_at f c.at;
  counts = record {
    targets = grown_by c.counts.targets (eqb (tag_at f c.at) 2) (length_at f c.at / 8);
    values = grown_by c.counts.values (eqb (tag_at f c.at) 3) (length_at f c.at / 8);
    starts = grown_by c.counts.starts (eqb (tag_at f c.at) 4) (length_at f c.at / 4);
    rows = grown_by c.counts.rows (eqb (tag_at f c.at) 5) (length_at f c.at / 4);
  };
}

-- ---- the lent places
-- each array has room for the field's elements, if they are its own
pub record Space (f : List ℕ) (c : Cursor) (a b d e : ℕ) : Type 0 where
  pub targets : tag_at f c.at ≡ 2 → c.counts.targets + length_at f c.at / 8 ≤ a
  pub values : tag_at f c.at ≡ 3 → c.counts.values + length_at f c.at / 8 ≤ b
  pub starts : tag_at f c.at ≡ 4 → c.counts.starts + length_at f c.at / 4 ≤ d
  pub rows : tag_at f c.at ≡ 5 → c.counts.rows + length_at f c.at / 4 ≤ e

-- room for any file's
pub record Suffice (a b d e : ℕ) : Type 0 where
  pub targets : 6144 ≤ a
  pub values : 4096 ≤ b
  pub starts : 12288 ≤ d
  pub rows : 12288 ≤ e

-- a buffer with the elements of the field at place o from `to` on, if the field has the tag t and they are to be kept
abbrev pub stored_in : Bool → List ℕ → ℕ → ℕ → List Float → ℕ → List Float
stored_in keep f o t buf to = pick keep (pick (eqb (tag_at f o) t) (put buf to (doubles f (o + 3) (length_at f o / 8))) buf) buf

abbrev pub indexed_in : Bool → List ℕ → ℕ → ℕ → List ℕ → ℕ → List ℕ
indexed_in keep f o t buf to = pick keep (pick (eqb (tag_at f o) t) (put buf to (indices f (o + 3) (length_at f o / 4))) buf) buf

abbrev pub kept_if : {A : Type 0} → Bool → List A → List A → List A
kept_if keep buf xs = pick keep (put buf 0 xs) buf
