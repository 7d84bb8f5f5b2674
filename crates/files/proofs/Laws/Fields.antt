-- What the tests of one field say. Assumes nothing.
use mathlib.Core.Path.{◌≡◌, refl, sym, ap, ◌∙◌}
use mathlib.Core.Bool.{Bool, true, false}
use mathlib.Core.Logic.{◌⊎◌, inl, inr}
use Prim.Native.Nat.{ℕ, ◌+◌, ◌≤◌, ◌<◌}
use native.Mathlib.Omega.{arith}
use mathlib.Core.List.{List}
use lib.Dec.{leb}
use lib.ListN.{length}
use borrow.Author.Tests.{leb-true, le-leb, lt-leb}
use Rattle.std.specs.Prelude.{Option, Some, None}
use Rattle.doubles.specs.Num.{pick, ◌and◌}
use Rattle.doubles.proofs.Laws.Choice.{and_both}
use Rattle.designs.specs.declared.Layout.{Layout}
use Rattle.designs.specs.declared.Layout.TheVariants.{Dense, Csc}
use Rattle.files.specs.Bytes.{byte, u16, u32}
use Rattle.files.specs.Problem.{is_csc, header_shape, header_settings, good_header, length_at, whole, known_tag}
use Rattle.files.specs.Inner.Places.{Headed, some_if, good_shape, good_settings, header_in, known_by}
use Rattle.files.specs.declared.Header.{Header}

-- a field that is not cut ends within the file
module _ (f : List ℕ) (o : ℕ) (h : whole f o ≡ true) where
  both_parts : (o + 3 ≤ length f) × (o + 3 + length_at f o ≤ length f)
  unfolding whole
  both_parts = let q = and_both _ _ h in (leb-true _ _ q.0, leb-true _ _ q.1)

  pub head_inside : o + 3 ≤ length f
  head_inside = both_parts.0

  pub body_inside : o + 3 + length_at f o ≤ length f
  body_inside = both_parts.1

-- so a header of 48 bytes has its 51
pub header-long : (f : List ℕ) (m : ℕ) → whole f 0 ≡ true → m ≡ u16 f 1 → m ≡ 48 → 51 ≤ length f
header-long f m h e q = let b : 0 + 3 + length_at f 0 ≤ length f = body_inside f 0 h in let z : u16 f 1 ≡ 48 = sym e ∙ q in omega arith

-- ---- the header
-- what a value says of the test that it waits for
pub none_if : {A : Type 0} (b : Bool) (a : A) → ◌≡◌ {A = Option A} None (some_if b a) → b ≡ false
none_if true a e = cc
none_if false a e = refl

pub some_of : {A : Type 0} (b : Bool) (a x : A) → ◌≡◌ {A = Option A} (Some x) (some_if b a) → (b ≡ true) × (x ≡ a)
some_of true a x e = (refl, cc)
some_of false a x e = cc

reordered : (a b c d e : Bool) → (a and b and c and d and e) ≡ ((c and a and b) and (d and e))
unfolding ◌and◌
reordered true true true d e = refl
reordered true true false d e = refl
reordered true false true d e = refl
reordered true false false d e = refl
reordered false b true d e = refl
reordered false b false d e = refl

module _ (f : List ℕ) where
  -- behind its tag and its length, a header is good if its shape and its settings are
  pub header_by : byte f 0 ≡ 1 → u16 f 1 ≡ 48 → good_header f ≡ (good_shape f and good_settings f)
  unfolding good_header good_shape good_settings u32 ◌and◌
  header_by e h = rw (e, h) (reordered (leb (u32 f 3) 256) (leb (u32 f 7) 32) (leb (byte f 11) 1) (leb (byte f 12) 2) (leb (byte f 13) 1))

  pub is_header : (h : Header) → ◌≡◌ {A = Option Header} (Some h) (header_in f) → Headed f × (h.shape ≡ header_shape f) × (h.settings ≡ header_settings f)
  unfolding header_in
  is_header h e =
      let q = some_of (whole f 0 and good_header f) _ h e in
      let b = and_both _ _ q.0 in (
        record { whole_first = b.0; good = b.1 },
        ap (λ (x : Header). x.shape) q.1,
        ap (λ (x : Header). x.settings) q.1,
      )

  pub is_none : ◌≡◌ {A = Option Header} None (header_in f) → (whole f 0 and good_header f) ≡ false
  unfolding header_in
  is_none e = none_if (whole f 0 and good_header f) _ e

  -- a size beyond the program's
  pub too_large : {n p : ℕ} → n ≡ u32 f 3 → p ≡ u32 f 7 → leb (byte f 11) 1 ≡ true → (256 < n) ⊎ (n ≤ 256 × 32 < p) → good_shape f ≡ false
  unfolding good_shape ◌and◌
  too_large en ep h (inl k) = rw (h, ← en, lt-leb _ _ k)
  too_large en ep h (inr k) = rw (h, ← en, ← ep, le-leb _ _ k.0, lt-leb _ _ k.1)

  -- the tags that are known are those of the header's layout
  pub known_as : (layout : Layout) (t : ℕ) → layout ≡ (header_shape f).layout → known_by layout t ≡ known_tag f t
  unfolding header_shape known_tag
  known_as layout t e = rw e (go (is_csc f))
    where
      go : (b : Bool) → known_by (pick b Csc Dense) t ≡ (leb 2 t and leb t (pick b 5 3))
      go true = refl
      go false = refl
