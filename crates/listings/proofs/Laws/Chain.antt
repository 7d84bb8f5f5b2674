-- Texts written one behind the other: the room of each, and what they are together. Assumes nothing.
use mathlib.Core.Path.{◌≡◌, refl, ap, ◌∙◌}
use mathlib.Core.List.{List}
use Prim.Native.Nat.{ℕ, ◌+◌, ◌-◌, ◌≤◌}
use native.Mathlib.Omega.{arith}
use borrow.Rule.Slice.PartMut.{put_mid}
use lib.ListN.{length, length-append}
use Rattle.doubles.proofs.Laws.Buffer.{length-put, put-behind, put_back}
use Rattle.listings.specs.Listing.{◌and_then◌}
use Rattle.listings.specs.Inner.Wrote.{Room, Wrote}

-- a text copied to its part of the buffer
pub wrote_text : (l t xs : List ℕ) (a : ℕ) → t ≡ xs → a + length xs ≤ length l → Wrote l (put_mid a (a + length xs - a) l t) a (a + length xs) xs
wrote_text l t xs a e h = record { bytes = rw e (put_back l a (length xs) _ xs (omega arith) refl); place = refl; room = record { fits = h } }

wrote_length : {l m xs : List ℕ} {a b : ℕ} → Wrote l m a b xs → length m ≡ length l
wrote_length {l} {m} {xs} {a} {b} w = ap length w.bytes ∙ length-put l a xs w.room.fits

pub length-and_then : (xs ys : List ℕ) → length (xs and_then ys) ≡ length xs + length ys
unfolding ◌and_then◌
length-and_then xs ys = length-append xs ys

module _ {l : List ℕ} {a : ℕ} (xs ys : List ℕ) (h : Room l a (xs and_then ys)) where
  -- room for two texts is room for the first
  pub room-first : Room l a xs
  room-first = record { fits = let k = h.fits in let e = length-and_then xs ys in omega arith }

  -- and, once that is written, for the second
  pub room_next : {m : List ℕ} {b : ℕ} → Wrote l m a b xs → Room m b ys
  room_next {m} {b} w =
      record { fits = let k = h.fits in let e = length-and_then xs ys in let q = wrote_length w in let p = w.place in omega arith }

pub wrote_both : {l m n xs ys : List ℕ} {a b c : ℕ} → Wrote l m a b xs → Wrote m n b c ys → Wrote l n a c (xs and_then ys)
wrote_both {l} {m} {n} {xs} {ys} {a} {b} {c} v w = record {
  bytes = unfold ◌and_then◌ in w.bytes ∙ rw (v.bytes, v.place) (put-behind l a xs ys v.room.fits);
  place = let e = length-and_then xs ys in let p = v.place in let q = w.place in omega arith;
  room = record { fits = let e = length-and_then xs ys in let p = v.place in let q = wrote_length v in let k = w.room.fits in omega arith };
}
