-- What lies from a place of a file on is all that a reader sees there, whatever stands before it. So a number that was written is read back, and a
-- list that was written element by element too. Assumes nothing.
use mathlib.Core.Path.{◌≡◌, refl, sym, ap, ◌∙◌}
use Prim.Native.Nat.{ℕ, zero, suc, ◌+◌, ◌*◌, ◌<◌, suc-le-suc}
use native.Mathlib.Nat.{add_assoc, mul-zero, le_of_suc-le-suc, not-suc-le-zero}
use native.Mathlib.Omega.{arith}
use mathlib.Core.List.{List, [], ◌∷◌, ◌++◌, append_assoc, flat_map}
use lib.ListN.{length, get_or, length-append}
use lib.Seq.{get_or-append-add}
use lib.Ieee.{Float, nan, binary64, of_bits, to_bits}
use lib.Ieee.Bits.{of_bits-to_bits, to_bits-lt}
use Rattle.doubles.specs.Steps.{tab}
use Rattle.doubles.proofs.Laws.Steps.{tab-same}
use Rattle.doubles.proofs.Laws.Parts.{tab-get_or}
use Rattle.files.specs.Bytes.{byte, u16, u32, u64, f64, doubles, indices}
use Rattle.files.specs.Written.{bytes, bytes16, bytes32, bytes64, bytes_of, Double, AllDoubles, Word, AllWords}

-- from place a on, the file is ys
pub record Lies (f : List ℕ) (a : ℕ) (ys : List ℕ) : Type 0 where
  pub front : List ℕ
  pub is : f ≡ front ++ ys
  pub place : a ≡ length front

pub lies_first : (f : List ℕ) → Lies f 0 f
lies_first f = record { front = []; is = refl; place = refl }

pub lies_behind : (f xs ys : List ℕ) (a b : ℕ) → Lies f a (xs ++ ys) → b ≡ a + length xs → Lies f b ys
lies_behind f xs ys a b L e = record {
  front = L.front ++ xs;
  is = L.is ∙ sym (append_assoc L.front xs ys);
  place = e ∙ rw L.place (sym (length-append L.front xs));
}

module _ {f : List ℕ} {a : ℕ} {ys : List ℕ} (L : Lies f a ys) where
  pub lies_length : length f ≡ a + length ys
  lies_length = ap length L.is ∙ length-append L.front ys ∙ rw L.place

  pub byte_there : (k : ℕ) → byte f (a + k) ≡ byte ys k
  byte_there k = rw (L.is, L.place) (get_or-append-add L.front ys k 0)

  pub u16_there : (k : ℕ) → u16 f (a + k) ≡ u16 ys k
  unfolding u16
  u16_there k = rw (add_assoc a k 1, byte_there k, byte_there (k + 1))

  pub u32_there : (k : ℕ) → u32 f (a + k) ≡ u32 ys k
  unfolding u32
  u32_there k = rw (add_assoc a k 2, u16_there k, u16_there (k + 2))

  u64_there : (k : ℕ) → u64 f (a + k) ≡ u64 ys k
  unfolding u64
  u64_there k = rw (add_assoc a k 4, u32_there k, u32_there (k + 4))

  pub f64_there : (k : ℕ) → f64 f (a + k) ≡ f64 ys k
  unfolding f64
  f64_there k = rw (u64_there k)

-- ---- a number that was written
module _ (n : ℕ) (rest : List ℕ) where
  pub u16-back : n < 65536 → u16 (bytes16 n ++ rest) 0 ≡ n
  unfolding u16 bytes
  u16-back h = omega arith

  pub u32-back : Word n → u32 (bytes32 n ++ rest) 0 ≡ n
  unfolding u32 u16 bytes
  u32-back h = omega arith

  u64-back : n < 18446744073709551616 → u64 (bytes64 n ++ rest) 0 ≡ n
  unfolding u64 u32 u16 bytes
  u64-back h = omega arith

pub f64-back : (x : Float) (rest : List ℕ) → Double x → f64 (bytes_of x ++ rest) 0 ≡ x
unfolding f64
f64-back x rest h = ap (of_bits binary64) (u64-back (to_bits binary64 x) rest (to_bits-lt binary64 x h)) ∙ of_bits-to_bits binary64 x h

-- ---- a list that was written, `size` bytes an element
module _ {A : Type 0} (write : A → List ℕ) (size : ℕ) (long : (x : A) → length (write x) ≡ size) where
  all-long : (xs : List A) → length (flat_map write xs) ≡ size * length xs
  unfolding flat_map
  all-long [] = sym (mul-zero size)
  all-long (x ∷ xs) = length-append (write x) (flat_map write xs) ∙ rw (long x, all-long xs) (omega arith)

  module _ (read : List ℕ → ℕ → A) (Fits : A → Type 0) (d : A)
      (there : (f ys : List ℕ) (a : ℕ) → Lies f a ys → (k : ℕ) → read f (a + k) ≡ read ys k)
      (back : (x : A) (rest : List ℕ) → Fits x → read (write x ++ rest) 0 ≡ x) where
    one_back : (xs : List A) (rest : List ℕ) → ((i : ℕ) → i < length xs → Fits (get_or xs i d)) → (i : ℕ) → i < length xs
        → read (flat_map write xs ++ rest) (size * i) ≡ get_or xs i d
    unfolding flat_map
    one_back [] rest g i h = absurd (not-suc-le-zero h)
    one_back (x ∷ xs) rest g zero h = rw (append_assoc (write x) (flat_map write xs) rest, mul-zero size) (back x (flat_map write xs ++ rest) (g 0 h))
    one_back (x ∷ xs) rest g (suc i) h =
        let tail = flat_map write xs ++ rest in
        let L : Lies (write x ++ flat_map write xs ++ rest) (length (write x)) tail =
        record { front = write x; is = append_assoc (write x) (flat_map write xs) rest; place = refl } in
        let e : size * suc i ≡ length (write x) + size * i = rw (long x) (omega arith) in
        rw e (there _ tail _ L (size * i)) ∙ one_back xs rest (λ j k. g (suc j) (suc-le-suc k)) i (le_of_suc-le-suc h)

    all_back : (f : List ℕ) (a : ℕ) (xs : List A) (rest : List ℕ) → Lies f a (flat_map write xs ++ rest)
        → ((i : ℕ) → i < length xs → Fits (get_or xs i d)) → tab (λ i. read f (a + size * i)) (length xs) ≡ xs
    all_back f a xs rest L g =
        tab-same _ _ (length xs) (λ i h. there f _ a L (size * i) ∙ one_back xs rest g i h) ∙ tab-get_or xs d

eight : (x : Float) → length (bytes_of x) ≡ 8
unfolding bytes
eight x = refl

four : (n : ℕ) → length (bytes32 n) ≡ 4
unfolding bytes
four n = refl

pub doubles-long : (xs : List Float) → length (flat_map bytes_of xs) ≡ 8 * length xs
doubles-long = all-long bytes_of 8 eight

pub words_long : (ns : List ℕ) → length (flat_map bytes32 ns) ≡ 4 * length ns
words_long = all-long bytes32 4 four

pub doubles-back : (f : List ℕ) (a : ℕ) (xs : List Float) (rest : List ℕ) → Lies f a (flat_map bytes_of xs ++ rest) → AllDoubles xs
    → doubles f a (length xs) ≡ xs
doubles-back = all_back bytes_of 8 eight f64 Double nan (λ f ys a L. f64_there L) f64-back

pub words_back : (f : List ℕ) (a : ℕ) (ns : List ℕ) (rest : List ℕ) → Lies f a (flat_map bytes32 ns ++ rest) → AllWords ns → indices f a (length ns) ≡ ns
words_back = all_back bytes32 4 four u32 Word 0 (λ f ys a L. u32_there L) u32-back
