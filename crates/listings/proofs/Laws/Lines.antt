-- The lines of a listing: how long they are, and that those of the first entries begin those of all. Assumes nothing.
use mathlib.Core.Path.{◌≡◌, refl, ap, ◌∙◌}
use mathlib.Core.List.{List, []}
use Prim.Native.Nat.{ℕ, zero, suc, ◌+◌, ◌-◌, ◌*◌, ◌^◌, ◌≤◌, ◌<◌}
use native.Mathlib.Numerals.{add-one}
use native.Mathlib.Nat.{mul-suc, add-zero, le_refl}
use native.Mathlib.Omega.{arith}
use lib.ListN.{length}
use lib.Ieee.{Float}
use Rattle.doubles.specs.Num.{at}
use Rattle.doubles.specs.Steps.{steps}
use Rattle.doubles.proofs.Laws.Buffer.{put-none}
use Rattle.doubles.proofs.Laws.Steps.{steps-more}
use Rattle.definition.specs.Status.{status_number}
use Rattle.definition.specs.declared.Report.{Report}
use Rattle.listings.specs.Listing.{◌and_then◌, codes, digit_count, decimal, hex16, bits_of, newline, labelled}
use Rattle.listings.specs.Listing.{count_line, bits_line, entry_line, entry_lines, report_lines, listing, refused_line}
use Rattle.listings.specs.Inner.Wrote.{Room, Wrote}
use Rattle.listings.proofs.Laws.Chain.{length-and_then, wrote_both, room_next}
use Rattle.listings.proofs.Laws.Digits.{digits_few, digits_below, length-decimal, length-hex16}

-- ---- a line for each entry, one after the other
module _ (name : List ℕ) (xs : List Float) where
  lines_more : (i : ℕ) → entry_lines name xs i and_then entry_line name i (at xs i) ≡ entry_lines name xs (i + 1)
  unfolding entry_lines
  lines_more i = steps-more (λ k l. l and_then entry_line name k (at xs k)) [] i (entry_lines name xs i) refl

  lines_longer : (i d : ℕ) → length (entry_lines name xs i) ≤ length (entry_lines name xs (i + d))
  lines_longer i zero = rw (add-zero i) (le_refl _)
  lines_longer i (suc d) =
      let e : i + suc d ≡ i + d + 1 = omega arith in
      let k = lines_longer i d in
      let q = length-and_then (entry_lines name xs (i + d)) (entry_line name (i + d) (at xs (i + d))) in
      rw (e, ← lines_more (i + d)) (omega arith)

  module _ {l : List ℕ} {a : ℕ} (n : ℕ) (h : Room l a (entry_lines name xs n)) where
    pub lines_none : Wrote l l a a (entry_lines name xs 0)
    unfolding entry_lines steps
    lines_none = record { bytes = put-none (λ k. k) l a; place = omega arith; room = record { fits = let k = h.fits in omega arith } }

    -- before turn i
    module _ {m : List ℕ} {b : ℕ} (i : ℕ) (w : Wrote l m a b (entry_lines name xs i)) where
      pub lines_room : i < n → Room m b (entry_line name i (at xs i))
      lines_room k =
          let e : i + 1 + (n - (i + 1)) ≡ n = omega arith in
          let q : length (entry_lines name xs (i + 1)) ≤ length (entry_lines name xs n) = rw e at (lines_longer (i + 1) (n - (i + 1))) in
          let f = h.fits in
          room_next _ (entry_line name i (at xs i)) (record { fits = rw (lines_more i) (omega arith) }) w

      pub lines_turn : {r : List ℕ} {c : ℕ} → Wrote m r b c (entry_line name i (at xs i)) → Wrote l r a c (entry_lines name xs (i + 1))
      lines_turn v = rw (lines_more i) at (wrote_both w v)

  -- ---- how long they are
  pub lines_length : (c n : ℕ) → ((i : ℕ) → i < n → length (entry_line name i (at xs i)) ≤ c) → length (entry_lines name xs n) ≤ c * n
  lines_length c zero h = unfold entry_lines steps in omega arith
  lines_length c (suc n) h =
      let k = lines_length c n (λ i p. h i (omega arith)) in
      let q = h n (omega arith) in
      let e = length-and_then (entry_lines name xs n) (entry_line name n (at xs n)) in
      let s = mul-suc c n in
      rw (← add-one n, ← lines_more n) (omega arith)

length-labelled : (name : List ℕ) (n : ℕ) → length (labelled name n) ≡ length name + digit_count n
unfolding labelled
length-labelled name n = length-and_then name (decimal n) ∙ ap (λ (k : ℕ). length name + k) (length-decimal n)

length-count : (name : List ℕ) (n : ℕ) → length (count_line name n) ≤ length name + 21
unfolding count_line newline codes
length-count name n =
    let e : length (count_line name n) ≡ length (labelled name n) + 1 = length-and_then (labelled name n) newline in
    let q = length-labelled name n in
    let k = digits_few n in
    omega arith

length-bits : (name : List ℕ) (x : Float) → length (bits_line name x) ≡ length name + 17
unfolding bits_line newline codes
length-bits name x =
    let e : length (bits_line name x) ≡ length name + length (hex16 (bits_of x) and_then newline) = length-and_then name (hex16 (bits_of x) and_then newline) in
    let q : length (hex16 (bits_of x) and_then newline) ≡ length (hex16 (bits_of x)) + 1 = length-and_then (hex16 (bits_of x)) newline in
    let k = length-hex16 (bits_of x) in
    omega arith

length-entry : (name : List ℕ) (i : ℕ) (x : Float) → length (entry_line name i x) ≡ length name + digit_count i + 18
unfolding entry_line
length-entry name i x =
    let line = bits_line (codes " ") x in
    let e : length (entry_line name i x) ≡ length (labelled name i) + length line = length-and_then (labelled name i) line in
    let q = length-labelled name i in
    let k : length line ≡ 18 = unfold codes in length-bits (codes " ") x in
    omega arith

-- where m digits hold every index
lines_within : (name : List ℕ) (xs : List Float) (m n : ℕ) → 1 ≤ m → n ≤ 10 ^ m → length (entry_lines name xs n) ≤ (length name + m + 18) * n
lines_within name xs m n l h =
    lines_length name xs (length name + m + 18) n (λ i p.
    let d = digits_below i m l (omega arith) in
    let e = length-entry name i (at xs i) in
    omega arith)

report-length : (r : Report) → length (report_lines r) ≤ 151
unfolding report_lines
report-length r =
    let s = count_line (codes "status ") (status_number r.status) in
    let v = bits_line (codes "violation ") r.violation in
    let i = count_line (codes "iterations ") r.iterations in
    let e = count_line (codes "epochs ") r.epochs in
    let x = count_line (codes "extrapolations ") r.extrapolations in
    let s' : length s ≤ 28 = unfold codes in length-count (codes "status ") (status_number r.status) in
    let v' : length v ≡ 27 = unfold codes in length-bits (codes "violation ") r.violation in
    let i' : length i ≤ 32 = unfold codes in length-count (codes "iterations ") r.iterations in
    let e' : length e ≤ 28 = unfold codes in length-count (codes "epochs ") r.epochs in
    let x' : length x ≤ 36 = unfold codes in length-count (codes "extrapolations ") r.extrapolations in
    omega (
      arith,
      length-and_then s (v and_then i and_then e and_then x),
      length-and_then v (i and_then e and_then x),
      length-and_then i (e and_then x),
      length-and_then e x,
    )

-- ---- 8,192 bytes hold the largest listing, and any refusal
pub listing-room : (out : List ℕ) (r : Report) (w f : List Float) → length w ≤ 32 → length f ≤ 256 → 8192 ≤ length out → Room out 0 (listing r w f)
unfolding listing
listing-room out r w f h k l =
    let ws = entry_lines (codes "w ") w (length w) in
    let fs = entry_lines (codes "fit ") f (length f) in
    let a = report-length r in
    let b : length ws ≤ 22 * length w = unfold codes in lines_within (codes "w ") w 2 (length w) (omega arith) (omega arith) in
    let c : length fs ≤ 25 * length f = unfold codes in lines_within (codes "fit ") f 3 (length f) (omega arith) (omega arith) in
    record { fits = omega (arith, length-and_then (report_lines r) (ws and_then fs), length-and_then ws fs) }

pub refusal-room : (out : List ℕ) (number place : ℕ) → 8192 ≤ length out → Room out 0 (refused_line number place)
unfolding refused_line
refusal-room out number place h =
    let a = labelled (codes "refused ") number in
    let b = count_line (codes " at ") place in
    let a' : length a ≡ 8 + digit_count number = unfold codes in length-labelled (codes "refused ") number in
    let b' : length b ≤ 25 = unfold codes in length-count (codes " at ") place in
    let k = digits_few number in
    record { fits = omega (arith, length-and_then a b) }
