-- The whole call: what the tests say, each refusal, and a text written from place 0 on. Assumes nothing.
use mathlib.Core.Path.{◌≡◌, refl, sym, ap, ◌∙◌}
use mathlib.Core.Bool.{Bool, true, false}
use mathlib.Core.List.{List}
use Prim.Native.Nat.{ℕ, ◌≤◌, ◌<◌}
use native.Mathlib.Nat.{zero-add}
use borrow.Author.Tests.{leb-true, le-leb, lt-leb}
use lib.Dec.{leb}
use lib.ListN.{length}
use lib.Ieee.{Float}
use Rattle.doubles.specs.Num.{pick, ◌and◌}
use Rattle.doubles.specs.Buffer.{put}
use Rattle.doubles.proofs.Laws.Choice.{and_both}
use Rattle.doubles.specs.Answer.{Outcome, refused, answered}
use Rattle.doubles.specs.Answer.{none, unless, after, left}
use Rattle.definition.specs.declared.Report.{Report}
use Rattle.listings.specs.Listing.{listed}
use Rattle.listings.specs.Call.{write_fault, write_call, write_left}
use Rattle.listings.specs.Inner.Wrote.{Wrote}

pub sizes-within : (p n : ℕ) (r : Bool) → r ≡ (leb p 32 and leb n 256) → r ≡ true → (p ≤ 32) × (n ≤ 256)
sizes-within p n r e h = let b = and_both (leb p 32) (leb n 256) (sym e ∙ h) in (leb-true _ _ b.0, leb-true _ _ b.1)

module _ (o : Outcome Report) (w f : List Float) (out : List ℕ) (r : Bool) (e : r ≡ (leb (length w) 32 and leb (length f) 256)) where
  pub refused_1 : (a : Outcome ℕ) → r ≡ false → a ≡ refused 1 0 → (a ≡ write_call o w f out) × (out ≡ write_left o w f out)
  unfolding write_call write_left write_fault
  refused_1 a h q = (q ∙ rw (sym e ∙ h), rw (sym e ∙ h))

  module _ (h : r ≡ true) where
    pub refused_3 : (a : Outcome ℕ) → length out < 8192 → a ≡ refused 3 0 → (a ≡ write_call o w f out) × (out ≡ write_left o w f out)
    unfolding write_call write_left write_fault
    refused_3 a k q = (q ∙ rw (sym e ∙ h, lt-leb 8192 (length out) k), rw (sym e ∙ h, lt-leb 8192 (length out) k))

    pub written : (m : List ℕ) (n : ℕ) → 8192 ≤ length out → Wrote out m 0 n (listed o w f) → (answered n ≡ write_call o w f out) × (m ≡ write_left o w f out)
    unfolding write_call write_left write_fault
    written m n k v =
        (rw (sym e ∙ h, le-leb 8192 (length out) k) (ap answered (v.place ∙ zero-add _)), rw (sym e ∙ h, le-leb 8192 (length out) k) v.bytes)

pub within : (l m : List ℕ) (n : ℕ) (xs : List ℕ) → Wrote l m 0 n xs → n ≤ length l
within l m n xs v = rw v.place v.room.fits

-- what a caller within the program's sizes gets
pub write_fits : (o : Outcome Report) (w f : List Float) (out : List ℕ) → length w ≤ 32 → length f ≤ 256
    → (write_call o w f out ≡ pick (leb 8192 (length out)) (answered (length (listed o w f))) (refused 3 0))
    × (write_left o w f out ≡ pick (leb 8192 (length out)) (put out 0 (listed o w f)) out)
unfolding write_call write_left write_fault ◌and◌
write_fits o w f out h k = rw (le-leb (length w) 32 h, le-leb (length f) 256 k) (go (leb 8192 (length out)))
  where
    go : (b : Bool)
        → (after (unless b 3 none) (length (listed o w f)) ≡ pick b (answered (length (listed o w f))) (refused 3 0))
        × (left (unless b 3 none) (put out 0 (listed o w f)) out ≡ pick b (put out 0 (listed o w f)) out)
    go true = (refl, refl)
    go false = (refl, refl)
