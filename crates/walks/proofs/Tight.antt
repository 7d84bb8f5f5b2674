-- Any two outcomes that the public promise allows coincide: the answer, and what the five lent buffers hold. `Post` is the promise as the check
-- reads it: of the arguments, the result and the parameters at exit. Assumes nothing.
use mathlib.Core.Path.{◌≡◌, ap}
use mathlib.Core.List.{List}
use Prim.Native.Nat.{ℕ}
use lib.Ieee.{Float}
use denote.MutBor.{MutBor}
use Rattle.std.specs.Prelude.{Result}
use Rattle.doubles.proofs.Tight.{coincide, one_outcome}
use Rattle.doubles.specs.declared.Refusal.{Refusal}
use Rattle.definition.specs.Call.{Lent, lent}
use Rattle.definition.specs.declared.Settings.{Settings}
use Rattle.definition.specs.declared.Usable.{Usable}
use Rattle.walks.proofs.walk.Reads as walk_reads

-- ---- the lent parameters, from the prepared numbers on; the settings and `most` stand among them
abbrev pub Lents : Type 0
Lents =
    MutBor (List Float) × (Settings × (ℕ × (MutBor (List Float) × (MutBor (List Float) × (MutBor (List ℕ) × (MutBor (List Float) × Unit {0}))))))

-- all five hold the same
abbrev pub SameLents : Lents → Lents → Type 0
SameLents t t' =
    (t.0.now ≡ t'.0.now)
    × (t.1.1.1.0.now ≡ t'.1.1.1.0.now)
    × (t.1.1.1.1.0.now ≡ t'.1.1.1.1.0.now)
    × (t.1.1.1.1.1.0.now ≡ t'.1.1.1.1.1.0.now)
    × (t.1.1.1.1.1.1.0.now ≡ t'.1.1.1.1.1.1.0.now)

abbrev pub buffers_in : Lents → Lent
buffers_in t = lent t.1.1.1.0.now t.1.1.1.1.0.now t.1.1.1.1.1.0.now t.1.1.1.1.1.1.0.now

pub same_lents : (t t' : Lents) → t.0.now ≡ t'.0.now → buffers_in t ≡ buffers_in t' → SameLents t t'
same_lents t t' n b =
    (n, ap (λ (b : Lent). b.weights) b, ap (λ (b : Lent). b.fit) b, ap (λ (b : Lent). b.indices) b, ap (λ (b : Lent). b.scratch) b)

walk_tight : (κs : _) (a : _) (r r' : Result Usable Refusal) (s s' : _) → walk_reads.Post κs a r s → walk_reads.Post κs a r' s'
    → (r ≡ r') × SameLents s.1.1.1 s'.1.1.1
walk_tight κs a r r' s s' p q =
    (one_outcome r r' (coincide p.0 q.0), same_lents s.1.1.1 s'.1.1.1 (coincide p.2 q.2) (coincide p.1 q.1))
