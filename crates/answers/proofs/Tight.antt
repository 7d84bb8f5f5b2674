-- Any two outcomes that the public promise allows coincide: the answer, and what the lent bytes hold. `Post` is the promise as the check reads it:
-- of the arguments, the result and the parameters at exit. Assumes nothing.
use mathlib.Core.Path.{◌≡◌}
use Rattle.std.proofs.Common.{ℕ}
use Rattle.std.specs.Prelude.{Result}
use Rattle.doubles.specs.declared.Refusal.{Refusal}
use Rattle.doubles.proofs.Tight.{coincide, one_outcome}
use Rattle.answers.proofs.answer.Reads as answer_reads

answer_tight : (κs : _) (a : _) (r r' : Result ℕ Refusal) (s s' : _) → answer_reads.Post κs a r s → answer_reads.Post κs a r' s'
    → (r ≡ r') × (s.1.0.now ≡ s'.1.0.now)
answer_tight κs a r r' s s' p q = (one_outcome r r' (coincide p.0 q.0), coincide p.1 q.1)
