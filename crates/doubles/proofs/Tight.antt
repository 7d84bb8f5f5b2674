-- Any two outcomes that a public promise allows coincide. `Post` is the promise as the check reads it: of the arguments, the result and
-- what the parameters are at exit. A reading by cases loses nothing, so it is enough that the readings coincide. Assumes nothing.
use mathlib.Core.Path.{◌≡◌, refl, sym, ap, ◌∙◌}
use mathlib.Core.Bool.{Bool}
use lib.Ieee.{Float}
use Rattle.std.proofs.Common.{ℕ, ◌-◌, List, [], ◌∷◌, get_or}
use Rattle.std.specs.Prelude.{Result, Ok, Err}
use Rattle.doubles.specs.Answer.{Outcome, refused, number, outcome_of}
use Rattle.doubles.specs.declared.Reason.{Reason}
use Rattle.doubles.specs.declared.Refusal.{Refusal}
use Rattle.doubles.proofs.Reason.at.Reads as at_reads
use Rattle.doubles.proofs.Refusal.number.Reads as number_reads
use Rattle.doubles.proofs.abs.Reads as abs_reads
use Rattle.doubles.proofs.signum.Reads as signum_reads
use Rattle.doubles.proofs.is_finite.Reads as is_finite_reads
use Rattle.doubles.proofs.larger.Reads as larger_reads
use Rattle.doubles.proofs.double.Reads as double_reads

-- two values that a promise equates with one are one
pub coincide : {A : Type 0} {x y z : A} → x ≡ z → y ≡ z → x ≡ y
coincide p q = p ∙ sym q

-- ---- a reading loses nothing
abbrev reasons : List Reason
reasons = Reason.Sizes ∷ Reason.Setting ∷ Reason.Room ∷ Reason.Start ∷ Reason.Row ∷ Reason.Number ∷ Reason.NotFinite ∷ Reason.Violation
    ∷ Reason.File ∷ Reason.Prepared ∷ Reason.NoAlpha ∷ []

-- the reason with a number
abbrev reason : ℕ → Reason
reason n = get_or reasons (n - 1) Reason.NoAlpha

reason-number : (r : Reason) → reason (number r) ≡ r
reason-number Reason.Sizes = refl
reason-number Reason.Setting = refl
reason-number Reason.Room = refl
reason-number Reason.Start = refl
reason-number Reason.Row = refl
reason-number Reason.Number = refl
reason-number Reason.NotFinite = refl
reason-number Reason.Violation = refl
reason-number Reason.File = refl
reason-number Reason.Prepared = refl
reason-number Reason.NoAlpha = refl

one_reason : (a b : Reason) → number a ≡ number b → a ≡ b
one_reason a b e = sym (reason-number a) ∙ ap reason e ∙ reason-number b

pub same_refusal : {a b : Refusal} → number a.reason ≡ number b.reason → a.place ≡ b.place → a ≡ b
same_refusal {a} {b} p q = λ i. record { reason = one_reason a.reason b.reason p i; place = q i }

pub one_refusal : {A : Type 0} (a b : Refusal) → ◌≡◌ {A = Outcome A} (refused (number a.reason) a.place) (refused (number b.reason) b.place) → a ≡ b
one_refusal a b e = same_refusal (cc) (cc)

pub one_outcome : {A : Type 0} (a b : Result A Refusal) → outcome_of a ≡ outcome_of b → a ≡ b
one_outcome (Err r) (Err s) e = ap Err (one_refusal r s e)
one_outcome (Err r) (Ok y) e = cc
one_outcome (Ok x) (Err s) e = cc
one_outcome (Ok x) (Ok y) e = cc

-- ---- the public calls
at_tight : (a : _) (r r' : Refusal) (s : _) → at_reads.Post tt a r s → at_reads.Post tt a r' s → r ≡ r'
at_tight a r r' s p q = coincide p q

number_tight : (a : _) (r r' : ℕ) (s : _) → number_reads.Post tt a r s → number_reads.Post tt a r' s → r ≡ r'
number_tight a r r' s p q = coincide p q

abs_tight : (a : _) (r r' : Float) (s : _) → abs_reads.Post tt a r s → abs_reads.Post tt a r' s → r ≡ r'
abs_tight a r r' s p q = coincide p q

signum_tight : (a : _) (r r' : Float) (s : _) → signum_reads.Post tt a r s → signum_reads.Post tt a r' s → r ≡ r'
signum_tight a r r' s p q = coincide p q

is_finite_tight : (a : _) (r r' : Bool) (s : _) → is_finite_reads.Post tt a r s → is_finite_reads.Post tt a r' s → r ≡ r'
is_finite_tight a r r' s p q = coincide p q

larger_tight : (a : _) (r r' : Float) (s : _) → larger_reads.Post tt a r s → larger_reads.Post tt a r' s → r ≡ r'
larger_tight a r r' s p q = coincide p q

double_tight : (a : _) (r r' : Float) (s : _) → double_reads.Post tt a r s → double_reads.Post tt a r' s → r ≡ r'
double_tight a r r' s p q = coincide p q
