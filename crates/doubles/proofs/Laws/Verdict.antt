-- What tests found, and what follows: where they refuse, the refusal and unchanged buffers; where they pass, the answer. Assumes nothing.
use mathlib.Core.Path.{◌≡◌, refl, sym, ap, ◌∙◌}
use mathlib.Core.Bool.{Bool, true, false}
use Prim.Native.Nat.{ℕ, ◌≤◌}
use Rattle.doubles.specs.Answer.{refused, answered, Fault, none, outcome_of, number, unless_at, unless, ◌then◌, after, left}
use Rattle.doubles.specs.declared.Refusal.{Refusal}
use Rattle.std.specs.Prelude.{Result, Ok, Err}
use Rattle.std.specs.Result.{IsErrAnd}
use Rattle.std.proofs.lemmas.Result.{err_from_is_err_and}
use Rattle.doubles.proofs.Laws.Ends.{refused≢answered}

-- ---- a chain of tests that found nothing
pub spared_at : (b : Bool) (number place : ℕ) (f : Fault) → unless_at b number place f ≡ none → (b ≡ true) × (f ≡ none)
spared_at true number place f e = (refl, e)
spared_at false number place f e = absurd (refused≢answered e)

pub spared : (b : Bool) (number : ℕ) (f : Fault) → unless b number f ≡ none → (b ≡ true) × (f ≡ none)
spared b number f e = spared_at b number 0 f e

pub then-none : (f g : Fault) → (f then g) ≡ none → (f ≡ none) × (g ≡ none)
then-none (answered u) g e = (refl, e)
then-none (refused number place) g e = absurd (refused≢answered e)

-- ---- behind tests that answered v
module _ (v : Result (Unit {0}) Refusal) {f : Fault} (e : outcome_of v ≡ f) where
  pub stop : (r : Refusal) → v ≡ Err r → refused (number r.reason) r.place ≡ f
  stop r h = sym (ap outcome_of h) ∙ e

  pub stop-after : {A : Type 0} (a : A) (r : Refusal) → v ≡ Err r → refused (number r.reason) r.place ≡ after f a
  stop-after a r h = rw (← stop r h)

  pub stop-left : {A : Type 0} (new old : A) (r : Refusal) → v ≡ Err r → old ≡ left f new old
  stop-left new old r h = rw (← stop r h)

  pub pass : v ≡ Ok tt → none ≡ f
  pass h = sym (ap outcome_of h) ∙ e

  pub pass_after : {A : Type 0} (a x : A) → v ≡ Ok tt → x ≡ a → answered x ≡ after f a
  pass_after a x h q = rw (← pass h, q)

  pub pass_left : {A : Type 0} (new old x : A) → v ≡ Ok tt → x ≡ new → x ≡ left f new old
  pass_left new old x h q = rw (← pass h) q

-- what a `?` that hands a refusal on returns
pub handed_on : {A : Type 0} (r : Result A Refusal) {e : Refusal} → IsErrAnd r (λ y. y ≡ e) → r ≡ Err e
handed_on r h = let p = err_from_is_err_and r h in p.1 ∙ ap Err p.2

-- ---- the numbers that tests give
pub record AtMost (m : ℕ) (f : Fault) : Type 0 where
  pub most : (number place : ℕ) → f ≡ refused number place → number ≤ m

pub none_most : (m : ℕ) → AtMost m none
none_most m = record { most = λ number place e. absurd (refused≢answered (sym e)) }

pub refused_most : {m number : ℕ} → number ≤ m → (place : ℕ) → AtMost m (refused number place)
refused_most {m} {number} h place = record { most = λ n i e. (let q : number ≡ n = cc in rw (← q) h) }

pub unless_at_most : {m : ℕ} (number place : ℕ) → number ≤ m → {f : Fault} (b : Bool) → AtMost m f → AtMost m (unless_at b number place f)
unless_at_most number place h true k = k
unless_at_most number place h false k = refused_most h place

pub unless_most : {m : ℕ} (number : ℕ) → number ≤ m → {f : Fault} (b : Bool) → AtMost m f → AtMost m (unless b number f)
unless_most number h b k = unless_at_most number 0 h b k

pub then_most : {m : ℕ} (f : Fault) {g : Fault} → AtMost m f → AtMost m g → AtMost m (f then g)
then_most (answered u) a b = b
then_most (refused number place) a b = refused_most (a.most number place refl) place
