-- What is printed, from what the reader, the fit and the listing promise. Assumes nothing.
use mathlib.Core.Path.{◌≡◌, refl, sym, ◌∙◌}
use mathlib.Core.Bool.{true}
use Prim.Native.Nat.{ℕ, ◌≤◌}
use native.Mathlib.Nat.{le_of_eq, le_trans}
use native.Mathlib.Omega.{arith}
use mathlib.Core.List.{List}
use lib.ListN.{length, take, replicate}
use lib.Seq.{length-take-le}
use lib.Ieee.{Float}
use Rattle.doubles.specs.Num.{◌and◌}
use Rattle.doubles.specs.Buffer.{put}
use Rattle.doubles.proofs.Laws.Parts.{part_at}
use Rattle.doubles.specs.Answer.{Outcome, refused, answered, none}
use Rattle.designs.specs.Given.{Given, given}
use Rattle.definition.specs.Preparation.{prepare_call, prepare_left}
use Rattle.definition.specs.Call.{Lent, early_fault, answer, buffers, solve_call, solve_left}
use Rattle.definition.specs.Pair.{pair_end, ordered_end}
use Rattle.definition.specs.declared.Settings.{Settings}
use Rattle.definition.specs.declared.Report.{Report}
use Rattle.files.specs.Call.{Problem, parsed, Places, places, places_suffice, with_room, read_problem, sizes_of, sizes_answered, read_call, filled_places}
use Rattle.files.specs.Call.{read_left}
use Rattle.files.specs.declared.Sizes.{Sizes}
use Rattle.listings.specs.Call.{write_call, write_left}
use Rattle.listings.proofs.Laws.Calls.{write_fits}
use Rattle.answers.specs.Printed.{prepared_places}
use Rattle.answers.specs.Printed.{problem_fit, problem_left, printed_for, printed, text_call, text_left, answer_call, answer_left}
use Rattle.answers.specs.Inner.InPlaces.{problem_in}

take-few : (p m : ℕ) (l : List Float) → p ≤ length l → p ≤ m → length (take p l) ≤ m
take-few p m l h k = le_trans (le_of_eq (length-take-le p l h)) k

-- ---- the fit of a problem
module _ (g : Given) (S : Settings) (b : Lent) where
  abbrev pub Fitted : Outcome Report → Lent → Type 0
  Fitted o b' = (o ≡ answer S (ordered_end g S prepared_places b)) × (b' ≡ buffers g.shape S b (ordered_end g S prepared_places b))

  pub early_refused : (number place : ℕ) → refused number place ≡ early_fault g S → Fitted (refused number place) b
  unfolding ordered_end
  early_refused number place h = rw (← h) (refl, refl)

  -- the sizes and the settings have passed, and the preparation leaves these numbers
  module _ (h : none ≡ early_fault g S) (numbers : List Float) (q : numbers ≡ prepare_left g prepared_places) where
    pub preparation-refused : (number place : ℕ) → refused number place ≡ prepare_call g prepared_places → Fitted (refused number place) b
    unfolding ordered_end pair_end
    preparation-refused number place k = rw (← h, ← k) (refl, refl)

    pub problem-solved : none ≡ prepare_call g prepared_places → (o : Outcome Report) (b' : Lent)
        → (o ≡ solve_call g S numbers b) × (b' ≡ solve_left g S numbers b) → Fitted o b'
    unfolding ordered_end pair_end solve_call solve_left
    problem-solved k o b' s = rw (← h, ← k, ← q) s

-- ---- the listing of a fit
pub fit-listed : (P : Problem) (o : Outcome Report) (b : Lent) (out out' : List ℕ) (r : Outcome ℕ) → o ≡ problem_fit P → b ≡ problem_left P
    → P.given.shape.p ≤ length b.weights → P.given.shape.p ≤ 32 → P.given.shape.n ≤ length b.fit → P.given.shape.n ≤ 256
    → r ≡ write_call o (take P.given.shape.p b.weights) (take P.given.shape.n b.fit) out
    → out' ≡ write_left o (take P.given.shape.p b.weights) (take P.given.shape.n b.fit) out
    → (r ≡ text_call (printed_for (answered P)) out) × (out' ≡ text_left (printed_for (answered P)) out)
fit-listed P o b out out' r eo eb hp kp hn kn er el =
    let w = write_fits o (take P.given.shape.p b.weights) (take P.given.shape.n b.fit) out (take-few _ 32 _ hp kp) (take-few _ 256 _ hn kn) in
    (er ∙ w.0 ∙ rw (eo, eb), el ∙ w.1 ∙ rw (eo, eb))

-- ---- what the reader gave
module _ (f : List ℕ) (b : Places) (room : places_suffice b ≡ true) where
  pub read-refused : (number place : ℕ) → refused number place ≡ read_call f b → parsed f ≡ refused number place
  unfolding read_call read_problem
  read-refused number place e = go (parsed f) (rw room at e)
    where
      go : (x : Outcome Problem) → refused number place ≡ sizes_answered (with_room true x) → x ≡ refused number place
      go (refused m q) e = cc
      go (answered P) e = cc

  pub read_problem_lem : (z : Sizes) (b' : Places) → answered z ≡ read_call f b → b' ≡ read_left f b
      → parsed f ≡ answered (problem_in z b'.targets b'.values b'.starts b'.rows)
  unfolding read_call read_left read_problem
  read_problem_lem z b' e l = go (parsed f) (rw room at e) (rw room at l)
    where
      back : {A : Type 0} (l xs : List A) → xs ≡ take (length xs) (put l 0 xs)
      back l xs = sym (part_at l 0 (length xs) xs (omega arith) refl)

      go : (x : Outcome Problem) → answered z ≡ sizes_answered (with_room true x) → b' ≡ filled_places (with_room true x) b
          → x ≡ answered (problem_in z b'.targets b'.values b'.starts b'.rows)
      go (refused m q) e l = cc
      go (answered P) e l =
          let q : z ≡ sizes_of P = cc in
          let g = P.given in
          let starts = back b.starts g.starts in
          let rows = back b.rows g.rows in
          let values = back b.values g.values in
          let targets = back b.targets g.targets in
          rw (q, l) (λ i. answered (record { given = given g.shape (starts i) (rows i) (values i) (targets i); settings = P.settings }))

-- ---- what is printed
pub refusal-printed : (f : List ℕ) (number place : ℕ) (w e : List Float) (out out' : List ℕ) (r : Outcome ℕ) → parsed f ≡ refused number place
    → length w ≤ 32 → length e ≤ 256 → r ≡ write_call (refused number place) w e out → out' ≡ write_left (refused number place) w e out
    → (r ≡ answer_call f out) × (out' ≡ answer_left f out)
unfolding answer_call answer_left printed
refusal-printed f number place w e out out' r ep hw he er el =
    let q = write_fits (refused number place) w e out hw he in
    (er ∙ q.0 ∙ rw ep, el ∙ q.1 ∙ rw ep)

pub fit-printed : (f : List ℕ) (P : Problem) (out out' : List ℕ) (r : Outcome ℕ) → parsed f ≡ answered P → r ≡ text_call (printed_for (answered P)) out
    → out' ≡ text_left (printed_for (answered P)) out → (r ≡ answer_call f out) × (out' ≡ answer_left f out)
unfolding answer_call answer_left printed
fit-printed f P out out' r ep er el = (er ∙ rw ep, el ∙ rw ep)

-- ---- the program's own places are enough
pub own_room : (x : Float) → places_suffice (places (replicate 6144 x) (replicate 4096 x) (replicate 12288 0) (replicate 12288 0)) ≡ true
unfolding places_suffice ◌and◌
own_room x = refl
