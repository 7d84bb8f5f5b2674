-- What the preparation answers and leaves, from what its two steps do: the numbers are put at the front of the lent buffer, and read back from there to
-- be tested. Assumes nothing.
use mathlib.Core.Path.{◌≡◌, refl, sym, ap, ◌∙◌}
use mathlib.Core.Bool.{Bool, true, false}
use mathlib.Core.List.{List}
use Prim.Native.Nat.{ℕ, ◌+◌, ◌≤◌}
use native.Mathlib.Nat.{zero-add}
use native.Mathlib.Omega.{arith}
use borrow.Author.Tests.{leb-true}
use lib.ListN.{length, take}
use lib.Ieee.{Float}
use Rattle.doubles.specs.Num.{pick}
use Rattle.doubles.specs.Steps.{zeros}
use Rattle.doubles.specs.Buffer.{put}
use Rattle.doubles.specs.Answer.{refused, none, unless, number, outcome_of}
use Rattle.doubles.specs.declared.Refusal.{Refusal}
use Rattle.std.specs.Prelude.{Result, Ok, Err}
use Rattle.doubles.proofs.Laws.Verdict.{stop, pass}
use Rattle.doubles.proofs.Laws.Steps.{length-tab}
use Rattle.doubles.proofs.Laws.Buffer.{put-put, length-put}
use Rattle.doubles.proofs.Laws.Parts.{part_at}
use Rattle.designs.specs.Given.{Given}
use Rattle.designs.specs.Checks.{targets_fit, room_twice, preparation_fault}
use Rattle.designs.proofs.Laws.Passed.{admits}
use Rattle.datafits.specs.Calls.{initialized}
use Rattle.definition.specs.Preparation.{all_usable, prepared_of, prepare_call, numbers_left, prepare_left}
use Rattle.definition.proofs.Laws.Prepared.{prepared-long}

-- v is what the tests found, and m what was left of the lent buffer
module _ (g : Given) (buf : List Float) (v : Result (Unit {0}) Refusal) (m : List Float) (e : outcome_of v ≡ preparation_fault g buf)
    (em : m ≡ initialized g buf) where
  abbrev p : ℕ
  p = g.shape.p

  pub left-refused : (r : Refusal) → v ≡ Err r → (refused (number r.reason) r.place ≡ prepare_call g buf) × (m ≡ prepare_left g buf)
  unfolding prepare_call prepare_left initialized
  left-refused r h = rw (← stop v e r h) (refl, rw (← stop v e r h) at em)

  module _ (h : v ≡ Ok tt) where
    passed : preparation_fault g buf ≡ none
    passed = sym (pass v e h)

    pub small : p ≤ 8192
    unfolding preparation_fault
    small = (admits g (targets_fit g) (room_twice p buf) passed).sized.narrow

    room : p + p ≤ length buf
    unfolding preparation_fault
    room = leb-true (p + p) (length buf) (admits g (targets_fit g) (room_twice p buf) passed).roomy

    filled : m ≡ put buf 0 (prepared_of g)
    unfolding initialized
    filled = rw passed at em

    pub still_room : p + p ≤ length m
    still_room =
        let n = prepared-long g buf in
        let z = zero-add (length (prepared_of g)) in
        let r = room in
        let k = ap length filled ∙ length-put buf 0 (prepared_of g) (omega arith) in
        omega arith

    read_back : take (p + p) m ≡ prepared_of g
    read_back = rw filled (part_at buf 0 (p + p) (prepared_of g) (omega arith) (prepared-long g buf))

    cleared : put m 0 (zeros (p + p)) ≡ put buf 0 (zeros (p + p))
    cleared =
        let n = prepared-long g buf in
        let z = zero-add (length (prepared_of g)) in
        let r = room in
        rw filled (put-put buf 0 (prepared_of g) (zeros (p + p)) (omega arith) (n ∙ sym (length-tab _ (p + p))))

    -- w is what the test of the columns found, and x what it left
    pub left-settled : (w : Result (Unit {0}) Refusal) (x : List Float) → let all = all_usable p (take (p + p) m) in
        (outcome_of w ≡ unless all 7 none) × (x ≡ pick all m (put m 0 (zeros (p + p))))
        → (outcome_of w ≡ prepare_call g buf) × (x ≡ prepare_left g buf)
    unfolding prepare_call prepare_left numbers_left
    left-settled w x q =
        rw passed (rw read_back at q.0, (rw (read_back, cleared, filled) at q.1) ∙ one_put (all_usable p (prepared_of g)))
      where
        one_put : (b : Bool) → pick b (put buf 0 (prepared_of g)) (put buf 0 (zeros (p + p))) ≡ put buf 0 (pick b (prepared_of g) (zeros (p + p)))
        one_put true = refl
        one_put false = refl
