-- `value`: the number of targets, the room, the targets, then the value. Assumes nothing.
use borrow.Author.Tests.{le-leb, lt-leb}
use Rattle.doubles.specs.Num.{◌and◌}
use Rattle.doubles.proofs.Laws.Verdict.{handed_on}
use Rattle.datafits.specs.Calls.{value_fault, value_call}
use Rattle.datafits.proofs.value.Goals as goal
use Rattle.datafits.proofs.value.Goals.{then-n-lt1-via-then-n-lt1, then-n-lt1-via-else-n-lt1+then-n-gt65536}

pub returns-then-n-lt1 : goal.returns-then-n-lt1
unfolding value_fault value_call ◌and◌
returns-then-n-lt1 c = rw c.at.ensures (elim c.then-n-lt1.branch [
  | then-n-lt1-via-then-n-lt1 w ↦ rw (lt-leb _ _ w.if-n-lt1.true)
  | then-n-lt1-via-else-n-lt1+then-n-gt65536 w ↦ rw (le-leb _ _ w.if-n-lt1.false, lt-leb _ _ w.if-n-gt65536.true)
])

pub returns-then-fit-n : goal.returns-then-fit-n
unfolding value_fault value_call ◌and◌
returns-then-fit-n c =
    rw (c.at-then-fit-n.ensures, le-leb _ _ c.if-n-lt1.false, le-leb _ _ c.if-n-gt65536.false, lt-leb _ _ c.if-fit-n.true)

pub returns-in_err-check_numbers : goal.returns-in_err-check_numbers
unfolding value_fault value_call ◌and◌
returns-in_err-check_numbers c =
    rw (
      handed_on _ c.from_residual.ensures.1,
      le-leb _ _ c.if-n-lt1.false,
      le-leb _ _ c.if-n-gt65536.false,
      le-leb _ _ c.if-fit-n.false,
      ← c.in_err-check_numbers.ensures,
    )

pub returns : goal.returns
unfolding value_fault value_call ◌and◌
returns c =
    rw (
      le-leb _ _ c.if-n-lt1.false,
      le-leb _ _ c.if-n-gt65536.false,
      le-leb _ _ c.if-fit-n.false,
      ← c.in_ok-check_numbers.ensures,
      c.value.ensures,
    )
