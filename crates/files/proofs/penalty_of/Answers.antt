-- `penalty_of`: by the code. Assumes nothing.
use Rattle.files.specs.Problem.{header_penalty}
use Rattle.files.proofs.penalty_of.Goals as goal

pub returns-in-0 : goal.returns-in-0
unfolding header_penalty
returns-in-0 c = rw (c.in-0.is, ← c.f64_at-alpha.ensures)

pub returns-in-1 : goal.returns-in-1
unfolding header_penalty
returns-in-1 c = rw (c.in-1.is, ← c.f64_at-alpha.ensures, ← c.f64_at-second.ensures)

pub returns-in-2 : goal.returns-in-2
unfolding header_penalty
returns-in-2 c = rw (c.in-2.is, ← c.f64_at-alpha.ensures, ← c.f64_at-second.ensures)
