-- `back_substitute`: the invariant is the definition's loop down to pivot i, and ends at pivot 1. Assumes nothing.
use mathlib.Core.Path.{◌≡◌, refl, ◌∙◌}
use Prim.Native.Nat.{◌-◌}
use native.Mathlib.Omega.{arith}
use borrow.Author.Rules.{rules}
use Rattle.doubles.proofs.Laws.Steps.{downward-none, downward-turn}
use Rattle.elimination.specs.Elimination.{back_substituted}
use Rattle.elimination.proofs.inner.System.back_substitute.Goals as goal

pub loop-i-init : goal.loop-i-init
loop-i-init c = (refl, search rules, search rules, downward-none _ _ _)

pub loop-i-preserved : goal.loop-i-preserved
loop-i-preserved c =
    let before = c.loop-i.invariant in
    let turn = c.clear_above.ensures in (
      turn.1 ∙ before.0,
      search rules,
      search rules,
      downward-turn _ _ _ _ _ _ (omega arith) before.2 before.3 (rw before.0 at turn.0),
    )

pub returns : goal.returns
unfolding back_substituted
returns c =
    let before = c.loop-i.invariant in
    let z : c.args.self.now.size - c.loop-i.i ≡ c.args.self.now.size - 1 = omega (arith, before.1, c.loop-i-test.false) in
    (rw z at before.3, before.0)
