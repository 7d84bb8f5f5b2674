-- `depth_in_range`: the depth is looked at only with extrapolation on. Assumes nothing.
use mathlib.Core.Path.{◌≡◌, refl}
use mathlib.Core.Bool.{Bool, true, false, not}
use borrow.Author.Tests.{lt-leb, le-leb}
use Rattle.doubles.specs.Num.{pick, ◌and◌}
use Rattle.definition.specs.Call.{depth_legal}
use Rattle.decisions.proofs.depth_in_range.Goals as goal

off : (b x : Bool) → not b ≡ true → not b ≡ pick b x true
off true x e = cc
off false x e = refl

on : (b x : Bool) → not b ≡ false → pick b x true ≡ x
on true x e = refl
on false x e = cc

pub returns-then-not-settings : goal.returns-then-not-settings
unfolding depth_legal
returns-then-not-settings c = off _ _ c.if-not-settings.true

pub returns-then-settings-ge1 : goal.returns-then-settings-ge1
unfolding depth_legal ◌and◌
returns-then-settings-ge1 c = rw (on _ _ c.if-not-settings.false, le-leb _ _ c.if-settings-ge1.true)

pub returns-else-settings-ge1 : goal.returns-else-settings-ge1
unfolding depth_legal ◌and◌
returns-else-settings-ge1 c = rw (on _ _ c.if-not-settings.false, lt-leb _ _ c.if-settings-ge1.false)
