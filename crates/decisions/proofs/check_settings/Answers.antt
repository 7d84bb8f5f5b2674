-- `check_settings`: one test after the other; a test that was passed leaves the definition from the next one on. Assumes nothing.
use mathlib.Core.Path.{◌≡◌, sym, ◌∙◌}
use borrow.Author.Tests.{le-leb, lt-leb}
use Rattle.definition.specs.Call.{settings_fault}
use Rattle.definition.specs.declared.Settings.{Settings}
use Rattle.definition.proofs.Laws.Settings.{from-epochs, from_start, from-depth, from-tolerance}
use Rattle.decisions.proofs.check_settings.Goals as goal
use Rattle.decisions.proofs.check_settings.Goals.{Else-settings-gt1000, Else-settings-gt100000, Else-not-depth_in_range, Else-not-start_in_range}

-- ---- the places behind a test that was passed, each from the one behind it
abbrev settings : Else-settings-gt1000 → Settings
settings c = c.args.settings

-- ---- what is left there
few-iterations : (c : Else-settings-gt1000) → let S = settings c in settings_fault S ≡ from-epochs S
unfolding settings_fault
few-iterations c = rw (le-leb _ _ c.if-settings-gt1000.false)

few-epochs : (c : Else-settings-gt100000) → let S = settings c.before.before in settings_fault S ≡ from_start S
few-epochs c = few-iterations c.before.before ∙ rw (le-leb _ _ c.if-settings-gt100000.false)

start-legal : (c : Else-not-start_in_range) → let S = settings c.before.before.before.before in settings_fault S ≡ from-depth S
start-legal c = few-epochs c.before.before ∙ rw (sym c.start_in_range.ensures ∙ c.if-not-start_in_range.false)

depth-legal : (c : Else-not-depth_in_range) → let S = settings c.before.before.before.before.before.before in settings_fault S ≡ from-tolerance S
depth-legal c = start-legal c.before.before ∙ rw (sym c.depth_in_range.ensures ∙ c.if-not-depth_in_range.false)

pub returns-then-settings-gt1000 : goal.returns-then-settings-gt1000
unfolding settings_fault
returns-then-settings-gt1000 c = rw (c.at.ensures, lt-leb _ _ c.if-settings-gt1000.true)

pub returns-then-settings-gt100000 : goal.returns-then-settings-gt100000
returns-then-settings-gt100000 c =
    let here = goal.at.returns-then-settings-gt100000 c in
    rw (c.at-then-settings-gt100000.ensures, few-iterations here.Else-settings-gt1000, lt-leb _ _ c.if-settings-gt100000.true)

pub returns-then-not-start_in_range : goal.returns-then-not-start_in_range
returns-then-not-start_in_range c =
    let here = goal.at.returns-then-not-start_in_range c in
    rw (c.at-then-not-start_in_range.ensures, few-epochs here.Else-settings-gt100000, ← c.start_in_range.ensures, c.if-not-start_in_range.true)

pub returns-then-not-depth_in_range : goal.returns-then-not-depth_in_range
returns-then-not-depth_in_range c =
    let here = goal.at.returns-then-not-depth_in_range c in
    rw (c.at-then-not-depth_in_range.ensures, start-legal here.Else-not-start_in_range, ← c.depth_in_range.ensures, c.if-not-depth_in_range.true)

pub returns-then-not-alpha_in_range : goal.returns-then-not-alpha_in_range
returns-then-not-alpha_in_range c =
    let here = goal.at.returns-then-not-alpha_in_range c in
    rw (c.at-then-not-alpha_in_range.ensures, depth-legal here.Else-not-depth_in_range, ← c.alpha_in_range.ensures, c.if-not-alpha_in_range.true)

pub returns : goal.returns
returns c =
    c.check_range.ensures ∙ rw (depth-legal (goal.at.returns c).Else-not-depth_in_range, ← c.alpha_in_range.ensures, c.if-not-alpha_in_range.false)
