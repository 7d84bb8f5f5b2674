-- `settings_of`: each number in its place. Assumes nothing.
use Rattle.plain_numbers.specs.Codes.{coded_settings}
use Rattle.plain_numbers.proofs.settings_of.Goals as goal

pub returns : goal.returns
unfolding coded_settings
returns c = rw (← c.penalty_of.ensures)
