-- `settle`: by whether all columns are usable; else the first 2p places are cleared. Assumes nothing.
use mathlib.Core.Path.{refl, ap, ◌∙◌}
use lib.Seq.{length-take-le}
use Rattle.doubles.specs.Steps.{zeros}
use Rattle.doubles.proofs.Laws.Buffer.{put_front}
use Rattle.preparation.proofs.settle.Goals as goal

pub is_usable-requires : goal.is_usable-requires
is_usable-requires c = (c.requires.0, length-take-le _ _ c.requires.1)

pub returns-then-not-is_usable : goal.returns-then-not-is_usable
returns-then-not-is_usable c =
    let room = c.requires.1 in
    let zero = c.clear.ensures ∙ ap zeros (length-take-le _ _ room) in
    rw (← c.is_usable.ensures, c.if-not-is_usable.true)
    (rw c.at.ensures refl, put_front _ _ _ _ room c.clear.auto.buf zero)

pub returns : goal.returns
returns c = rw (← c.is_usable.ensures, c.if-not-is_usable.false) (refl, refl)
