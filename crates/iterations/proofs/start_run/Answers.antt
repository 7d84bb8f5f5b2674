-- `start_run`: the buffers are cleared, so the run starts from zero weights and zero fit, with nothing kept. Assumes nothing.
use mathlib.Core.Path.{◌∙◌}
use Rattle.doubles.proofs.Laws.Verdict.{handed_on}
use Rattle.definition.specs.Call.{solved}
use Rattle.epochs.proofs.Laws.Ready.{ready_still}
use Rattle.iterations.proofs.Laws.Cleared.{cleared-kept}
use Rattle.iterations.proofs.start_run.Goals as goal

pub run-requires : goal.run-requires
run-requires c =
    let ready = c.requires.0 in (
      ready_still ready _ _ _ c.clear.auto.buf c.clear-2.auto.buf c.clear-3.auto.buf,
      c.requires.1,
      c.clear.ensures ∙ rw ready.weights,
      c.clear-2.ensures ∙ rw ready.fits,
      cleared-kept ready c.clear-3.new.buf c.clear-3.ensures,
    )

pub returns-in_err-totals : goal.returns-in_err-totals
unfolding solved
returns-in_err-totals c = rw (handed_on _ c.from_residual.ensures.1) c.in_err-totals.ensures

pub returns : goal.returns
unfolding solved
returns c = c.in_ok-totals.ensures
