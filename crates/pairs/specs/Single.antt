-- Document 01's single call as it stood before request 5: "The single call goes". No promise cites it: it is kept for one statement, that preparing and
-- then solving answers as it did (AsSingle.antt). What the two calls share with it is definition's, and not said again.
use Rattle.std.specs.Prelude.{Bool, List, ℕ, ◌+◌, ◌*◌, leb, length, Float}
use Rattle.doubles.specs.Num.{pick, ◌and◌}
use Rattle.doubles.specs.Steps.{tab, zeros}
use Rattle.doubles.specs.Buffer.{put}
use Rattle.doubles.specs.Answer.{Outcome, Fault, unless, ◌then◌}
use Rattle.designs.specs.Given.{Given}
use Rattle.designs.specs.Checks.{sizes, sized_fault, targets_fit}
use Rattle.designs.specs.declared.Shape.{Shape}
use Rattle.definition.specs.Epoch.{Task, task}
use Rattle.definition.specs.Run.{run}
use Rattle.definition.specs.Preparation.{all_usable, prepared_of}
use Rattle.definition.specs.Call.{settings_fault, Lent, End, untouched, given_up, done, concluded, behind, answer}
use Rattle.definition.specs.declared.Settings.{Settings}
use Rattle.definition.specs.declared.Report.{Report}

-- ---- 3: "p weights, n fit entries, p indices, and float scratch 3p, or (2K+5)·p + n with extrapolation"
unfoldable pub single_room : Shape → Settings → ℕ
single_room s S = pick S.extrapolate ((2 * S.depth + 5) * s.p + s.n) (3 * s.p)

unfoldable pub single_roomy : Shape → Settings → Lent → Bool
single_roomy s S b =
    leb s.p (length b.weights) and leb s.n (length b.fit) and leb s.p (length b.indices) and leb (single_room s S) (length b.scratch)

-- 1, then the settings' 2, then 3 to 6
unfoldable pub single_fault : Given → Settings → Lent → Fault
single_fault g S b =
    unless (sizes g.shape g.starts g.rows g.values and targets_fit g) 1
    (settings_fault S then sized_fault g (single_roomy g.shape S b))

-- ---- how the call ends
-- 7 "for all columns first": "a Lipschitz constant, the inverse of a nonzero one, X'y entry"
unfoldable pub single_solved : Task → List Float → Settings → End
single_solved T y S = pick (all_usable T.p T.prepared) (concluded (run T y S)) (given_up 7 0)

-- it prepares for itself
abbrev pub single_task : Given → Settings → Task
single_task g S = task g.shape g.starts g.rows g.values S.penalty (prepared_of g)

unfoldable pub single_end : Given → Settings → Lent → End
single_end g S b = behind (single_fault g S b) (single_solved (single_task g S) g.targets S)

-- ---- its answer, and its buffers
unfoldable pub single_call : Given → Settings → Lent → Outcome Report
single_call g S b = answer S (single_end g S b)

-- their room as a run leaves it that was begun: weights and fit, then indices and scratch at zero
abbrev pub single_filled : Shape → Settings → Lent → List Float → List Float → Lent
single_filled s S b w fit = record {
  weights = put b.weights 0 w;
  fit = put b.fit 0 fit;
  indices = put b.indices 0 (tab (λ j. 0) s.p);
  scratch = put b.scratch 0 (zeros (single_room s S));
}

abbrev pub single_buffers : Shape → Settings → Lent → End → Lent
single_buffers s S b (untouched number place) = b
single_buffers s S b (given_up number place) = single_filled s S b (zeros s.p) (zeros s.n)
single_buffers s S b (done q) = single_filled s S b q.inner.point.weights q.inner.point.fit

unfoldable pub single_left : Given → Settings → Lent → Lent
single_left g S b = single_buffers g.shape S b (single_end g S b)
