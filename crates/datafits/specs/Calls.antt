-- The public calls: "Smaller public calls use the numbers that apply to them, in the same order". For each, its fault (1, 3, 4, 5 or 6, or none),
-- its answer, and what the lent buffer holds afterwards: refused, what it held.
use Rattle.std.specs.Prelude.{Bool, true, List, [], ℕ, ◌+◌, leb, ltb, length, get_or, take, Float}
use Rattle.doubles.specs.Num.{at, ◌and◌}
use Rattle.doubles.specs.Steps.{all}
use Rattle.doubles.specs.Buffer.{put}
use Rattle.doubles.specs.Answer.{Outcome, Fault, unless, after, left}
use Rattle.designs.specs.Design.{prepared, gradient, full_gradient, datafit, alpha_max, dots, moved, extrapolated}
use Rattle.designs.specs.Given.{Given, design_of}
use Rattle.designs.specs.Checks.{numbers, admitted, targets_fit, room_twice, preparation_fault}

-- ---- initialize: constants and X'y, where `preparation_fault` finds nothing
unfoldable pub initialized : Given → List Float → List Float
initialized g buf = left (preparation_fault g buf) (put buf 0 (prepared (design_of g) g.targets)) buf

-- ---- gradient_j: "a feature number at or above p is 1"; no targets, as in all calls below that are given none
unfoldable pub gradient_fault : Given → List Float → List Float → ℕ → Fault
gradient_fault g q fit j = admitted g (ltb j g.shape.p) (room_twice g.shape.p q and leb g.shape.n (length fit))

unfoldable pub gradient_call : Given → List Float → List Float → ℕ → Outcome Float
gradient_call g q fit j = after (gradient_fault g q fit j) (gradient (design_of g) j fit (at q (g.shape.p + j)))

-- ---- full_grad
unfoldable pub full_grad_fault : Given → List Float → List Float → List Float → Fault
full_grad_fault g q fit grad =
    admitted g true (room_twice g.shape.p q and leb g.shape.n (length fit) and leb g.shape.p (length grad))

unfoldable pub full_grad : Given → List Float → List Float → List Float → List Float
full_grad g q fit grad = left (full_grad_fault g q fit grad) (put grad 0 (full_gradient (design_of g) fit (λ j. at q (g.shape.p + j)))) grad

-- ---- value: n is the number of targets
unfoldable pub value_fault : List Float → List Float → Fault
value_fault y fit =
    unless (leb 1 (length y) and leb (length y) 65536) 1
    (unless (leb (length y) (length fit)) 3
    (numbers (length y) [] y))

unfoldable pub value_call : List Float → List Float → Outcome Float
value_call y fit = after (value_fault y fit) (datafit y fit (length y))

-- ---- update_model_fit
unfoldable pub update_fault : Given → List Float → ℕ → Fault
update_fault g fit j = admitted g (ltb j g.shape.p) (leb g.shape.n (length fit))

unfoldable pub updated : Given → List Float → Float → ℕ → List Float
updated g fit d j = left (update_fault g fit j) (moved (design_of g) j d fit) fit

-- ---- compute_extrapolated_fit: at most p features, each below p, in any order
unfoldable pub all_below : List ℕ → ℕ → Bool
all_below ws p = all (λ k. ltb (get_or ws k 0) p) (length ws)

unfoldable pub extrapolated_fault : Given → List ℕ → List Float → List Float → Fault
extrapolated_fault g ws w fit =
    admitted g (leb (length ws) g.shape.p and all_below ws g.shape.p) (leb g.shape.p (length w) and leb g.shape.n (length fit))

unfoldable pub extrapolated_fit : Given → List ℕ → List Float → List Float → List Float
extrapolated_fit g ws w fit = left (extrapolated_fault g ws w fit) (put fit 0 (extrapolated (design_of g) ws (take g.shape.p w))) fit

-- ---- compute_alpha_max and compute_alpha_max_sparse
unfoldable pub alpha_max_fault : Given → List Float → Fault
alpha_max_fault g buf = admitted g (targets_fit g) (leb g.shape.p (length buf))

unfoldable pub alpha_max_call : Given → List Float → Outcome Float
alpha_max_call g buf = after (alpha_max_fault g buf) (alpha_max (design_of g) g.targets)

-- the buffer's first p places get X'y
unfoldable pub alpha_max_left : Given → List Float → List Float
alpha_max_left g buf = left (alpha_max_fault g buf) (put buf 0 (dots (design_of g) g.targets)) buf
