-- What the program prints for the bytes on its standard input: the listing of the problem's fit, or the line of its refusal.
use Rattle.std.specs.Prelude.{List, ℕ, leb, length, take, replicate, Float}
use Rattle.doubles.specs.Num.{#0, pick}
use Rattle.doubles.specs.Buffer.{put}
use Rattle.doubles.specs.Answer.{Outcome, refused, answered}
use Rattle.definition.specs.Call.{Lent, lent, answer, buffers}
use Rattle.definition.specs.Pair.{ordered_end}
use Rattle.definition.specs.declared.Report.{Report}
use Rattle.files.specs.Call.{Problem, parsed}
use Rattle.listings.specs.Listing.{refused_line, listed}

-- what the program lends: room for its largest sizes, n = 256, p = 32 and K = 10
abbrev pub prepared_places : List Float
prepared_places = replicate 64 #0

abbrev pub lent_places : Lent
lent_places = lent (replicate 32 #0) (replicate 256 #0) (replicate 32 0) (replicate 992 #0)

-- it prepares and solves, in document 01's order: the answer, and what is left in these places
unfoldable pub problem_fit : Problem → Outcome Report
problem_fit P = answer P.settings (ordered_end P.given P.settings prepared_places lent_places)

unfoldable pub problem_left : Problem → Lent
problem_left P = buffers P.given.shape P.settings lent_places (ordered_end P.given P.settings prepared_places lent_places)

abbrev pub printed_for : Outcome Problem → List ℕ
printed_for (refused number place) = refused_line number place
printed_for (answered P) =
    let s = P.given.shape in
    listed (problem_fit P) (take s.p (problem_left P).weights) (take s.n (problem_left P).fit)

unfoldable pub printed : List ℕ → List ℕ
printed f = printed_for (parsed f)

-- ---- a call that writes a text has 8,192 lent bytes at least, else 3
abbrev pub text_call : List ℕ → List ℕ → Outcome ℕ
text_call text out = pick (leb 8192 (length out)) (answered (length text)) (refused 3 0)

abbrev pub text_left : List ℕ → List ℕ → List ℕ
text_left text out = pick (leb 8192 (length out)) (put out 0 text) out

unfoldable pub answer_call : List ℕ → List ℕ → Outcome ℕ
answer_call f out = text_call (printed f) out

unfoldable pub answer_left : List ℕ → List ℕ → List ℕ
answer_left f out = text_left (printed f) out
