-- Request 5: "The single call goes; its callers, the program too, are amended". What the program would print for a problem if it made that call, in room
-- for its largest sizes: it prints the same (proofs/AsBefore).
use Rattle.std.specs.Prelude.{List, ℕ, take, replicate}
use Rattle.doubles.specs.Num.{#0}
use Rattle.definition.specs.Call.{Lent, lent}
use Rattle.pairs.specs.Single.{single_call, single_left}
use Rattle.files.specs.Call.{Problem}
use Rattle.listings.specs.Listing.{listed}

abbrev pub lent_before : Lent
lent_before = lent (replicate 32 #0) (replicate 256 #0) (replicate 32 0) (replicate 1056 #0)

unfoldable pub printed_before : Problem → List ℕ
printed_before P =
    let s = P.given.shape in
    let left = single_left P.given P.settings lent_before in
    listed (single_call P.given P.settings lent_before) (take s.p left.weights) (take s.n left.fit)
