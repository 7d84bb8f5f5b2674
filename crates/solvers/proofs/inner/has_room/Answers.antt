-- `has_room`: the prepared numbers, then weights and fit, then indices and scratch. Assumes nothing.
use mathlib.Core.Bool.{Bool, true, false}
use mathlib.Core.Path.{◌≡◌, refl, sym, ap, ◌∙◌}
use Prim.Native.Nat.{ℕ, ◌+◌, ◌≤◌, ◌<◌}
use lib.Dec.{leb}
use lib.ListN.{length}
use borrow.Author.Tests.{le-leb, lt-leb}
use Rattle.doubles.specs.Num.{◌and◌}
use Rattle.designs.specs.Checks.{room_twice}
use Rattle.definition.specs.Call.{roomy, lent}
use Rattle.solvers.proofs.inner.has_room.Goals as goal
use Rattle.solvers.proofs.inner.has_room.Goals.{then-p-w, else-p-w, then-p-indices, else-p-indices, then-p-prepared, else-p-prepared}
use Rattle.solvers.proofs.inner.has_room.Goals.{Joined-p-prepared}

-- what `m <= n && rest` comes to, by the test's two answers
then_rest : {m n : ℕ} {both : Bool} (rest : Bool) → m ≤ n → both ≡ rest → both ≡ (leb m n and rest)
unfolding ◌and◌
then_rest rest h e = rw (le-leb _ _ h) e

else_no : {m n : ℕ} {both : Bool} (rest : Bool) → n < m → both ≡ leb m n → both ≡ (leb m n and rest)
unfolding ◌and◌
else_no rest h e = rw (lt-leb _ _ h) (e ∙ lt-leb _ _ h)

-- the last `&&`, of what the first two came to and the third, in the definition's order
in_order : (first w fit used : Bool) → ((first and (w and fit)) and used) ≡ (first and (w and (fit and used)))
unfolding ◌and◌
in_order false w fit used = refl
in_order true false fit used = refl
in_order true true fit used = refl

all_three : (first w fit indices scratch all lent used : Bool) → all ≡ (first and lent) → lent ≡ (w and fit) → used ≡ (indices and scratch)
    → (all and used) ≡ (first and (w and (fit and (indices and scratch))))
all_three first w fit indices scratch all lent used e el eu = rw (e, el, eu) (in_order first w fit (indices and scratch))

then_used : {roomy : Bool} (used all : Bool) → all ≡ true → (all and used) ≡ roomy → used ≡ roomy
unfolding ◌and◌
then_used used all h e = ap (λ b. b and used) (sym h) ∙ e

else_none : {roomy : Bool} (used all : Bool) → all ≡ false → (all and used) ≡ roomy → all ≡ roomy
unfolding ◌and◌
else_none used all h e = h ∙ ap (λ b. b and used) (sym h) ∙ e

-- the tests, one with the other, where all are made
all_of : (c : Joined-p-prepared) → let a = c.args in
    (c.if-p-prepared.value and c.if-p-indices.used)
    ≡ (room_twice a.shape.p a.prepared.now and roomy a.shape a.settings (lent a.w.now a.fit.now a.indices.now a.scratch.now))
unfolding roomy ◌and◌
all_of c =
    let a = c.args in
    let first = leb (a.shape.p + a.shape.p) (length a.prepared.now) in
    let w = leb a.shape.p (length a.w.now) in
    let fit = leb a.shape.n (length a.fit.now) in
    let indices = leb a.shape.p (length a.indices.now) in
    let scratch = leb c.scratch_room-room.result (length a.scratch.now) in
    let lent : c.if-p-w.lent ≡ (w and fit) = elim c.if-p-w.branch [
      | then-p-w w ↦ then_rest _ w.if-p-w.true w.lent-is
      | else-p-w w ↦ else_no _ w.if-p-w.false w.lent-is
    ] in
    let used : c.if-p-indices.used ≡ (indices and scratch) = elim c.if-p-indices.branch [
      | then-p-indices w ↦ then_rest _ w.if-p-indices.true w.used-is
      | else-p-indices w ↦ else_no _ w.if-p-indices.false w.used-is
    ] in
    let value : c.if-p-prepared.value ≡ (first and c.if-p-w.lent) = elim c.if-p-prepared.branch [
      | then-p-prepared w ↦ then_rest _ w.if-p-prepared.true w.value-is
      | else-p-prepared w ↦ else_no _ w.if-p-prepared.false w.value-is
    ] in
    rw (sym c.scratch_room-room.ensures) (all_three first w fit indices scratch _ _ _ value lent used)

pub returns-then-lent : goal.returns-then-lent
returns-then-lent c =
    then_used _ c.if-p-prepared.value c.if-lent.true (all_of (goal.at.returns-then-lent c).Joined-p-prepared)

pub returns-else-lent : goal.returns-else-lent
returns-else-lent c =
    else_none c.if-p-indices.used c.if-p-prepared.value c.if-lent.false (all_of (goal.at.returns-else-lent c).Joined-p-prepared)
