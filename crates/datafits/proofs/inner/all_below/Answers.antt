-- `all_below` is the library's `all`, which is true just where each feature is below p. Assumes nothing.
use Prim.Native.Nat.{◌<◌}
use lib.ListN.{get_or}
use borrow.Author.Rules.{rules}
use borrow.Author.Tests.{lt-ltb, ltb-true}
use Rattle.std.specs.Prelude.{IsTrue, EachIndex, ◌↔◌}
use Rattle.doubles.proofs.Laws.Steps.{all_just}
use Rattle.datafits.specs.Calls.{all_below}
use Rattle.datafits.proofs.inner.all_below.Goals as goal

pub returns : goal.returns
unfolding all_below
returns c =
    let h : IsTrue c.all.result ↔ EachIndex c.args.ws.now (λ k. get_or c.args.ws.now k 0 < c.args.p) = search rules in
    all_just _ _ _ (λ e k l. lt-ltb _ _ (h.0 e k l)) (λ e. h.1 (λ k l. ltb-true _ _ (e k l)))
