-- `soft_thresholding` goes by the tests of its definition. Assumes nothing.
use mathlib.Core.Path.{sym, ◌∙◌}
use Rattle.doubles.specs.Num.{◌or◌}
use Rattle.doubles.proofs.Laws.Order.{only_nan}
use Rattle.penalties.specs.Soft.{soft01, soft}
use Rattle.penalties.proofs.Numbers.{soft-number}
use Rattle.penalties.proofs.prox_funcs.soft_thresholding.Goals as goal

pub returns-then-is_nan : goal.returns-then-is_nan
unfolding soft ◌or◌
returns-then-is_nan c = let none = sym c.is_nan.ensures.value ∙ c.if-is_nan.true in rw none (only_nan _ none)

pub returns-then-is_nan-2 : goal.returns-then-is_nan-2
unfolding soft ◌or◌
returns-then-is_nan-2 c =
    let none = sym c.is_nan-2.ensures.value ∙ c.if-is_nan-2.true in
    rw (sym c.is_nan.ensures.value ∙ c.if-is_nan.false, none) (only_nan _ none)

pub returns-then-x-threshold : goal.returns-then-x-threshold
unfolding soft01
returns-then-x-threshold c =
    let number = soft-number _ _ (sym c.is_nan.ensures.value ∙ c.if-is_nan.false) (sym c.is_nan-2.ensures.value ∙ c.if-is_nan-2.false) in
    rw (number, c.if-x-threshold.true)

pub returns-then-x-threshold-2 : goal.returns-then-x-threshold-2
unfolding soft01
returns-then-x-threshold-2 c =
    let number = soft-number _ _ (sym c.is_nan.ensures.value ∙ c.if-is_nan.false) (sym c.is_nan-2.ensures.value ∙ c.if-is_nan-2.false) in
    rw (number, c.if-x-threshold.false, c.if-x-threshold-2.true)

pub returns-else-x-threshold-2 : goal.returns-else-x-threshold-2
unfolding soft01
returns-else-x-threshold-2 c =
    let number = soft-number _ _ (sym c.is_nan.ensures.value ∙ c.if-is_nan.false) (sym c.is_nan-2.ensures.value ∙ c.if-is_nan-2.false) in
    rw (number, c.if-x-threshold.false, c.if-x-threshold-2.false)
