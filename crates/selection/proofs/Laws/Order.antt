-- The order of features by falling violation, equal ones by lower index: strict among features whose violations are finite. Assumes nothing.
use mathlib.Core.Path.{◌≡◌, refl, sym, ◌∙◌}
use mathlib.Core.Bool.{Bool, true, false, not, true≢false, false≢true}
use mathlib.Core.List.{List}
use Prim.Native.Nat.{ℕ, ◌≤◌}
use native.Mathlib.Nat.{le_trans, le_antisymm}
use native.Mathlib.Omega.{arith}
use lib.Dec.{ltb}
use lib.Ieee.{Float, lt}
use borrow.Author.Tests.{ltb-true, ltb-false, le-ltb}
use Rattle.doubles.specs.Num.{at, ◌and◌, ◌or◌}
use Rattle.doubles.specs.Inner.Order.{Behind, Strict}
use Rattle.doubles.proofs.Laws.Less.{not_less_trans, not_less_back}
use Rattle.selection.specs.Inner.Heap.{ahead, Number}

-- what "a is not ahead of b" says
module _ (v : List Float) (a b : ℕ) (h : Behind (ahead v) a b) where
  not-larger : lt (at v b) (at v a) ≡ false
  unfolding ahead ◌or◌
  not-larger = go (lt (at v b) (at v a)) (not (lt (at v a) (at v b)) and ltb a b) h.is
    where
      go : (p q : Bool) → (p or q) ≡ false → p ≡ false
      go true q e = absurd (true≢false e)
      go false q e = refl

  not_lower : lt (at v a) (at v b) ≡ false → b ≤ a
  unfolding ahead ◌or◌ ◌and◌
  not_lower s = ltb-false a b (go (lt (at v b) (at v a)) (lt (at v a) (at v b)) (ltb a b) s h.is)
    where
      go : (p q t : Bool) → q ≡ false → (p or (not q and t)) ≡ false → t ≡ false
      go true q t s e = absurd (true≢false e)
      go false true t s e = absurd (true≢false s)
      go false false t s e = e

-- and what is enough for it
behind_if : (v : List Float) (a b : ℕ) → lt (at v b) (at v a) ≡ false → (lt (at v a) (at v b) ≡ false → b ≤ a) → Behind (ahead v) a b
unfolding ahead ◌or◌ ◌and◌
behind_if v a b h k = record { is = go (lt (at v b) (at v a)) (lt (at v a) (at v b)) h k }
  where
    go : (p q : Bool) → p ≡ false → (q ≡ false → b ≤ a) → (p or (not q and ltb a b)) ≡ false
    go true q h k = absurd (true≢false h)
    go false true h k = refl
    go false false h k = le-ltb a b (k refl)

pub behind-larger : (v : List Float) (a b : ℕ) → lt (at v a) (at v b) ≡ true → Behind (ahead v) a b
behind-larger v a b h = behind_if v a b (not_less_back (at v a) (at v b) h) (λ e. absurd (true≢false (sym h ∙ e)))

pub behind-later : (v : List Float) (a b : ℕ) → lt (at v b) (at v a) ≡ false → b ≤ a → Behind (ahead v) a b
behind-later v a b h k = behind_if v a b h (λ e. k)

-- what is ahead has the other behind it
behind-ahead : (v : List Float) (a b : ℕ) → ahead v a b ≡ true → Behind (ahead v) b a
unfolding ahead ◌or◌ ◌and◌
behind-ahead v a b h = go (lt (at v b) (at v a)) (lt (at v a) (at v b)) refl refl h
  where
    go : (p q : Bool) → lt (at v b) (at v a) ≡ p → lt (at v a) (at v b) ≡ q → (p or (not q and ltb a b)) ≡ true → Behind (ahead v) b a
    go true q e f h = behind-larger v b a e
    go false true e f h = absurd (false≢true h)
    go false false e f h = let l = ltb-true a b h in behind-later v b a f (omega arith)

behind_trans : (v : List Float) (a b c : ℕ) → Number v a → Number v b → Number v c → Behind (ahead v) a b → Behind (ahead v) b c → Behind (ahead v) a c
behind_trans v a b c fa fb fc h k =
    behind_if v a c (not_less_trans (at v c) (at v b) (at v a) fb.known (not-larger v b c k) (not-larger v a b h)) go
  where
    go : lt (at v a) (at v c) ≡ false → c ≤ a
    go s =
        le_trans (not_lower v b c k (not_less_trans (at v b) (at v a) (at v c) fa.known (not-larger v a b h) s))
        (not_lower v a b h (not_less_trans (at v a) (at v c) (at v b) fc.known s (not-larger v b c k)))

pub features : (v : List Float) → Strict (ahead v) (Number v)
features v = record {
  one_way = behind-ahead v;
  same = λ a b h k. le_antisymm (not_lower v b a k (not-larger v a b h)) (not_lower v a b h (not-larger v b a k));
  through = behind_trans v;
}
