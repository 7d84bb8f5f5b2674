-- Choosing the others by a heap: what is left over always stands behind what is kept, so that at the end the heap holds the first of them all. The idea:
-- features are counted, those kept, those left over and those still to come; and of what is left over each stands behind each that is kept, since the
-- root does. Assumes nothing.
use mathlib.Core.Path.{◌≡◌, refl, sym, ◌∙◌}
use mathlib.Core.Bool.{Bool, true, false}
use mathlib.Core.List.{List, [], ◌∷◌, ◌++◌}
use Prim.Native.Nat.{ℕ, ◌+◌, ◌≤◌, ◌<◌}
use native.Mathlib.Nat.{le_antisymm}
use native.Mathlib.Numerals.{add-one}
use native.Mathlib.Omega.{arith}
use lib.Ieee.{Float}
use lib.ListN.{length, get_or, take, set}
use lib.Seq.{take_all, take-suc-set}
use Rattle.doubles.specs.Num.{pick, ◌and◌}
use Rattle.doubles.specs.Steps.{steps}
use Rattle.doubles.specs.Inner.Order.{Behind, Each, OrderedFrom, is, often, Same}
use Rattle.doubles.proofs.Laws.Counts.{count_set, count-append, count-cons, count_one, each_none, each-cons, each_front, same-each, same_self}
use Rattle.doubles.proofs.Laws.Sorted.{first_of}
use Rattle.definition.specs.WorkingSet.{is_zero, support, others}
use Rattle.selection.specs.Inner.Heap.{ahead, Number, Numbers, Heap, offered, Chosen}
use Rattle.selection.proofs.Laws.Order.{features}
use Rattle.selection.proofs.Laws.Others.{others-length, others-count, number_of, others-known, others_ordered, share_out}
use Rattle.selection.proofs.Laws.Heap.{set-each, root_last}

-- ---- the room
-- no more than there are features
pub room-few : (v w : List Float) (m n : ℕ) → m ≤ length (others v w (length w)) → length w ≤ n → m ≤ n
room-few v w m n h g = let e = share_out v w (length w) in omega arith

-- nor than the support leaves
pub room-left : (v w : List Float) (m : ℕ) → m ≤ length (others v w (length w)) → m + length (support w (length w)) ≤ length w
room-left v w m h = let e = share_out v w (length w) in omega arith

-- ---- the loop that keeps the first
pub record FirstAt (w : List Float) (m : ℕ) (l : List ℕ) (c j : ℕ) : Type 0 where
  pub most : j ≤ length w
  pub few : c ≤ m
  pub long : length l ≡ m
  many : c + length (support w j) ≡ j
  same : (v : List Float) → Same (take c l) (others v w j)

pub first-none : (w : List Float) (l : List ℕ) → FirstAt w (length l) l 0 0
unfolding others support steps
first-none w l = record { most = omega arith; few = omega arith; long = refl; many = refl; same = λ v. same_self [] }

module _ {w : List Float} {m : ℕ} {l : List ℕ} {c j : ℕ} (s : FirstAt w m l c j) where
  pub first-turn : c < m → j < length w → (c' : ℕ) (l' : List ℕ) → c' ≡ pick (is_zero w j) (c + 1) c → l' ≡ pick (is_zero w j) (set l c j) l
      → length l' ≡ length l → FirstAt w m l' c' (j + 1)
  first-turn b g c' l' p q e = record {
    most = omega arith;
    few = rw p (fewer (is_zero w j));
    long = e ∙ s.long;
    many = rw p (more (is_zero w j) (others-length w w j));
    same = λ v. record { each = λ a. rw (p, q) (kept v a (is_zero w j) ((s.same v).each a)) ∙ sym (others-count v w a j) };
  }
    where
      more : (t : Bool) → length (others w w (j + 1)) ≡ pick t (length (others w w j) + 1) (length (others w w j))
          → pick t (c + 1) c + length (support w (j + 1)) ≡ j + 1
      more true z = let x = share_out w w j in let y = share_out w w (j + 1) in let n = s.many in omega arith
      more false z = let x = share_out w w j in let y = share_out w w (j + 1) in let n = s.many in omega arith

      fewer : (t : Bool) → pick t (c + 1) c ≤ m
      fewer true = omega arith
      fewer false = s.few

      kept : (v : List Float) (a : ℕ) (t : Bool) → often a (take c l) ≡ often a (others v w j)
          → often a (take (pick t (c + 1) c) (pick t (set l c j) l)) ≡ pick t (often a (others v w j) + is a j) (often a (others v w j))
      kept v a true z =
          let x = count-append a (take c l) (j ∷ []) in
          let y = count_one a j in
          rw (add-one, take-suc-set l c j (let n = s.long in omega arith)) (omega arith)
      kept v a false z = z

  pub first-all : m ≤ c → (v : List Float) → Same l (others v w j)
  first-all b v = let f = s.few in let g = s.long in rw (take_all c l (omega arith)) at (s.same v)

  -- all were looked at: then there was no more room than the features with zero weight have filled
  pub first-end : length w ≤ j → m + length (support w (length w)) ≤ length w → (v : List Float) → Same l (others v w (length w))
  first-end b g v =
      let e : j ≡ length w = le_antisymm s.most b in
      let full : m ≤ c = let p = rw e at s.many in omega arith in
      rw e at (first-all full v)

pub first-known : {v w : List Float} {j : ℕ} {l : List ℕ} → length v ≡ length w → Numbers v w → j ≤ length w → Same l (others v w j) → Each (Number v) l
first-known {v} {w} {j} {l} e f h s = same-each (Number v) (others v w j) l s (others-known v w j e f h)

-- ---- the loop that offers the rest, from the last feature down to j
pub record RestAt (v w : List Float) (from : ℕ) (l₀ l : List ℕ) (j : ℕ) : Type 0 where
  pub low : from ≤ j
  pub high : j ≤ length w
  pub long : length l ≡ length l₀
  pub known : Each (Number v) l
  pub heap : Heap (ahead v) 0 l
  over : List ℕ
  behind : Each (λ x. Number v x × Each (Behind (ahead v) x) l) over
  tally : (a : ℕ) → often a l + often a over + often a (others v w j) ≡ often a (others v w (length w)) + often a (others v w from)

pub rest-none : {v w : List Float} {from : ℕ} {l : List ℕ} → length v ≡ length w → Numbers v w → from ≤ length w → Heap (ahead v) 0 l
    → Same l (others v w from) → RestAt v w from l l (length w)
unfolding often
rest-none {v} {w} {from} {l} e f h p s = record {
  low = h;
  high = omega arith;
  long = refl;
  known = first-known e f h s;
  heap = p;
  over = [];
  behind = each_none (λ x. Number v x × Each (Behind (ahead v) x) l);
  tally = λ a. let n = s.each a in omega arith;
}

pub rest-number : {v w : List Float} {from : ℕ} {l₀ l : List ℕ} {j : ℕ} → length v ≡ length w → Numbers v w → RestAt v w from l₀ l j
    → (i : ℕ) → i < j → is_zero w i ≡ true → Number v i
rest-number e f s i g z = let h = s.high in number_of e f i (omega arith) z

module _ {v w : List Float} {from : ℕ} {l₀ l : List ℕ} {j : ℕ} (e : length v ≡ length w) (f : Numbers v w) (some : 0 < length l₀) (s : RestAt v w from l₀ l j)
    (i : ℕ) (ei : j ≡ i + 1) (b : from < j) where
  inside : 0 < length l
  inside = let n = s.long in omega arith

  root : Each (Behind (ahead v) (get_or l 0 0)) l
  root = root_last (features v) s.known s.heap

  -- the same with what is kept in other places, and what is left over now
  turned : (l' m over' : List ℕ) → length l' ≡ length l → Heap (ahead v) 0 l' → Same l' m → Each (Number v) m
      → Each (λ x. Number v x × Each (Behind (ahead v) x) m) over'
      → ((a : ℕ) → often a m + often a over' + often a (others v w i) ≡ often a l + often a s.over + often a (others v w (i + 1)))
      → RestAt v w from l₀ l' i
  turned l' m over' len h t n d c = let hi = s.high in record {
    low = omega arith;
    high = omega arith;
    long = len ∙ s.long;
    known = same-each (Number v) m l' t n;
    heap = h;
    over = over';
    behind = record { each = λ k g. ((d.each k g).0, same-each (Behind (ahead v) (get_or over' k 0)) m l' t (d.each k g).1) };
    tally = λ a. one a (t.each a) (c a) (rw ei at (s.tally a));
  }
    where
      one : (a : ℕ) → often a l' ≡ often a m
          → often a m + often a over' + often a (others v w i) ≡ often a l + often a s.over + often a (others v w (i + 1))
          → often a l + often a s.over + often a (others v w (i + 1)) ≡ often a (others v w (length w)) + often a (others v w from)
          → often a l' + often a over' + often a (others v w i) ≡ often a (others v w (length w)) + often a (others v w from)
      one a p q r = omega arith

  module _ (l' : List ℕ) (len : length l' ≡ length l) (h : Heap (ahead v) 0 l') where
    -- its weight is not zero
    passed : is_zero w i ≡ false → Same l' l → RestAt v w from l₀ l' i
    passed z t = turned l' l s.over len h t s.known s.behind (λ a. let n = rw z at (others-count v w a i) in omega arith)

    -- it does not stand ahead of the root, nor of any
    lost : Number v i → is_zero w i ≡ true → ahead v i (get_or l 0 0) ≡ false → Same l' l → RestAt v w from l₀ l' i
    lost n z p t =
        let behind : Behind (ahead v) i (get_or l 0 0) = record { is = p } in
        turned l' l (i ∷ s.over) len h t s.known
        (each-cons (λ x. Number v x × Each (Behind (ahead v) x) l) i s.over
        (n, record { each = λ k g. (features v).through i (get_or l 0 0) (get_or l k 0) n (s.known.each 0 inside) (s.known.each k g) behind (root.each k g) })
        s.behind)
        (λ a. let c = count-cons a i s.over in let m = rw z at (others-count v w a i) in omega arith)

    -- it takes the root's place
    won : Number v i → is_zero w i ≡ true → ahead v i (get_or l 0 0) ≡ true → Same l' (set l 0 i) → RestAt v w from l₀ l' i
    won n z p t =
        turned l' (set l 0 i) (get_or l 0 0 ∷ s.over) len h t (set-each l 0 i inside (Number v) s.known n)
        (each-cons (λ x. Number v x × Each (Behind (ahead v) x) (set l 0 i)) (get_or l 0 0) s.over
        (s.known.each 0 inside, set-each l 0 i inside (Behind (ahead v) (get_or l 0 0)) root up)
        (record { each = λ k g. ((s.behind.each k g).0, older (get_or s.over k 0) (s.behind.each k g)) }))
        (λ a.
        let c = count-cons a (get_or l 0 0) s.over in
        let q = count_set a l 0 i inside in
        let m = rw z at (others-count v w a i) in
        omega arith)
      where
        up : Behind (ahead v) (get_or l 0 0) i
        up = (features v).one_way i (get_or l 0 0) p

        older : (x : ℕ) → Number v x × Each (Behind (ahead v) x) l → Each (Behind (ahead v) x) (set l 0 i)
        older x d =
            set-each l 0 i inside (Behind (ahead v) x) d.1
            ((features v).through x (get_or l 0 0) i d.0 (s.known.each 0 inside) n (d.1.each 0 inside) up)

    pub rest-turn : Same l' (offered v (is_zero w i) i l) → RestAt v w from l₀ l' i
    unfolding offered ◌and◌
    rest-turn t = go (is_zero w i) refl (ahead v i (get_or l 0 0)) refl t
      where
        go : (z : Bool) → is_zero w i ≡ z → (p : Bool) → ahead v i (get_or l 0 0) ≡ p → Same l' (pick (z and p) (set l 0 i) l) → RestAt v w from l₀ l' i
        go true ez true ep t = won (rest-number e f s i (omega arith) ez) ez ep t
        go true ez false ep t = lost (rest-number e f s i (omega arith) ez) ez ep t
        go false ez p ep t = passed ez t

pub rest_all : {v w : List Float} {from : ℕ} {l₀ l : List ℕ} {j : ℕ} → RestAt v w from l₀ l j → j ≤ from → Chosen v w l
rest_all {v} {w} {from} {l₀} {l} {j} s b = record {
  over = s.over;
  behind = record { each = λ k g. (s.behind.each k g).1 };
  all = record { each = λ a. one a (rw (le_antisymm b s.low) at (s.tally a)) };
}
  where
    one : (a : ℕ) → often a l + often a s.over + often a (others v w from) ≡ often a (others v w (length w)) + often a (others v w from)
        → often a (l ++ s.over) ≡ often a (others v w (length w))
    one a n = let c = count-append a l s.over in omega arith

-- ---- what is chosen, put in order, is the first of the others
pub chosen-known : {v w : List Float} {l : List ℕ} → length v ≡ length w → Numbers v w → Chosen v w l → Each (Number v) l
chosen-known {v} {w} {l} e f c =
    each_front (Number v) l c.over
    (same-each (Number v) (others v w (length w)) (l ++ c.over) c.all (others-known v w (length w) e f (omega arith)))

pub chosen-first : {v w : List Float} {l k : List ℕ} → length v ≡ length w → Numbers v w → OrderedFrom (ahead v) 0 l → Same l k → Chosen v w k
    → l ≡ take (length l) (others v w (length w))
chosen-first {v} {w} {l} {k} e f o s c =
    first_of (features v) l c.over (others v w (length w)) o
    (record { each = λ i h. same-each (Behind (ahead v) (get_or c.over i 0)) k l s (c.behind.each i h) })
    (others_ordered v w (length w) e f (omega arith))
    (record { each = λ a. one a (s.each a) (c.all.each a) })
  where
    one : (a : ℕ) → often a l ≡ often a k → often a (k ++ c.over) ≡ often a (others v w (length w)) → often a (l ++ c.over) ≡ often a (others v w (length w))
    one a m n = let x = count-append a l c.over in let y = count-append a k c.over in omega arith

-- there is room for none
pub chosen_none : (l k : List ℕ) → length l ≤ 0 → l ≡ take (length l) k
chosen_none [] k h = refl
chosen_none (a ∷ l) k h = absurd (omega arith)
