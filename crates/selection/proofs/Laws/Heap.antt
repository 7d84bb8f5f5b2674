-- Heaps, by any strict order: a number sinks to its place, the root is the last of all, and taking it away puts it behind the others. Assumes nothing.
-- k lies below i where 2·i < k ≤ 2·i + 2, which `omega` reads.
use mathlib.Core.Path.{◌≡◌, refl, sym, ◌∙◌}
use mathlib.Core.Bool.{Bool, true, false}
use mathlib.Core.List.{List, ◌++◌}
use Prim.Native.Nat.{ℕ, zero, suc, ◌+◌, ◌*◌, ◌-◌, ◌/◌, ◌≤◌, ◌<◌}
use native.Mathlib.Decide.{ℕ_discrete, dec_le}
use native.Mathlib.Nat.{add-zero}
use native.Mathlib.Omega.{arith}
use mir.Val.{bool_byte}
use lib.ListN.{length, get_or, take, drop, set, length-set, length-append, length-drop, take-append-drop, get_or-append}
use lib.Seq.{get_or-set_same, get_or-set_other, get_or-take, get_or-drop, get_or-append-add, length-take-le, take-append-le, take_at, take-length, set-get_or}
use Rattle.doubles.specs.Inner.Order.{Behind, Strict, Each, OrderedFrom, often, Same}
use Rattle.doubles.proofs.Laws.Steps.{set-place as placed}
use Rattle.doubles.proofs.Laws.Counts.{count_set, count-append, same-each, same_self, same_trans}
use Rattle.doubles.proofs.Laws.Sorted.{behind_self}
use Rattle.selection.specs.Inner.Heap.{Heap, LastOf, Goes}

pub heap_later : {ahead : ℕ → ℕ → Bool} {a : ℕ} {l : List ℕ} (b : ℕ) → a ≤ b → Heap ahead a l → Heap ahead b l
heap_later b g h = record { each = λ i k e p q f. h.each i k (omega arith) p q f }

-- ---- a store, looked up
module _ (l : List ℕ) (k x : ℕ) (h : k < length l) where
  -- what holds of the new number in its place, and of the old ones in the others, holds in every place
  set-place : (P : ℕ → Type 0) (i : ℕ) → (i ≡ k → P x) → ((i ≡ k → ⊥) → P (get_or l i 0)) → P (get_or (set l k x) i 0)
  set-place P i p q = placed l k x 0 P i (λ e. h) p q

  pub set-each : (P : ℕ → Type 0) → Each P l → P x → Each P (set l k x)
  set-each P f n = record { each = λ i g. set-place P i (λ e. n) (λ e. f.each i (rw length-set at g)) }

-- ---- sinking: but for what place k holds, the places from `from` on are a heap, and x may stand below what is above k
record Sinking (ahead : ℕ → ℕ → Bool) (from : ℕ) (l : List ℕ) (k x : ℕ) : Type 0 where
  low : from ≤ k
  others : (i j : ℕ) → from ≤ i → (i ≡ k → ⊥) → 2 * i < j → j ≤ 2 * i + 2 → j < length l → Behind ahead (get_or l i 0) (get_or l j 0)
  above : (i : ℕ) → from ≤ i → 2 * i < k → k ≤ 2 * i + 2 → Behind ahead (get_or l i 0) x
  across : (i j : ℕ) → from ≤ i → 2 * i < k → k ≤ 2 * i + 2 → 2 * k < j → j ≤ 2 * k + 2 → j < length l → Behind ahead (get_or l i 0) (get_or l j 0)

sink_begins : (ahead : ℕ → ℕ → Bool) (from : ℕ) (l : List ℕ) (x : ℕ) → Heap ahead (from + 1) l → Sinking ahead from l from x
sink_begins ahead from l x h = record {
  low = omega arith;
  others = λ i j a b p q g. h.each i j (omega arith) p q g;
  above = λ i a p q. absurd (omega arith);
  across = λ i j a p q. absurd (omega arith);
}

module _ (ahead : ℕ → ℕ → Bool) (from : ℕ) (l : List ℕ) (k x r : ℕ) (h : k < length l) (s : Sinking ahead from l k x) (g : Goes ahead l k x r) where
  sink_goes : k < r → Sinking ahead from (set l k (get_or l r 0)) r x
  sink_goes b =
      let lo = s.low in
      let un = g.under b in
      let ua = un.0 in
      let ub = un.1 in
      record {
        low = omega arith;
        others = λ i j a n p q e. stored (λ z. Behind ahead z (get_or l' j 0)) i (λ c. top i j c p q (long e)) (λ c. rest i j a n c p q (long e));
        above = λ i a p q. stored (λ z. Behind ahead z x) i (λ c. g.up b) (λ c. absurd (not-two i c p q));
        across = λ i j a p q p' q' e. stored (λ z. Behind ahead z (get_or l' j 0)) i (λ c. below_it j p' q' (long e)) (λ c. absurd (not-two i c p q));
      }
    where
      l' : List ℕ
      l' = set l k (get_or l r 0)

      stored : (P : ℕ → Type 0) (i : ℕ) → (i ≡ k → P (get_or l r 0)) → ((i ≡ k → ⊥) → P (get_or l i 0)) → P (get_or (set l k (get_or l r 0)) i 0)
      stored = set-place l k (get_or l r 0) h

      long : {j : ℕ} → j < length (set l k (get_or l r 0)) → j < length l
      long e = rw length-set at e

      -- only k is above r
      not-two : (i : ℕ) → (i ≡ k → ⊥) → 2 * i < r → r ≤ 2 * i + 2 → ⊥
      not-two i c p q = let un = g.under b in let ua = un.0 in let ub = un.1 in c (omega arith)

      top : (i j : ℕ) → i ≡ k → 2 * i < j → j ≤ 2 * i + 2 → j < length l → Behind ahead (get_or l r 0) (get_or (set l k (get_or l r 0)) j 0)
      top i j c p q e = stored (λ z. Behind ahead (get_or l r 0) z) j (λ d. absurd (omega arith)) (λ d. g.last b j (omega arith) (omega arith) e)

      rest : (i j : ℕ) → from ≤ i → (i ≡ r → ⊥) → (i ≡ k → ⊥) → 2 * i < j → j ≤ 2 * i + 2 → j < length l
          → Behind ahead (get_or l i 0) (get_or (set l k (get_or l r 0)) j 0)
      rest i j a n c p q e =
          let un = g.under b in
          stored (λ z. Behind ahead (get_or l i 0) z) j
          (λ d. s.across i r a (omega arith) (omega arith) un.0 un.1 un.2)
          (λ d. s.others i j a c p q e)

      below_it : (j : ℕ) → 2 * r < j → j ≤ 2 * r + 2 → j < length l → Behind ahead (get_or l r 0) (get_or (set l k (get_or l r 0)) j 0)
      below_it j p q e =
          let lo = s.low in
          stored (λ z. Behind ahead (get_or l r 0) z) j (λ d. absurd (omega arith)) (λ d. s.others r j (omega arith) (λ c. omega arith) p q e)

  sink_ends : r ≤ k → Heap ahead from (set l k x)
  sink_ends b = record {
    each = λ i j a p q e. stored (λ z. Behind ahead z (get_or (set l k x) j 0)) i (λ c. top i j c p q (long e)) (λ c. rest i j a c p q (long e));
  }
    where
      stored : (P : ℕ → Type 0) (i : ℕ) → (i ≡ k → P x) → ((i ≡ k → ⊥) → P (get_or l i 0)) → P (get_or (set l k x) i 0)
      stored = set-place l k x h

      long : {j : ℕ} → j < length (set l k x) → j < length l
      long e = rw length-set at e

      top : (i j : ℕ) → i ≡ k → 2 * i < j → j ≤ 2 * i + 2 → j < length l → Behind ahead x (get_or (set l k x) j 0)
      top i j c p q e = stored (λ z. Behind ahead x z) j (λ d. absurd (omega arith)) (λ d. g.stays b j (omega arith) (omega arith) e)

      rest : (i j : ℕ) → from ≤ i → (i ≡ k → ⊥) → 2 * i < j → j ≤ 2 * i + 2 → j < length l → Behind ahead (get_or l i 0) (get_or (set l k x) j 0)
      rest i j a c p q e =
          stored (λ z. Behind ahead (get_or l i 0) z) j (λ d. s.above i a (omega arith) (omega arith)) (λ d. s.others i j a c p q e)

-- the numbers stay the same
sink-same : (l : List ℕ) (k r x : ℕ) (m : List ℕ) → k < length l → r < length l → (r ≡ k → ⊥) → Same (set l k x) m
    → Same (set (set l k (get_or l r 0)) r x) m
sink-same l k r x m h g n s = record { each = λ a. one a (s.each a) }
  where
    one : (a : ℕ) → often a (set l k x) ≡ often a m → often a (set (set l k (get_or l r 0)) r x) ≡ often a m
    one a e =
        let p = count_set a l k x h in
        let q = count_set a l k (get_or l r 0) h in
        let t = rw (get_or-set_other l k r (get_or l r 0) 0 n) at (count_set a (set l k (get_or l r 0)) r x (rw length-set g)) in
        omega arith

-- ---- the loop that lets a number sink
pub record SinkAt (ahead : ℕ → ℕ → Bool) (Good : ℕ → Type 0) (from x : ℕ) (l₀ l : List ℕ) (k r : ℕ) : Type 0 where
  pub inside : k < length l
  pub long : length l ≡ length l₀
  pub known : Each Good l
  sinking : Sinking ahead from l k x
  goes : Goes ahead l k x r
  same : Same (set l k x) (set l₀ from x)

pub sunk_none : {ahead : ℕ → ℕ → Bool} {Good : ℕ → Type 0} {from x : ℕ} {l : List ℕ} {r : ℕ} → from < length l → Each Good l → Heap ahead (from + 1) l
    → Goes ahead l from x r → SinkAt ahead Good from x l l from r
sunk_none {ahead} {Good} {from} {x} {l} h f p g = record {
  inside = h;
  long = refl;
  known = f;
  sinking = sink_begins ahead from l x p;
  goes = g;
  same = same_self (set l from x);
}

module _ {ahead : ℕ → ℕ → Bool} {Good : ℕ → Type 0} {from x : ℕ} {l₀ l : List ℕ} {k r : ℕ} (s : SinkAt ahead Good from x l₀ l k r) where
  module _ (b : k < r) where
    pub sunk_inside : r < length l
    sunk_inside = (s.goes.under b).2

    pub sunk_few : (n : ℕ) → length l₀ ≤ n → length (set l k (get_or l r 0)) ≤ n
    sunk_few n h = let e = length-set l k (get_or l r 0) in let g = s.long in omega arith

    pub sunk_less : length (set l k (get_or l r 0)) - r < length l - k
    sunk_less = let e = length-set l k (get_or l r 0) in let g = sunk_inside in omega arith

    pub sunk_known : Each Good (set l k (get_or l r 0))
    sunk_known = set-each l k (get_or l r 0) s.inside Good s.known (s.known.each r sunk_inside)

    pub sunk_turn : (r' : ℕ) → Goes ahead (set l k (get_or l r 0)) r x r' → SinkAt ahead Good from x l₀ (set l k (get_or l r 0)) r r'
    sunk_turn r' g = record {
      inside = rw length-set sunk_inside;
      long = length-set l k (get_or l r 0) ∙ s.long;
      known = sunk_known;
      sinking = sink_goes ahead from l k x r s.inside s.sinking s.goes b;
      goes = g;
      same = sink-same l k r x (set l₀ from x) s.inside sunk_inside (λ e. omega arith) s.same;
    }

  pub sunk_all : r ≤ k → Heap ahead from (set l k x) × Same (set l k x) (set l₀ from x)
  sunk_all b = (sink_ends ahead from l k x r s.inside s.sinking s.goes b, s.same)

-- ---- the loop that makes a heap
pub record HeapAt (ahead : ℕ → ℕ → Bool) (Good : ℕ → Type 0) (l₀ l : List ℕ) (k : ℕ) : Type 0 where
  pub few : k ≤ length l
  pub long : length l ≡ length l₀
  pub known : Each Good l
  heap : Heap ahead k l
  same : Same l l₀

pub heaped_none : (ahead : ℕ → ℕ → Bool) {Good : ℕ → Type 0} {l : List ℕ} → Each Good l → HeapAt ahead Good l l (length l)
heaped_none ahead {Good} {l} f = record {
  few = omega arith;
  long = refl;
  known = f;
  heap = record { each = λ i k a p q g. absurd (omega arith) };
  same = same_self l;
}

module _ {ahead : ℕ → ℕ → Bool} {Good : ℕ → Type 0} {l₀ l : List ℕ} {k : ℕ} (s : HeapAt ahead Good l₀ l k) where
  module _ (b : 0 < k) where
    pub heaped_next : Heap ahead (k - 1 + 1) l
    heaped_next = let e : k - 1 + 1 ≡ k = omega arith in rw e s.heap

    pub heaped_good : Good (get_or l (k - 1) 0)
    heaped_good = let e = s.few in s.known.each (k - 1) (omega arith)

    pub heaped_turn : (l' : List ℕ) → length l' ≡ length l → Heap ahead (k - 1) l' → Same l' (set l (k - 1) (get_or l (k - 1) 0))
        → HeapAt ahead Good l₀ l' (k - 1)
    heaped_turn l' e h t =
        let t' : Same l' l = rw (set-get_or l (k - 1) 0) at t in
        let few = s.few in
        let g = s.long in
        record { few = omega arith; long = e ∙ s.long; known = same-each Good l l' t' s.known; heap = h; same = same_trans l' l l₀ t' s.same }

  pub heaped_all : k ≤ 0 → Heap ahead 0 l × Same l l₀
  heaped_all b = (record { each = λ i j a p q g. s.heap.each i j (omega arith) p q g }, s.same)

-- ---- which of two places holds the one behind, and whether a number goes down from its place
pub byte_most : (t : Bool) → bool_byte t ≤ 1
byte_most true = omega arith
byte_most false = omega arith

module _ {ahead : ℕ → ℕ → Bool} {Good : ℕ → Type 0} (o : Strict ahead Good) where
  module _ {l : List ℕ} {left : ℕ} (h : left < length l) where
    -- the second of two, if the first is ahead of it
    pub last-two : (t : Bool) → left + 1 < length l → t ≡ ahead (get_or l left 0) (get_or l (left + 1) 0) → LastOf ahead l left (left + bool_byte t)
    last-two true g a = record { low = omega arith; high = omega arith; inside = g; each = λ k p q r. go k (ℕ_discrete k left) p q }
      where
        go : (k : ℕ) → Dec (k ≡ left) → left ≤ k → k ≤ left + 1 → Behind ahead (get_or l (left + 1) 0) (get_or l k 0)
        go k (yes e) p q = rw e (o.one_way (get_or l left 0) (get_or l (left + 1) 0) (sym a))
        go k (no n) p q = let e : k ≡ left + 1 = omega arith in rw e (behind_self o (get_or l (left + 1) 0))
    last-two false g a = rw add-zero (record { low = omega arith; high = omega arith; inside = h; each = λ k p q r. go k (ℕ_discrete k left) p q })
      where
        go : (k : ℕ) → Dec (k ≡ left) → left ≤ k → k ≤ left + 1 → Behind ahead (get_or l left 0) (get_or l k 0)
        go k (yes e) p q = rw e (behind_self o (get_or l left 0))
        go k (no n) p q = let e : k ≡ left + 1 = omega arith in rw e (record { is = sym a })

    pub last-only : length l ≤ left + 1 → LastOf ahead l left left
    last-only g = record {
      low = omega arith;
      high = omega arith;
      inside = h;
      each = λ k p q r. let e : k ≡ left = omega arith in rw e (behind_self o (get_or l left 0));
    }

  module _ {l : List ℕ} {k x : ℕ} (f : Each Good l) (n : Good x) where
    module _ {r : ℕ} (t : LastOf ahead l (2 * k + 1) r) where
      pub goes_down : ahead x (get_or l r 0) ≡ true → Goes ahead l k x r
      goes_down a =
          let lo = t.low in let hi = t.high in
          record {
            low = omega arith;
            stays = λ b. absurd (omega arith);
            under = λ b. (omega arith, omega arith, t.inside);
            up = λ b. o.one_way x (get_or l r 0) a;
            last = λ b i p q g. t.each i (omega arith) (omega arith) g;
          }

      pub goes_nowhere : ahead x (get_or l r 0) ≡ false → Goes ahead l k x k
      goes_nowhere a =
          record {
            low = omega arith;
            stays = λ b i p q g.
                o.through x (get_or l r 0) (get_or l i 0) n (f.each r t.inside) (f.each i g) (record { is = a }) (t.each i (omega arith) (omega arith) g);
            under = λ b. absurd (omega arith);
            up = λ b. absurd (omega arith);
            last = λ b. absurd (omega arith);
          }

  pub goes_no_further : {l : List ℕ} {k x : ℕ} → length l ≤ 2 * k + 1 → Goes ahead l k x k
  goes_no_further e =
      record {
        low = omega arith;
        stays = λ b i p q g. absurd (omega arith);
        under = λ b. absurd (omega arith);
        up = λ b. absurd (omega arith);
        last = λ b. absurd (omega arith);
      }

  -- ---- the root is the last of all
  pub root_last : {l : List ℕ} → Each Good l → Heap ahead 0 l → Each (Behind ahead (get_or l 0 0)) l
  root_last {l} f h = record { each = λ k g. go (suc k) k (omega arith) g }
    where
      parent : (k : ℕ) → (i : ℕ) × (2 * i < suc k) × (suc k ≤ 2 * i + 2)
      parent k = (k / 2, omega arith, omega arith)

      go : (fuel k : ℕ) → k < fuel → k < length l → Behind ahead (get_or l 0 0) (get_or l k 0)
      go zero k b g = absurd (omega arith)
      go (suc fuel) zero b g = behind_self o (get_or l 0 0)
      go (suc fuel) (suc k) b g =
          let q = parent k in
          let i : ℕ = q.0 in
          let q1 = q.1 in
          let q2 = q.2 in
          let gi : i < length l = omega arith in
          o.through (get_or l 0 0) (get_or l i 0) (get_or l (suc k) 0) (f.each 0 (omega arith)) (f.each i gi) (f.each (suc k) g)
          (go fuel i (omega arith) gi) (h.each i (suc k) (omega arith) q1 q2 g)

  -- ---- the root goes to the end
  module _ {l : List ℕ} (end : ℕ) (f : Each Good l) (h : Heap ahead 0 l) (b : 0 < end) (long : length l ≡ end + 1) where
    pub front_long : length (take end (set l end (get_or l 0 0))) ≡ end
    front_long = length-take-le end (set l end (get_or l 0 0)) (rw length-set (omega arith))

    front_at : (k : ℕ) → k < end → get_or (take end (set l end (get_or l 0 0))) k 0 ≡ get_or l k 0
    front_at k g = get_or-take end (set l end (get_or l 0 0)) k 0 g ∙ get_or-set_other l end k (get_or l 0 0) 0 (λ e. omega arith)

    pub pop-inside : 0 < length (take end (set l end (get_or l 0 0)))
    pop-inside = rw front_long b

    pub pop-end : end ≤ length (set l end (get_or l 0 0))
    pop-end = rw length-set (omega arith)

    pub pop-few : (n : ℕ) → length l ≤ n → length (take end (set l end (get_or l 0 0))) ≤ n
    pop-few n g = let e = front_long in omega arith

    pub pop-known : Each Good (take end (set l end (get_or l 0 0)))
    pop-known = record { each = λ k g. let g' : k < end = rw front_long at g in rw (front_at k g') (f.each k (omega arith)) }

    pub pop_heap : Heap ahead 1 (take end (set l end (get_or l 0 0)))
    pop_heap = record {
      each = λ i k a p q g.
          let g' : k < end = rw front_long at g in
          rw (front_at k g', front_at i (omega arith)) (h.each i k (omega arith) p q (omega arith));
    }

    module _ (r : List ℕ) (e : length r ≡ length (take end (set l end (get_or l 0 0)))) where
      r_long : length r ≡ end
      r_long = e ∙ front_long

      pub pop-long : length (r ++ drop end (set l end (get_or l 0 0))) ≡ length l
      pop-long =
          let p = length-append r (drop end (set l end (get_or l 0 0))) in
          let q = length-drop end (set l end (get_or l 0 0)) in
          let z = length-set l end (get_or l 0 0) in
          let w = r_long in
          omega arith

      module _ (s : Same r (set (take end (set l end (get_or l 0 0))) 0 (get_or l end 0))) where
        pub pop-same : Same (r ++ drop end (set l end (get_or l 0 0))) l
        pop-same = record { each = one }
          where
            one : (a : ℕ) → often a (r ++ drop end (set l end (get_or l 0 0))) ≡ often a l
            one a =
                let p = count-append a r (drop end (set l end (get_or l 0 0))) in
                let q = s.each a in
                let t = rw (front_at 0 b) at (count_set a (take end (set l end (get_or l 0 0))) 0 (get_or l end 0) pop-inside) in
                let u = rw take-append-drop at (count-append a (take end (set l end (get_or l 0 0))) (drop end (set l end (get_or l 0 0)))) in
                let w = count_set a l end (get_or l 0 0) (omega arith) in
                omega arith

        pub pop_front : Heap ahead 0 r → Heap ahead 0 (take end (r ++ drop end (set l end (get_or l 0 0))))
        pop_front g = rw (take_at r (drop end (set l end (get_or l 0 0))) end r_long) g

        pub pop-ends : Each (Behind ahead (get_or (r ++ drop end (set l end (get_or l 0 0))) end 0)) (r ++ drop end (set l end (get_or l 0 0)))
        pop-ends = rw there (same-each (Behind ahead (get_or l 0 0)) l (r ++ drop end (set l end (get_or l 0 0))) pop-same (root_last f h))
          where
            there : get_or (r ++ drop end (set l end (get_or l 0 0))) end 0 ≡ get_or l 0 0
            there =
                rw (r_long, add-zero) at (get_or-append-add r (drop end (set l end (get_or l 0 0))) 0 0)
                ∙ rw add-zero at (get_or-drop end (set l end (get_or l 0 0)) 0 0)
                ∙ get_or-set_same l end (get_or l 0 0) 0 (omega arith)

-- ---- the loop that puts a heap in order
pub record SortAt (ahead : ℕ → ℕ → Bool) (Good : ℕ → Type 0) (l₀ l : List ℕ) (c : ℕ) : Type 0 where
  pub few : c ≤ length l
  pub long : length l ≡ length l₀
  known : Each Good l
  pub heap : Heap ahead 0 (take c l)
  order : OrderedFrom ahead c l
  same : Same l l₀

pub sorted_none : {ahead : ℕ → ℕ → Bool} {Good : ℕ → Type 0} {l : List ℕ} → Each Good l → Heap ahead 0 l → SortAt ahead Good l l (length l)
sorted_none {ahead} {Good} {l} f h = record {
  few = omega arith;
  long = refl;
  known = f;
  heap = rw (take-length l) h;
  order = record { each = λ i k a b g. absurd (omega arith) };
  same = same_self l;
}

module _ {ahead : ℕ → ℕ → Bool} {Good : ℕ → Type 0} {l₀ l : List ℕ} {c : ℕ} (s : SortAt ahead Good l₀ l c) where
  pub front_c : length (take c l) ≡ c
  front_c = length-take-le c l s.few

  pub sorted_known : Each Good (take c l)
  sorted_known = record {
    each = λ k g. let g' : k < c = rw front_c at g in let few = s.few in rw (get_or-take c l k 0 g') (s.known.each k (omega arith));
  }

  pub sorted_all : c ≤ 1 → OrderedFrom ahead 0 l × Same l l₀
  sorted_all b = (record { each = λ i k h z g. s.order.each i k h (omega arith) g }, s.same)

  module _ (b : 1 < c) (r : List ℕ) (e : length r ≡ length (take c l)) (h : Heap ahead 0 (take (length (take c l) - 1) r))
      (t : Each (Behind ahead (get_or r (length (take c l) - 1) 0)) r) (u : Same r (take c l)) where
    r_c : length r ≡ c
    r_c = e ∙ front_c

    whole : length (r ++ drop c l) ≡ length l
    whole = let p = length-append r (drop c l) in let q = length-drop c l in let z = r_c in let few = s.few in omega arith

    same_l : Same (r ++ drop c l) l
    same_l = record { each = λ a. one a (u.each a) }
      where
        one : (a : ℕ) → often a r ≡ often a (take c l) → often a (r ++ drop c l) ≡ often a l
        one a p = let q = count-append a r (drop c l) in let w = rw take-append-drop at (count-append a (take c l) (drop c l)) in omega arith

    fore : (k : ℕ) → k < c → get_or (r ++ drop c l) k 0 ≡ get_or r k 0
    fore k g = let z = r_c in get_or-append r (drop c l) 0 k (omega arith)

    aft : (k : ℕ) → c ≤ k → get_or (r ++ drop c l) k 0 ≡ get_or l k 0
    aft k g =
        let p : c + (k - c) ≡ k = omega arith in
        rw (r_c, p) at (get_or-append-add r (drop c l) (k - c) 0) ∙ rw p at (get_or-drop c l (k - c) 0)

    ordered : (i k : ℕ) → i < k → c - 1 ≤ k → k < length l → Behind ahead (get_or (r ++ drop c l) k 0) (get_or (r ++ drop c l) i 0)
    ordered i k a z g = go (ℕ_discrete k (c - 1))
      where
        before : c ≤ k → Each (Behind ahead (get_or l k 0)) (take c l)
        before p = record { each = λ j y. let y' : j < c = rw front_c at y in rw (get_or-take c l j 0 y') (s.order.each j k (omega arith) p g) }

        -- k lies behind the front: so did it before, and the front holds what it held
        later : c ≤ k → Dec (c ≤ i) → Behind ahead (get_or (r ++ drop c l) k 0) (get_or (r ++ drop c l) i 0)
        later p (yes q) = rw (aft k p, aft i q) (s.order.each i k a p g)
        later p (no n) =
            let q : i < c = omega arith in
            let w = r_c in
            rw (aft k p, fore i q) ((same-each (Behind ahead (get_or l k 0)) (take c l) r u (before p)).each i (omega arith))

        go : Dec (k ≡ c - 1) → Behind ahead (get_or (r ++ drop c l) k 0) (get_or (r ++ drop c l) i 0)
        go (yes q) =
            let w = r_c in
            let x : k ≡ length (take c l) - 1 = rw front_c q in
            rw (fore k (omega arith), fore i (omega arith), x) (t.each i (omega arith))
        go (no n) = later (omega arith) (dec_le c i)

    pub sorted_turn : SortAt ahead Good l₀ (r ++ drop c l) (c - 1)
    sorted_turn =
        let w = whole in
        let few = s.few in
        record {
          few = omega arith;
          long = whole ∙ s.long;
          known = same-each Good l (r ++ drop c l) same_l s.known;
          heap = rw (take-append-le (c - 1) r (drop c l) (let z = r_c in omega arith)) (rw front_c at h);
          order = record { each = λ i k a z g. ordered i k a z (rw whole at g) };
          same = same_trans (r ++ drop c l) l l₀ same_l s.same;
        }
