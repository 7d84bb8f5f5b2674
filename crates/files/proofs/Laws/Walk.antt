-- Field after field: what the cursor counts is what was read, and each element took its bytes, so the lent places are enough. Assumes nothing.
use mathlib.Core.Path.{◌≡◌, refl, sym, ap, ◌∙◌}
use mathlib.Core.Bool.{Bool, true, false}
use Prim.Native.Nat.{ℕ, zero, suc, ◌+◌, ◌*◌, ◌-◌, ◌/◌, ◌≤◌, ◌<◌}
use native.Mathlib.Nat.{le_trans, zero-add}
use native.Mathlib.Omega.{arith}
use mathlib.Core.List.{List, [], ◌++◌}
use lib.Dec.{eqb}
use lib.ListN.{length, length-append}
use lib.Ieee.{Float}
use borrow.Author.Tests.{leb-true, eqb-true, eqb-false, eq-eqb, lt-leb}
use Rattle.doubles.specs.Num.{pick, ◌and◌}
use Rattle.doubles.specs.Buffer.{put}
use Rattle.doubles.proofs.Laws.Choice.{and_both}
use Rattle.doubles.proofs.Laws.Steps.{length-tab}
use Rattle.doubles.proofs.Laws.Buffer.{length-put, put-behind}
use Rattle.files.specs.Bytes.{byte, u32, f64, doubles, indices}
use Rattle.files.specs.Problem.{Read, nothing_read, tag_at, length_at, whole, stored, good_header, good_field, good_at, good, joined, next_read, read_on}
use Rattle.files.specs.Problem.{read_all}
use Rattle.files.specs.Inner.Places.{Headed, Counted, grown_by, advanced, Space, Suffice, stored_in, indexed_in, kept_if}
use Rattle.files.specs.declared.Cursor.{Cursor}
use Rattle.files.proofs.Laws.Fields.{head_inside, body_inside, header-long}

-- ---- a good field
module _ (f : List ℕ) (s : Read) (h : good f s ≡ true) where
  pub good-whole : whole f s.at ≡ true
  unfolding good_at
  good-whole = (and_both _ _ h).0

  choice : pick (eqb s.at 0) (good_header f) (good_field f s.at s.tag (length s.values)) ≡ true
  unfolding good_at
  choice = (and_both _ _ h).1

  good-first : s.at ≡ 0 → good_header f ≡ true
  good-first e = rw (eq-eqb s.at 0 e) at choice

  first-tag : s.at ≡ 0 → tag_at f s.at ≡ 1
  unfolding good_header
  first-tag e = rw e (eqb-true _ 1 (and_both _ _ (good-first e)).0)

  later-stored : (s.at ≡ 0 → ⊥) → stored (tag_at f s.at) (length s.values) (length_at f s.at / 8) ≡ true
  unfolding good_field
  later-stored n =
      let g : good_field f s.at s.tag (length s.values) ≡ true = go (eqb s.at 0) refl choice in
      (and_both _ _ (and_both _ _ (and_both _ _ g).1).1).1
    where
      go : (b : Bool) → eqb s.at 0 ≡ b → pick b (good_header f) (good_field f s.at s.tag (length s.values)) ≡ true
          → good_field f s.at s.tag (length s.values) ≡ true
      go true q c = absurd (n (eqb-true s.at 0 q))
      go false q c = c

  -- a field of values keeps within the program's size
  pub values-fit : tag_at f s.at ≡ 3 → length s.values + length_at f s.at / 8 ≤ 4096
  values-fit e = go (eqb s.at 0) refl
    where
      go : (b : Bool) → eqb s.at 0 ≡ b → length s.values + length_at f s.at / 8 ≤ 4096
      go true q = absurd (let z : 1 ≡ 3 = sym (first-tag (eqb-true s.at 0 q)) ∙ e in omega arith)
      go false q = leb-true _ 4096 (rw e at (later-stored (eqb-false s.at 0 q)))

-- ---- enough turns are enough
module _ (f : List ℕ) where
  pub at-end : (s : Read) → length f ≤ s.at → good f s ≡ false
  unfolding good_at whole ◌and◌
  at-end s h = rw (lt-leb (s.at + 3) (length f) (omega arith))

  next-at : (s : Read) → s.at + 3 ≤ (next_read f s).at
  unfolding next_read
  next-at s = omega arith

  same-turns : (k j : ℕ) (s : Read) → length f ≤ s.at + k → length f ≤ s.at + j → read_on f k s ≡ read_on f j s
  unfolding read_on
  same-turns zero zero s h l = refl
  same-turns zero (suc j) s h l = rw (at-end s (omega arith))
  same-turns (suc k) zero s h l = rw (at-end s (omega arith))
  same-turns (suc k) (suc j) s h l =
      let n = next-at s in
      ap (λ (r : Read). pick (good f s) r s) (same-turns k j (next_read f s) (omega arith) (omega arith))

  pub one_more : (s : Read) → read_on f (length f) s ≡ pick (good f s) (read_on f (length f) (next_read f s)) s
  unfolding read_on
  one_more s = same-turns (length f) (suc (length f)) s (omega arith) (omega arith)

-- a file that begins with no header is not read
pub not-begun : (f : List ℕ) → (whole f 0 and good_header f) ≡ false → read_all f ≡ nothing_read
unfolding read_all good_at
not-begun f e = one_more f nothing_read ∙ rw e

-- ---- what is counted
grown-length : {A : Type 0} (b : Bool) (n m : ℕ) (old new : List A) → n ≡ length old → length new ≡ m → grown_by n b m ≡ length (pick b (old ++ new) old)
grown-length true n m old new e h = rw (e, length-append old new, h)
grown-length false n m old new e h = e

eights : (b : Bool) (n m a : ℕ) → 8 * n ≤ a → 8 * grown_by n b (m / 8) ≤ a + 3 + m
eights true n m a h = omega arith
eights false n m a h = omega arith

fours : (b : Bool) (n m a : ℕ) → 4 * n ≤ a → 4 * grown_by n b (m / 4) ≤ a + 3 + m
fours true n m a h = omega arith
fours false n m a h = omega arith

module _ (f : List ℕ) (c : Cursor) (s : Read) (C : Counted f c s) where
  pub good-by : (b : Bool) → b ≡ good_at f c.at c.tag c.counts.values → b ≡ good f s
  good-by b e = e ∙ rw (C.at, C.tag, C.values)

  module _ (g : good f s ≡ true) where
    whole_here : whole f c.at ≡ true
    whole_here = rw C.at (good-whole f s g)

    pub counts-next : Counted f (advanced f c) (next_read f s)
    unfolding advanced next_read
    counts-next =
        let t = tag_at f s.at in
        let m = length_at f s.at in
        record {
          at = rw C.at;
          tag = rw C.at;
          targets = rw C.at (grown-length (eqb t 2) c.counts.targets (m / 8) s.targets (doubles f (s.at + 3) (m / 8)) C.targets (length-tab _ (m / 8)));
          values = rw C.at (grown-length (eqb t 3) c.counts.values (m / 8) s.values (doubles f (s.at + 3) (m / 8)) C.values (length-tab _ (m / 8)));
          starts = rw C.at (grown-length (eqb t 4) c.counts.starts (m / 4) s.starts (indices f (s.at + 3) (m / 4)) C.starts (length-tab _ (m / 4)));
          rows = rw C.at (grown-length (eqb t 5) c.counts.rows (m / 4) s.rows (indices f (s.at + 3) (m / 4)) C.rows (length-tab _ (m / 4)));
          within = body_inside f c.at whole_here;
          few-targets = eights (eqb (tag_at f c.at) 2) c.counts.targets (length_at f c.at) c.at C.few-targets;
          few-values = stored-few (eqb (tag_at f c.at) 3) refl;
          few-starts = fours (eqb (tag_at f c.at) 4) c.counts.starts (length_at f c.at) c.at C.few-starts;
          few-rows = fours (eqb (tag_at f c.at) 5) c.counts.rows (length_at f c.at) c.at C.few-rows;
          behind = omega arith;
        }
      where
        stored-few : (b : Bool) → eqb (tag_at f c.at) 3 ≡ b → grown_by c.counts.values b (length_at f c.at / 8) ≤ 4096
        stored-few true q = rw (C.at, C.values) (values-fit f s g (rw (← C.at) (eqb-true _ 3 q)))
        stored-few false q = C.few-values

    pub enough_space : (a b d e : ℕ) → length f ≤ 49152 → Suffice a b d e → Space f c a b d e
    enough_space a b d e l R =
        let i = body_inside f c.at whole_here in
        let t = C.few-targets in
        let st = C.few-starts in
        let r = C.few-rows in
        let ra = R.targets in
        let rb = R.values in
        let rd = R.starts in
        let re = R.rows in
        record {
          targets = λ q. omega arith;
          values = λ q. le_trans (rw (C.at, C.values) (values-fit f s g (rw (← C.at) q))) rb;
          starts = λ q. omega arith;
          rows = λ q. omega arith;
        }

-- ---- the lent places
put-nothing : {A : Type 0} (b : Bool) (l : List A) → l ≡ kept_if b l []
unfolding put
put-nothing true l = refl
put-nothing false l = refl

kept_more : {A : Type 0} (keep b : Bool) (l xs ys m : List A) (n : ℕ) → m ≡ kept_if keep l xs → n ≡ length xs
    → (keep ≡ true → b ≡ true → n + length ys ≤ length l)
    → pick keep (pick b (put m n ys) m) m ≡ kept_if keep l (pick b (xs ++ ys) xs)
kept_more true true l xs ys m n em en h =
    let q = h refl refl in
    rw (em, en) (rw (zero-add (length xs)) at (put-behind l 0 xs ys (omega arith)))
kept_more true false l xs ys m n em en h = em
kept_more false b l xs ys m n em en h = em

pub kept-length : {A : Type 0} (keep : Bool) (l xs m : List A) → m ≡ kept_if keep l xs → (keep ≡ true → length xs ≤ length l) → length m ≡ length l
kept-length true l xs m e h = let q = h refl in ap length e ∙ length-put l 0 xs (omega arith)
kept-length false l xs m e h = ap length e

-- ---- the loop's invariant: `so_far` was read, and the rest leads to the whole
pub record Walked (f : List ℕ) (keep : Bool) (t₀ v₀ : List Float) (s₀ r₀ : List ℕ) (t v : List Float) (s r : List ℕ) (c : Cursor) : Type 0 where
  pub so_far : Read
  pub rest : read_all f ≡ read_on f (length f) so_far
  pub counts : Counted f c so_far
  pub targets : t ≡ kept_if keep t₀ so_far.targets
  pub values : v ≡ kept_if keep v₀ so_far.values
  pub starts : s ≡ kept_if keep s₀ so_far.starts
  pub rows : r ≡ kept_if keep r₀ so_far.rows

-- ---- behind the header
abbrev pub begin : Read
begin = record { at = 51; tag = 1; targets = []; values = []; starts = []; rows = [] }

module _ (f : List ℕ) (H : Headed f) where
  tag-one : byte f 0 ≡ 1
  unfolding good_header
  tag-one = eqb-true _ 1 (and_both _ _ H.good).0

  pub header-length : length_at f 0 ≡ 48
  unfolding good_header
  header-length = eqb-true _ 48 (and_both _ _ (and_both _ _ H.good).1).0

  pub header_long : 51 ≤ length f
  header_long = header-long f _ H.whole_first refl header-length

  first-good : good f nothing_read ≡ true
  unfolding good_at ◌and◌
  first-good = rw (H.whole_first, H.good)

  header-next : next_read f nothing_read ≡ begin
  unfolding next_read
  header-next = rw (tag-one, header-length)

  header_counted : Counted f (record { at = 51; tag = 1; counts = record { targets = 0; values = 0; starts = 0; rows = 0 } }) begin
  header_counted = record {
    at = refl;
    tag = refl;
    targets = refl;
    values = refl;
    starts = refl;
    rows = refl;
    within = header_long;
    few-targets = omega arith;
    few-values = omega arith;
    few-starts = omega arith;
    few-rows = omega arith;
    behind = omega arith;
  }

module _ (f : List ℕ) (keep : Bool) (t₀ v₀ : List Float) (s₀ r₀ : List ℕ) (l : length f ≤ 49152)
    (room : keep ≡ true → Suffice (length t₀) (length v₀) (length s₀) (length r₀)) where
  pub walked_none : Headed f → Walked f keep t₀ v₀ s₀ r₀ t₀ v₀ s₀ r₀
      (record { at = 51; tag = 1; counts = record { targets = 0; values = 0; starts = 0; rows = 0 } })
  unfolding read_all
  walked_none H = record {
    so_far = begin;
    rest = one_more f nothing_read ∙ rw (first-good f H, header-next f H);
    counts = header_counted f H;
    targets = put-nothing keep t₀;
    values = put-nothing keep v₀;
    starts = put-nothing keep s₀;
    rows = put-nothing keep r₀;
  }

  module _ {t v : List Float} {s r : List ℕ} {c : Cursor} (W : Walked f keep t₀ v₀ s₀ r₀ t v s r c) where
    few : (n : ℕ) → 8 * n ≤ c.at → n ≤ 6144
    few n h = let w = W.counts.within in omega arith

    fewer : (n : ℕ) → 4 * n ≤ c.at → n ≤ 12288
    fewer n h = let w = W.counts.within in omega arith

    pub counts-few : (c.counts.targets ≤ 6144) × (c.counts.values ≤ 4096) × (c.counts.starts ≤ 12288) × (c.counts.rows ≤ 12288)
    counts-few = (
      few c.counts.targets W.counts.few-targets,
      W.counts.few-values,
      fewer c.counts.starts W.counts.few-starts,
      fewer c.counts.rows W.counts.few-rows,
    )

    -- the lent buffers keep their lengths
    pub walked-lengths : (length t ≡ length t₀) × (length v ≡ length v₀) × (length s ≡ length s₀) × (length r ≡ length r₀)
    walked-lengths =
        let C = W.counts in
        let n = counts-few in (
          kept-length keep t₀ W.so_far.targets t W.targets (λ k. let a = (room k).targets in let b = n.0 in let e = C.targets in omega arith),
          kept-length keep v₀ W.so_far.values v W.values (λ k. let a = (room k).values in let b = C.few-values in let e = C.values in omega arith),
          kept-length keep s₀ W.so_far.starts s W.starts (λ k. let a = (room k).starts in let b = n.2 in let e = C.starts in omega arith),
          kept-length keep r₀ W.so_far.rows r W.rows (λ k. let a = (room k).rows in let b = n.3 in let e = C.rows in omega arith),
        )

    -- what the test of the next field says of what was read so far
    goes-on : (more : Bool) → more ≡ good_at f c.at c.tag c.counts.values → more ≡ good f W.so_far
    goes-on more e = good-by f c W.so_far W.counts more e

    module _ {more : Bool} (e : more ≡ good_at f c.at c.tag c.counts.values) (h : more ≡ true) where
      here_good : good f W.so_far ≡ true
      here_good = sym (goes-on more e) ∙ h

      pub here_whole : whole f c.at ≡ true
      here_whole = rw W.counts.at (good-whole f W.so_far here_good)

      -- each buffer has room for what it gains
      here_space : keep ≡ true → Space f c (length t₀) (length v₀) (length s₀) (length r₀)
      here_space k = enough_space f c W.so_far W.counts here_good _ _ _ _ l (room k)

      pub space_now : keep ≡ true → Space f c (length t) (length v) (length s) (length r)
      space_now k = let e = walked-lengths in rw (e.0, e.1, e.2, e.3) (here_space k)

      pub next_less : (d : Cursor) → d ≡ advanced f c → length f - d.at < length f - c.at
      unfolding advanced
      next_less d e =
          let h = head_inside f c.at here_whole in
          let q : d.at ≡ c.at + 3 + length_at f c.at = ap (λ (x : Cursor). x.at) e in
          omega arith

      gains : {A : Type 0} (u : ℕ) (b₀ xs ys b : List A) (n : ℕ) → b ≡ kept_if keep b₀ xs → n ≡ length xs
          → (keep ≡ true → eqb (tag_at f c.at) u ≡ true → n + length ys ≤ length b₀)
          → pick keep (pick (eqb (tag_at f c.at) u) (put b n ys) b) b ≡ kept_if keep b₀ (joined (tag_at f c.at) u xs ys)
      gains u b₀ xs ys b n eb en h = kept_more keep (eqb (tag_at f c.at) u) b₀ xs ys b n eb en h

      pub walked_more : (t' v' : List Float) (s' r' : List ℕ) (d : Cursor)
          → t' ≡ stored_in keep f c.at 2 t c.counts.targets → v' ≡ stored_in keep f c.at 3 v c.counts.values
          → s' ≡ indexed_in keep f c.at 4 s c.counts.starts → r' ≡ indexed_in keep f c.at 5 r c.counts.rows
          → d ≡ advanced f c
          → Walked f keep t₀ v₀ s₀ r₀ t' v' s' r' d
      unfolding next_read
      walked_more t' v' s' r' d et ev es er ed =
          let x = W.so_far in
          let C = W.counts in
          let m = length_at f c.at in
          let n : Counted f d (next_read f x) = rw ed (counts-next f c x C here_good) in
          record {
            so_far = next_read f x;
            rest = W.rest ∙ one_more f x ∙ rw here_good;
            counts = n;
            targets =
                et
                ∙ gains 2 t₀ x.targets (doubles f (c.at + 3) (m / 8)) t c.counts.targets W.targets C.targets
                (λ k q. rw (length-tab (λ i. f64 f (c.at + 3 + 8 * i)) (m / 8)) ((here_space k).targets (eqb-true _ 2 q)))
                ∙ rw C.at;
            values =
                ev
                ∙ gains 3 v₀ x.values (doubles f (c.at + 3) (m / 8)) v c.counts.values W.values C.values
                (λ k q. rw (length-tab (λ i. f64 f (c.at + 3 + 8 * i)) (m / 8)) ((here_space k).values (eqb-true _ 3 q)))
                ∙ rw C.at;
            starts =
                es
                ∙ gains 4 s₀ x.starts (indices f (c.at + 3) (m / 4)) s c.counts.starts W.starts C.starts
                (λ k q. rw (length-tab (λ i. u32 f (c.at + 3 + 4 * i)) (m / 4)) ((here_space k).starts (eqb-true _ 4 q)))
                ∙ rw C.at;
            rows =
                er
                ∙ gains 5 r₀ x.rows (indices f (c.at + 3) (m / 4)) r c.counts.rows W.rows C.rows
                (λ k q. rw (length-tab (λ i. u32 f (c.at + 3 + 4 * i)) (m / 4)) ((here_space k).rows (eqb-true _ 5 q)))
                ∙ rw C.at;
          }

    -- the file is read
    pub walked_all : {more : Bool} → more ≡ good_at f c.at c.tag c.counts.values → more ≡ false
        → Counted f c (read_all f) × (t ≡ kept_if keep t₀ (read_all f).targets) × (v ≡ kept_if keep v₀ (read_all f).values)
        × (s ≡ kept_if keep s₀ (read_all f).starts) × (r ≡ kept_if keep r₀ (read_all f).rows)
    walked_all {more} q h =
        let e : read_all f ≡ W.so_far = W.rest ∙ one_more f W.so_far ∙ rw (sym (goes-on more q) ∙ h) in
        rw e (W.counts, W.targets, W.values, W.starts, W.rows)
