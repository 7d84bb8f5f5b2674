-- The reader's answer and the lent places, from what its passes leave. Assumes nothing.
use mathlib.Core.Path.{◌≡◌, refl, ◌∙◌}
use mathlib.Core.Bool.{true, false}
use Prim.Native.Nat.{ℕ, ◌≤◌, ◌<◌}
use native.Mathlib.Omega.{arith}
use mathlib.Core.List.{List}
use lib.Dec.{eqb}
use lib.ListN.{length}
use lib.Ieee.{Float}
use borrow.Author.Tests.{leb-true, le-leb, lt-leb, lt-ltb, eq-eqb, ne_eqb}
use Rattle.doubles.specs.Num.{◌and◌}
use Rattle.doubles.specs.Buffer.{put}
use Rattle.doubles.proofs.Laws.Choice.{and_both}
use Rattle.doubles.specs.Answer.{Outcome, refused, answered}
use Rattle.designs.specs.declared.Shape.{Shape}
use Rattle.definition.specs.declared.Settings.{Settings}
use Rattle.files.specs.Problem.{whole, read_all, header_shape, header_settings, good_header}
use Rattle.files.specs.Call.{problem, read_whole, parsed, Places, places, places_suffice, read_problem, sizes_of, read_call, read_left}
use Rattle.files.specs.Inner.Places.{Headed, Counted, Suffice}
use Rattle.files.proofs.Laws.Walk.{not-begun}
use Rattle.files.specs.declared.Cursor.{Cursor}
use Rattle.files.specs.declared.Sizes.{Sizes}

pub places_same : {t t' v v' : List Float} {s s' r r' : List ℕ} → t ≡ t' → v ≡ v' → s ≡ s' → r ≡ r' → places t v s r ≡ places t' v' s' r'
places_same a b c d = λ i. places (a i) (b i) (c i) (d i)

pub room_of : (t v : List Float) (s r : List ℕ) → places_suffice (places t v s r) ≡ true → Suffice (length t) (length v) (length s) (length r)
unfolding places_suffice
room_of t v s r e =
    let a = and_both _ _ e in
    let b = and_both _ _ a.1 in
    let c = and_both _ _ b.1 in
    record { targets = leb-true _ _ a.0; values = leb-true _ _ b.0; starts = leb-true _ _ c.0; rows = leb-true _ _ c.1 }

module _ (f : List ℕ) (b : Places) where
  abbrev pub Left : Outcome Sizes → Places → Type 0
  Left o b' = (o ≡ read_call f b) × (b' ≡ read_left f b)

  left-refused : (number place : ℕ) → read_problem f b ≡ refused number place → (o : Outcome Sizes) (b' : Places) → o ≡ refused number place → b' ≡ b
      → Left o b'
  unfolding read_call read_left
  left-refused number place e o b' eo eb = rw e (eo, eb)

  pub too_long : 49152 < length f → (o : Outcome Sizes) → o ≡ refused 9 49152 → Left o b
  unfolding read_problem parsed
  too_long h o e = left-refused 9 49152 (rw (lt-leb (length f) 49152 h)) o b e refl

  module _ (l : length f ≤ 49152) where
    -- a first field that is no header is where reading stops
    pub no_header : (whole f 0 and good_header f) ≡ false → (o : Outcome Sizes) → o ≡ refused 9 0 → Left o b
    unfolding read_problem parsed read_whole ◌and◌
    no_header e o eo = left-refused 9 0 (rw (le-leb (length f) 49152 l, not-begun f e)) o b eo refl

    module _ (c : Cursor) (C : Counted f c (read_all f)) where
      begun : read_whole f (read_all f) ≡ eqb c.at (length f)
      unfolding read_whole ◌and◌
      begun = rw (← C.at, lt-ltb 0 c.at C.behind)

      pub not-ended : (c.at ≡ length f → ⊥) → (o : Outcome Sizes) (b' : Places) → o ≡ refused 9 c.at → b' ≡ b → Left o b'
      unfolding read_problem parsed
      not-ended h o b' eo eb =
          left-refused 9 (read_all f).at (rw (le-leb (length f) 49152 l, begun, ne_eqb _ _ h)) o b' (eo ∙ rw C.at) eb

      module _ (h : c.at ≡ length f) where
        whole-problem : parsed f ≡ answered (problem f (read_all f))
        unfolding parsed
        whole-problem = rw (le-leb (length f) 49152 l, begun, eq-eqb _ _ h)

        pub no_room : places_suffice b ≡ false → (o : Outcome Sizes) (b' : Places) → o ≡ refused 3 0 → b' ≡ b → Left o b'
        unfolding read_problem
        no_room n o b' eo eb = left-refused 3 0 (rw (whole-problem, n)) o b' eo eb

        module _ (m : places_suffice b ≡ true) where
          fine : read_problem f b ≡ answered (problem f (read_all f))
          unfolding read_problem
          fine = rw (whole-problem, m)

          pub read_well : (o : Outcome Sizes) (b' : Places) → o ≡ answered (sizes_of (problem f (read_all f)))
              → let all = read_all f in
              b' ≡ places (put b.targets 0 all.targets) (put b.values 0 all.values) (put b.starts 0 all.starts) (put b.rows 0 all.rows)
              → Left o b'
          unfolding read_call read_left
          read_well o b' eo eb = rw fine (eo, eb)

-- the sizes, as the second pass counted them
module _ (f : List ℕ) (d : Cursor) (C : Counted f d (read_all f)) where
  pub sizes-read : (a : Shape) (e : Settings) → a ≡ header_shape f → e ≡ header_settings f
      → answered (record { shape = a; settings = e; counts = d.counts })
      ≡ answered (sizes_of (problem f (read_all f)))
  sizes-read a e ea ee = rw (ea, ee, C.targets, C.values, C.starts, C.rows)

  pub sizes-inside : length f ≤ 49152 → Headed f → (a : Shape) → a ≡ header_shape f
      → (d.counts.targets ≤ 6144) × (d.counts.values ≤ 4096) × (d.counts.starts ≤ 12288) × (d.counts.rows ≤ 12288) × (a.n ≤ 256) × (a.p ≤ 32)
  unfolding header_shape good_header
  sizes-inside l H a e =
      let w = C.within in
      let t = C.few-targets in
      let s = C.few-starts in
      let r = C.few-rows in
      let sizes = and_both _ _ (and_both _ _ (and_both _ _ H.good).1).1 in
      (omega arith, C.few-values, omega arith, omega arith, rw e (leb-true _ 256 sizes.0), rw e (leb-true _ 32 (and_both _ _ sizes.1).0))
