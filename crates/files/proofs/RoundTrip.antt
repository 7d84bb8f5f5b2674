-- What is written of a problem is read as that problem. A file is the header and at most four fields; wherever a field lies, its tests hold and
-- `next` takes its elements back. Assumes nothing.
use mathlib.Core.Path.{◌≡◌, refl, sym, ap, ◌∙◌}
use mathlib.Core.Bool.{Bool, true, false}
use Prim.Native.Nat.{ℕ, ◌+◌, ◌/◌, ◌%◌, ◌≤◌, ◌<◌}
use native.Mathlib.Nat.{add-zero}
use native.Mathlib.Omega.{arith}
use mathlib.Core.List.{List, [], ◌∷◌, ◌++◌, append-nil, flat_map}
use lib.Dec.{leb, eqb}
use lib.ListN.{length, length-append}
use lib.Ieee.{Float, binary64}
use lib.Ieee.Bits.{of_bits-fits}
use borrow.Author.Tests.{le-leb, lt-leb, lt-ltb, eq-eqb, ne_eqb}
use Rattle.doubles.specs.Num.{pick, ◌and◌}
use Rattle.doubles.specs.Answer.{answered}
use Rattle.penalties.specs.Penalty.{alpha_of}
use Rattle.penalties.specs.declared.separable.Penalty.{Penalty}
use Rattle.penalties.specs.declared.separable.Penalty.TheVariants.{L1, L1PlusL2, MCP}
use Rattle.designs.specs.declared.Layout.{Layout}
use Rattle.designs.specs.declared.Layout.TheVariants.{Dense, Csc}
use Rattle.designs.specs.declared.Shape.{Shape}
use Rattle.designs.specs.Given.{Given, given}
use Rattle.definition.specs.declared.Settings.{Settings}
use Rattle.files.specs.Bytes.{byte, u16, u32, u64, f64, doubles, indices}
use Rattle.files.specs.Problem.{Read, nothing_read, is_csc, header_shape, header_penalty, header_settings, good_header, tag_at, length_at, whole}
use Rattle.files.specs.Problem.{known_tag, element_size, stored, good_field, good_at, good, joined, next_read, read_on, read_all}
use Rattle.files.specs.Call.{Problem, problem, read_whole, parsed}
use Rattle.files.specs.Written.{bytes, field, design_code, penalty_code, extrapolate_code, second_of, bytes_of, bytes32}
use Rattle.files.specs.Written.{header, sparse, written, Double, AllDoubles, Word, AllWords, OwnDoubles, Fitting}
use Rattle.files.proofs.Laws.Walk.{at-end, one_more, begin}
use Rattle.files.proofs.Laws.Lies.{Lies, lies_first, lies_behind, lies_length, byte_there, u16_there, u16-back}
use Rattle.files.proofs.Laws.Lies.{u32-back, f64-back, doubles-long, words_long, doubles-back, words_back}

both_hold : {a b : Bool} → a ≡ true → b ≡ true → a and b ≡ true
unfolding ◌and◌
both_hold p q = rw (p, q)

-- ---- the header
layout_back : (g : Layout) → pick (eqb (design_code g) 1) Csc Dense ≡ g
layout_back Dense = refl
layout_back Csc = refl

layout_code : (g : Layout) → leb (design_code g) 1 ≡ true
layout_code Dense = refl
layout_code Csc = refl

extrapolate-back : (b : Bool) → eqb (extrapolate_code b) 1 ≡ b
extrapolate-back true = refl
extrapolate-back false = refl

extrapolate_code_lem : (b : Bool) → leb (extrapolate_code b) 1 ≡ true
extrapolate_code_lem true = refl
extrapolate_code_lem false = refl

penalty_code_lem : (q : Penalty) → leb (penalty_code q) 2 ≡ true
penalty_code_lem (L1 alpha) = refl
penalty_code_lem (L1PlusL2 alpha ratio) = refl
penalty_code_lem (MCP alpha gamma) = refl

penalty-back : (q : Penalty) (x y : Float) → x ≡ alpha_of q → y ≡ second_of q
    → pick (eqb (penalty_code q) 0) (L1 x) (pick (eqb (penalty_code q) 1) (L1PlusL2 x y) (MCP x y)) ≡ q
penalty-back (L1 alpha) x y p q = rw p
penalty-back (L1PlusL2 alpha ratio) x y p q = rw (p, q)
penalty-back (MCP alpha gamma) x y p q = rw (p, q)

alpha_fits : (q : Penalty) → OwnDoubles q → Double (alpha_of q)
alpha_fits (L1 alpha) h = h
alpha_fits (L1PlusL2 alpha ratio) h = h.0
alpha_fits (MCP alpha gamma) h = h.0

second_fits : (q : Penalty) → OwnDoubles q → Double (second_of q)
second_fits (L1 alpha) h = of_bits-fits binary64 0
second_fits (L1PlusL2 alpha ratio) h = h.1
second_fits (MCP alpha gamma) h = h.1

module _ (a : Shape) (s : Settings) (rest : List ℕ) where
  abbrev headed : List ℕ
  headed = field 1 (header a s) ++ rest

  design-back : byte headed 11 ≡ design_code a.layout
  unfolding field header bytes
  design-back = refl

  n-back : Word a.n → u32 headed 3 ≡ a.n
  unfolding field header bytes u32 u16
  n-back h = u32-back a.n [] h

  p_back : Word a.p → u32 headed 7 ≡ a.p
  unfolding field header bytes u32 u16
  p_back h = u32-back a.p [] h

  shape-back : Word a.n → Word a.p → header_shape headed ≡ a
  unfolding header_shape field header bytes
  shape-back n p = λ i. record { layout = layout_back a.layout i; n = n-back n i; p = p_back p i }

  settings-back : Word s.start → Word s.iterations → Word s.epochs → s.depth < 256 → Double s.tolerance → OwnDoubles s.penalty
      → header_settings headed ≡ s
  unfolding header_settings header_penalty field header bytes f64 u64 u32 u16
  settings-back start iterations epochs small tolerance own =
      let q = s.penalty in
      let x = f64-back (alpha_of q) [] (alpha_fits q own) in
      let y = f64-back (second_of q) [] (second_fits q own) in
      let depth : s.depth % 256 ≡ s.depth = omega arith in
      λ i. record {
        penalty = penalty-back q _ _ x y i;
        tolerance = f64-back s.tolerance [] tolerance i;
        start = u32-back s.start [] start i;
        iterations = u32-back s.iterations [] iterations i;
        epochs = u32-back s.epochs [] epochs i;
        extrapolate = extrapolate-back s.extrapolate i;
        depth = depth i;
      }

  header-good : a.n ≤ 256 → a.p ≤ 32 → good_header headed ≡ true
  unfolding good_header
  header-good n p =
      both_hold (unfold field in refl)
      (both_hold (unfold field header bytes u16 in refl)
      (both_hold (rw (n-back (omega arith)) (le-leb a.n 256 n))
      (both_hold (rw (p_back (omega arith)) (le-leb a.p 32 p))
      (both_hold (unfold field header bytes in layout_code a.layout)
      (both_hold (unfold field header bytes in penalty_code_lem s.penalty) (unfold field header bytes in extrapolate_code_lem s.extrapolate))))))

-- ---- a field that lies at place o
module _ (f : List ℕ) (o t : ℕ) (body rest : List ℕ) (L : Lies f o (field t body ++ rest)) (few : length f ≤ 49152) where
  here_tag : tag_at f o ≡ t
  unfolding field
  here_tag = ap (byte f) (sym (add-zero o)) ∙ byte_there L 0

  file_long : length f ≡ o + 3 + length body + length rest
  unfolding field bytes
  file_long = lies_length L ∙ rw (length-append body rest) (omega arith)

  here_length : length_at f o ≡ length body
  unfolding field bytes u16
  here_length = u16_there L 1 ∙ u16-back (length body) [] (let e = file_long in omega arith)

  here_whole : whole f o ≡ true
  unfolding whole
  here_whole = let e = file_long in both_hold (le-leb (o + 3) (length f) (omega arith)) (rw here_length (le-leb (o + 3 + length body) (length f) (omega arith)))

  body_lies : Lies f (o + 3) (body ++ rest)
  unfolding field bytes
  body_lies = lies_behind f (t ∷ bytes 2 (length body)) (body ++ rest) o (o + 3) L refl

  rest_lies : Lies f (o + 3 + length body) rest
  rest_lies = lies_behind f body rest (o + 3) (o + 3 + length body) body_lies refl

-- ---- the reader has come to s, and what is left is `rest`
record Reached (f rest : List ℕ) (s : Read) : Type 0 where
  so_far : read_all f ≡ read_on f (length f) s
  lies : Lies f s.at rest
  begun : 0 < s.at

one_turn : (f : List ℕ) (s : Read) → read_all f ≡ read_on f (length f) s → good f s ≡ true → read_all f ≡ read_on f (length f) (next_read f s)
one_turn f s e g = e ∙ one_more f s ∙ rw g

-- s and a field more, of tag t: with a body of m bytes, with doubles, with u32 numbers
abbrev with_body : List ℕ → Read → ℕ → ℕ → Read
with_body f s t m = record {
  at = s.at + 3 + m;
  tag = t;
  targets = joined t 2 s.targets (doubles f (s.at + 3) (m / 8));
  values = joined t 3 s.values (doubles f (s.at + 3) (m / 8));
  starts = joined t 4 s.starts (indices f (s.at + 3) (m / 4));
  rows = joined t 5 s.rows (indices f (s.at + 3) (m / 4));
}

abbrev with_doubles : Read → ℕ → List Float → Read
with_doubles s t xs = record {
  at = s.at + 3 + length (flat_map bytes_of xs);
  tag = t;
  targets = joined t 2 s.targets xs;
  values = joined t 3 s.values xs;
  starts = s.starts;
  rows = s.rows;
}

abbrev with_words : Read → ℕ → List ℕ → Read
with_words s t ns = record {
  at = s.at + 3 + length (flat_map bytes32 ns);
  tag = t;
  targets = s.targets;
  values = s.values;
  starts = joined t 4 s.starts ns;
  rows = joined t 5 s.rows ns;
}

known_tag_lem : (f : List ℕ) (t : ℕ) (c : Bool) → is_csc f ≡ c → 2 ≤ t → t ≤ pick c 5 3 → known_tag f t ≡ true
unfolding known_tag
known_tag_lem f t c e h k = rw e (both_hold (le-leb 2 t h) (le-leb t (pick c 5 3) k))

module _ (f : List ℕ) (few : length f ≤ 49152) where
  -- the last field was read
  all_read : (s : Read) → Reached f [] s → parsed f ≡ answered (problem f s)
  unfolding parsed read_whole
  all_read s R =
      let n : length f ≡ s.at = lies_length R.lies ∙ add-zero s.at in
      let e : read_all f ≡ s = R.so_far ∙ one_more f s ∙ rw (at-end f s (omega arith)) in
      rw (le-leb (length f) 49152 few, e, both_hold (lt-ltb 0 s.at R.begun) (eq-eqb s.at (length f) (sym n)))

  -- a field behind the header
  module _ (s : Read) (t : ℕ) (body rest : List ℕ) (R : Reached f (field t body ++ rest) s) where
    field-good : known_tag f t ≡ true → s.tag ≤ t → length body % element_size t ≡ 0 → stored t (length s.values) (length body / 8) ≡ true → good f s ≡ true
    unfolding good_at good_field
    field-good k h m q =
        let b = R.begun in
        let tag = here_tag f s.at t body rest R.lies few in
        let long = here_length f s.at t body rest R.lies few in
        both_hold (here_whole f s.at t body rest R.lies few)
        (rw (ne_eqb s.at 0 (λ z. omega arith), tag, long) (both_hold k (both_hold (le-leb s.tag t h) (both_hold (eq-eqb _ 0 m) q))))

    field_next : next_read f s ≡ with_body f s t (length body)
    unfolding next_read
    field_next = rw (here_tag f s.at t body rest R.lies few, here_length f s.at t body rest R.lies few)

    field-read : (u : Read) → good f s ≡ true → next_read f s ≡ u → u.at ≡ s.at + 3 + length body → Reached f rest u
    field-read u g e n = record {
      so_far = rw e at (one_turn f s R.so_far g);
      lies = rw n (rest_lies f s.at t body rest R.lies few);
      begun = omega arith;
    }

  -- targets or values
  module _ (s : Read) (t : ℕ) (xs : List Float) (rest : List ℕ) (R : Reached f (field t (flat_map bytes_of xs) ++ rest) s) where
    doubles-next : t ≤ 3 → AllDoubles xs → next_read f s ≡ with_doubles s t xs
    doubles-next h g =
        let body = flat_map bytes_of xs in
        let many : length body / 8 ≡ length xs = rw (doubles-long xs) (omega arith) in
        let back = doubles-back f (s.at + 3) xs rest (body_lies f s.at t body rest R.lies few) g in
        field_next s t body rest R ∙ rw (many, back, ne_eqb t 4 (λ e. omega arith), ne_eqb t 5 (λ e. omega arith))

    doubles-read : 2 ≤ t → t ≤ 3 → s.tag ≤ t → AllDoubles xs → stored t (length s.values) (length xs) ≡ true → Reached f rest (with_doubles s t xs)
    doubles-read l h k g q =
        let body = flat_map bytes_of xs in
        let long = doubles-long xs in
        let many : length body / 8 ≡ length xs = omega arith in
        let wide : length body % element_size t ≡ 0 = rw (le-leb t 3 h) (omega arith) in
        field-read s t body rest R (with_doubles s t xs)
        (field-good s t body rest R (tag-known (is_csc f) refl) k wide (rw many q))
        (doubles-next h g) refl
      where
        tag-known : (c : Bool) → is_csc f ≡ c → known_tag f t ≡ true
        tag-known true e = known_tag_lem f t true e l (omega arith)
        tag-known false e = known_tag_lem f t false e l h

  -- starts or rows
  module _ (s : Read) (t : ℕ) (ns : List ℕ) (rest : List ℕ) (R : Reached f (field t (flat_map bytes32 ns) ++ rest) s) where
    words-next : 4 ≤ t → AllWords ns → next_read f s ≡ with_words s t ns
    words-next h g =
        let body = flat_map bytes32 ns in
        let many : length body / 4 ≡ length ns = rw (words_long ns) (omega arith) in
        let back = words_back f (s.at + 3) ns rest (body_lies f s.at t body rest R.lies few) g in
        field_next s t body rest R ∙ rw (many, back, ne_eqb t 2 (λ e. omega arith), ne_eqb t 3 (λ e. omega arith))

    words-read : is_csc f ≡ true → 4 ≤ t → t ≤ 5 → s.tag ≤ t → AllWords ns → Reached f rest (with_words s t ns)
    words-read c l h k g =
        let body = flat_map bytes32 ns in
        let long = words_long ns in
        let wide : length body % element_size t ≡ 0 = rw (lt-leb t 3 l) (omega arith) in
        field-read s t body rest R (with_words s t ns)
        (field-good s t body rest R (known_tag_lem f t true c (omega arith) h) k wide (rw (ne_eqb t 3 (λ e. omega arith))))
        (words-next l g) refl

-- ---- the header was read
header-next : (a : Shape) (s : Settings) (rest : List ℕ) → next_read (headed a s rest) nothing_read ≡ begin
unfolding next_read field header bytes u16
header-next a s rest = refl

header-long : (a : Shape) (s : Settings) → 0 + 3 + length (header a s) ≡ 51
unfolding header bytes
header-long a s = refl

module _ (a : Shape) (s : Settings) (rest : List ℕ) (few : length (headed a s rest) ≤ 49152) (n : a.n ≤ 256) (p : a.p ≤ 32) where
  header_passed : good (headed a s rest) nothing_read ≡ true
  unfolding good_at
  header_passed = both_hold (here_whole (headed a s rest) 0 1 (header a s) rest (lies_first (headed a s rest)) few) (header-good a s rest n p)

  header_read : Reached (headed a s rest) rest begin
  unfolding read_all
  header_read = record {
    so_far = rw (header-next a s rest) at (one_turn (headed a s rest) nothing_read refl header_passed);
    lies = rw (header-long a s) at (rest_lies (headed a s rest) 0 1 (header a s) rest (lies_first (headed a s rest)) few);
    begun = omega arith;
  }

-- ---- the whole file
module _ (P : Problem) where
  abbrev g : Given
  g = P.given

  abbrev last_fields : Layout → List ℕ
  last_fields layout = sparse layout g.starts g.rows

  abbrev values_on : List ℕ
  values_on = field 3 (flat_map bytes_of g.values) ++ last_fields g.shape.layout

  abbrev targets_on : List ℕ
  targets_on = field 2 (flat_map bytes_of g.targets) ++ values_on

  abbrev file : List ℕ
  file = headed g.shape P.settings targets_on

  abbrev main-read : Read
  main-read = with_doubles (with_doubles begin 2 g.targets) 3 g.values

  module _ (F : Fitting P) (few : length file ≤ 49152) where
    main-reached : Reached file (last_fields g.shape.layout) main-read
    main-reached =
        let h = header_read g.shape P.settings targets_on few F.samples F.features in
        let t = doubles-read file few begin 2 g.targets values_on h (omega arith) (omega arith) (omega arith) F.targets refl in
        doubles-read file few (with_doubles begin 2 g.targets) 3 g.values (last_fields g.shape.layout) t
        (omega arith) (omega arith) (omega arith) F.values (let q = F.stored in le-leb (0 + length g.values) 4096 (omega arith))

    -- the same problem, if its arrays came back
    same-problem : (s : Read) → s.targets ≡ g.targets → s.values ≡ g.values → s.starts ≡ g.starts → s.rows ≡ g.rows
        → answered (problem file s) ≡ answered P
    same-problem s t v b r =
        let n = F.samples in
        let p = F.features in
        let e = shape-back g.shape P.settings targets_on (omega arith) (omega arith) in
        let settings = settings-back g.shape P.settings targets_on F.start F.iterations F.epochs F.depth F.tolerance F.penalty in
        λ i. answered (record { given = given (e i) (b i) (r i) (v i) (t i); settings = settings i })

    by_layout : (layout : Layout) → g.shape.layout ≡ layout → Reached file (last_fields layout) main-read → parsed file ≡ answered P
    by_layout Dense e R = all_read file few main-read R ∙ same-problem main-read refl refl (sym (F.dense e).0) (sym (F.dense e).1)
    by_layout Csc e R =
        let c : is_csc file ≡ true = ap (λ (code : ℕ). eqb code 1) (design-back g.shape P.settings targets_on ∙ ap design_code e) in
        let rows-field = field 5 (flat_map bytes32 g.rows) in
        let s = with_words main-read 4 g.starts in
        let b = words-read file few main-read 4 g.starts rows-field R c (omega arith) (omega arith) (omega arith) F.starts in
        let r = words-read file few s 5 g.rows [] (rw (append-nil rows-field) b) c (omega arith) (omega arith) (omega arith) F.rows in
        all_read file few (with_words s 5 g.rows) r ∙ same-problem (with_words s 5 g.rows) refl refl refl refl

pub round_trip : (P : Problem) → Fitting P → length (written P) ≤ 49152 → parsed (written P) ≡ answered P
unfolding written
round_trip P F few = by_layout P F few P.given.shape.layout refl (main-reached P F few)
