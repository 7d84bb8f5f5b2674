-- A solve that is given up came to a number that is not finite: its last turn, that turn's last epoch, and that epoch's last visit or its check are taken
-- apart till a number is left. Assumes nothing.
use mathlib.Core.Path.{◌≡◌, refl, sym, ◌∙◌}
use mathlib.Core.Bool.{Bool, true, false}
use mathlib.Core.List.{List}
use mathlib.Core.Logic.{⊎_elim}
use Prim.Native.Nat.{ℕ, ◌+◌}
use native.Mathlib.Omega.{arith}
use borrow.Author.Tests.{eqb-false}
use lib.Dec.{eqb}
use lib.ListN.{length, get_or}
use lib.Ieee.{Float, eq, le}
use Rattle.doubles.specs.Num.{#0, pick, ◌or◌}
use Rattle.doubles.specs.Steps.{Stage, going, stopped, bad, and_then}
use Rattle.doubles.proofs.Laws.Ends.{and-fails, or-fails, one_fails, going≢bad, stopped≢bad, going≢stopped, last_turn}
use Rattle.definition.specs.Epoch.{Task, Point, constant, known, all_known, known_in, worst_in, moved_finite, fine, visited, visit, visits}
use Rattle.definition.specs.Run.{Inner, accelerated, enough, checked, checks, settled, epoch, epochs, State, iteration, ends, turn, start, run}
use Rattle.definition.specs.Call.{given_up, solved}
use Rattle.definition.specs.declared.Settings.{Settings}
use Rattle.definition.proofs.Laws.Ends.{solved-given_up}
use Rattle.endings.specs.NotFinite as NotFinite
use Rattle.endings.specs.NotFinite.{set_at, worst_at, difference}
use Rattle.endings.specs.NotFinite.{NotFinite, Turns, Iterates, Epochs, Visited, Checked, at-check, at-visit, of_turn, of_epoch}
use Rattle.endings.proofs.Laws.Changed.{broken_changed}

module _ (T : Task) (y : List Float) (S : Settings) where
  -- ---- a test that fails has a number that is not finite
  known-fails : {q : Point} {j : ℕ} → Checked T y S q j → known T q.weights q.fit j ≡ false → NotFinite T y S
  unfolding known
  known-fails c e = ⊎_elim (λ h. NotFinite.gradient (at-check c) h) (λ h. NotFinite.violation c h) (and-fails _ _ e)

  moved-fails : {q : Point} {j : ℕ} → Visited T y S q j → moved_finite T.X j (difference T q j) q.fit ≡ false → NotFinite T y S
  moved-fails {q} {j} v e =
      let b = broken_changed T.X j (difference T q j) q.fit e in
      NotFinite.fit v b.0 b.1.place b.1.inside b.1.fails

  fine-fails : {q : Point} {j : ℕ} → Visited T y S q j → fine T q j ≡ false → NotFinite T y S
  unfolding fine
  fine-fails v e =
      ⊎_elim (λ h. NotFinite.gradient (at-visit v) h)
      (λ r. ⊎_elim (λ h. NotFinite.weight v h) (λ h. moved-fails v h) (and-fails _ _ r))
      (and-fails _ _ e)

  -- ---- a visit breaks off where its numbers are not finite, and never stops
  record VisitBad (j : ℕ) (q : Point) : Type 0 where
    counts : eq (constant T j) #0 ≡ false
    broken : fine T q j ≡ false

  visit-bad : (j : ℕ) (q : Point) → visit T j q ≡ bad → VisitBad j q
  unfolding visit
  visit-bad j q = go (eq (constant T j) #0) refl (fine T q j) refl
    where
      go : (z : Bool) → eq (constant T j) #0 ≡ z → (f : Bool) → fine T q j ≡ f → pick z (going q) (pick f (going (visited T q j)) bad) ≡ bad → VisitBad j q
      go true e f h r = absurd (going≢bad r)
      go false e true h r = absurd (going≢bad r)
      go false e false h r = record { counts = e; broken = h }

  visit_goes : (j : ℕ) (q r : Point) → visit T j q ≡ stopped r → ⊥
  unfolding visit
  visit_goes j q r = go (eq (constant T j) #0) (fine T q j)
    where
      go : (z f : Bool) → pick z (going q) (pick f (going (visited T q j)) bad) ≡ stopped r → ⊥
      go true f e = going≢stopped e
      go false true e = going≢stopped e
      go false false e = stopped≢bad (sym e)

  visits_go : (ws : List ℕ) (q r : Point) → visits T ws q ≡ stopped r → ⊥
  unfolding visits
  visits_go ws q r e =
      let l = last_turn (λ i. visit T (get_or ws i 0)) q (length ws) (rw e) in
      visit_goes (get_or ws l.turn 0) l.before r (l.last ∙ e)

  -- ---- within an epoch
  module _ {s : State} {e : ℕ} {i : Inner} (at : Epochs T y S s e i) where
    visits-bad : visits T (set_at T S s) i.point ≡ bad → NotFinite T y S
    unfolding visits
    visits-bad r =
        let l = last_turn (λ k. visit T (get_or (set_at T S s) k 0)) i.point (length (set_at T S s)) (rw r) in
        let b = visit-bad (get_or (set_at T S s) l.turn 0) l.before (l.last ∙ r) in
        fine-fails (NotFinite.visited at l.turn l.inside l.reached b.counts) b.broken

    settled-bad : {q : Point} → visits T (set_at T S s) i.point ≡ going q
        → settled T S (set_at T S s) (worst_at T s) e (accelerated T y S (set_at T S s) e i q) ≡ bad → NotFinite T y S
    unfolding settled checked known_in
    settled-bad {q} v =
        go (checks e) refl (known_in T (set_at T S s) a.point.weights a.point.fit) refl
        (enough T S (set_at T S s) (worst_at T s) (worst_in T (set_at T S s) a.point.weights a.point.fit))
      where
        a : Inner
        a = accelerated T y S (set_at T S s) e i q

        go : (c : Bool) → checks e ≡ c → (k : Bool) → known_in T (set_at T S s) a.point.weights a.point.fit ≡ k → (b : Bool)
            → pick c (pick k (pick b (stopped a) (going a)) bad) (going a) ≡ bad → NotFinite T y S
        go true h true f true r = absurd (stopped≢bad r)
        go true h true f false r = absurd (going≢bad r)
        go false h k f b r = absurd (going≢bad r)
        go true h false f b r =
            let l = one_fails (λ k. known T a.point.weights a.point.fit (get_or (set_at T S s) k 0)) (length (set_at T S s)) f in
            known-fails (of_epoch at h v l.place l.inside) l.fails

    epoch-bad : epoch T y S (set_at T S s) (worst_at T s) e i ≡ bad → NotFinite T y S
    unfolding epoch
    epoch-bad = go (visits T (set_at T S s) i.point) refl
      where
        go : (x : Stage Point) → visits T (set_at T S s) i.point ≡ x
            → and_then x (λ q. settled T S (set_at T S s) (worst_at T s) e (accelerated T y S (set_at T S s) e i q)) ≡ bad → NotFinite T y S
        go (going q) v r = settled-bad v r
        go (stopped q) v r = absurd (visits_go (set_at T S s) i.point q v)
        go bad v r = visits-bad v

  -- ---- within a turn
  module _ {t : ℕ} {s : State} (at : Turns T y S t s) where
    epochs-bad : Iterates T y S t s → epochs T y S (set_at T S s) (worst_at T s) s.inner ≡ bad → NotFinite T y S
    unfolding epochs
    epochs-bad m r =
        let l = last_turn (epoch T y S (set_at T S s) (worst_at T s)) s.inner S.epochs (rw r) in
        epoch-bad (record { turn = t; iterates = m; inside = l.inside; reached = l.reached }) (l.last ∙ r)

    iteration-bad : Iterates T y S t s → iteration T y S (worst_at T s) s ≡ bad → NotFinite T y S
    unfolding iteration
    iteration-bad m = go (epochs T y S (set_at T S s) (worst_at T s) s.inner) refl _
      where
        go : (x : Stage Inner) → epochs T y S (set_at T S s) (worst_at T s) s.inner ≡ x → (g : Inner → State) → and_then x (λ i. going (g i)) ≡ bad
            → NotFinite T y S
        go (going i) e g r = absurd (going≢bad r)
        go (stopped i) e g r = absurd (going≢bad r)
        go bad e g r = epochs-bad m e

    turn-bad : turn T y S t s ≡ bad → NotFinite T y S
    unfolding turn all_known
    turn-bad =
        go (all_known T s.inner.point.weights s.inner.point.fit) refl (le (worst_at T s) S.tolerance or eqb t S.iterations) refl
      where
        iterates : all_known T s.inner.point.weights s.inner.point.fit ≡ true → (le (worst_at T s) S.tolerance or eqb t S.iterations) ≡ false
            → Iterates T y S t s
        iterates k e =
            let b = or-fails _ _ e in
            let n : t ≡ S.iterations → ⊥ = eqb-false t S.iterations b.1 in
            record { turns = at; known = k; above = b.0; more = omega (arith, at.inside) }

        go : (k : Bool) → all_known T s.inner.point.weights s.inner.point.fit ≡ k
            → (o : Bool) → (le (worst_at T s) S.tolerance or eqb t S.iterations) ≡ o
            → pick k (pick o (ends s (worst_at T s)) (iteration T y S (worst_at T s) s)) bad ≡ bad → NotFinite T y S
        go true h true f r = absurd (stopped≢bad r)
        go true h false f r = iteration-bad (iterates h f) r
        go false h o f r =
            let l = one_fails (known T s.inner.point.weights s.inner.point.fit) T.p h in
            known-fails (of_turn at l.place l.inside) l.fails

  -- ---- the run, and the solve
  run-bad : run T y S ≡ bad → NotFinite T y S
  unfolding run
  run-bad r =
      let l = last_turn (turn T y S) (start T S) (S.iterations + 1) (rw r) in
      turn-bad (record { inside = omega (arith, l.inside); reached = l.reached }) (l.last ∙ r)

  pub solved_broken : (number place : ℕ) → solved T y S ≡ given_up number place → NotFinite T y S
  solved_broken number place r = run-bad (solved-given_up T y S number place r)
