-- A thin function takes a view first, calls a function that takes the view's slices in its place and the other parameters as they are, and answers what
-- that one answers. What it owns on entry is then what the callee asks, and what the callee leaves is what it has to leave: only the walk over its code is
-- left to each. Assumes nothing.
use mathlib.Core.Path.{◌≡◌}
use mathlib.Core.List.{List, [], ◌∷◌}
use Prim.Native.Nat.{ℕ, suc}
use seplogic.Ra.Ura.{Ura}
use lib.ListN.{length}
use mir.Syntax.{Fn, Place, Opd, Body, seq, call}
use mir.Val.{Val}
use base.Logic.{SProp, ent, sep, guard, emp, via, fst∗}
use prog.Model.{Model}
use prog.Routine.{Callee as Name, Routine, Env}
use prog.Wp.{Env as Locals, Calls, Loops, WpFn, Closed}
use types.Logic.{Logic, sem}
use contract.Lifetimes.{Lfts, Shares}
use contract.Monad.{Fun}
use contract.Running.{Running, tables, tables_of}
use sound.WpLaws.{FmC, fm_of}
use types.Kit.{Item, Post, Seq, runs, lands, ‵, raw, ◌⊛◌, given, some, later, ◌$◌, ◌∵◌, !, qed, move, drop, use1}
use types.Kit.{split, join, learn, pick, fsplit, fjoin, updating, now as at_once, check, show, frame, await, done}
use types.Run.{Opds}
use denote.Builtin.{u32, f64}
use denote.Exit.{yes}
use denote.Laws.{Typed, Is, Ises, Spells, Tellss, Lawful, Lawfuls, valss, shows, all_Typed}
use denote.RattleType.{RattleType, Denots, Valss, mirs, flat, owns}
use denote.Signature.{Slot, Signature, plain, named_lft, shr_slice_of, types_at}
use denote.Slice.{slice_val}
use denote.Steps.{said, peeks}
use denote.Struct.Declared.{Declared}
use denote.Struct.Laws as LL
use denote.Struct.Rest.{all_own, own_open}
use denote.Struct.Values.{Values}
use denote.Triple.Call.{calls_at}
use denote.Triple.End.{Kepts, Fins, Outs, outs, lasts_of}
use denote.Triple.Entry.{Args, Vals, alive, on_entry}
use denote.Triple.Spec.{Spec, Meets, Back, exits, triple_of}
use denote.Triple.Statement.{Contract, Triple}
use denote.Triple.Table.{entered, cited}
use Rattle.views.specs.declared.CSCArray.{CSCArray}
use Rattle.views.specs.contracts.CSCArray as T
use Rattle.views.proofs.CSCArray.TheLaws as T'

-- all but the first parameter
abbrev pub others : {n : ℕ} → List (Slot n) → List (Slot n)
others [] = []
others (s ∷ ss) = ss

-- what the two functions have in common: the lifetimes beside the view's, the parameters beside it, and the answer
pub record Call : Type 3 where
  pub lifetimes : ℕ
  pub params : List (Slot (suc lifetimes))
  pub result : Slot (suc lifetimes)
  pub kept : Kepts params
  -- the machine values of the parameters, and that they and the answer's have their types
  pub spells : (κs : Lfts (suc lifetimes)) → Spells (types_at params κs)
  pub tells : (κs : Lfts (suc lifetimes)) → Tellss (types_at params κs) (Ises (types_at params κs)) (spells κs)
  pub lawfuls : {M : Type 1} {𝓤 : Ura M} (𝓛 : Logic 𝓤) → (κs : Lfts (suc lifetimes)) → Lawfuls 𝓛 (types_at params κs)
  pub answers : {M : Type 1} {𝓤 : Ura M} (𝓛 : Logic 𝓤) → (κs : Lfts (suc lifetimes)) → Lawful 𝓛 (result.row κs)

-- what both promise, of the view, the other parameters, the answer, and the other parameters at exit
abbrev pub Promise : Call → {M : Type 1} → Ura M → Type 2
Promise P 𝓤 =
    (κs : Lfts (suc P.lifetimes)) → CSCArray → Denots (types_at P.params κs)
    → (P.result.row κs).Denot → Outs κs P.params P.kept → SProp 𝓤

module _ (P : Call) where
  abbrev slice : RattleType → Slot (suc P.lifetimes)
  slice R = shr_slice_of (0 ∷ []) tt (plain (λ κs. R))

  abbrev thin : Signature
  thin =
      let view = plain (λ κs. T.the_row (named_lft (suc P.lifetimes) 0 tt κs)) in
      record { lifetimes = suc P.lifetimes; outlives = []; params = view ∷ P.params; result = P.result }

  abbrev apart : Signature
  apart = record { lifetimes = suc P.lifetimes; outlives = []; params = slice u32 ∷ slice u32 ∷ slice f64 ∷ P.params; result = P.result }

  module _ {M : Type 1} {𝓤 : Ura M} (𝓛 : Logic 𝓤) (E : Promise P 𝓤) where
    open 𝓛 use {H}

    abbrev of_view : Spec 𝓤 thin
    of_view κs a = record {
      ghost = Unit {0};
      requires = λ g. emp 𝓤;
      ensures = λ g r. exits 𝓛 thin (yes, P.kept) κs a (λ e. E κs a.0 a.1 r e.1);
    }

    abbrev of_slices : Spec 𝓤 apart
    of_slices κs a = record {
      ghost = Unit {0};
      requires = λ g. emp 𝓤;
      ensures = λ g r. exits 𝓛 apart (yes, (yes, (yes, P.kept))) κs a
          (λ e. E κs (record { starts = a.0; rows = a.1.0; values = a.1.1.0 }) a.1.1.1 r e.1.1.1);
    }

    abbrev pub Thin : Contract 𝓤
    Thin = triple_of 𝓛 thin of_view

    abbrev pub Callee : Contract 𝓤
    Callee = triple_of 𝓛 apart of_slices

    module _ (κs : Lfts (suc P.lifetimes)) (qs : Shares (suc P.lifetimes)) (d : CSCArray) (a : Denots (types_at P.params κs)) where
      abbrev vss : Valss (types_at P.params κs)
      vss = valss (types_at P.params κs) (P.spells κs) a

      abbrev pub passed : List Val
      passed = T'.lowered d ∷ flat (types_at P.params κs) vss

      abbrev pub entry : SProp 𝓤
      entry = on_entry 𝓛 thin κs qs (d, a) (T'.lowered d ∷ [], vss)

      abbrev here : Thin.Ghost
      here = ((κs, qs, tt, (d, a), (T'.lowered d ∷ [], vss)), tt)

      -- what is to be left with the answer v
      abbrev pub left : Val → SProp 𝓤
      left = Thin.post here

      abbrev slices : Args apart κs
      slices = (d.starts, (d.rows, (d.values, a)))

      abbrev spelled : Vals apart κs
      spelled = (
        slice_val d.starts.ref_ptr (length d.starts.now) ∷ [],
        (slice_val d.rows.ref_ptr (length d.rows.now) ∷ [], (slice_val d.values.ref_ptr (length d.values.now) ∷ [], vss)),
      )

      abbrev there : Callee.Ghost
      there = ((κs, qs, tt, slices, spelled), tt)

      abbrev D : Declared
      D = T.the_type (named_lft (suc P.lifetimes) 0 tt κs)

      abbrev L : LL.Laws D
      L = T'.the_laws (named_lft (suc P.lifetimes) 0 tt κs)

      abbrev parts : Values D.parts
      parts = (d.starts, (d.rows, (d.values, tt)))

      -- what the function is given is what the callee asks
      opens : ent 𝓤 entry (Callee.pre there)
      opens =
          qed 𝓛 (raw (alive 𝓛 thin κs qs) ∷ ‵ (owns (types_at thin.params κs) (d, a) (T'.lowered d ∷ [], vss)) ∷ []) ∵
          move ! (1 ∷ []) $ fsplit ! $
          use1 𝓛 (given (T'.lowered d ∷ [] ≡ T'.lowered d ∷ []) (‵ (all_own D.parts L parts))) (own_open 𝓛 D L parts (T'.lowered d)) $ learn ! (λ _.
          fsplit ! $ move ! (1 ∷ []) $ fsplit ! $ move ! (1 ∷ []) $ fsplit ! $ move ! (1 ∷ []) $
          -- [true; values; rows; starts; the others; the tokens]
          move ! (1 ∷ 4 ∷ []) $ fjoin ! $ move ! (2 ∷ 0 ∷ []) $ fjoin ! $ move ! (2 ∷ 0 ∷ []) $ fjoin ! $ move ! (2 ∷ 0 ∷ 1 ∷ []) $ join ! $ done !)

      -- what the callee leaves is what the function has to leave, and its answer has the answer's type
      closes : (v : Val) → ent 𝓤 (Callee.post there v) (H.⇛ (guard 𝓤 (Typed (P.result.row κs).mir (v ∷ [])) (left v)))
      closes v =
          qed 𝓛 (later (some (λ (r : (P.result.row κs).Denot).
          (raw (alive 𝓛 thin κs qs) ⊛ ‵ ((P.result.row κs).own_val r (v ∷ []))) ⊛
          some (λ (ws : Fins κs apart.params (yes, (yes, (yes, P.kept))) slices).
          ‵ (lasts_of κs apart.params (yes, (yes, (yes, P.kept))) slices ws) ⊛ raw (E κs d a r (outs κs P.params P.kept a ws.1.1.1))))) ∷ []) ∵
          updating ! $ await ! tt $ at_once ! $ pick ! (λ r. split ! $ split ! $ move ! (1 ∷ []) $
          peeks ! (P.result.row κs) (Is (P.result.row κs)) (shows 𝓛 (P.result.row κs)) r (v ∷ []) (λ is.
          check {P = left v} ! ((P.answers 𝓛 κs).typed r (v ∷ []) is) $ move ! (2 ∷ []) $ pick ! (λ ws. split ! $ fsplit ! $ drop ! $ fsplit ! $ drop ! $
          -- [the lent slices' last values; what is promised; the answer; the tokens]
          updating ! $ at_once ! $ show ! (λ (r' : (P.result.row κs).Denot). sep 𝓤 (Back 𝓛 thin here.0 v r') ((of_view κs (d, a)).ensures tt r')) r $
          move ! (3 ∷ 2 ∷ 0 ∷ 1 ∷ []) $ join ! $ frame ! $
          show ! (λ (ws' : Fins κs thin.params (yes, P.kept) (d, a)).
          sep 𝓤 (sem 𝓛 (lasts_of κs thin.params (yes, P.kept) (d, a) ws')) (E κs d a r (outs κs P.params P.kept a ws'.1)))
          (tt, ws.1.1.1) $ done !)))

    -- the code is walked to its end
    abbrev pub Walks : Fun 𝓤 → Type 1
    Walks run = (κs : Lfts (suc P.lifetimes)) (qs : Shares (suc P.lifetimes)) (d : CSCArray) (a : Denots (types_at P.params κs))
        → Typed (mirs (types_at thin.params κs)) (passed κs qs d a) → ent 𝓤 (entry κs qs d a) (run (passed κs qs d a) (left κs qs d a))

    meets : (run : Fun 𝓤) → Walks run → Meets 𝓛 thin run of_view
    meets run walk y =
        let κs = y.0.0 in
        let D' = T.the_type (named_lft (suc P.lifetimes) 0 tt κs) in
        let L' = T'.the_laws (named_lft (suc P.lifetimes) 0 tt κs) in
        let types = types_at thin.params κs in
        let lawfuls : Lawfuls 𝓛 types = (LL.lawful D' L' 𝓛, P.lawfuls 𝓛 κs) in
        via 𝓤 _ (fst∗ 𝓤 _ (emp 𝓤))
        (said 𝓛 thin κs y.0.1 (LL.vals D' L', P.spells κs) (LL.tells D' L', P.tells κs) y.0.3
        (λ us. run (flat types us) (Thin.post ((κs, y.0.1, tt, y.0.3, us), tt))) y.0.4
        (λ are. walk κs y.0.1 y.0.3.0 y.0.3.1 (all_Typed 𝓛 types lawfuls y.0.3 _ are)))

-- the step of a walk that is the call: what the function was given goes to the callee, and what the callee leaves is what is to be left
pub calls_apart : {M : Type 1} {𝓤 : Ura M} {𝓛 : Logic 𝓤} {K : Type 0} {Γ : List (Item 𝓤)}
    {C : Calls 𝓤 𝓛.H} {Λ : Loops 𝓤 𝓛.H} {locals : Locals 𝓤 𝓛.H} {q : Post 𝓤 𝓛.H} {f : Name} {xs : List Opd} {to : Place} {rest : Body}
    → K → FmC 𝓤 𝓛.H 𝓛.laws C → (P : Call) (E : Promise P 𝓤)
    → Triple 𝓤 (C f) (Callee P 𝓛 E)
    → (κs : Lfts (suc P.lifetimes)) (qs : Shares (suc P.lifetimes)) (d : CSCArray) (a : Denots (types_at P.params κs))
    → Opds K 𝓛 (raw ((Callee P 𝓛 E).pre (there P 𝓛 E κs qs d a)) ∷ Γ) locals xs ((Callee P 𝓛 E).args (there P 𝓛 E κs qs d a))
    → ((v : Val) → Typed (P.result.row κs).mir (v ∷ []) → Seq K 𝓛 (raw (left P 𝓛 E κs qs d a v) ∷ Γ) (lands C Λ locals to v rest q))
    → Seq K 𝓛 (raw (entry P 𝓛 E κs qs d a) ∷ Γ) (runs C Λ locals (seq (call f xs to) rest) q)
calls_apart {𝓤 = 𝓤} {𝓛 = 𝓛} t fm P E known κs qs d a reads k =
    let callee = Callee P 𝓛 E in
    let asks = there P 𝓛 E κs qs d a in
    use1 𝓛 (raw (callee.pre asks)) (opens P 𝓛 E κs qs d a) $ calls_at t fm callee known asks reads (λ v.
    use1 𝓛 (later (given (Typed (P.result.row κs).mir (v ∷ [])) (raw (left P 𝓛 E κs qs d a v)))) (closes P 𝓛 E κs qs d a v) $
    await t tt $ learn t (k v))

-- a function that calls one routine by its name, whose code is walked with that routine's contract known
pub thin_meets : (P : Call) {M : Type 1} {𝓤 : Ura M} (𝓛 : Logic 𝓤) (𝓜 : Model 𝓤 𝓛.H) (𝓡 : Running 𝓤 𝓛.H 𝓜) (E : Promise P 𝓤) (env : Env)
    (k : Name) (code : Fn) → Closed 𝓤 𝓛.H (tables 𝓤 𝓛.H 𝓜 𝓡 env).C (tables 𝓤 𝓛.H 𝓜 𝓡 env).Λ k code
    → (callee : Name) (routine : Routine) → env callee ≡ routine → Triple 𝓤 (𝓡.run routine) (Callee P 𝓛 E)
    → ((C : Calls 𝓤 𝓛.H) (Λ : Loops 𝓤 𝓛.H) → FmC 𝓤 𝓛.H 𝓛.laws C → Triple 𝓤 (C callee) (Callee P 𝓛 E)
    → Walks P 𝓛 E (WpFn 𝓤 𝓛.H C Λ code))
    → Triple 𝓤 ((tables 𝓤 𝓛.H 𝓜 𝓡 env).C k) (Thin P 𝓛 E)
unfolding tables_of
thin_meets P {𝓤 = 𝓤} 𝓛 𝓜 𝓡 E env k code closed callee routine is_routine met walk =
    let C = (tables 𝓤 𝓛.H 𝓜 𝓡 env).C in
    let Λ = (tables 𝓤 𝓛.H 𝓜 𝓡 env).Λ in
    entered 𝓤 𝓛.H (Thin P 𝓛 E) C Λ k code closed
    (meets P 𝓛 E (WpFn 𝓤 𝓛.H C Λ code)
    (walk C Λ (fm_of 𝓤 𝓛.H 𝓛.laws (tables_of 𝓤 𝓛.H 𝓜 (tables 𝓤 𝓛.H 𝓜 𝓡 env))) (cited 𝓤 𝓛.H (Callee P 𝓛 E) 𝓜 𝓡 env callee routine is_routine met)))
