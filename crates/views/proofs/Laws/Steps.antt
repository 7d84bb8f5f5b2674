-- Steps of a walk that stand for several of the kit's: a local is read, a local is set, and a local is freed with what it holds. Assumes nothing.
use mathlib.Core.Path.{◌≡◌, subst}
use mathlib.Core.List.{List, [], ◌∷◌}
use Prim.Native.Nat.{ℕ, zero}
use base.Fraction.{full_share}
use seplogic.Ra.Ura.{Ura}
use lib.Dec.{T as Holds}
use mir.Syntax.{Ty, Rv as RValue, Body, place, copy, seq, assign}
use mir.Val.{Val, WT, has_ty}
use base.Logic.{ent, sep, via, mono∗, assoc', mono_r}
use base.Fml.{Share, fat, froom, fdies}
use prog.Wp.{Env, Calls, Loops, spot_of}
use types.Logic.{Logic}
use types.Kit.{Goal, Item, ‵, Step, step, Post, mean, ⋆, nth, put, del, pull, runs, frees}
use types.Run.{Opd, Rv, load, look, from, stop, init, assigns}

module _ {M : Type 1} {𝓤 : Ura M} {𝓛 : Logic 𝓤} {K : Type 0} {Γ : List (Item 𝓤)} {E : Env 𝓤 𝓛.H} where
  -- local i, which is entry n of the context
  open 𝓛 use {H}

  pub copied : K → {i : ℕ} (n : ℕ) {q : Share} {v : Val}
      → nth 𝓛 n Γ ≡ ‵ (fat q (spot_of 𝓤 H E i).0 (spot_of 𝓤 H E i).1 (spot_of 𝓤 H E i).2 v)
      → Opd K 𝓛 Γ E (copy (place i [])) v
  copied t n e = load t (from t (stop t)) (look t n e)

  -- local i, which is entry n of the context, is set to what stands right of the `=`
  pub sets : K → {i : ℕ} {rv : RValue} {rest : Body} {v : Val} {C : Calls 𝓤 H} {Λ : Loops 𝓤 H} {q : Post 𝓤 H} → Rv K 𝓛 Γ E rv v → (n : ℕ)
      → nth 𝓛 n Γ ≡ ‵ (froom (spot_of 𝓤 H E i).0 (spot_of 𝓤 H E i).1 (spot_of 𝓤 H E i).2) → Holds (has_ty (spot_of 𝓤 H E i).0 v) × WT v
      → Step K 𝓛 (put 𝓛 n (‵ (fat full_share (spot_of 𝓤 H E i).0 (spot_of 𝓤 H E i).1 (spot_of 𝓤 H E i).2 v)) Γ) (runs C Λ E rest q)
      Γ (runs C Λ E (seq (assign (place i []) rv) rest) q)
  sets t rv n e typed = assigns t rv (from t (stop t)) (init t n e typed)

-- entry n of a context, which is known
taken : {M : Type 1} {𝓤 : Ura M} (𝓛 : Logic 𝓤) (Γ : List (Item 𝓤)) (n : ℕ) (i : Item 𝓤) → nth 𝓛 n Γ ≡ i
    → ent 𝓤 (⋆ 𝓛 Γ) (sep 𝓤 (mean 𝓛 i) (⋆ 𝓛 (del 𝓛 n Γ)))
taken {𝓤 = 𝓤} 𝓛 Γ n i e = subst (λ (j : Item 𝓤). ent 𝓤 (⋆ 𝓛 Γ) (sep 𝓤 (mean 𝓛 j) (⋆ 𝓛 (del 𝓛 n Γ)))) e (pull 𝓛 n Γ)

module _ {M : Type 1} {𝓤 : Ura M} {𝓛 : Logic 𝓤} {K : Type 0} {Γ : List (Item 𝓤)} where
  -- the next local to be freed is entry n of the context, with its end behind it
  open 𝓛 use {H}

  pub freed : K → (n : ℕ) {τ : Ty} {b : ℕ} {v : Val} {E : Env 𝓤 H} {g : Goal 𝓤 H} → nth 𝓛 n Γ ≡ ‵ (fat full_share τ b zero v)
      → nth 𝓛 n (del 𝓛 n Γ) ≡ ‵ (fdies τ b)
      → Step K 𝓛 (del 𝓛 n (del 𝓛 n Γ)) (frees E g) Γ (frees ((τ, b) ∷ E) g)
  freed t n {τ} {b} {v} e f =
      let room = H.room τ b zero in
      let dies = H.dies τ b in
      let rest = ⋆ 𝓛 (del 𝓛 n (del 𝓛 n Γ)) in
      let held = taken 𝓛 Γ n (‵ (fat full_share τ b zero v)) e in
      let end = taken 𝓛 (del 𝓛 n Γ) n (‵ (fdies τ b)) f in
      step (λ s. record {
        prf =
            via 𝓤 (sep 𝓤 (H.at full_share τ b zero v) (⋆ 𝓛 (del 𝓛 n Γ))) held
            (via 𝓤 (sep 𝓤 room (sep 𝓤 dies rest)) (mono∗ 𝓤 (𝓛.laws.at_room τ b zero v) end)
            (via 𝓤 (sep 𝓤 (sep 𝓤 room dies) rest) (assoc' 𝓤 room dies rest) (mono_r 𝓤 (sep 𝓤 room dies) s.prf)));
      })
