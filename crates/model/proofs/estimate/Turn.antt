-- One turn of the estimate: what is known of the facts built at a level is known of those built at the next.
use Rattle.std.proofs.Common.{Option, None, Some}
use mathlib.Core.Path.{◌≡◌, refl, sym, ap, ◌∙◌}
use mathlib.Core.Logic.{◌⊎◌, inl, inr}
use Prim.Native.Nat.{ℕ, ◌+◌, ◌≤◌, ◌<◌}
use native.Mathlib.Omega.{arith}
use mathlib.Core.Bool.{Bool, true, false, ◌||◌, or-true, true≢false}
use lib.Bits.{bit_or}
use lib.ListN.{length, get_or}
use Rattle.model.specs.Bits.{bit}
use Rattle.model.specs.job.Job.{Job, Action, action_of}
use Rattle.model.specs.task.State.{within}
use Rattle.model.specs.search.Estimate.{Ends, end_of, readied, Gain}
use Rattle.model.proofs.Tests.{or_cases, none_some}
use Rattle.model.proofs.bits.Bitwise.{bit_or_lem}
use Rattle.model.proofs.task.StateLaws.{within_facts}
use Rattle.model.proofs.job.VerdictLaws.{get_or-list_of}
use Rattle.model.proofs.estimate.Built.{Built, stands, made, AllBuilt, later, outside}
use Rattle.model.proofs.estimate.Soonest.{gain, gain_at, gain_some, Gains, gain_is, Soonest}
use Rattle.model.proofs.estimate.Useful.{useful, fewer}

module _ (j : Job) where
  abbrev A : ℕ
  A = length j.actions

  abbrev act : ℕ → Action
  act i = action_of j i

  -- Action i ends at e: its cost after the least level at which its needed facts can be built.
  pub record Timed (s i e : ℕ) : Type 0 where
    pub ready : ℕ
    pub ends : e ≡ ready + (act i).cost
    pub needed : AllBuilt j s (act i).pre ready
    pub least : (t : ℕ) → AllBuilt j s (act i).pre t → ready ≤ t

  -- What holds of the facts built at a level, where not all facts of a goal are built below it.
  pub record Level (s goal built level : ℕ) (ends : Ends) : Type 0 where
    pub sound : (f : ℕ) → bit built f ≡ true → Built j s f level
    pub from : (f : ℕ) → bit s f ≡ true → bit built f ≡ true
    pub timed : (i e : ℕ) → i < A → get_or ends i None ≡ Some e → Timed s i e
    pub low : (f t : ℕ) → bit built f ≡ false → Built j s f t → level ≤ t
    pub unready : (i : ℕ) → i < A → get_or ends i None ≡ None → (t : ℕ) → AllBuilt j s (act i).pre t → level ≤ t
    pub due : (t : ℕ) → AllBuilt j s goal t → level ≤ t

  module _ {s goal built level : ℕ} {ends : Ends} (v : Level s goal built level ends) (missing : within goal built ≡ false) where
    -- the ends at the level
    abbrev now : Ends
    now = readied j built level ends

    end_is : (i : ℕ) → i < A → get_or now i None ≡ end_of j built level (get_or ends i None) i
    unfolding readied
    end_is i l = get_or-list_of (λ (k : ℕ). end_of j built level (get_or ends k None) k) A i None l

    -- An action whose needed facts are built is ready.
    ready_some : (i : ℕ) → i < A → within (act i).pre built ≡ true → (e : ℕ) × (get_or now i None ≡ Some e)
    unfolding end_of
    ready_some i l w = go (get_or ends i None) refl
      where
        go : (o : Option ℕ) → get_or ends i None ≡ o → (e : ℕ) × (get_or now i None ≡ Some e)
        go (Some e) d = (e, end_is i l ∙ rw (d, end_of))
        go None d = (level + (act i).cost, end_is i l ∙ rw (d, end_of, w))

    -- Where an action has no end, a needed fact is not built.
    none_ready : (i : ℕ) → i < A → get_or now i None ≡ None → within (act i).pre built ≡ false
    none_ready i l h = go (within (act i).pre built) refl
      where
        go : (w : Bool) → within (act i).pre built ≡ w → within (act i).pre built ≡ false
        go true f = let r = ready_some i l f in none_some (sym h ∙ r.1)
        go false f = f

    timed_now : (i e : ℕ) → i < A → get_or now i None ≡ Some e → Timed s i e
    unfolding end_of
    timed_now i e l h = go (get_or ends i None) refl (within (act i).pre built) refl
      where
        is : end_of j built level (get_or ends i None) i ≡ Some e
        is = sym (end_is i l) ∙ h

        go : (o : Option ℕ) → get_or ends i None ≡ o → (w : Bool) → within (act i).pre built ≡ w → Timed s i e
        go (Some x) d w f = let q : ◌≡◌ {A = Option ℕ} (Some x) (Some e) = rw (d, end_of) at is in v.timed i e l (d ∙ q)
        go None d true f =
            let q : ◌≡◌ {A = Option ℕ} (Some (level + (act i).cost)) (Some e) = rw (d, end_of, f) at is in
            let p : level + (act i).cost ≡ e = cc in
            record { ready = level; ends = sym p; needed = λ g b. v.sound g ((within_facts (act i).pre built).0 f g b); least = v.unready i l d }
        go None d false f = none_some (rw (d, end_of, f) at is)

    -- Where no action gains anything, nothing else can be built.
    closed : ((i : ℕ) → i < A → gain j built now i ≡ None) → {f t : ℕ} → Built j s f t → bit built f ≡ true
    closed c {f} (stands e) = v.from f e
    closed c {f} (made {t = t} i l a n m) = go (within (act i).add built) refl ((within_facts (act i).pre built).1 (λ g p. closed c (n g p)))
      where
        go : (w : Bool) → within (act i).add built ≡ w → within (act i).pre built ≡ true → bit built f ≡ true
        go true w pre = (within_facts (act i).add built).0 w f a
        go false w pre = let r = ready_some i l pre in none_some (sym (c i l) ∙ gain_some j built now i r.0 r.1 w)

    -- So a goal that is not built cannot be.
    pub never_built : ((i : ℕ) → i < A → gain j built now i ≡ None) → (t : ℕ) → AllBuilt j s goal t → ⊥
    never_built c t b = true≢false (sym ((within_facts goal built).1 (λ g p. closed c (b g p))) ∙ missing)

    -- ---- where action i has the soonest gain

    module _ (g : Gain) (is : Soonest j built now A (Some g)) where
      abbrev i : ℕ
      i = is.0.0

      own : Gains j built now i g
      own = gain_is j built now i g is.0.2

      -- Facts that are not built cost the next level at least: where the needed facts of an action are built, its gain is no sooner; else one of them
      -- is not, and costs that much.
      dearer : {f t : ℕ} → bit built f ≡ false → Built j s f t → g.level ≤ t
      dearer {f} o (stands e) = absurd (true≢false (sym (v.from f e) ∙ o))
      dearer {f} {t} o (made {t = u} k l a n c) = go (within (act k).pre built) refl (within (act k).add built) refl (λ h p q. dearer q (n h p))
        where
          go : (w : Bool) → within (act k).pre built ≡ w → (x : Bool) → within (act k).add built ≡ x
              → ((h : ℕ) → bit (act k).pre h ≡ true → bit built h ≡ false → g.level ≤ u) → g.level ≤ t
          go true w true x ih = absurd (true≢false (sym ((within_facts (act k).add built).0 x f a) ∙ o))
          go true w false x ih =
              let r = ready_some k l w in
              let z = timed_now k r.0 l r.1 in
              omega (arith, is.1 k (gain_at j built now k r.0) l (gain_some j built now k r.0 r.1 x), z.ends, z.least u n)
          go false w y x ih = omega (arith, outside (act k).pre built w g.level u ih)

      -- The facts that it adds can be built at its end.
      gained : (f : ℕ) → bit (act i).add f ≡ true → Built j s f g.level
      gained f a =
          let z = timed_now i g.level is.0.1 own.ends_there in
          made {t = z.ready} {u = g.level} i is.0.1 a z.needed (omega (arith, z.ends))

      rises : level ≤ g.level
      rises = outside (act i).add built own.not_built level g.level (λ f a o. v.low f g.level o (gained f a))

      -- the facts built at the next level
      abbrev pub more : ℕ
      more = bit_or built g.adds

      -- A fact is among them if it was built, or is gained.
      in_both : (f : ℕ) → bit more f ≡ (bit built f || bit (act i).add f)
      in_both f = bit_or_lem built g.adds f ∙ ap (λ (x : ℕ). bit built f || bit x f) own.adds_are

      out : (f : ℕ) → bit more f ≡ false → bit built f ≡ false
      out f h = go (bit built f) refl
        where
          go : (b : Bool) → bit built f ≡ b → bit built f ≡ false
          go true e = absurd (true≢false (sym (in_both f ∙ ap (λ (x : Bool). x || bit (act i).add f) e) ∙ h))
          go false e = e

      keeps : (f : ℕ) → bit built f ≡ true → bit more f ≡ true
      keeps f e = in_both f ∙ ap (λ (x : Bool). x || bit (act i).add f) e

      added : (f : ℕ) → bit (act i).add f ≡ true → bit more f ≡ true
      added f e = in_both f ∙ ap (λ (x : Bool). bit built f || x) e ∙ or-true (bit built f)

      pub next_level : Level s goal more g.level now
      next_level = record {
        sound = λ f h. go f (or_cases (bit built f) (bit (act i).add f) (sym (in_both f) ∙ h));
        from = λ f h. keeps f (v.from f h);
        timed = timed_now;
        low = λ f t o b. dearer (out f o) b;
        unready = λ k l h t b. outside (act k).pre built (none_ready k l h) g.level t (λ f p o. dearer o (b f p));
        due = λ t b. outside goal built missing g.level t (λ f p o. dearer o (b f p));
      }
        where
          go : (f : ℕ) → (bit built f ≡ true) ⊎ (bit (act i).add f ≡ true) → Built j s f g.level
          go f (inl h) = later j (v.sound f h) rises
          go f (inr h) = gained f h

      -- One action more has nothing left to add.
      pub less_useful : useful j more A < useful j built A
      less_useful = fewer j built more keeps A i is.0.1 own.not_built ((within_facts (act i).add more).1 added)
