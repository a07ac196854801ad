-- The actions of a job eight by eight, and the set of those that are applicable and may be used.
use Rattle.std.proofs.Common.{◌≡◌, refl, sym, ap, ◌∙◌, ℕ, zero, suc, ◌+◌, ◌*◌, ◌^◌, ◌≤◌, ◌<◌, Bool, true, false, ◌&&◌, List, [], ◌∷◌, length, get_or, arith}
use Rattle.std.proofs.Common.{bit_and, lt_of_lt_of_le, pow_mono}
use Rattle.std.proofs.Math.Bool.{and-true, and-false}
use Rattle.std.proofs.Math.ListN.{get_or-eq_default}
use Rattle.model.specs.Bits.{bit, bits_of}
use Rattle.model.specs.job.Job.{Action, Job, no_action, action_of}
use Rattle.model.specs.job.Rights.{restricted}
use Rattle.model.specs.task.State.{applicable}
use Rattle.model.proofs.bits.BitsOf.{bits_of_lt, bits_of_at}
use Rattle.model.proofs.bits.Bitwise.{bit_and_lem}
use Rattle.model.proofs.rights.Steps.{length-restricted, action_usable, barred_not}
use Rattle.task.specs.Applicable.{applicable_set}
use Rattle.nodes.specs.Meaning.{actions_from, Chooses}

module _ (j : Job) where
  -- ---- the actions

  -- After the last one, none does anything.
  pub action_none : (i : ℕ) → length j.actions ≤ i → record { pre = 0; add = 0; del = 0; forbidden = 0; cost = 0 } ≡ action_of j i
  unfolding action_of no_action
  action_none i h = sym (get_or-eq_default j.actions no_action h)

  at : {r : Action} {i : ℕ} (k : ℕ) → r ≡ action_of j i → i ≡ k → r ≡ action_of j k
  at k e q = e ∙ ap (action_of j) q

  pub eight : (a : ℕ) {r0 r1 r2 r3 r4 r5 r6 r7 : Action} → r0 ≡ action_of j a → r1 ≡ action_of j (a + 1) → r2 ≡ action_of j (a + 2) → r3 ≡ action_of j (a + 3)
      → r4 ≡ action_of j (a + 4) → r5 ≡ action_of j (a + 5) → r6 ≡ action_of j (a + 6) → r7 ≡ action_of j (a + 7)
      → r0 ∷ r1 ∷ r2 ∷ r3 ∷ r4 ∷ r5 ∷ r6 ∷ r7 ∷ [] ≡ actions_from j a 8
  unfolding actions_from
  eight a e0 e1 e2 e3 e4 e5 e6 e7 = λ t. e0 t
      ∷ at (suc a) e1 (omega arith) t
      ∷ at (suc (suc a)) e2 (omega arith) t
      ∷ at (suc (suc (suc a))) e3 (omega arith) t
      ∷ at (suc (suc (suc (suc a)))) e4 (omega arith) t
      ∷ at (suc (suc (suc (suc (suc a))))) e5 (omega arith) t
      ∷ at (suc (suc (suc (suc (suc (suc a)))))) e6 (omega arith) t
      ∷ at (suc (suc (suc (suc (suc (suc (suc a))))))) e7 (omega arith) t
      ∷ []

  length_from : (a n : ℕ) → length (actions_from j a n) ≡ n
  unfolding actions_from
  length_from a zero = refl
  length_from a (suc n) = ap suc (length_from (suc a) n)

  action_from : (a n i : ℕ) → i < n → get_or (actions_from j a n) i no_action ≡ action_of j (a + i)
  unfolding actions_from
  action_from a zero i l = absurd (omega arith)
  action_from a (suc n) zero l = ap (action_of j) (omega arith)
  action_from a (suc n) (suc i) l = action_from (suc a) n i (omega arith) ∙ ap (action_of j) (omega arith)

  -- ---- the set of those that are applicable in a state

  abbrev further : ℕ → ℕ
  further a = suc (suc (suc (suc (suc (suc (suc (suc a)))))))

  module _ (s : ℕ) where
    -- of n actions from a on
    abbrev pub set_from : ℕ → ℕ → ℕ
    set_from a n = applicable_set (actions_from j a n) s

    pub set_of : (a n : ℕ) {rs : List Action} {x : ℕ} → rs ≡ actions_from j a n → x ≡ applicable_set rs s → x ≡ set_from a n
    set_of a n e f = f ∙ ap (λ (l : List Action). applicable_set l s) e

    pub set_none : (a n : ℕ) → n ≡ 0 → 0 ≡ set_from a n
    unfolding bits_of actions_from
    set_none a n e = rw e refl

    pub set_lt : {x : ℕ} (a n k : ℕ) → x ≡ set_from a n → n ≤ k → x < 2 ^ k
    set_lt a n k e h = rw e (lt_of_lt_of_le (bits_of_lt _ (actions_from j a n)) (pow_mono (rw (length_from a n) h)))

    eight_more : (a n : ℕ) → set_from a 8 + 256 * set_from (further a) n ≡ set_from a (further n)
    unfolding bits_of actions_from
    eight_more a n = omega arith

    -- Eight more, below the others.
    pub set_eight : {x y : ℕ} (a b n m : ℕ) → x ≡ set_from a 8 → y ≡ set_from b n → b ≡ a + 8 → m ≡ n + 8 → x + 256 * y ≡ set_from a m
    set_eight a b n m e f p q =
        let p' : b ≡ further a = omega arith in
        let q' : m ≡ further n = omega arith in
        rw (e, f, p', q') (eight_more a n)

    -- Bit i of a set of all tells whether action i is applicable.
    pub set_tells : (a n : ℕ) {x : ℕ} → x ≡ set_from a n → a ≡ 0 → length j.actions ≤ n → Chooses j s x
    set_tells a n {x} e z h i l =
        let f : a + i ≡ i = omega arith in
        ap (λ (y : ℕ). bit y i) e ∙ bits_of_at (λ b. applicable b s) no_action (actions_from j a n) i (rw (length_from a n) (omega arith))
        ∙ ap (λ (b : Action). applicable b s) (action_from a n i (omega arith) ∙ ap (action_of j) f)

  -- Without the actions that may not be used, the set tells the same of the restricted job: there those are not applicable.
  pub usable_tell : (u s x : ℕ) → Chooses j s x → Chooses (restricted u j) s (bit_and x u)
  usable_tell u s x h i l = bit_and_lem x u i ∙ go (bit u i) refl
    where
      known : i < length j.actions
      known = rw length-restricted at l

      go : (b : Bool) → bit u i ≡ b → bit x i && bit u i ≡ applicable (action_of (restricted u j) i) s
      go true e = ap (λ (b : Bool). bit x i && b) e ∙ and-true (bit x i) ∙ h i known ∙ ap (λ (a : Action). applicable a s) (sym (action_usable u j i e))
      go false e = ap (λ (b : Bool). bit x i && b) e ∙ and-false (bit x i) ∙ sym (barred_not u j i known s e)
