-- Laws of checks made one after the other, as the code makes them: the first that refuses decides. The `?` after one that refuses with r answers u.
use Rattle.std.proofs.Common.{◌≡◌, ℕ, ◌+◌, ◌<◌, refl, sym, ap, ◌∙◌, Result, Err, IsErrAnd, add-one}
use Rattle.std.proofs.lemmas.Result.{err_from_is_err_and}
use Rattle.model.specs.Refusal.{Refusal}
use Rattle.model.specs.Verdict.{no_refusal, Verdict, or_else, in_turn}
use Rattle.model.proofs.job.VerdictLaws.{in_turn_first}

-- The answer is the same error.
pub passed_on : {T E : Type 0} (u : Result T E) {r : E} → IsErrAnd u (λ y. y ≡ r) → u ≡ Err r
passed_on u h = let p = err_from_is_err_and u h in p.1 ∙ ap Err p.2

-- A check that refuses decides, whatever comes after it.
pub refused : (u v w : Verdict) {r : Refusal} → IsErrAnd u (λ y. y ≡ r) → Err r ≡ v → u ≡ or_else v w
unfolding or_else
refused u v w h e = rw (passed_on u h, ← e)

-- After a check that is fine, what comes after it decides.
pub after : (u v w : Verdict) → no_refusal ≡ v → u ≡ w → u ≡ or_else v w
unfolding or_else
after u v w h e = rw (← h, e)

module _ (f : ℕ → Verdict) where
  -- The first check of a row that refuses decides.
  pub refused_at : (n i : ℕ) (u : Verdict) {r : Refusal} → in_turn i f ≡ no_refusal → IsErrAnd u (λ y. y ≡ r) → Err r ≡ f i → i < n → u ≡ in_turn n f
  refused_at n i u h k e l = passed_on u k ∙ sym (in_turn_first n i f h (sym e) l)

  -- One check more is fine.
  pub fine_at : (i : ℕ) → in_turn i f ≡ no_refusal → no_refusal ≡ f i → in_turn (i + 1) f ≡ no_refusal
  unfolding in_turn or_else
  fine_at i h e = rw (add-one i, in_turn, h) (sym e)

  pub none_yet : in_turn 0 f ≡ no_refusal
  unfolding in_turn
  none_yet = refl

-- By these a loop over checks is proved, with the invariant that those passed are fine.
pub ruleset turns = (in_turn_first, fine_at, none_yet)
