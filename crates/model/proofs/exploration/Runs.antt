-- Runs by action numbers, and the runs by which the entries of a solution are reached.
use Rattle.std.proofs.Common.{Some}
use mathlib.Core.Path.{◌≡◌, refl, sym, subst}
use Prim.Native.Nat.{ℕ, suc, ◌+◌, ◌<◌}
use native.Mathlib.Omega.{arith}
use mathlib.Core.List.{List, [], ◌∷◌, ◌++◌}
use mathlib.Core.Logic.{◌⊎◌, inl, inr}
use lib.ListN.{length}
use Rattle.model.specs.exploration.Key.{Key, zero_key, extend, Lt}
use Rattle.model.specs.exploration.System.{System}
use Rattle.model.specs.exploration.Equations.{Bound, Entries, Starts, Arrives, Explores}
use Rattle.model.proofs.exploration.KeyLaws.{extend_mono, key_ind}
use Rattle.model.proofs.exploration.Uniqueness.{arrives_lt, start_only}

extend_steps : (k : Key) (c : ℕ) → (extend k c).steps ≡ suc k.steps
unfolding extend
extend_steps k c = refl

module _ (S : System) where
  -- a run by action numbers, from a node with a key to a node with a key
  pub data Run : S.Node → Key → List ℕ → S.Node → Key → Type 0 where
    stop : {m : S.Node} {k : Key} → Run m k [] m k
    on : {m n t : S.Node} {k j : Key} {as' : List ℕ} (i : ℕ) → i < S.actions → S.step m i ≡ Some n → Run n (extend k (S.cost i)) as' t j → Run m k (i ∷ as') t j

  pub run_append : {m n t : S.Node} {k j l : Key} {as' bs : List ℕ} → Run m k as' n j → Run n j bs t l → Run m k (as' ++ bs) t l
  run_append stop r = r
  run_append (on i b s q) r = on i b s (run_append q r)

  -- The same actions from a lower key end at a lower key.
  pub run_lower : {n t : S.Node} {k e : Key} {as' : List ℕ} → Run n k as' t e → (j : Key) → Lt j k → (f : Key) × Run n j as' t f × Lt f e
  run_lower stop j l = (j, stop, l)
  run_lower (on {k = k} i b s r) j l =
      let q = run_lower r (extend j (S.cost i)) (extend_mono j k (S.cost i) l) in
      (q.0, on i b s q.1, q.2)

  -- A run adds its number of actions to the steps of the key.
  pub run_steps : {m n : S.Node} {j k : Key} {p : List ℕ} → Run m j p n k → k.steps ≡ j.steps + length p
  run_steps stop = omega arith
  run_steps (on {k = k} i b s r) = omega (arith, run_steps r, extend_steps k (S.cost i))

  module _ {B : Bound} {L : Entries S} (x : Explores S B L) where
    abbrev pub Reached : Key → Type 0
    Reached k = (n : S.Node) (h : S.Hints) → L n k h → (m : S.Node) × (p : List ℕ) × Starts S m × Run m zero_key p n k

    -- Every entry of a solution is reached by a run of its key from the start node.
    pub sound : (k : Key) → Reached k
    sound = key_ind Reached (λ k ih n h l. go k ih n h l (x.arrived l))
      where
        go : (k : Key) → ((j : Key) → Lt j k → Reached j) → (n : S.Node) (h : S.Hints) → L n k h → Starts S n ⊎ ((g : S.Hints) × Arrives S L n k g)
            → (m : S.Node) × (p : List ℕ) × Starts S m × Run m zero_key p n k
        go k ih n h l (inl s) = (n, [], s, subst (Run n zero_key [] n) (start_only S x s l).0 stop)
        go k ih n h l (inr p) =
            let a = p.1 in
            let r = ih a.key (arrives_lt S a) a.source a.hints a.entry in
            let last = on a.action a.in_range a.leads (subst (Run n (extend a.key (S.cost a.action)) [] n) (sym a.key_is) stop) in
            (r.0, r.1 ++ (a.action ∷ []), r.2, run_append r.3 last)
