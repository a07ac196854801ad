-- A transition system with an estimate of what is left, which some nodes do not have: those count as not reached (card 2).
use Rattle.std.specs.Prelude.{◌≡◌, ℕ, Bool, true, false, List, Option, None, Some}
use Rattle.model.specs.exploration.Key.{Key}
use Rattle.model.specs.exploration.System.{System}
use Rattle.model.specs.exploration.Equations.{Answer, plan, no_plan}
use Rattle.model.specs.exploration.Explore.{Of, reached, solve}

-- a node, if it passes a test
unfoldable pub kept : {N : Type 0} → (N → Bool) → Option N → Option N
kept test None = None
kept test (Some n) = elim (test n) [ true ↦ Some n | false ↦ None ]

-- whether there is an estimate
abbrev pub has : Option ℕ → Bool
has None = false
has (Some e) = true

-- the estimate, where there is one
abbrev pub value_of : Option ℕ → ℕ
value_of None = 0
value_of (Some e) = e

module _ (S : System) (est : S.Node → Option ℕ) where
  -- "A pair without an estimate counts as not reached"; nothing else changes but the order in which nodes are taken.
  abbrev pub guided : System
  guided = let test : S.Node → Bool = λ n. has (est n) in record {
    Node = S.Node;
    same = S.same;
    start = kept test S.start;
    actions = S.actions;
    cost = S.cost;
    step = λ n i. kept test (S.step n i);
    goal = S.goal;
    estimate = λ n. value_of (est n);
    Hints = S.Hints;
    start_hints = S.start_hints;
    carry = S.carry;
    Setting = S.Setting;
    true_at = S.true_at;
    meet = S.meet;
    cut = S.cut;
    Proper = S.Proper;
    bound = S.bound;
  }

  -- a node that is reached and cut where nothing is estimated, and has an estimate
  abbrev pub CutWithEstimate : Type 0
  CutWithEstimate = (n : S.Node) × (k : Key) × (h : S.Hints) × Of S (reached S) n k h × (S.cut h ≡ true) × (has (est n) ≡ true)

  -- the answer where nothing is estimated, and the answer with the estimate: "Plans stay equal to those of document 01", 12 stays, and
  -- "11 becomes 12 where only such pairs were cut"
  pub data Stays : Answer → Answer → Type 0 where
    plan_stays : {c : ℕ} {p : List ℕ} → Stays (plan c p) (plan c p)
    twelve_stays : Stays (no_plan 12) (no_plan 12)
    eleven_stays : CutWithEstimate → Stays (no_plan 11) (no_plan 11)
    eleven_twelve : (CutWithEstimate → ⊥) → Stays (no_plan 11) (no_plan 12)

  -- So the two systems answer.
  abbrev pub PlansStay : Type 0
  PlansStay = Stays (solve S) (solve guided)
