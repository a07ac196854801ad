-- The equations of exploration have at most one solution, up to the rank to which they go.
use mathlib.Core.Path.{◌≡◌, sym, ◌∙◌, subst}
use mathlib.Core.Logic.{◌⊎◌, inl, inr}
use Rattle.model.specs.exploration.Key.{Key, zero_key, Le, Lt}
use Rattle.model.specs.exploration.System.{System, rank_of}
use Rattle.model.specs.exploration.Equations.{Bound, up_to, unbounded, Within, Entries, Starts, Arrives, Explores}
use Rattle.model.proofs.exploration.KeyLaws.{le_trans, lt_le, le_antisym, lt_or_le, extend_lt, extend_not_zero, rank_step, rank_lt, key_ind}
use Rattle.model.proofs.exploration.Laws.{Laws}
use Rattle.model.proofs.Tests.{same_truth}

-- A rank up to one within the bound is within the bound.
pub within_below : (B : Bound) (j k : Key) → Le j k → Within B k → Within B j
within_below (up_to b) j k l w = le_trans j k b l w
within_below unbounded j k l w = tt

module _ (S : System) where
  pub arrives_lt : {L : Entries S} {n : S.Node} {k : Key} {h : S.Hints} (a : Arrives S L n k h) → Lt a.key k
  arrives_lt a = subst (Lt a.key) (sym a.key_is) (extend_lt a.key (S.cost a.action))

  -- An arrival's rank is larger than its source's.
  pub arrives_rank : Laws S → {L : Entries S} {n : S.Node} {k : Key} {h : S.Hints} (a : Arrives S L n k h) → Lt (rank_of S a.source a.key) (rank_of S n k)
  arrives_rank laws {n = n} a =
      subst (λ (z : Key). Lt (rank_of S a.source a.key) (rank_of S n z)) (sym a.key_is)
      (rank_step a.key (S.cost a.action) _ _ (laws.consistent a.source n a.action a.in_range a.leads))

  module _ {B : Bound} {L : Entries S} (x : Explores S B L) where
    -- The start node has the key zero and the hint residuals of the start.
    pub start_only : {n : S.Node} {k : Key} {h : S.Hints} → Starts S n → L n k h → (zero_key ≡ k) × (S.start_hints ≡ h)
    start_only s l = x.one (x.start s) l

    -- An arrival of an entry's key is not at the start node.
    pub away : {n : S.Node} {k : Key} {g h : S.Hints} → L n k h → Arrives S L n k g → Starts S n → ⊥
    away l a s = extend_not_zero _ _ (sym a.key_is ∙ sym (start_only s l).0)

  -- Arrivals depend on lower keys and ranks alone.
  arrives_map : Laws S → (L M : Entries S) {n : S.Node} {k : Key} {h : S.Hints}
      → ((j : Key) → Lt j k → (m : S.Node) (g : S.Hints) → Lt (rank_of S m j) (rank_of S n k) → L m j g → M m j g) → Arrives S L n k h → Arrives S M n k h
  arrives_map laws L M f a = record {
    source = a.source;
    key = a.key;
    hints = a.hints;
    action = a.action;
    entry = f a.key (arrives_lt a) a.source a.hints (arrives_rank laws a) a.entry;
    in_range = a.in_range;
    uncut = a.uncut;
    leads = a.leads;
    key_is = a.key_is;
    hints_are = a.hints_are;
  }

  module _ (laws : Laws S) (B : Bound) where
    abbrev Agree : Entries S → Entries S → Key → Type 0
    Agree L M k = (n : S.Node) (h : S.Hints) → Within B (rank_of S n k) → (L n k h → M n k h) × (M n k h → L n k h)

    -- Two solutions that agree on lower keys: an entry of the one is one of the other.
    half : (L M : Entries S) → Explores S B L → Explores S B M → (k : Key) → ((j : Key) → Lt j k → Agree L M j)
        → (n : S.Node) (h : S.Hints) → Within B (rank_of S n k) → L n k h → M n k h
    half L M x y k ih n h w l = go (x.arrived l)
      where
        below : (m : S.Node) (j : Key) → Lt (rank_of S m j) (rank_of S n k) → Within B (rank_of S m j)
        below m j lt = within_below B _ _ (lt_le _ _ lt) w

        to : (f : S.Hints) → Arrives S L n k f → Arrives S M n k f
        to f a = arrives_map laws L M (λ j lt m g r. (ih j lt m g (below m j r)).0) a

        back : (f : S.Hints) → Arrives S M n k f → Arrives S L n k f
        back f a = arrives_map laws M L (λ j lt m g r. (ih j lt m g (below m j r)).1) a

        go : Starts S n ⊎ ((g : S.Hints) × Arrives S L n k g) → M n k h
        go (inl s) =
            let p = start_only x s l in
            subst (λ (z : Key). M n z h) p.0 (subst (M n zero_key) p.1 (y.start s))
        go (inr a) =
            let far = away x l a.1 in
            let m = to a.0 a.1 in
            let c = y.complete w m in
            let same : c.0 ≡ k = elim (lt_or_le c.0 k) [
              | inl lt ↦ (x.one ((ih c.0 lt n c.1 (below n c.0 (rank_lt _ _ _ lt))).1 c.2) l).0
              | inr le ↦ le_antisym c.0 k (y.least c.2 m) le
            ] in
            let hm : M n k c.1 = subst (λ (z : Key). M n z c.1) same c.2 in
            let hh : c.1 ≡ h = laws.ext c.1 h (y.proper hm) (x.proper l) (λ s. same_truth (S.true_at c.1 s) (S.true_at h s)
            (λ t. (x.conjoined far l s).1 (λ f b. (y.conjoined far hm s).0 t f (to f b)))
            (λ t. (y.conjoined far hm s).1 (λ f b. (x.conjoined far l s).0 t f (back f b)))) in
            subst (M n k) hh hm

    agree : (L M : Entries S) → Explores S B L → Explores S B M → (k : Key) → Agree L M k
    agree L M x y = key_ind (λ k. Agree L M k) (λ k ih n h w.
        (half L M x y k ih n h w, half M L y x k (λ j lt m g v. ((ih j lt m g v).1, (ih j lt m g v).0)) n h w))

    -- Two solutions up to the same rank have the same entries up to it.
    pub unique : (L M : Entries S) → Explores S B L → Explores S B M → (n : S.Node) (k : Key) (h : S.Hints) → Within B (rank_of S n k) → L n k h → M n k h
    unique L M x y n k h w = (agree L M x y k n h w).0
