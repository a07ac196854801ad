-- The section "Pairs and hints" of document 01 as equations that a set of entries satisfies, one field a sentence.
use Rattle.std.specs.Prelude.{◌≡◌, ℕ, ◌<◌, true, false, ◌⊎◌, ◌↔◌, List, [], ◌∷◌, ◌++◌, Some}
use Rattle.model.specs.exploration.Key.{Key, zero_key, extend, Le, First}
use Rattle.model.specs.exploration.System.{System, rank_of}

-- How far a set of entries is to go: all arrivals up to a rank, or all.
pub data Bound : Type 0 where
  up_to : Key → Bound
  unbounded : Bound

abbrev pub Within : Bound → Key → Type 0
Within (up_to b) k = Le k b
Within unbounded k = Unit {0}

-- What a search answers: a plan with its cost, or the number 11 or 12.
pub data Answer : Type 0 where
  plan : ℕ → List ℕ → Answer
  no_plan : ℕ → Answer

module _ (S : System) where
  -- A set of entries: the nodes reached, each with its least key and its hint residuals.
  abbrev pub Entries : Type 1
  Entries = S.Node → Key → S.Hints → Type 0

  abbrev pub Starts : S.Node → Type 0
  Starts n = S.start ≡ Some n

  -- One step leads to node n with key k and hint residuals h, from a reached node that is not cut.
  pub record Arrives (L : Entries) (n : S.Node) (k : Key) (h : S.Hints) : Type 0 where
    pub source : S.Node
    pub key : Key
    pub hints : S.Hints
    pub action : ℕ
    pub entry : L source key hints
    pub in_range : action < S.actions
    -- "Steps out of a cut pair lead nowhere".
    pub uncut : S.cut hints ≡ false
    pub leads : S.step source action ≡ Some n
    pub key_is : k ≡ extend key (S.cost action)
    pub hints_are : h ≡ S.carry hints n action

  pub record Explores (B : Bound) (L : Entries) : Type 0 where
    -- "The start pair, the start facts with the remainders they leave, is reached"; its hint residuals come from the start facts.
    pub start : {n : S.Node} → Starts n → L n zero_key S.start_hints
    -- "and so is every pair to which an applicable step leads from a reached pair that is not cut"
    pub complete : {n : S.Node} {k : Key} {h : S.Hints} → Within B (rank_of S n k) → Arrives L n k h → (j : Key) × (g : S.Hints) × L n j g
    -- No other node is reached, and the key of "any other pair" is one "by which one step leads to it".
    pub arrived : {n : S.Node} {k : Key} {h : S.Hints} → L n k h → Starts n ⊎ ((g : S.Hints) × Arrives L n k g)
    -- It is "the least key by which one step leads to it", and "dearer paths to it do not revive it".
    pub least : {n : S.Node} {j k : Key} {g h : S.Hints} → L n j g → Arrives L n k h → Le j k
    -- "each of its hint remainders is the conjunction of those that all such steps of that least key bring"
    pub conjoined : {n : S.Node} {k : Key} {h : S.Hints} → (Starts n → ⊥) → L n k h → (s : S.Setting)
        → (S.true_at h s ≡ true) ↔ ((g : S.Hints) → Arrives L n k g → S.true_at g s ≡ true)
    -- A node has one key and one list of hint residuals, and these are truth functions of the hints' parts.
    pub one : {n : S.Node} {j k : Key} {g h : S.Hints} → L n j g → L n k h → (j ≡ k) × (g ≡ h)
    pub proper : {n : S.Node} {k : Key} {h : S.Hints} → L n k h → S.Proper h

  -- ---- the answer

  -- a reached node that is not cut, with its least key
  abbrev pub Uncut : Entries → S.Node → Key → Type 0
  Uncut L n k = (h : S.Hints) × L n k h × (S.cut h ≡ false)

  -- a path "through least keys of uncut pairs", to a node with a key
  pub data Path (L : Entries) : List ℕ → S.Node → Key → Type 0 where
    begin : {n : S.Node} → Starts n → Uncut L n zero_key → Path L [] n zero_key
    onward : {p : List ℕ} {m n : S.Node} {k : Key} (i : ℕ) → Path L p m k → i < S.actions → S.step m i ≡ Some n
        → Uncut L n (extend k (S.cost i)) → Path L (p ++ (i ∷ [])) n (extend k (S.cost i))

  pub record Plan (L : Entries) (c : ℕ) (p : List ℕ) : Type 0 where
    pub node : S.Node
    pub key : Key
    pub cost_is : key.cost ≡ c
    pub path : Path L p node key
    pub goal : S.goal node ≡ true
    -- "The answer is the least key over uncut pairs whose state has the goal and whose rule remainders are true of the closing world alone;"
    pub least : {n : S.Node} {k : Key} → Uncut L n k → S.goal n ≡ true → Le key k
    -- "among the paths of that key to such a pair, through least keys of uncut pairs, the first by step numbers"
    pub first : {q : List ℕ} {n : S.Node} → Path L q n key → S.goal n ≡ true → First p q

  abbrev pub NoGoal : Entries → Type 0
  NoGoal L = (n : S.Node) (k : Key) → Uncut L n k → S.goal n ≡ true → ⊥

  abbrev pub SomeCut : Entries → Type 0
  SomeCut L = (n : S.Node) × (k : Key) × (h : S.Hints) × L n k h × (S.cut h ≡ true)

  -- what a set of entries answers: a plan; "search, no answer": 11 where some node was cut, 12 where none was
  pub data Answers (L : Entries) : Answer → Type 0 where
    with_plan : {c : ℕ} {p : List ℕ} → Plan L c p → Answers L (plan c p)
    some_cut : NoGoal L → SomeCut L → Answers L (no_plan 11)
    none_cut : NoGoal L → (SomeCut L → ⊥) → Answers L (no_plan 12)
