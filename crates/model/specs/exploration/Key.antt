-- Keys of paths, ranks, and the order of action sequences of equal length.
use Rattle.std.specs.Prelude.{◌≡◌, ℕ, suc, ◌+◌, ◌≤◌, ◌<◌, Bool, true, false, ◌⊎◌, List, [], ◌∷◌, eqb, ltb}

-- "The key of a path is its cost, then its number of steps".
pub record Key : Type 0 where
  pub cost : ℕ
  pub steps : ℕ

unfoldable pub zero_key : Key
zero_key = record { cost = 0; steps = 0 }

-- the key of a path with one more action of cost c
unfoldable pub extend : Key → ℕ → Key
extend k c = record { cost = k.cost + c; steps = suc k.steps }

-- the rank of a node that is reached by a key, where e is the estimate of what is left: cost plus estimate, then steps
abbrev pub rank : Key → ℕ → Key
rank k e = record { cost = k.cost + e; steps = k.steps }

-- "keys compare in that order": cost, then steps
abbrev pub Le : Key → Key → Type 0
Le j k = (j.cost ≤ k.cost) × (j.cost ≡ k.cost → j.steps ≤ k.steps)

abbrev pub Lt : Key → Key → Type 0
Lt j k = (j.cost ≤ k.cost) × (j.cost ≡ k.cost → j.steps < k.steps)

-- the same as tests
unfoldable pub less : Key → Key → Bool
less j k = elim (ltb j.cost k.cost) [
  | true ↦ true
  | false ↦ elim (eqb j.cost k.cost) [ true ↦ ltb j.steps k.steps | false ↦ false ]
]

unfoldable pub same_key : Key → Key → Bool
same_key j k = elim (eqb j.cost k.cost) [ true ↦ eqb j.steps k.steps | false ↦ false ]

-- "Of two lists of equal length, the earlier by step numbers is the one with the lower number at the first place where they differ."
unfoldable pub earlier : List ℕ → List ℕ → Bool
earlier [] q = false
earlier (a ∷ p) [] = false
earlier (a ∷ p) (b ∷ q) = elim (ltb a b) [
  | true ↦ true
  | false ↦ elim (eqb a b) [ true ↦ earlier p q | false ↦ false ]
]

unfoldable pub first_of : List ℕ → List ℕ → List ℕ
unfolding earlier
first_of p q = elim (earlier q p) [ true ↦ q | false ↦ p ]

-- p is q or the earlier of the two
abbrev pub First : List ℕ → List ℕ → Type 0
First p q = (p ≡ q) ⊎ (earlier p q ≡ true)
