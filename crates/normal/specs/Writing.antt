-- What writing the normal form of what was read at a position means. The sign b is true for the formula, and false for its negation.
use Rattle.std.specs.Prelude.{ℕ, ◌+◌, ◌≤◌, ◌≡◌, Bool, List, [], length}
use Rattle.std.proofs.lemmas.List.Edits.{sets}
use Rattle.model.specs.logic.Formula.{encode}
use Rattle.model.specs.logic.Reading.{Parsed, formula, wrong}
use Rattle.model.specs.logic.NormalForm.{nnf}
use Rattle.normal.specs.declared.Ends.{Ends}

-- a formula was read
unfoldable pub Whole : Parsed → Type 0
Whole (formula φ n) = Unit {0}
Whole (wrong p) = ⊥

-- the position after what was read
unfoldable pub behind : Parsed → ℕ
behind (formula φ n) = n
behind (wrong p) = p

-- the bytes of the normal form of what was read, or of its negation
unfoldable pub bytes_of : Parsed → Bool → List ℕ
unfolding nnf encode
bytes_of (formula φ n) b = encode (nnf φ b)
bytes_of (wrong p) b = []

-- a formula whose normal form fits into size bytes from a position on
abbrev pub Room : Parsed → Bool → ℕ → ℕ → Type 0
Room p b to size = Whole p × (to + length (bytes_of p b) ≤ size)

-- where reading and writing end
abbrev pub ends_of : Parsed → Bool → ℕ → Ends
ends_of p b to = record { next = behind p; to = to + length (bytes_of p b) }

-- from a position on, out' holds the normal form, and is as out elsewhere
abbrev pub Stored : Parsed → Bool → ℕ → List ℕ → Ends → List ℕ → Type 0
Stored p b to out r out' = (r ≡ ends_of p b to) × (out' ≡ sets out to (bytes_of p b))
