-- Bytes as words of 64 bits, and as rows of as many words as a slot has.
use Rattle.std.specs.Prelude.{◌≡◌, ◌≢◌, ℕ, zero, suc, ◌+◌, ◌*◌, ◌/◌, List, get_or}
use Rattle.std.proofs.lemmas.List.Edits.{sets}
use Rattle.model.specs.Bits.{number_at}
use Rattle.model.specs.job.Job.{list_of}
use Rattle.model.specs.calls.Search.{slot_bytes}
use Rattle.words.specs.Digits.{digits}

-- the word k
unfoldable pub word : List ℕ → ℕ → ℕ
unfolding number_at
word l k = number_at 8 l (k * 8)

-- the bytes with v as the word k
unfoldable pub with_word : List ℕ → ℕ → ℕ → List ℕ
with_word l k v = sets l (k * 8) (digits 8 v)

-- the bytes with the first n words of a from the word k on
unfoldable pub with_words : List ℕ → ℕ → List ℕ → ℕ → List ℕ
with_words l k a zero = l
with_words l k a (suc n) = with_word (with_words l k a n) (k + n) (get_or a n 0)

-- the words of a row, which is one slot
abbrev pub row_words : ℕ
row_words = slot_bytes / 8

-- the words of row i
unfoldable pub row : List ℕ → ℕ → List ℕ
row l i = list_of (λ j. word l (i * row_words + j)) row_words

-- Row i of t is a, and the other rows are those of l.
abbrev pub RowSet : List ℕ → List ℕ → ℕ → List ℕ → Type 0
RowSet l t i a = (row t i ≡ a) × ((m : ℕ) → m ≢ i → row t m ≡ row l m)
