-- Laws of words and rows in bytes: what is read after a write.
use Rattle.std.proofs.Common.{◌≡◌, refl, sym, ◌∙◌, ◌≢◌, ⊎_elim, List, [], ◌∷◌, ℕ, zero, suc, ◌+◌, ◌*◌, ◌-◌, ◌^◌, ◌≤◌, ◌<◌, not-suc-le-zero}
use Rattle.std.proofs.Common.{le_of_suc-le-suc, eq-or-lt_of_le, add-one, arith, length, get_or, set, drop, drop-set-lt, ext_get_or, subst}
use Rattle.std.proofs.Math.Decide.{dec_lt}
use Rattle.std.specs.Array.{IsFromFnResult, IsFromFnResultFrom}
use denote.Param.Members.{Mut, Called}
use lib.Seq.{sets, length-sets, drop-set-add}
use Rattle.model.specs.Bits.{number, number_at}
use Rattle.model.specs.job.Job.{list_of}
use Rattle.model.specs.calls.Search.{slot_bytes}
use Rattle.model.proofs.job.VerdictLaws.{get_or-list_of, length-list_of}
use Rattle.words.specs.Digits.{digits}
use Rattle.words.specs.Laws.{number_written, length_digits}
use Rattle.table.specs.Cells.{word, with_word, with_words, row, RowSet, row_words}

-- ---- a list given by its elements

-- Functions that agree below n give one list.
pub list_of_same : {A : Type 0} (f g : ℕ → A) (n : ℕ) → ((j : ℕ) → j < n → f j ≡ g j) → list_of f n ≡ list_of g n
unfolding list_of
list_of_same f g zero h = refl
list_of_same f g (suc n) h = rw (list_of_same f g n (λ j l. h j (omega arith)), h n (omega arith))

-- A list is that of its elements.
pub list_of_elements : (a : List ℕ) (n : ℕ) → length a ≡ n → list_of (λ j. get_or a j 0) n ≡ a
list_of_elements a n e =
    ext_get_or 0 (list_of (λ j. get_or a j 0) n) a (length-list_of (λ j. get_or a j 0) n ∙ sym e)
    (λ i l. get_or-list_of (λ j. get_or a j 0) n i 0 (omega (arith, length-list_of (λ j. get_or a j 0) n)))

-- What `array::from_fn` makes by a closure that calls leave as it was: the list of what these give.
module _ {F : Type 0} {g : Mut F (ℕ × Unit {0}) ℕ} (f : F) (v : ℕ → ℕ) (still : (j b : ℕ) (q : F) → Called g f (j, tt) b q → (q ≡ f) × (b ≡ v j))
    (ys : List ℕ) where
  each_given : (i n : ℕ) → IsFromFnResultFrom g f ys i n → (k : ℕ) → i ≤ k → k < i + n → get_or ys k 0 ≡ v k
  each_given i zero e k a b = absurd (omega arith)
  each_given i (suc n) (q, y, z, c, r) k a b =
      let s = still i y q c in
      ⊎_elim (λ d. rw (← d) (z.1 0 ∙ s.1))
      (λ l. each_given (i + 1) n (subst (λ p. IsFromFnResultFrom g p ys (i + 1) n) s.0 r) k (omega arith) (omega arith)) (eq-or-lt_of_le a)

  pub list_given : (n : ℕ) → IsFromFnResult g f ys n → ys ≡ list_of v n
  list_given n d =
      ext_get_or 0 ys (list_of v n) (d.long ∙ sym (length-list_of v n))
      (λ i l. each_given 0 n d.each i (omega arith) (omega (arith, d.long)) ∙ sym (get_or-list_of v n i 0 (omega (arith, d.long))))

-- ---- a number in bytes, and a byte written beside it

number_set : (n i v : ℕ) (l : List ℕ) → n ≤ i → number n (set l i v) ≡ number n l
unfolding number
number_set zero i v l h = refl
number_set (suc n) i v [] h = refl
number_set (suc n) zero v (b ∷ l) h = absurd (not-suc-le-zero h)
number_set (suc n) (suc i) v (b ∷ l) h = rw (number_set n i v l (le_of_suc-le-suc h))

-- A byte before or after a number does not change it.
number_before : (n at k v : ℕ) (l : List ℕ) → k < at → number_at n (set l k v) at ≡ number_at n l at
unfolding number_at
number_before n at k v l h = rw (drop-set-lt at l k v h)

number_behind : (n at k v : ℕ) (l : List ℕ) → at + n ≤ k → number_at n (set l k v) at ≡ number_at n l at
unfolding number_at
number_behind n at k v l h =
    let e : k ≡ at + (k - at) = omega arith in
    rw (e, drop-set-add at l (k - at) v) (number_set n (k - at) v (drop at l) (omega arith))

-- Nor do several.
numbers_before : (n at k : ℕ) (vs l : List ℕ) → k + length vs ≤ at → number_at n (sets l k vs) at ≡ number_at n l at
numbers_before n at k [] l h = refl
numbers_before n at k (v ∷ vs) l h = numbers_before n at (suc k) vs (set l k v) (omega arith) ∙ number_before n at k v l (omega arith)

numbers_behind : (n at k : ℕ) (vs l : List ℕ) → at + n ≤ k → number_at n (sets l k vs) at ≡ number_at n l at
numbers_behind n at k [] l h = refl
numbers_behind n at k (v ∷ vs) l h = numbers_behind n at (suc k) vs (set l k v) (omega arith) ∙ number_behind n at k v l h

-- ---- words

pub length-word : (l : List ℕ) (k v : ℕ) → length (with_word l k v) ≡ length l
unfolding with_word
length-word l k v = length-sets l (k * 8) (digits 8 v)

pub word_same : (l : List ℕ) (k v : ℕ) → v < 2 ^ 64 → k * 8 + 8 ≤ length l → word (with_word l k v) k ≡ v
unfolding word with_word
word_same l k v h f = number_written 8 v (k * 8) l h f

pub word_other : (l : List ℕ) (k m v : ℕ) → m ≢ k → word (with_word l k v) m ≡ word l m
unfolding word with_word
word_other l k m v d = go (dec_lt m k)
  where
    go : Dec (m < k) → number_at 8 (sets l (k * 8) (digits 8 v)) (m * 8) ≡ number_at 8 l (m * 8)
    go (yes h) = numbers_behind 8 (m * 8) (k * 8) (digits 8 v) l (omega arith)
    go (no h) = numbers_before 8 (m * 8) (k * 8) (digits 8 v) l (omega (arith, length_digits 8 v))

-- ---- several words

-- What holds of each number below n and of n holds below n + 1.
pub below_more : (P : ℕ → Type 0) (n : ℕ) → ((k : ℕ) → k < n → P k) → P n → (k : ℕ) → k < n + 1 → P k
below_more P n h p k l = ⊎_elim (λ e. rw e p) (λ m. h k m) (eq-or-lt_of_le (le_of_suc-le-suc (rw add-one at l)))

length-words : (l a : List ℕ) (k n : ℕ) → length (with_words l k a n) ≡ length l
unfolding with_words
length-words l a k zero = refl
length-words l a k (suc n) = length-word (with_words l k a n) (k + n) (get_or a n 0) ∙ length-words l a k n

-- One word more.
pub words_more : (l t u a : List ℕ) (k n v : ℕ) → t ≡ with_words l k a n → u ≡ with_word t (k + n) v → v ≡ get_or a n 0 → u ≡ with_words l k a (n + 1)
unfolding with_words
words_more l t u a k n v e q f = rw (q, e, f, add-one)

-- A word beside them is as it was.
words_other : (l a : List ℕ) (k n m : ℕ) → ((j : ℕ) → j < n → m ≢ k + j) → word (with_words l k a n) m ≡ word l m
unfolding with_words
words_other l a k zero m d = refl
words_other l a k (suc n) m d =
    word_other (with_words l k a n) (k + n) m (get_or a n 0) (d n (omega arith)) ∙ words_other l a k n m (λ j h. d j (omega arith))

-- A word among them is the one that was written.
words_same : (l a : List ℕ) (k n j : ℕ) → get_or a j 0 < 2 ^ 64 → j < n → (k + n) * 8 ≤ length l → word (with_words l k a n) (k + j) ≡ get_or a j 0
unfolding with_words
words_same l a k zero j b h f = absurd (not-suc-le-zero h)
words_same l a k (suc n) j b h f =
    ⊎_elim
    (λ e. rw e (word_same (with_words l k a n) (k + n) (get_or a n 0) (rw e at b) (omega (arith, length-words l a k n))))
    (λ i. word_other (with_words l k a n) (k + n) (k + j) (get_or a n 0) (omega arith) ∙ words_same l a k n j b i (omega arith))
    (eq-or-lt_of_le (le_of_suc-le-suc h))

-- ---- rows

-- Rows are equal if their words are.
pub row_words_lem : (l t : List ℕ) (i : ℕ) → ((j : ℕ) → j < row_words → word t (i * row_words + j) ≡ word l (i * row_words + j)) → row t i ≡ row l i
unfolding row
row_words_lem l t i h = list_of_same (λ j. word t (i * row_words + j)) (λ j. word l (i * row_words + j)) row_words h

-- A word of a row.
pub row_at : (l : List ℕ) (i j : ℕ) → j < row_words → get_or (row l i) j 0 ≡ word l (i * row_words + j)
unfolding row
row_at l i j h = get_or-list_of (λ k. word l (i * row_words + k)) row_words j 0 h

-- Twenty words written are a row, and no other row is changed.
pub row_set : (l t a : List ℕ) (i : ℕ) → t ≡ with_words l (i * row_words) a row_words → length a ≡ row_words → ((j : ℕ) → j < row_words → get_or a j 0 < 2 ^ 64)
    → i * slot_bytes + slot_bytes ≤ length l → RowSet l t i a
unfolding row
row_set l t a i q e b h = rw q (here, other)
  where
    u : List ℕ
    u = with_words l (i * row_words) a row_words

    here : row u i ≡ a
    here =
        list_of_same (λ j. word u (i * row_words + j)) (λ j. get_or a j 0) row_words (λ j g. words_same l a (i * row_words) row_words j (b j g) g (omega arith))
        ∙ list_of_elements a row_words e

    other : (m : ℕ) → m ≢ i → row u m ≡ row l m
    other m d = row_words_lem l u m (λ j h. words_other l a (i * row_words) row_words (m * row_words + j) (λ k g. omega arith))
