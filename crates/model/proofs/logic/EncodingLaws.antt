-- Reading and writing fit: what is written is read back, and what was read is what would be written.
use mathlib.Core.Path.{◌≡◌, refl, sym, ap, ap₂, ◌∙◌, subst}
use mathlib.Core.Bool.{Bool, true, false}
use mathlib.Core.List.{List, [], ◌∷◌, ◌++◌, append-nil}
use Prim.Native.Nat.{ℕ, ◌+◌, ◌<◌, ◌≤◌}
use native.Mathlib.Nat.{zero-add, add-zero}
use native.Mathlib.Numerals.{add-one}
use native.Mathlib.Omega.{arith}
use native.Mathlib.Decide.{dec_lt}
use lib.ListN.{length, get_or, take, drop, length-append, drop_of_length-le}
use lib.Seq.{drop-cons, drop-append_seam, get_or-drop, drop-drop, take_all}
use Rattle.model.specs.declared.Constant.TheVariants.{False, True, Last}
use Rattle.model.specs.declared.Unary.TheVariants.{Not, Next, Eventually, Always}
use Rattle.model.specs.declared.Binary.TheVariants.{And, Or, Until, Release}
use Rattle.model.specs.logic.Formula.{Formula, constant, fact, action, unary, binary, encode}
use Rattle.model.specs.logic.Parts.{size}
use Rattle.model.specs.logic.Reading.{formula, parsed, section}
use Rattle.model.specs.logic.NormalForm.{nnf}
use Rattle.model.proofs.logic.ReadingLaws.{Stands, parsed_stands, stands_parsed, parsed_size, section_from, section_is}

-- a formula has as many bytes as its size says
pub length-encode : (φ : Formula) → length (encode φ) ≡ size φ
unfolding encode size
length-encode (constant c) = refl
length-encode (fact i) = refl
length-encode (action k) = refl
length-encode (unary o φ) = rw (length-encode φ) (omega arith)
length-encode (binary o φ ψ) = simp (length-append, length-encode φ, length-encode ψ) (omega arith)

-- ---- bytes at a position
module _ (s : List ℕ) where
  abbrev Bytes : ℕ → List ℕ → Type 0
  Bytes at [] = Unit {0}
  Bytes at (b ∷ bs) = (at < length s) × (get_or s at 0 ≡ b) × Bytes (at + 1) bs

  bytes_append : (bs cs : List ℕ) (at : ℕ) → Bytes at bs → Bytes (at + length bs) cs → Bytes at (bs ++ cs)
  bytes_append [] cs at h k = subst (λ (m : ℕ). Bytes m cs) (add-zero at) k
  bytes_append (b ∷ bs) cs at h k = (h.0, h.1, bytes_append bs cs (at + 1) h.2 (subst (λ (m : ℕ). Bytes m cs) (omega arith) k))

  bytes_left : (bs cs : List ℕ) (at : ℕ) → Bytes at (bs ++ cs) → Bytes at bs
  bytes_left [] cs at h = tt
  bytes_left (b ∷ bs) cs at h = (h.0, h.1, bytes_left bs cs (at + 1) h.2)

  bytes_right : (bs cs : List ℕ) (at : ℕ) → Bytes at (bs ++ cs) → Bytes (at + length bs) cs
  bytes_right [] cs at h = subst (λ (m : ℕ). Bytes m cs) (sym (add-zero at)) h
  bytes_right (b ∷ bs) cs at h = subst (λ (m : ℕ). Bytes m cs) (omega arith) (bytes_right bs cs (at + 1) h.2)

  -- bytes that stand at a position are those that are cut out there
  bytes_take : (bs : List ℕ) (at : ℕ) → Bytes at bs → take (length bs) (drop at s) ≡ bs
  bytes_take [] at h = refl
  bytes_take (b ∷ bs) at h = rw (drop-cons s at 0 h.0) (ap₂ ◌∷◌ h.1 (rw (← add-one at) (bytes_take bs (at + 1) h.2)))

  -- what follows from a position on stands there
  bytes_drop : (bs ys : List ℕ) (at : ℕ) → drop at s ≡ bs ++ ys → Bytes at bs
  bytes_drop [] ys at e = tt
  bytes_drop (b ∷ bs) ys at e = (
    inside (dec_lt at (length s)),
    ap (λ (m : ℕ). get_or s m 0) (sym (add-zero at)) ∙ sym (get_or-drop at s 0 0) ∙ ap (λ (l : List ℕ). get_or l 0 0) e,
    bytes_drop bs ys (at + 1) (sym (drop-drop 1 at s) ∙ ap (drop 1) e),
  )
    where
      inside : Dec (at < length s) → at < length s
      inside (yes l) = l
      inside (no l) =
          let g : length s ≤ at = omega arith in
          let d : [] ≡ b ∷ (bs ++ ys) = sym (drop_of_length-le s g) ∙ e in
          let z : ◌≡◌ {A = ℕ} 0 1 = cc in absurd (omega arith)

-- each number of a formula is below its bound
module _ (v a : ℕ) where
  abbrev pub Fits : Formula → Type 0
  Fits (constant c) = Unit {0}
  Fits (fact i) = i < v
  Fits (action k) = k < a
  Fits (unary o φ) = Fits φ
  Fits (binary o φ ψ) = Fits φ × Fits ψ

  -- the normal form has the same numbers
  pub nnf_fits : (φ : Formula) (b : Bool) → Fits φ → Fits (nnf φ b)
  unfolding nnf
  nnf_fits (constant c) true h = tt
  nnf_fits (constant False) false h = tt
  nnf_fits (constant True) false h = tt
  nnf_fits (constant Last) false h = tt
  nnf_fits (fact i) true h = h
  nnf_fits (fact i) false h = h
  nnf_fits (action k) true h = h
  nnf_fits (action k) false h = h
  nnf_fits (unary Not φ) true h = nnf_fits φ false h
  nnf_fits (unary Not φ) false h = nnf_fits φ true h
  nnf_fits (unary Next φ) true h = nnf_fits φ true h
  nnf_fits (unary Next φ) false h = (tt, nnf_fits φ false h)
  nnf_fits (unary Eventually φ) true h = nnf_fits φ true h
  nnf_fits (unary Eventually φ) false h = nnf_fits φ false h
  nnf_fits (unary Always φ) true h = nnf_fits φ true h
  nnf_fits (unary Always φ) false h = nnf_fits φ false h
  nnf_fits (binary o φ ψ) true h = (nnf_fits φ true h.0, nnf_fits ψ true h.1)
  nnf_fits (binary And φ ψ) false h = (nnf_fits φ false h.0, nnf_fits ψ false h.1)
  nnf_fits (binary Or φ ψ) false h = (nnf_fits φ false h.0, nnf_fits ψ false h.1)
  nnf_fits (binary Until φ ψ) false h = (nnf_fits φ false h.0, nnf_fits ψ false h.1)
  nnf_fits (binary Release φ ψ) false h = (nnf_fits φ false h.0, nnf_fits ψ false h.1)

module _ (v a : ℕ) (s : List ℕ) where
  stands_fits : (φ : Formula) (at : ℕ) → Stands v a s φ at → Fits v a φ
  stands_fits (constant c) at h = tt
  stands_fits (fact i) at h = h.4
  stands_fits (action k) at h = h.4
  stands_fits (unary o φ) at h = stands_fits φ (at + 1) h.2
  stands_fits (binary o φ ψ) at h = (stands_fits φ (at + 1) h.2, stands_fits ψ (at + 1 + size φ) h.3)

  -- what was read has its numbers below the bounds
  pub parsed_fits : (at : ℕ) (φ : Formula) (n : ℕ) → parsed v a s at ≡ formula φ n → Fits v a φ
  parsed_fits at φ n e = stands_fits φ at (parsed_stands v a s at φ n e)

  -- a formula stands where its bytes do
  bytes_stand : (φ : Formula) (at : ℕ) → Fits v a φ → Bytes s at (encode φ) → Stands v a s φ at
  unfolding encode
  bytes_stand (constant c) at f h = (h.0, h.1)
  bytes_stand (fact i) at f h = (h.0, h.1, h.2.0, h.2.1, f)
  bytes_stand (action k) at f h = (h.0, h.1, h.2.0, h.2.1, f)
  bytes_stand (unary o φ) at f h = (h.0, h.1, bytes_stand φ (at + 1) f h.2)
  bytes_stand (binary o φ ψ) at f h = (
    h.0,
    h.1,
    bytes_stand φ (at + 1) f.0 (bytes_left s (encode φ) (encode ψ) (at + 1) h.2),
    bytes_stand ψ (at + 1 + size φ) f.1
        (subst (λ (m : ℕ). Bytes s (at + 1 + m) (encode ψ)) (length-encode φ) (bytes_right s (encode φ) (encode ψ) (at + 1) h.2)),
  )

  -- where a formula stands, its bytes are in the section
  stands_bytes : (φ : Formula) (at : ℕ) → Stands v a s φ at → Bytes s at (encode φ)
  unfolding encode
  stands_bytes (constant c) at h = (h.0, h.1, tt)
  stands_bytes (fact i) at h = (h.0, h.1, (h.2, h.3, tt))
  stands_bytes (action k) at h = (h.0, h.1, (h.2, h.3, tt))
  stands_bytes (unary o φ) at h = (h.0, h.1, stands_bytes φ (at + 1) h.2)
  stands_bytes (binary o φ ψ) at h = (
    h.0,
    h.1,
    bytes_append s (encode φ) (encode ψ) (at + 1) (stands_bytes φ (at + 1) h.2)
        (subst (λ (m : ℕ). Bytes s (at + 1 + m) (encode ψ)) (sym (length-encode φ)) (stands_bytes ψ (at + 1 + size φ) h.3)),
  )

  -- what was read is the encoding of what came out
  pub parsed_encode : (at : ℕ) (φ : Formula) (n : ℕ) → parsed v a s at ≡ formula φ n → take (size φ) (drop at s) ≡ encode φ
  parsed_encode at φ n e = rw (← length-encode φ) (bytes_take s (encode φ) at (stands_bytes φ at (parsed_stands v a s at φ n e)))

  -- a section that holds a formula is the encoding of it
  pub section_encode : (φ : Formula) (n : ℕ) → section v a s ≡ formula φ n → s ≡ encode φ
  section_encode φ n e =
      let x = section_from v a s φ n e in
      let l : length s ≤ size φ = omega (arith, x.1, parsed_size v a s 0 φ n x.0) in
      sym (take_all (size φ) s l) ∙ parsed_encode 0 φ n x.0

module _ (v a : ℕ) (φ : Formula) (fits : Fits v a φ) where
  -- what is written among other bytes is read there
  pub parsed_written : (xs ys : List ℕ) → parsed v a (xs ++ (encode φ ++ ys)) (length xs) ≡ formula φ (length xs + size φ)
  parsed_written xs ys =
      let s : List ℕ = xs ++ (encode φ ++ ys) in
      stands_parsed v a s φ (length xs) (bytes_stand v a s φ (length xs) fits (bytes_drop s (encode φ) ys (length xs) (drop-append_seam xs (encode φ ++ ys))))

  -- what is written is read back
  pub read_encode : section v a (encode φ) ≡ formula φ (size φ)
  read_encode =
      section_is v a (encode φ) φ (size φ)
      (ap (λ (s : List ℕ). parsed v a s 0) (sym (append-nil (encode φ))) ∙ parsed_written [] [] ∙ ap (formula φ) (zero-add (size φ)))
      (sym (length-encode φ))

-- a normal form that is written back can be read again
pub read_back : (v a : ℕ) (φ : Formula) (b : Bool) → Fits v a φ → section v a (encode (nnf φ b)) ≡ formula (nnf φ b) (size (nnf φ b))
read_back v a φ b f = read_encode v a (nnf φ b) (nnf_fits v a φ b f)
