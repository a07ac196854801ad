-- The numbers after the codes of facts and actions have all that a formula names.
use Rattle.std.proofs.Common.{◌≡◌, refl, sym, ap, ◌∙◌, subst, ℕ, ◌+◌, ◌*◌, ◌%◌, ◌^◌, ◌<◌, Bool, true, ◌||◌, List, get_or, bit_or, arith, mod-eq_of_lt}
use Rattle.std.proofs.Common.{mod-lt, add-zero, false}
use Rattle.std.proofs.Math.Bool.{or-true, false≢true}
use native.Mathlib.Decide.{dec_lt}
use Rattle.model.specs.declared.Code.{Code}
use Rattle.model.specs.declared.Code.TheVariants.{Fact, Action}
use Rattle.model.specs.Bits.{bit}
use Rattle.model.specs.logic.Formula.{Formula, constant, fact, action, unary, binary, code_of}
use Rattle.model.specs.logic.Names.{Names}
use Rattle.model.specs.logic.Parts.{size}
use Rattle.model.specs.logic.Reading.{Parsed, formula, wrong, parsed}
use Rattle.model.proofs.bits.Bitwise.{bit_or_lem}
use Rattle.model.proofs.logic.ReadingLaws.{Stands, parsed_stands}
use Rattle.bits.proofs.BitLaws.{bit_mod, bit_shl}
use Rattle.model.specs.contracts.CodePartialEq.TheImpl.{ghosts as code_test}
use Rattle.model.specs.contracts.CodeEq.TheImpl.Laws as code_laws
use Rattle.progression.specs.Numbers.{AfterIn, After}

-- what was read names only these facts and actions
abbrev pub NamesIn : ℕ → ℕ → Parsed → Type 0
NamesIn f a (formula φ n) = Names f a φ
NamesIn f a (wrong p) = Unit {0}

module _ (f a : ℕ) (s : List ℕ) (hf : After Fact s f) (ha : After Action s a) where
  stands_named : (φ : Formula) (at : ℕ) → Stands 64 64 s φ at → Names f a φ
  unfolding code_of
  stands_named (constant c) at h = tt
  stands_named (fact i) at h =
      let e : get_or s (at + 1) 0 % 64 ≡ i = ap (λ (n : ℕ). n % 64) h.3 ∙ mod-eq_of_lt h.4 in
      subst (λ (n : ℕ). bit f n ≡ true) e (hf at h.2 (ap code_of h.1))
  stands_named (action k) at h =
      let e : get_or s (at + 1) 0 % 64 ≡ k = ap (λ (n : ℕ). n % 64) h.3 ∙ mod-eq_of_lt h.4 in
      subst (λ (n : ℕ). bit a n ≡ true) e (ha at h.2 (ap code_of h.1))
  stands_named (unary o φ) at h = stands_named φ (at + 1) h.2
  stands_named (binary o φ ψ) at h = (stands_named φ (at + 1) h.2, stands_named ψ (at + 1 + size φ) h.3)

  pub read_named : NamesIn f a (parsed 64 64 s 0)
  read_named = go (parsed 64 64 s 0) refl
    where
      go : (p : Parsed) → parsed 64 64 s 0 ≡ p → NamesIn f a p
      go (formula φ n) e = stands_named φ 0 (parsed_stands 64 64 s 0 φ n e)
      go (wrong p) e = tt

-- ---- the numbers after a code, one position more

number_set : (n : ℕ) → n < 64 → bit (1 * 2 ^ n % 2 ^ 64) n ≡ true
unfolding bit
number_set n l = bit_mod 64 (1 * 2 ^ n) n l ∙ ap (bit (1 * 2 ^ n)) (sym (add-zero n)) ∙ bit_shl 1 n 0

module _ (s : List ℕ) (code : Code) (i j found : ℕ) (inv : AfterIn (i + 1) code s found) (next : j ≡ i + 2) where
  -- it has the number at the position
  pub one_more : {n : ℕ} → n ≡ get_or s (i + 1) 0 → AfterIn j code s (bit_or found (1 * 2 ^ (n % 64) % 2 ^ 64))
  one_more {n} e p l d = bit_or_lem found y m ∙ go (dec_lt p i)
    where
      m : ℕ
      m = get_or s (p + 1) 0 % 64

      y : ℕ
      y = 1 * 2 ^ (n % 64) % 2 ^ 64

      go : Dec (p < i) → bit found m || bit y m ≡ true
      go (yes g) = ap (λ (b : Bool). b || bit y m) (inv p (omega arith) d)
      go (no g) =
          let q : i ≡ p = omega arith in
          let t : bit y m ≡ true = rw (e, q) (number_set m (mod-lt (get_or s (p + 1) 0) (omega arith))) in
          ap (λ (b : Bool). bit found m || b) t ∙ or-true (bit found m)

  -- where another code stands, it has that already
  pub none_more : {n : ℕ} {c : Code} → n ≡ get_or s (i + 0) 0 → c ≡ code_of n → code_test.eq c code ≡ false → AfterIn j code s found
  none_more {n} {c} e k f p l d = go (dec_lt p i)
    where
      go : Dec (p < i) → bit found (get_or s (p + 1) 0 % 64) ≡ true
      go (yes g) = inv p (omega arith) d
      go (no g) =
          let q : i + 0 ≡ p = omega arith in
          let same : c ≡ code = k ∙ ap code_of (e ∙ ap (λ (z : ℕ). get_or s z 0) q) ∙ d in
          absurd (false≢true (sym f ∙ ap (λ (z : Code). code_test.eq z code) same ∙ code_laws.laws-law.refl code))
