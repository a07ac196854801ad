-- A question to the memo with the facts cut to those that the formula names has the answer of the whole world.
use Rattle.std.proofs.Common.{◌≡◌, refl, sym, ap, ◌∙◌, ℕ, ◌<◌, Bool, true, false, Some, None, eqb, arith, lt-ltb, ne_eqb}
use Rattle.std.specs.Bool.{then_some}
use Rattle.std.specs.Int.Bits.{bit_and}
use Rattle.std.proofs.Math.Bool.{and-true}
use Rattle.model.specs.Bits.{bit, digit}
use Rattle.model.specs.logic.Formula.{Formula, choose}
use Rattle.model.specs.logic.Names.{Names, Alike}
use Rattle.model.specs.logic.Parts.{most_parts, parts_of}
use Rattle.model.specs.logic.Truth.{is_made}
use Rattle.model.specs.logic.Progression.{progressed, closing}
use Rattle.model.proofs.bits.Bitwise.{bit_and_lem}
use Rattle.model.proofs.logic.NamesLaws.{progressed_alike, closing_alike}
use Rattle.residual.specs.declared.World.TheVariants.{After, Closing}
use Rattle.progression.specs.Workspace.{answer, made_by, made_code, named_of}

-- the code of the world after an action, which the formula names or not
abbrev code_named : Bool → ℕ → ℕ
code_named b m = made_code (After (then_some b m))

-- It fits into a key's last byte.
pub named_code_lt : (a m : ℕ) → m < 64 → made_code (After (named_of a m)) < 256
named_code_lt a m h = go (bit a m)
  where
    go : (b : Bool) → code_named b m < 256
    go true = omega arith
    go false = omega arith

module _ (f a s : ℕ) where
  -- the facts are the same in a state that is cut to them
  cut_facts : (i : ℕ) → bit f i ≡ true → bit s i ≡ bit (bit_and s f) i
  cut_facts i g = sym (rw (bit_and_lem s f i, g) (and-true (bit s i)))

  -- an action that is not named might as well not have been made
  named_alike : (m : ℕ) → m < 64
      → Alike f a (record { state = s; made = Some m }) (record { state = bit_and s f; made = made_by (made_code (After (named_of a m))) })
  unfolding is_made
  named_alike m h = record { facts = cut_facts; actions = λ i g. go i g (bit a m) refl }
    where
      go : (i : ℕ) → bit a i ≡ true → (b : Bool) → bit a m ≡ b → eqb m i ≡ is_made (made_by (code_named b m)) i
      go i g true e = rw (lt-ltb m 64 h)
      go i g false e = ne_eqb m i (λ d. let z : true ≡ false = sym g ∙ ap (bit a) (sym d) ∙ e in cc)

  closing_cut : Alike f a (record { state = s; made = None }) (record { state = bit_and s f; made = None })
  closing_cut = record { facts = cut_facts; actions = λ i g. refl }

  module _ (φ : Formula) (names : Names f a φ) (r : ℕ) where
    -- what is asked after an action
    pub answer_next : (m : ℕ) → m < 64
        → answer φ (made_code (After (named_of a m))) r (bit_and s f) ≡ progressed most_parts (parts_of φ) r (record { state = s; made = Some m })
    answer_next m h =
        ap (λ (b : Bool). choose b (digit (closing (parts_of φ) r (record { state = bit_and s f; made = None })))
        (progressed most_parts (parts_of φ) r (record { state = bit_and s f; made = made_by (made_code (After (named_of a m))) })))
        (ne_eqb (made_code (After (named_of a m))) (made_code Closing) (other (bit a m)))
        ∙ sym (progressed_alike f a _ _ (named_alike m h) φ names most_parts r)
      where
        other : (b : Bool) → code_named b m ≡ made_code Closing → ⊥
        other true e = omega arith
        other false e = omega arith

    -- what is asked of the closing world
    pub answer_closing : answer φ (made_code Closing) r (bit_and s f) ≡ digit (closing (parts_of φ) r (record { state = s; made = None }))
    answer_closing = ap digit (sym (closing_alike f a _ _ closing_cut φ names r))
