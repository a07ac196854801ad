-- What the three public functions make of a formula's own table and of the tables of its carried parts.
use Rattle.std.proofs.Common.{◌≡◌, ap, ◌∙◌, ℕ, ◌≤◌, Bool, true, false, None, Option, List, arith, replicate}
use Rattle.model.specs.logic.Formula.{Formula}
use Rattle.model.specs.logic.Parts.{most_parts, count, parts_of}
use Rattle.model.specs.Bits.{bit}
use Rattle.model.specs.logic.Reading.{Parsed, formula, wrong}
use Rattle.model.specs.logic.Truth.{World as Seen}
use Rattle.model.specs.logic.Progression.{residual, progressed, closing}
use Rattle.model.proofs.bits.Bits.{bit_of_bits, of_bits_cong}
use Rattle.bits.specs.Tables.{Upward, setting_at, substituted}
use Rattle.residual.specs.declared.World.{World}
use Rattle.residual.specs.declared.World.TheVariants.{After, Closing}
use Rattle.residual.specs.declared.Tables.{Tables}
use Rattle.residual.specs.declared.Value.{Value}
use Rattle.residual.specs.Facts.{Valuation, fact_truths, read_in}
use Rattle.residual.specs.Node.{is_closing, made_in, table_of}
use Rattle.residual.specs.Walk.{filled, evaluated, filled_by, Few}
use Rattle.residual.specs.Residual.{Ready, formula_of, world_in, IsTables}
use Rattle.residual.specs.SameRemainder.{residual_by, progressed_by, closing_by}
use Rattle.residual.proofs.Numbers.{behind_count}
use Rattle.residual.proofs.Upwards.{filled_upward}
use Rattle.residual.proofs.Settings.{setting_parts}
use Rattle.residual.proofs.ByTruths.{same_remainder}

-- what the walk asks of a section's formula
pub ready_few : (s : List ℕ) (p : Parsed) → Ready s p → Few p false 0
ready_few s (formula φ n) h = (omega (arith, h.0, behind_count φ 0), h.2)
ready_few s (wrong p) h = h

-- what the walk makes of it, with its truths in a state, are its tables
pub walk_tables : (s : List ℕ) (p : Parsed) → Ready s p
    → {φ : Formula} {state truths : ℕ} {world : World} {x : Value} {parts : List ℕ} → formula_of p ≡ φ → truths ≡ fact_truths (formula_of p) 0 state
    → x ≡ evaluated (is_closing world) (record { truths = truths; made = made_in world }) p 0 false 0
    → parts ≡ filled_by (is_closing world) (record { truths = truths; made = made_in world }) p 0 false 0 (replicate most_parts 0)
    → IsTables φ state world (record { own = x.table; parts = parts })
unfolding evaluated filled_by
walk_tables s (formula φ n) h {world = world} v d e f =
    let known : ℕ → Valuation = λ truths. record { truths = truths; made = made_in world } in
    rw (← v)
    (record {
      own = ap (λ (y : Value). y.table) e ∙ ap (λ (x : ℕ). table_of (is_closing world) (known x) φ 0 0) d;
      parts = f ∙ ap (λ (x : ℕ). filled (is_closing world) (known x) φ 0 false 0 (replicate most_parts 0)) d;
    })
walk_tables s (wrong p) h v d e f = absurd h

module _ {φ : Formula} {state : ℕ} {t : Tables} where
  -- the parts' tables can be put for the unknowns
  pub tables_upward : {world : World} → IsTables φ state world t → Upward most_parts t.parts
  tables_upward {world} i = rw i.parts (filled_upward (is_closing world) _ φ)

  -- the formula's own table is the residual
  pub first_answers : IsTables φ state (After None) t → t.own ≡ residual most_parts φ (record { state = state; made = None })
  unfolding table_of residual_by
  first_answers i = i.own ∙ (same_remainder most_parts φ _).first

  -- a residual in which the parts' tables are put is what it leaves
  pub next_answers : {action : Option ℕ} {x : ℕ} (r : ℕ) → IsTables φ state (After action) t → count φ ≤ most_parts → x ≡ substituted most_parts t.parts r
      → x ≡ progressed most_parts (parts_of φ) r (record { state = state; made = action })
  unfolding substituted progressed_by
  next_answers {action} r i few e =
      let w : Seen = world_in state (After action) in
      e
      ∙ rw i.parts
      (of_bits_cong 64 _ _ (λ k l. ap (bit r) (setting_parts false (read_in w φ) k l φ few)) ∙ (same_remainder most_parts φ w).next r)

  -- in the closing world it is a constant table, its truth there
  pub closing_answers : {x : ℕ} {b : Bool} (r : ℕ) → IsTables φ state Closing t → count φ ≤ most_parts → x ≡ substituted most_parts t.parts r → b ≡ bit x 0
      → b ≡ closing (parts_of φ) r (record { state = state; made = None })
  unfolding substituted closing_by
  closing_answers r i few e d =
      let w : Seen = world_in state Closing in
      d ∙ ap (λ (y : ℕ). bit y 0) e
      ∙ rw i.parts
      (bit_of_bits 64 (λ k. bit r (setting_at most_parts (filled true (read_in w φ) φ 0 false 0 (replicate most_parts 0)) k)) 0 (omega arith)
      ∙ ap (bit r) (setting_parts true (read_in w φ) 0 (omega arith) φ few)
      ∙ (same_remainder most_parts φ w).closes r)

pub ruleset answers = (ready_few, next_answers, closing_answers)
