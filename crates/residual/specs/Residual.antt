-- The formula that a section's bytes stand for, and its tables in a world.
use Rattle.std.specs.Prelude.{◌≡◌, ℕ, ◌≤◌, false, List, length, replicate}
use Rattle.model.specs.declared.Constant.TheVariants.{False}
use Rattle.model.specs.logic.Formula.{Formula, constant}
use Rattle.model.specs.logic.Reading.{Parsed, formula, wrong}
use Rattle.model.specs.logic.Parts.{most_bytes, most_parts, count}
use Rattle.model.specs.logic.Truth.{World as Model}
use Rattle.residual.specs.declared.World.{World}
use Rattle.residual.specs.declared.Tables.{Tables}
use Rattle.residual.specs.Facts.{read_in}
use Rattle.residual.specs.Node.{is_closing, made_in, table_of}
use Rattle.residual.specs.Walk.{filled}

-- a formula was read that fills the section's bytes s, and it has no more carried parts and no more bytes than it may
abbrev pub Ready : List ℕ → Parsed → Type 0
Ready s (formula φ n) = (count φ ≤ most_parts) × (n ≡ length s) × (n ≤ most_bytes)
Ready s (wrong p) = ⊥

-- the formula that was read, if one was
abbrev pub formula_of : Parsed → Formula
formula_of (formula φ n) = φ
formula_of (wrong p) = constant False

-- the model's world in a state
abbrev pub world_in : ℕ → World → Model
world_in state world = record { state = state; made = made_in world }

-- the formula's own table in a world, and the tables of its carried parts
pub record IsTables (φ : Formula) (state : ℕ) (world : World) (t : Tables) : Type 0 where
  pub own : t.own ≡ table_of (is_closing world) (read_in (world_in state world) φ) φ 0 0
  pub parts : t.parts ≡ filled (is_closing world) (read_in (world_in state world) φ) φ 0 false 0 (replicate most_parts 0)
