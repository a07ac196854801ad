-- Measuring a node: it ends where it would end if it were stored in 384 bytes.
use Rattle.std.proofs.Common.{◌≡◌, refl, Bool, List, ℕ, ◌+◌, length, get_or, replicate}
use Rattle.std.proofs.lemmas.List.Edits.{sets}
use Rattle.std.proofs.Math.Seq.{length-sets}
use Rattle.model.specs.declared.Unary.{Unary}
use Rattle.model.specs.declared.Binary.{Binary}
use Rattle.model.specs.declared.Code.{Code}
use Rattle.model.specs.declared.Code.TheVariants.{One, Two}
use Rattle.model.specs.logic.Formula.{code_of}
use Rattle.model.specs.logic.Reading.{parsed}
use Rattle.normal.specs.declared.Ends.{Ends}
use Rattle.normal.specs.Heading.{heading, sign}
use Rattle.normal.specs.Writing.{Room, ends_of}
use Rattle.normal.proofs.Storing.{Begun, begun, one_wants, two_wants, two_wants'}

-- the bytes in which it would be stored
abbrev pub blank : List ℕ
blank = replicate 384 0

-- a node that was met, and the position j after its heading
abbrev pub Passed : List ℕ → ℕ → Bool → ℕ → Code → ℕ → Type 0
Passed s at b to k j = Begun s at b to blank k j (sets blank to (heading k (get_or s (at + 1) 0) b))

-- n is the byte after the code
pub passed : {s : List ℕ} {at : ℕ} {b : Bool} {to : ℕ} {k : Code} {n j : ℕ} → Room (parsed 64 64 s at) b to 384
    → k ≡ code_of (get_or s at 0) → n ≡ get_or s (at + 1) 0 → j ≡ to + length (heading k n b) → Passed s at b to k j
passed r e f h = begun r e refl (rw (← f) h, refl)

module _ {s : List ℕ} {at : ℕ} {b : Bool} {to : ℕ} {k : Code} {j : ℕ} (g : Passed s at b to k j) where
  -- stores leave the length as it is
  same : length (sets blank to (heading k (get_or s (at + 1) 0) b)) ≡ 384
  same = length-sets blank to (heading k (get_or s (at + 1) 0) b)

  pub one_asks : (o : Unary) → k ≡ One o → (f : Bool) → f ≡ sign o b → Room (parsed 64 64 s (at + 1)) f j 384
  one_asks o d f e = rw same at (one_wants g o d f e)

  -- two operands, and r₁ is where the first ends
  module _ (o : Binary) (d : k ≡ Two o) where
    pub two_asks : Room (parsed 64 64 s (at + 1)) b j 384
    two_asks = rw same at (two_wants g o d)

    pub two_asks' : (r₁ : Ends) → r₁ ≡ ends_of (parsed 64 64 s (at + 1)) b j → Room (parsed 64 64 s r₁.next) b r₁.to 384
    two_asks' r₁ e = rw (length-sets, same) at (two_wants' g o d r₁ _ (e, refl))
