-- A machine word is the table of its bits.
use Rattle.std.proofs.Common.{◌≡◌, sym, ◌∙◌, ℕ, ◌^◌, ◌<◌, Bool}
use Rattle.model.specs.Bits.{bit, of_bits}
use Rattle.model.proofs.bits.Bits.{of_bits_bit, of_bits_cong}

-- a word whose bits are those of a function is the function's table
pub by_bits : (x : ℕ) (f : ℕ → Bool) → x < 2 ^ 64 → ((k : ℕ) → k < 64 → bit x k ≡ f k) → x ≡ of_bits 64 f
by_bits x f h e = sym (of_bits_bit 64 x h) ∙ of_bits_cong 64 (bit x) f e
