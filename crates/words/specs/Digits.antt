-- The bytes of a number, the lowest first: what the numbers of `model` are read from.
use Rattle.std.specs.Prelude.{ℕ, zero, suc, ◌+◌, ◌-◌, ◌*◌, ◌/◌, ◌%◌, List, [], ◌∷◌, ◌++◌, get_or, take, drop, replicate}

unfoldable pub digits : ℕ → ℕ → List ℕ
digits zero v = []
digits (suc n) v = v % 256 ∷ digits n (v / 256)

-- two and eight bytes, added up: numbers of 16 and of 64 bits
abbrev pub two : List ℕ → ℕ → ℕ
two l at = get_or l at 0 + get_or l (at + 1) 0 * 256

abbrev pub eight : List ℕ → ℕ → ℕ
eight l at =
    get_or l at 0 + get_or l (at + 1) 0 * 256 + get_or l (at + 2) 0 * 65536 + get_or l (at + 3) 0 * 16777216 + get_or l (at + 4) 0 * 4294967296
    + get_or l (at + 5) 0 * 1099511627776 + get_or l (at + 6) 0 * 281474976710656 + get_or l (at + 7) 0 * 72057594037927936

-- n bytes from a position on, and zeros after them, eight in all
abbrev pub front : ℕ → List ℕ → ℕ → List ℕ
front n l at = take n (drop at l) ++ replicate (8 - n) 0
