-- The library reads the front.
use Rattle.std.proofs.Common.{◌≡◌, w64, arith}
use Rattle.std.specs.Int.{from_le_bytes}
use Rattle.words.proofs.Bytes.{read, same_byte}
use Rattle.words.proofs.get.Goals as goal

pub returns : goal.returns
returns g c =
    let f : c.from_le_bytes.result ≡ from_le_bytes w64 c.front-bytes.result = grind (arith, c.from_le_bytes.ensures, same_byte) in
    read _ _ _ c.requires.0 c.requires.1 c.front-bytes.ensures f c.type_inv.s
