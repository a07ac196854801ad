-- What a caller learns of a table that grew.
use Rattle.std.proofs.Common.{◌≡◌, ap, ◌∙◌, subst, ℕ, Ok, Err, arith}
use Rattle.model.specs.search.Node.{Node}
use Rattle.model.specs.search.Query.{Query}
use Rattle.astar.specs.Search.{Filled, goes_on, full}
use Rattle.table.specs.Tables.{Table}
use Rattle.held.specs.Held.{sys, held_in}
use Rattle.held.specs.Running.{Running}
use Rattle.expansion.specs.declared.Full.{Full}
use Rattle.expansion.specs.Growth.{Grown, grown_is, Fits, Grew}

module _ {job : Query} {room : ℕ} {to : Filled (sys job)} {r : Grown} {u : Table} (g : Grew job room to r u) where
  -- The code says full where the table of the list search is full.
  pub grew_none : {e : Full} → r ≡ Err e → to ≡ full
  unfolding grown_is
  grew_none d = g.grows ∙ ap (λ (x : Grown). grown_is job x u) d

  -- Otherwise the list search goes on with the slots in use.
  pub grew_held : {v : Unit {0}} → r ≡ Ok v → to ≡ goes_on (held_in job.bytes u.slots)
  unfolding grown_is
  grew_held d = g.grows ∙ ap (λ (x : Grown). grown_is job x u) d

  -- After that the search runs with the slots in use.
  pub grew_running : {m0 : Node} {t : Table} {v : Unit {0}} → Running job m0 t → t.room ≡ room → r ≡ Ok v → Running job m0 u
  grew_running {v = v} x e d =
      let f : Fits job (Ok v) u = subst (λ (s : Grown). Fits job s u) d g.fits in
      record { accepted = x.accepted; starts = x.starts; most = omega (arith, x.most, g.same_room); used = f.0; sound = f.1 }
