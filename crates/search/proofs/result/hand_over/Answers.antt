-- `hand_over` has as many steps to write as the slot says, and writes them where they fit.
use Rattle.std.proofs.Common.{◌≡◌, ◌≤◌, sym, ap, length, leb-true}
use Rattle.model.proofs.job.VerdictLaws.{unless_fine}
use Rattle.job.proofs.TurnLaws.{passed_on}
use Rattle.task.specs.declared.Key.{Key}
use Rattle.table.specs.Slots.{slot_in}
use Rattle.search.proofs.GivenLaws.{too_short, written}
use Rattle.search.proofs.result.hand_over.Goals as goal
use Rattle.search.proofs.result.hand_over.Goals.{After-key-key, In_ok-unless}

-- what was read is the key of slot g
key_read : (c : After-key-key) → c.key-key.result ≡ (slot_in c.args.t.now.slots c.args.g).key
key_read c = rw c.in_use-slots.ensures at c.key-key.ensures.0

-- the buffer is long enough
fits : (c : In_ok-unless) → c.key-key.result.steps ≤ length c.args.plan.now
fits c = leb-true _ _ ((unless_fine _ 13 _).0 (sym c.in_ok-unless.ensures))

pub returns-in_err-unless : goal.returns-in_err-unless
returns-in_err-unless c =
    rw (passed_on _ c.from_residual.ensures.1)
    (too_short c.args.t.now.slots c.args.g _ (key_read (goal.at.returns-in_err-unless c).After-key-key) c.in_err-unless.ensures)

pub write-requires : goal.write-requires
write-requires c =
    let a = goal.at.write-requires c in
    rw c.in_use-slots.ensures (c.requires.0, c.requires.1, rw (ap (λ (k : Key). k.steps) (key_read a.After-key-key)) at (fits a.In_ok-unless))

pub returns : goal.returns
returns c =
    let a = goal.at.returns c in
    written c.args.t.now.slots c.args.g _ (key_read a.After-key-key) _ (rw c.in_use-slots.ensures at c.write.ensures) (fits a.In_ok-unless)
