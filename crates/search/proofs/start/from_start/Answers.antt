-- The turns begin with the start node in slot 0.
use Rattle.search.proofs.StartLaws.{begun_idle, begun_ends}
use Rattle.search.proofs.start.from_start.Goals as goal

pub run-requires : goal.run-requires
run-requires c = rw c.begin.ensures.1 (begun_idle c.requires c.begin.ensures.0)

pub returns : goal.returns
returns c = begun_ends c.requires c.begin.ensures.0 c.run.new.t c.run.result (rw c.begin.ensures.1 at c.run.ensures)
