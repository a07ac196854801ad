-- `relax` goes by whether slot j was taken, and then by how the arrival's key compares with its own.
use Rattle.std.proofs.Common.{◌≡◌, refl, sym, ◌∙◌}
use Rattle.model.specs.exploration.Key.{less, same_key}
use Rattle.task.specs.Meaning.{key_is}
use Rattle.task.proofs.KeyLaws.{lt_is_less, eq_is_same}
use Rattle.expansion.specs.Arrivals.{key_by, Reaches}
use Rattle.expansion.proofs.Arrival.{Loaded, small, loaded_sound, extends_open, joins}
use Rattle.expansion.proofs.Relaxing.{relax_taken, relax_less, relax_same, relax_more, tied}
use Rattle.expansion.proofs.relax.Goals as goal
use Rattle.expansion.proofs.relax.Goals.{After-load-old, After-key_of-key, After-lt, After-eq}

pub returns-then-is_taken : goal.returns-then-is_taken
returns-then-is_taken c =
    (relax_taken c.requires.0 c.requires.1 c.args.x.now.node (sym (rw c.in_use-slots.ensures at c.is_taken.ensures) ∙ c.if-is_taken.true), refl)

-- Slot j is open where it was loaded, so the arrival's key fits.
loaded : (c : After-load-old) → let x = c.args.x.now in Loaded c.args.work.now c.args.t.now x.slot x.from x.action c.args.j c.load-old.result
loaded c = record {
  arriving = c.requires.0;
  inside = c.requires.1;
  is = rw c.in_use-slots.ensures at c.load-old.ensures.0;
  narrow = c.load-old.ensures.1;
  is_open = sym (rw c.in_use-slots.ensures at c.is_taken.ensures) ∙ c.if-is_taken.false;
}

pub key_of-key-requires : goal.key_of-key-requires
key_of-key-requires c = rw c.job.ensures (extends_open (loaded (goal.at.key_of-key-requires c).After-load-old))

reached : (c : After-key_of-key) → Reaches (key_by c.args.work.now.bytes c.args.x.now.from c.args.x.now.action) c.key_of-key.result
reached c = rw c.job.ensures at c.key_of-key.ensures

-- What the two tests tell of the keys.
is_less : (c : After-lt) → c.lt.result ≡ less (key_is c.key_of-key.result) (key_is c.load-old.result.key)
is_less c = lt_is_less c.key_of-key.result c.load-old.result.key c.lt.ensures

is_same : (c : After-eq) → c.eq.result ≡ same_key (key_is c.key_of-key.result) (key_is c.load-old.result.key)
is_same c = eq_is_same c.key_of-key.result c.load-old.result.key c.eq.ensures

pub replaced-s-requires : goal.replaced-s-requires
replaced-s-requires c =
    let z = loaded (goal.at.replaced-s-requires c).After-load-old in (
      extends_open z,
      small c.requires.0,
      reached (goal.at.replaced-s-requires c).After-key_of-key,
      (loaded_sound z).formed,
      c.load-old.ensures.1,
    )

pub returns-then-lt : goal.returns-then-lt
returns-then-lt c =
    let at = goal.at.returns-then-lt c in (
      relax_less (loaded at.After-load-old) c.args.x.now.node (reached at.After-key_of-key) (sym (is_less at.After-lt) ∙ c.if-lt.true) c.store.ensures
          c.replaced-s.ensures.0,
      c.replaced-s.ensures.1,
    )

pub merged-s-requires : goal.merged-s-requires
merged-s-requires c =
    let at = goal.at.merged-s-requires c in
    let z = loaded at.After-load-old in
    (extends_open z, joins z (tied z (reached at.After-key_of-key) (sym (is_same at.After-eq) ∙ c.if-eq.true)))

pub returns-then-eq : goal.returns-then-eq
returns-then-eq c =
    let at = goal.at.returns-then-eq c in (
      relax_same (loaded at.After-load-old) c.args.x.now.node (reached at.After-key_of-key) (sym (is_less at.After-lt) ∙ c.if-lt.false)
          (sym (is_same at.After-eq) ∙ c.if-eq.true) c.store-then-eq.ensures c.merged-s.ensures.0,
      c.merged-s.ensures.1,
    )

pub returns-else-eq : goal.returns-else-eq
returns-else-eq c =
    let at = goal.at.returns-else-eq c in (
      relax_more (loaded at.After-load-old) c.args.x.now.node (reached at.After-key_of-key) (sym (is_less at.After-lt) ∙ c.if-lt.false)
          (sym (is_same at.After-eq) ∙ c.if-eq.false),
      refl,
    )
