-- A step out of an entry that is not cut is an arrival.
use Rattle.std.proofs.Common.{Some}
use mathlib.Core.Path.{◌≡◌, refl}
use mathlib.Core.Bool.{false}
use Prim.Native.Nat.{ℕ, ◌<◌}
use Rattle.model.specs.exploration.Key.{Key, extend}
use Rattle.model.specs.exploration.System.{System}
use Rattle.model.specs.exploration.Equations.{Entries, Arrives}

abbrev pub arrives_by : (S : System) (L : Entries S) {m n : S.Node} {k : Key} {h : S.Hints} (i : ℕ) → L m k h → i < S.actions → S.cut h ≡ false
    → S.step m i ≡ Some n → Arrives S L n (extend k (S.cost i)) (S.carry h n i)
arrives_by S L {m} {n} {k} {h} i l b c s = record {
  source = m;
  key = k;
  hints = h;
  action = i;
  entry = l;
  in_range = b;
  uncut = c;
  leads = s;
  key_is = refl;
  hints_are = refl;
}
