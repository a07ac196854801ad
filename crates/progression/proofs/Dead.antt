-- A dead residual among others is a 0 among them.
use Rattle.std.proofs.Common.{◌≡◌, refl, ℕ, Bool, true, false, ◌||◌, eqb, List, [], ◌∷◌}
use Rattle.std.specs.List.{list_any}
use Rattle.model.specs.logic.Progression.{dead}
use Rattle.model.specs.search.Node.{some_dead}

pub any_dead : (rs : List ℕ) → list_any (λ r. eqb r 0) rs ≡ some_dead rs
unfolding some_dead dead
any_dead [] = refl
any_dead (r ∷ rs) = go (eqb r 0) (any_dead rs)
  where
    go : (b : Bool) → list_any (λ q. eqb q 0) rs ≡ some_dead rs → b || list_any (λ q. eqb q 0) rs ≡ elim b [ true ↦ true | false ↦ some_dead rs ]
    go true ih = refl
    go false ih = ih
